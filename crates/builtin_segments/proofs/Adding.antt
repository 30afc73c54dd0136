-- What is added to a memory.
use Rattle.std.proofs.Common.{◌≡◌, ◌≢◌, Option, Some, None, Result, Ok, refl, sym, subst, ap, ◌∙◌}
use Rattle.segments.specs.declared.Place.{Place}
use Rattle.segments.specs.declared.Value.{Value}
use Rattle.segments.specs.declared.memory.PutCause.{PutCause}
use Rattle.segments.specs.Memory.{RunMemory, IsMemory, Grows, cell, size, with_cell, put_cause}
use Rattle.segments.specs.Columns.{HasOffset}
use Rattle.segments.proofs.Places.{cell-written, cell-other}
use Rattle.segments.proofs.Memories.{IsMemory-with_cell, Grows-with_cell, program_fixed}
use Rattle.builtin_segments.specs.declared.cells.CellCause.{CellCause}
use Rattle.builtin_segments.specs.Rules.{Rules, unless_caused, adding}

-- nothing was against what was added
pub record IsAdded (m : RunMemory) (p : Place) (v : Value) (n : RunMemory) : Type 0 where
  pub none : put_cause m p v ≡ None
  pub new : n ≡ with_cell m p v

unless-ok : (o : Option PutCause) (m n : RunMemory) → ◌≡◌ {A = Result RunMemory CellCause} (unless_caused o m) (Ok n) → (o ≡ None) × (n ≡ m)
unfolding unless_caused
unless-ok None m n e = (refl, cc)
unless-ok (Some cause) m n e = absurd (cc)

pub adding-ok : (rules : Rules) (m : RunMemory) (p : Place) (v : Value) (n : RunMemory) → ◌≡◌ {A = Result RunMemory CellCause} (adding rules m p v) (Ok n) → IsAdded m p v n
unfolding adding
adding-ok rules m p v n e =
    let both = unless-ok (put_cause m p v) (with_cell m p v) n e in
    record { none = both.0; new = both.1 }

-- it is a memory
pub adding-memory : (rules : Rules) (m : RunMemory) (p : Place) (v : Value) (n : RunMemory) → IsMemory m → HasOffset v → ◌≡◌ {A = Result RunMemory CellCause} (adding rules m p v) (Ok n) → IsMemory n
adding-memory rules m p v n is offset e =
    let added : IsAdded m p v n = adding-ok rules m p v n e in
    subst (λ (k : RunMemory). IsMemory k) (sym added.new) (IsMemory-with_cell m p v is offset added.none)

-- it is a later memory
pub adding-grows : (rules : Rules) (m : RunMemory) (p : Place) (v : Value) (n : RunMemory) → ◌≡◌ {A = Result RunMemory CellCause} (adding rules m p v) (Ok n) → Grows m n
adding-grows rules m p v n e =
    let added : IsAdded m p v n = adding-ok rules m p v n e in
    subst (λ (k : RunMemory). Grows m k) (sym added.new) (Grows-with_cell m p v added.none)

-- it holds the value at the place
pub adding-holds : (rules : Rules) (m : RunMemory) (p : Place) (v : Value) (n : RunMemory) → ◌≡◌ {A = Result RunMemory CellCause} (adding rules m p v) (Ok n) → cell n p ≡ Some v
adding-holds rules m p v n e =
    let added : IsAdded m p v n = adding-ok rules m p v n e in
    ap (λ (k : RunMemory). cell k p) added.new ∙ cell-written m p v

-- every other cell stays
pub adding-others : (rules : Rules) (m : RunMemory) (p : Place) (v : Value) (n : RunMemory) (q : Place) → ◌≡◌ {A = Result RunMemory CellCause} (adding rules m p v) (Ok n) → q ≢ p → cell n q ≡ cell m q
adding-others rules m p v n q e apart =
    let added : IsAdded m p v n = adding-ok rules m p v n e in
    ap (λ (k : RunMemory). cell k q) added.new ∙ cell-other m p q v apart

-- segment 0 keeps its size
pub adding-size0 : (rules : Rules) (m : RunMemory) (p : Place) (v : Value) (n : RunMemory) → ◌≡◌ {A = Result RunMemory CellCause} (adding rules m p v) (Ok n) → size n 0 ≡ size m 0
adding-size0 rules m p v n e =
    let added : IsAdded m p v n = adding-ok rules m p v n e in
    ap (λ (k : RunMemory). size k 0) added.new ∙ program_fixed m p v added.none
