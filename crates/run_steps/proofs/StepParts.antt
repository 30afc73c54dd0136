-- What a step makes of the memory, and that its next state stays the next one.
use Rattle.std.proofs.Common.{◌≡◌, Option, Some, None, Result, Ok, Err, refl, ◌∙◌, subst}
use Rattle.segments.specs.declared.Place.{Place}
use Rattle.segments.specs.declared.RelState.{RelState}
use Rattle.segments.specs.declared.Value.{Value}
use Rattle.segments.specs.Memory.{RunMemory, IsMemory, Grows, cell, size}
use Rattle.segments.specs.Columns.{HasOffset}
use Rattle.segments.proofs.Memories.{Grows-refl, Grows-trans}
use Rattle.builtin_segments.specs.declared.cells.CellCause.{CellCause}
use Rattle.builtin_segments.specs.Rules.{Rules, adding}
use Rattle.run_steps.specs.declared.operands.Found.{Found}
use Rattle.run_steps.specs.Causes.{known}
use Rattle.run_steps.specs.Operands.{instruction_in, dst_place, op0_place, op1_place}
use Rattle.run_steps.specs.Next.{next_by, next_in}
use Rattle.run_steps.specs.Step.{found_operands, unless_refused, placed, all_placed, greater, step}
use Rattle.run_steps.proofs.Shapes.{bound, same_ok}
use Rattle.run_steps.proofs.Chains.{Later, later-same, then_later, held-later}
use Rattle.run_steps.proofs.Adding.{Adds, adding-adds}

-- ---- the next state in a later memory

known-later : (m n : RunMemory) (p : Place) → Grows m n → Later (known p (cell m p)) (known p (cell n p))
unfolding known
known-later m n p grows = held-later (known p) (cell m p) (cell n p) (grows.cells p) (λ a e. cc)

pub instruction-later : (m n : RunMemory) (p : Place) → Grows m n → Later (instruction_in (cell m p)) (instruction_in (cell n p))
unfolding instruction_in
instruction-later m n p grows = held-later instruction_in (cell m p) (cell n p) (grows.cells p) (λ a e. cc)

pub next_later : (m n : RunMemory) (s t : RelState) → Grows m n → next_in m s ≡ Ok t → next_in n s ≡ Ok t
unfolding next_in
next_later m n s t grows e =
    then_later (instruction_in (cell m s.pc)) (instruction_in (cell n s.pc)) _ _ (instruction-later m n s.pc grows) (λ w.
    then_later (dst_place w s) (dst_place w s) _ _ (later-same (dst_place w s)) (λ dst_at.
    then_later (known dst_at (cell m dst_at)) (known dst_at (cell n dst_at)) _ _ (known-later m n dst_at grows) (λ dst.
    then_later (op0_place w s) (op0_place w s) _ _ (later-same (op0_place w s)) (λ op0_at.
    then_later (known op0_at (cell m op0_at)) (known op0_at (cell n op0_at)) _ _ (known-later m n op0_at grows) (λ op0.
    then_later (op1_place w s op0_at (Some op0)) (op1_place w s op0_at (Some op0)) _ _ (later-same (op1_place w s op0_at (Some op0))) (λ op1_at.
    then_later (known op1_at (cell m op1_at)) (known op1_at (cell n op1_at)) _ _ (known-later m n op1_at grows) (λ op1.
    later-same (next_by w.flags s dst op0 op1)))))))) t e

-- ---- the memory after a step

-- a memory with a value that was found out, where it wasn't known
pub record Keeps (m : RunMemory) (v : Value) (n : RunMemory) : Type 0 where
  pub grows : Grows m n
  pub program_size : size n 0 ≡ size m 0
  pub memory : IsMemory m → HasOffset v → IsMemory n

pub unless_refused-ok : (p : Place) (x : Result RunMemory CellCause) (n : RunMemory) → unless_refused p x ≡ Ok n → x ≡ Ok n
unfolding unless_refused
unless_refused-ok p (Ok m) n e = cc
unless_refused-ok p (Err cause) n e = absurd (cc)

pub placed-keeps : (rules : Rules) (m : RunMemory) (p : Place) (held : Option Value) (v : Value) (n : RunMemory) → placed rules m p held v ≡ Ok n → Keeps m v n
unfolding placed
placed-keeps rules m p (Some w) v n e =
    subst (λ (k : RunMemory). Keeps m v k) (same_ok m n e) (record { grows = Grows-refl m; program_size = refl; memory = λ is _. is })
placed-keeps rules m p None v n e =
    let adds : Adds m p v n = adding-adds rules m p v n (unless_refused-ok p (adding rules m p v) n e) in
    record { grows = adds.grows; program_size = adds.program_size; memory = adds.memory }

-- a memory with all that was found out
record KeepsAll (m : RunMemory) (found : Found) (n : RunMemory) : Type 0 where
  pub grows : Grows m n
  pub program_size : size n 0 ≡ size m 0
  pub memory : IsMemory m → HasOffset found.dst → HasOffset found.op0 → HasOffset found.op1 → IsMemory n

all_placed-keeps : (rules : Rules) (m : RunMemory) (found : Found) (n : RunMemory) → all_placed rules m found ≡ Ok n → KeepsAll m found n
unfolding all_placed
all_placed-keeps rules m found n e =
    let at = found.at in
    let one = bound (placed rules m at.op0 (cell m at.op0) found.op0) _ n e in
    let two = bound (placed rules one.0 at.op1 (cell m at.op1) found.op1) _ n one.2 in
    let first : Keeps m found.op0 one.0 = placed-keeps rules m at.op0 (cell m at.op0) found.op0 one.0 one.1 in
    let second : Keeps one.0 found.op1 two.0 = placed-keeps rules one.0 at.op1 (cell m at.op1) found.op1 two.0 two.1 in
    let third : Keeps two.0 found.dst n = placed-keeps rules two.0 at.dst (cell m at.dst) found.dst n two.2 in
    record {
      grows = Grows-trans m one.0 n first.grows (Grows-trans one.0 two.0 n second.grows third.grows);
      program_size = third.program_size ∙ (second.program_size ∙ first.program_size);
      memory = λ is dst op0 op1. third.memory (second.memory (first.memory is op0) op1) dst;
    }

-- the parts of a step that was made
pub record Made (m : RunMemory) (s : RelState) (n : RunMemory) (t : RelState) : Type 0 where
  pub found : Found
  pub is_found : found_operands m s ≡ Ok found
  pub grows : Grows m n
  pub program_size : size n 0 ≡ size m 0
  pub memory : IsMemory m → HasOffset found.dst → HasOffset found.op0 → HasOffset found.op1 → IsMemory n
  pub next : next_in n s ≡ Ok t

pub made : (rules : Rules) (m : RunMemory) (s : RelState) (n : RunMemory) (t : RelState) → step rules m s ≡ Ok (n, t) → Made m s n t
unfolding step greater
made rules m s n t e =
    let grown = bound (greater rules m s) _ (n, t) e in
    let moved = bound (next_in grown.0 s) _ (n, t) grown.2 in
    let both : (grown.0, moved.0) ≡ (n, t) = same_ok (grown.0, moved.0) (n, t) moved.2 in
    let found = bound (found_operands m s) _ grown.0 grown.1 in
    let keeps : KeepsAll m found.0 grown.0 = all_placed-keeps rules m found.0 grown.0 found.2 in
    subst (λ (made : RunMemory × RelState). Made m s made.0 made.1) both (record {
      found = found.0;
      is_found = found.1;
      grows = keeps.grows;
      program_size = keeps.program_size;
      memory = keeps.memory;
      next = moved.1;
    })
