-- What a memory keeps as hints are placed in it.
use Rattle.std.proofs.Common.{◌≡◌, ℕ, ◌+◌, List, [], ◌∷◌, Some, Ok, refl, ◌∙◌, subst}
use Rattle.std.specs.List.{AllByRecursion}
use Rattle.segments.specs.declared.Value.{Value}
use Rattle.segments.specs.declared.Value.TheVariants.{Num, Ptr}
use Rattle.segments.specs.Memory.{RunMemory, IsMemory, Grows, cell, size}
use Rattle.segments.specs.Columns.{HasOffset}
use Rattle.segments.proofs.Memories.{Grows-refl, Grows-trans}
use Rattle.hint_cells.specs.declared.HintCell.{HintCell}
use Rattle.hint_cells.specs.Fits.{FitsPlaces, FitsValue}
use Rattle.builtin_segments.specs.Rules.{Rules, adding}
use Rattle.vm_runner.specs.Run.{as_hint, hinted}
use Rattle.run_steps.proofs.Shapes.{bound, same_ok}
use Rattle.run_steps.proofs.Adding.{Adds, adding-adds}
use Rattle.vm_runner.proofs.Inversions.{as_hint-ok}

fits-offset : (v : Value) → FitsValue v → HasOffset v
fits-offset (Num x) fits = tt
fits-offset (Ptr p) fits = (fits p refl).1

-- a memory with the cells of hints
pub record AddsHints (m : RunMemory) (hints : List HintCell) (n : RunMemory) : Type 0 where
  pub grows : Grows m n
  pub program_size : size n 0 ≡ size m 0
  pub held : AllByRecursion (λ c. cell n c.place ≡ Some c.value) hints
  pub memory : IsMemory m → AllByRecursion FitsPlaces hints → IsMemory n

pub hinted-adds : (rules : Rules) (i : ℕ) (hints : List HintCell) (m n : RunMemory) → hinted rules i hints m ≡ Ok n → AddsHints m hints n
unfolding hinted
hinted-adds rules i [] m n e =
    subst (λ (k : RunMemory). AddsHints m [] k) (same_ok m n e) (record {
      grows = Grows-refl m;
      program_size = refl;
      held = tt;
      memory = λ is _. is;
    })
hinted-adds rules i (hint ∷ hints) m n e =
    let go_on : RunMemory → _ = λ k. hinted rules (i + 1) hints k in
    let first = bound (as_hint i (adding rules m hint.place hint.value)) go_on n e in
    let k : RunMemory = first.0 in
    let adds : Adds m hint.place hint.value k = adding-adds rules m hint.place hint.value k (as_hint-ok i (adding rules m hint.place hint.value) k first.1) in
    let rest : AddsHints k hints n = hinted-adds rules (i + 1) hints k n first.2 in
    record {
      grows = Grows-trans m k n adds.grows rest.grows;
      program_size = rest.program_size ∙ adds.program_size;
      held = (rest.grows.cells hint.place hint.value adds.held, rest.held);
      memory = λ is fit. rest.memory (adds.memory is (fits-offset hint.value fit.0.1)) fit.1;
    }
