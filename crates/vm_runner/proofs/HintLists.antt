-- The hints that are left, as one after another is placed.
use Rattle.std.proofs.Common.{◌≡◌, ℕ, ◌+◌, ◌<◌, ◌≤◌, List, ◌∷◌, length, get_or, drop, Ok, Err, ap, ◌∙◌}
use Rattle.std.proofs.lemmas.List.{at_drop_more, at_drop_all}
use Rattle.segments.specs.Memory.{RunMemory}
use Rattle.hint_cells.specs.declared.HintCell.{HintCell}
use Rattle.builtin_segments.specs.Rules.{Rules, adding}
use Rattle.run_steps.specs.Causes.{◌>>=◌}
use Rattle.vm_runner.specs.declared.fault.RunFault.{RunFault}
use Rattle.vm_runner.specs.Run.{as_hint, hinted}

module _ (rules : Rules) (hints : List HintCell) (i : ℕ) (m : RunMemory) where
  module _ (hint : HintCell) (within : i < length hints) (is : get_or hints i hint ≡ hint) where
    first_hint : hinted rules i (drop i hints) m ≡ (as_hint i (adding rules m hint.place hint.value) >>= λ n. hinted rules (i + 1) (drop (i + 1) hints) n)
    unfolding hinted
    first_hint = at_drop_more (λ hs. hinted rules i hs m) hints i hint within ∙ ap (λ h. hinted rules i (h ∷ drop (i + 1) hints) m) is

    pub one_placed : (n : RunMemory) → adding rules m hint.place hint.value ≡ Ok n → hinted rules i (drop i hints) m ≡ hinted rules (i + 1) (drop (i + 1) hints) n
    unfolding as_hint
    one_placed n e = first_hint ∙ ap (λ r. as_hint i r >>= λ k. hinted rules (i + 1) (drop (i + 1) hints) k) e

    pub one_refused : (fault : RunFault) → as_hint i (adding rules m hint.place hint.value) ≡ Err fault → hinted rules i (drop i hints) m ≡ Err fault
    one_refused fault e = first_hint ∙ ap (λ r. r >>= λ k. hinted rules (i + 1) (drop (i + 1) hints) k) e

  pub none_left : length hints ≤ i → hinted rules i (drop i hints) m ≡ Ok m
  unfolding hinted
  none_left h = at_drop_all (λ hs. hinted rules i hs m) hints i h
