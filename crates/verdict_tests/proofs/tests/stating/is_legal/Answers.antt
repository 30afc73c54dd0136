use Rattle.std.proofs.Common.{◌≡◌, false, not, Option, Some, None, map, length, option_map, sym, ap, ◌∙◌, arith}
use Rattle.std.specs.Option.{is_some}
use Rattle.std.proofs.lemmas.List.{length-map}
use Rattle.goldilocks.specs.Cells.{memory_of}
use Rattle.casm_word.specs.Transition.{registers}
use Rattle.casm_word.specs.Run.{first_refused}
use Rattle.casm_word.proofs.RefusedRuns.{first_refused-none}
use Rattle.trace_files.specs.CellList.{listed}
use Rattle.verdict_tests.proofs.tests.stating.is_legal.Goals as goal

none_mapped : {A B : Type 0} (f : A → B) (o : Option A) (p : Option B) → is_some o ≡ false → option_map f o ≡ p → p ≡ None
none_mapped f None p none is = sym is
none_mapped f (Some x) p none is = cc

pub returns-then-len-ge2 : goal.returns-then-len-ge2
returns-then-len-ge2 c = λ none.
    let run = c.args.run.now in
    let m = memory_of (listed run.cells) in
    let count : length c.deref.result.now ≡ length run.states.items = ap length c.deref.ensures.value in
    (first_refused-none m (map registers run.states.items) (omega (arith, length-map run.states.items registers, count, c.deref.ensures.len, c.len.ensures, c.if-len-ge2.true))).0
    (ap (λ ss. first_refused m (map registers ss)) (sym c.deref.ensures.value)
    ∙ none_mapped _ c.first_refused.result _ (c.is_none.ensures ∙ ap not none) c.first_refused.ensures)
