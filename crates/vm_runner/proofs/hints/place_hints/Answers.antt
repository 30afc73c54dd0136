use Rattle.std.proofs.Common.{sym, ◌∙◌, arith}
use Rattle.vm_runner.specs.Run.{hinted}
use Rattle.vm_runner.proofs.HandedOn.{handed_on}
use Rattle.vm_runner.proofs.HintLists.{one_placed, one_refused, none_left}
use Rattle.vm_runner.proofs.hints.place_hints.Goals as goal

pub returns-in_err-place_hint-clause-refused : goal.returns-in_err-place_hint-clause-refused
returns-in_err-place_hint-clause-refused c = λ rules.
    let fault = c.in_err-place_hint.field-0.0 in
    let l = c.loop-index in
    handed_on (hinted rules 0 c.args.hints.now c.args.memory.now) c.from_residual.result fault c.from_residual.ensures.1
    (λ told. sym (l.invariant.left rules)
    ∙ one_refused rules c.args.hints.now l.index l.memory c.index-hints-index.result (omega arith) (sym c.index-hints-index.is) fault (c.in_err-place_hint.ensures.refused rules told))

pub loop-index-preserved : goal.loop-index-preserved
loop-index-preserved c =
    let l = c.loop-index in
    record {
      left = λ rules.
          sym (one_placed rules c.args.hints.now l.index l.memory c.index-hints-index.result (omega arith) (sym c.index-hints-index.is) c.place_hint.new.memory (c.in_ok-place_hint.ensures.placed rules))
          ∙ l.invariant.left rules;
      kept = c.in_ok-place_hint.ensures.kept;
    }

pub returns-clause-placed : goal.returns-clause-placed
returns-clause-placed c = λ rules.
    sym (c.loop-index.invariant.left rules) ∙ none_left rules c.args.hints.now c.loop-index.index c.loop-index.memory (omega arith)
