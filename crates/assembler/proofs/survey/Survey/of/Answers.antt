use Rattle.std.proofs.Common.{refl, length}
use Rattle.std.proofs.lemmas.Option.{slice_get_read}
use Rattle.assembler.specs.Views.{TellsFirstRepeat}
use Rattle.assembler.proofs.Handed.{handed_on}
use Rattle.assembler.proofs.Repeats.{surveyed_more, none_before-surveyed, none_at_all, first_repeat}
use Rattle.assembler.proofs.survey.Survey.of.Goals as goal

pub returns-in_err-add-clause-fault : goal.returns-in_err-add-clause-fault
returns-in_err-add-clause-fault c =
    let items = c.args.items.now in
    let n = c.loop-item.item-index in
    handed_on (TellsFirstRepeat items) c.from_residual.result c.in_err-add.field-0.0 c.from_residual.ensures.1
    (first_repeat items n c.item-item.result _ c.in_err-add.field-0.0 (slice_get_read items (length items) n c.item-item.result refl c.loop-item-test.true c.item-item.is) c.loop-item.invariant.surveys c.loop-item.invariant.none c.in_err-add.ensures.fault)

pub loop-item-preserved : goal.loop-item-preserved
loop-item-preserved c =
    let items = c.args.items.now in
    let n = c.loop-item.item-index in
    record {
      surveys = surveyed_more items n c.item-item.result _ _ c.loop-item-test.true c.item-item.is c.loop-item.invariant.surveys c.in_ok-add.ensures.ok;
      none = none_before-surveyed items n c.item-item.result _ _ c.loop-item-test.true c.item-item.is c.loop-item.invariant.surveys c.in_ok-add.ensures.ok c.loop-item.invariant.none;
    }

pub returns-clause-new : goal.returns-clause-new
returns-clause-new c = none_at_all c.args.items.now c.loop-item.item-index c.loop-item-test.false c.loop-item.invariant.none
