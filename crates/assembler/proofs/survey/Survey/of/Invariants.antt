use Rattle.std.proofs.Common.{take}
use Rattle.casm_text.specs.Meaning.{bodies}
use Rattle.assembler.specs.Views.{Surveys}
use Rattle.assembler.proofs.Repeats.{NoneBefore}
use Rattle.assembler.proofs.survey.Survey.of.Given as goal

abbrev pub invariant-loop-item : goal.invariant-loop-item
invariant-loop-item l = record {
  surveys : Surveys (bodies (take l.item-index l.items)) l.survey;
  none : NoneBefore l.items l.item-index;
}
