use Rattle.assembler.specs.Assembling.{assembly_of}
use Rattle.assembler.proofs.Outcomes.{assembling-accepted, HasNoFault-from_assembling, assembling-refused, IsFirstFault-from_assembling}
use Rattle.assembler.proofs.outcome.assembling_laws.Goals as goal

pub returns : goal.returns
returns c = record {
  accepted = λ items. (assembling-accepted items, HasNoFault-from_assembling items (assembly_of items));
  fault = λ items f. (assembling-refused items f, IsFirstFault-from_assembling items f);
}
