use Rattle.assembler.proofs.Lines.{fault_free, assembles_too}
use Rattle.assembler.proofs.laws.line_laws.Goals as goal

pub returns-clause-accepted : goal.returns-clause-accepted
returns-clause-accepted c = fault_free

pub returns-clause-assembled : goal.returns-clause-assembled
returns-clause-assembled c = assembles_too
