use Rattle.assembler.proofs.Begins.{begins_with_one}
use Rattle.assembler.proofs.ShownFunction.{shown_bodies-shown}
use Rattle.assembler.proofs.ShownLemmas.{shown_as_one, shown_as_statements}
use Rattle.assembler.proofs.laws.shown_laws.Goals as goal

pub returns-clause-begins : goal.returns-clause-begins
returns-clause-begins c = begins_with_one

pub returns-clause-one : goal.returns-clause-one
returns-clause-one c = shown_as_one

pub returns-clause-each : goal.returns-clause-each
returns-clause-each c = shown_bodies-shown

pub returns-clause-statements : goal.returns-clause-statements
returns-clause-statements c = shown_as_statements
