use Rattle.casm_word.proofs.RefusedRuns.{first_refused-none, refused_within, refused_found, refused_first}
use Rattle.casm_word.proofs.laws.refused_step_laws.Goals as goal

pub returns-clause-none : goal.returns-clause-none
returns-clause-none c = first_refused-none

pub returns-clause-place : goal.returns-clause-place
returns-clause-place c = λ m states k o refused. refused_within m states k o (record { pc = 0; ap = 0; fp = 0 }) refused

pub returns-clause-found : goal.returns-clause-found
returns-clause-found c = λ m states k o d refused. refused_found m states k o d refused

pub returns-clause-first : goal.returns-clause-first
returns-clause-first c = λ m states k o d refused. refused_first m states k o d refused
