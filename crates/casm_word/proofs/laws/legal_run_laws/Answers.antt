use Rattle.casm_word.proofs.Runs.{legal_run-step, legal_run-from_steps, legal_run-determined}
use Rattle.casm_word.proofs.laws.legal_run_laws.Goals as goal

pub returns : goal.returns
returns c = record { step = legal_run-step; from_steps = legal_run-from_steps; determined = legal_run-determined }
