use Rattle.std.proofs.Common.{rules}
use Rattle.casm_statements.proofs.encoding.is_fp.Goals as goal

pub returns-in-Ap : goal.returns-in-Ap
returns-in-Ap c = search rules

pub returns-in-Fp : goal.returns-in-Fp
returns-in-Fp c = search rules
