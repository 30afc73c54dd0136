use Rattle.cpu_rows.proofs.Numbers.{same_columns}
use Rattle.cpu_rows.proofs.laws.value_laws.Goals as goal

pub returns : goal.returns
returns c = λ a b p q same. same_columns a b p.sixteen q.sixteen same
