-- How a constraint is printed.
use Rattle.std.specs.Prelude.{ℕ, List, ◌++◌, codes}
use Rattle.std.specs.Fmt.{decimal}
use Rattle.constraint_checker.specs.declared.Constraint.{Constraint}
use Rattle.constraint_checker.specs.declared.Constraint.TheVariants.{P, C, V, M, Q}

-- The name of a constraint: its letter and its number. Own.
abbrev pub constraint_name : Constraint → List ℕ
constraint_name (P k) = codes "P" ++ decimal k
constraint_name (C k) = codes "C" ++ decimal k
constraint_name (V k) = codes "V" ++ decimal k
constraint_name (M k) = codes "M" ++ decimal k
constraint_name (Q k) = codes "Q" ++ decimal k
