-- What the types of items keep: what private functions of the printer show on their way. An auditor needn't read this
-- file: no public contract rests on it.
use Rattle.std.specs.Prelude.{◌≤◌, ◌<◌, ◌^◌, ℤ, pos, negsuc, IsTrue}
use Rattle.casm_statements.specs.declared.Term.{Term}
use Rattle.casm_statements.specs.declared.Term.TheVariants as term_is
use Rattle.casm_statements.specs.declared.Operand.{Operand}
use Rattle.casm_statements.specs.declared.Operand.TheVariants.{Deref, Double, Imm, Sum, Product}
use Rattle.casm_statements.specs.declared.Stmt.{Stmt}
use Rattle.casm_statements.specs.declared.Stmt.TheVariants.{Assert, Jump, Branch, Call, Ret, AddAp}
use Rattle.casm_statements.specs.declared.Target.{Target}
use Rattle.casm_statements.specs.declared.Target.TheVariants as target_is
use Rattle.casm_statements.specs.declared.Body.{Body}
use Rattle.casm_statements.specs.declared.Body.TheVariants as body
use Rattle.casm_statements.specs.Label.{is_label}

-- An offset that fits its type. Own.
abbrev pub IsOffset : ℤ → Type 0
IsOffset (pos n) = n ≤ 32767
IsOffset (negsuc n) = n < 32768

-- A term as its type keeps it: the offset of its cell fits. Own.
abbrev pub IsTerm : Term → Type 0
IsTerm (term_is.Cell c) = IsOffset c.off
IsTerm (term_is.Imm x) = Unit {0}

-- An operand as its type keeps it: its offsets fit. Own.
abbrev pub IsOperand : Operand → Type 0
IsOperand (Deref c) = IsOffset c.off
IsOperand (Double c o) = IsOffset c.off × IsOffset o
IsOperand (Imm x) = Unit {0}
IsOperand (Sum c t) = IsOffset c.off × IsTerm t
IsOperand (Product c t) = IsOffset c.off × IsTerm t

-- A statement as its type keeps it: its offsets fit. Own.
abbrev pub IsStmt : Stmt → Type 0
IsStmt (Assert dst r i) = IsOffset dst.off × IsOperand r
IsStmt (Jump abs r i) = IsOperand r
IsStmt (Branch c t i) = IsOffset c.off × IsTerm t
IsStmt (Call abs t) = IsTerm t
IsStmt Ret = Unit {0}
IsStmt (AddAp r) = IsOperand r

-- A target as its type keeps it: a place below 2^32, or a name that is a label. Own.
abbrev pub IsTarget : Target → Type 0
IsTarget (target_is.Number n) = n < 2 ^ 32
IsTarget (target_is.Name n) = IsTrue (is_label n)

-- What a line says, as its type keeps it: its offsets fit, its places are below 2^32, and its names are labels. Own.
abbrev pub IsBody : Body → Type 0
IsBody (body.Builtins o r) = Unit {0}
IsBody (body.Start t) = IsTarget t
IsBody (body.End t) = IsTarget t
IsBody (body.Label n) = IsTrue (is_label n)
IsBody (body.Stmt s) = IsStmt s
IsBody (body.JumpTo n i) = IsTrue (is_label n)
IsBody (body.BranchTo c n i) = IsOffset c.off × IsTrue (is_label n)
IsBody (body.CallTo n) = IsTrue (is_label n)
IsBody (body.Dw x) = Unit {0}
