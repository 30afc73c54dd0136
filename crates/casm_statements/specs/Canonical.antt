-- The canonical texts of statements and items, as they are printed.
use Rattle.std.specs.Prelude.{ℕ, zero, suc, ◌-◌, nat_le, ℤ, pos, negsuc, Bool, true, false, if◌then◌else◌, List, [], ◌++◌, codes}
use Rattle.std.specs.Fmt.{decimal, digits}
use Rattle.goldilocks.specs.Field.{prime}
use Rattle.goldilocks.specs.declared.Felt.{Felt}
use Rattle.casm_statements.specs.declared.Reg.{Reg}
use Rattle.casm_statements.specs.declared.Reg.TheVariants as reg_is
use Rattle.casm_statements.specs.declared.Cell.{Cell}
use Rattle.casm_statements.specs.declared.Term.{Term}
use Rattle.casm_statements.specs.declared.Term.TheVariants as term_is
use Rattle.casm_statements.specs.declared.Operand.{Operand}
use Rattle.casm_statements.specs.declared.Operand.TheVariants.{Deref, Double, Imm, Sum, Product}
use Rattle.casm_statements.specs.declared.Stmt.{Stmt}
use Rattle.casm_statements.specs.declared.Stmt.TheVariants.{Assert, Jump, Branch, Call, Ret, AddAp}
use Rattle.casm_statements.specs.declared.Target.{Target}
use Rattle.casm_statements.specs.declared.Target.TheVariants as target_is
use Rattle.casm_statements.specs.declared.Body.{Body}
use Rattle.casm_statements.specs.declared.Body.TheVariants as body

-- `ap`, `fp`. Own.
abbrev pub reg_text : Reg → List ℕ
reg_text reg_is.Ap = codes "ap"
reg_text reg_is.Fp = codes "fp"

-- `` + 3``, `` - 3``, or nothing for 0. Own.
abbrev pub offset_text : ℤ → List ℕ
offset_text (pos zero) = []
offset_text (pos (suc n)) = codes " + " ++ decimal (suc n)
offset_text (negsuc n) = codes " - " ++ decimal (suc n)

-- `[ap]`, `[ap + 3]`, `[fp - 3]`. Own.
abbrev pub cell_text : Cell → List ℕ
cell_text c = codes "[" ++ reg_text c.reg ++ offset_text c.off ++ codes "]"

-- The greatest number that is written without a minus: (p - 1) / 2. Own.
abbrev pub half : ℕ
half = 9223372034707292160

-- The decimal text of a number up to a half of p, and of a greater one a minus and what is missing to p. Own.
abbrev pub number_text : Felt → List ℕ
number_text v = if nat_le v.number half then decimal v.number else (codes "-" ++ decimal (prime - v.number))

-- A cell, or a number. Own.
abbrev pub term_text : Term → List ℕ
term_text (term_is.Cell c) = cell_text c
term_text (term_is.Imm v) = number_text v

-- `[ap]`, `[[fp - 3]]`, `[[fp] + 2]`, `-1`, `[ap] + 5`, `[ap] * [fp]`. Own.
abbrev pub operand_text : Operand → List ℕ
operand_text (Deref c) = cell_text c
operand_text (Double c o) = codes "[" ++ cell_text c ++ offset_text o ++ codes "]"
operand_text (Imm v) = number_text v
operand_text (Sum c t) = cell_text c ++ codes " + " ++ term_text t
operand_text (Product c t) = cell_text c ++ codes " * " ++ term_text t

-- `; ap++`, or nothing. Own.
abbrev pub inc_text : Bool → List ℕ
inc_text true = codes "; ap++"
inc_text false = []

-- `abs` or `rel`, and a space. Own.
abbrev pub way_text : Bool → List ℕ
way_text true = codes "abs "
way_text false = codes "rel "

-- A statement. Own.
abbrev pub stmt_text : Stmt → List ℕ
stmt_text (Assert dst res inc) = cell_text dst ++ codes " = " ++ operand_text res ++ inc_text inc
stmt_text (Jump abs res inc) = codes "jmp " ++ way_text abs ++ operand_text res ++ inc_text inc
stmt_text (Branch cond to inc) = codes "jmp rel " ++ term_text to ++ codes " if " ++ cell_text cond ++ codes " != 0" ++ inc_text inc
stmt_text (Call abs to) = codes "call " ++ way_text abs ++ term_text to
stmt_text Ret = codes "ret"
stmt_text (AddAp res) = codes "ap += " ++ operand_text res

-- A place: a number in decimal digits, or a name. Own.
abbrev pub target_text : Target → List ℕ
target_text (target_is.Number n) = decimal n
target_text (target_is.Name text) = text

-- This text, or nothing. Own.
abbrev pub word_text : Bool → List ℕ → List ℕ
word_text true text = text
word_text false text = []

-- What a line says. Own.
abbrev pub body_text : Body → List ℕ
body_text (body.Builtins o r) = codes "%builtins" ++ word_text o (codes " output") ++ word_text r (codes " range_check")
body_text (body.Start t) = codes "%start " ++ target_text t
body_text (body.End t) = codes "%end " ++ target_text t
body_text (body.Label n) = n ++ codes ":"
body_text (body.Stmt s) = stmt_text s
body_text (body.JumpTo n inc) = codes "jmp " ++ n ++ inc_text inc
body_text (body.BranchTo cond n inc) = codes "jmp " ++ n ++ codes " if " ++ cell_text cond ++ codes " != 0" ++ inc_text inc
body_text (body.CallTo n) = codes "call " ++ n
body_text (body.Dw v) = codes "dw " ++ (codes "0x" ++ digits 16 false v.number)
