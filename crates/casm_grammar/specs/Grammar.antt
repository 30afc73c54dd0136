-- The grammar of a line of assembly text, line for line, and what each means.
use Rattle.std.specs.Prelude.{ℤ, pos, neg_ℤ, Bool, true, false, List, [], ◌∷◌, ◌++◌}
use Rattle.goldilocks.specs.declared.Felt.{Felt}
use Rattle.goldilocks.specs.Field.{field_neg}
use Rattle.goldilocks.specs.Felts.{felt}
use Rattle.casm_statements.specs.declared.name.Reserved.{Reserved}
use Rattle.casm_statements.specs.declared.name.Reserved.TheVariants as reserved
use Rattle.casm_statements.specs.declared.Reg.{Reg}
use Rattle.casm_statements.specs.declared.Reg.TheVariants as reg_is
use Rattle.casm_statements.specs.declared.Cell.{Cell}
use Rattle.casm_statements.specs.declared.Term.{Term}
use Rattle.casm_statements.specs.declared.Term.TheVariants as term_is
use Rattle.casm_statements.specs.declared.Operand.{Operand}
use Rattle.casm_statements.specs.declared.Operand.TheVariants.{Deref, Double, Imm, Sum, Product}
use Rattle.casm_statements.specs.declared.Stmt.TheVariants.{Assert, Jump, Branch, Call, Ret, AddAp}
use Rattle.casm_statements.specs.declared.Target.{Target}
use Rattle.casm_statements.specs.declared.Target.TheVariants as target_is
use Rattle.casm_statements.specs.declared.Body.{Body}
use Rattle.casm_statements.specs.declared.Body.TheVariants as body
use Rattle.casm_tokens.specs.declared.marks.Symbol.{Symbol}
use Rattle.casm_tokens.specs.declared.marks.Symbol.TheVariants.{Increment, AddTo, NotEqual, Open, Close, Plus, Minus, Times, Equal, Semicolon, Comma, Colon, Percent}
use Rattle.casm_grammar.specs.declared.directive.Directive.{Directive}
use Rattle.casm_grammar.specs.declared.directive.Directive.TheVariants as the
use Rattle.casm_grammar.specs.Language.{Language, ended, sign, word, directive, label, number, up_to, zero, either}

-- A grammar of values: a language that goes on with what follows a value. Own.
abbrev pub Grammar : Type 0 → Type 0
Grammar A = (A → Language) → Language

-- No token, and this value. Own.
abbrev pub gives : {A : Type 0} → A → Grammar A
gives x = λ next. next x

-- One after another; `do` reads them so. Own.
infixl 10 ◌>>=◌
abbrev pub ◌>>=◌ : {A B : Type 0} → Grammar A → (A → Grammar B) → Grammar B
g >>= f = λ next. g (λ x. f x next)

-- One or the other. Own.
infixl 5 ◌or◌
abbrev pub ◌or◌ : {A : Type 0} → Grammar A → Grammar A → Grammar A
g or h = λ next. either (g next) (h next)

-- A sign. Own.
abbrev pub say : Symbol → Grammar (Unit {0})
say s = λ next. sign s (next tt)

-- A reserved word. Own.
abbrev pub reserve : Reserved → Grammar (Unit {0})
reserve r = λ next. word r (next tt)

-- A directive's word. Own.
abbrev pub direct : Directive → Grammar (Unit {0})
direct d = λ next. directive d (next tt)

-- A number 0. Own.
abbrev pub nought : Grammar (Unit {0})
nought = λ next. zero (next tt)

-- The value with a minus before it: modulo p. Own.
unfoldable pub negative : Felt → Felt
negative x = felt (field_neg x.number)

-- "ap" | "fp". Own.
abbrev pub reg : Grammar Reg
reg = (do
  _ ← reserve reserved.Ap
  gives reg_is.Ap)
    or (do
      _ ← reserve reserved.Fp
      gives reg_is.Fp)

-- [ ( "+" | "-" ) number ]: at most 32767 after `+`, and 32768 after `-`. Own.
abbrev pub offset : Grammar ℤ
offset = gives (pos 0)
    or (do
      _ ← say Plus
      n ← up_to 32767
      gives (pos n.number))
    or (do
      _ ← say Minus
      n ← up_to 32768
      gives (neg_ℤ (pos n.number)))

-- "[" ( "ap" | "fp" ) [ ( "+" | "-" ) number ] "]". Own.
abbrev pub cell : Grammar Cell
cell = do
  _ ← say Open
  r ← reg
  o ← offset
  _ ← say Close
  gives (record { reg = r; off = o })

-- "[" cell [ ( "+" | "-" ) number ] "]". Own.
abbrev pub double : Grammar Operand
double = do
  _ ← say Open
  c ← cell
  o ← offset
  _ ← say Close
  gives (Double c o)

-- [ "-" ] number. Own.
abbrev pub imm : Grammar Felt
imm = number
    or (do
      _ ← say Minus
      x ← number
      gives (negative x))

-- cell | imm. Own.
abbrev pub term : Grammar Term
term = (do
  c ← cell
  gives (term_is.Cell c))
    or (do
      x ← imm
      gives (term_is.Imm x))

-- cell | double | imm | cell "+" term | cell "*" term | cell "-" number. Own.
abbrev pub res : Grammar Operand
res = (do
  c ← cell
  gives (Deref c))
    or double
    or (do
      x ← imm
      gives (Imm x))
    or (do
      c ← cell
      _ ← say Plus
      t ← term
      gives (Sum c t))
    or (do
      c ← cell
      _ ← say Times
      t ← term
      gives (Product c t))
    or (do
      c ← cell
      _ ← say Minus
      x ← number
      gives (Sum c (term_is.Imm (negative x))))

-- [ ";" ]. Own.
abbrev pub end : Grammar (Unit {0})
end = gives tt
    or say Semicolon

-- [ ( ";" | "," ) "ap" "++" ] end. Own.
abbrev pub inc : Grammar Bool
inc = (do
  _ ← end
  gives false)
    or (do
      _ ← say Semicolon or say Comma
      _ ← reserve reserved.Ap
      _ ← say Increment
      _ ← end
      gives true)

-- "rel" | "abs". Own.
abbrev pub way : Grammar Bool
way = (do
  _ ← reserve reserved.Rel
  gives false)
    or (do
      _ ← reserve reserved.Abs
      gives true)

-- "if" cell "!=" "0". Own.
abbrev pub condition : Grammar Cell
condition = do
  _ ← reserve reserved.If
  c ← cell
  _ ← say NotEqual
  _ ← nought
  gives c

-- The statements, with `dw`. Own.
abbrev pub stmt : Grammar Body
stmt = (do
  dst ← cell
  _ ← say Equal
  r ← res
  i ← inc
  gives (body.Stmt (Assert dst r i)))
    or (do
      _ ← reserve reserved.Jmp
      abs ← way
      r ← res
      i ← inc
      gives (body.Stmt (Jump abs r i)))
    or (do
      _ ← reserve reserved.Jmp
      _ ← reserve reserved.Rel
      t ← term
      c ← condition
      i ← inc
      gives (body.Stmt (Branch c t i)))
    or (do
      _ ← reserve reserved.Jmp
      n ← label
      i ← inc
      gives (body.JumpTo n i))
    or (do
      _ ← reserve reserved.Jmp
      n ← label
      c ← condition
      i ← inc
      gives (body.BranchTo c n i))
    or (do
      _ ← reserve reserved.Call
      abs ← way
      t ← term
      _ ← end
      gives (body.Stmt (Call abs t)))
    or (do
      _ ← reserve reserved.Call
      n ← label
      _ ← end
      gives (body.CallTo n))
    or (do
      _ ← reserve reserved.Ret
      _ ← end
      gives (body.Stmt Ret))
    or (do
      _ ← reserve reserved.Ap
      _ ← say AddTo
      r ← res
      _ ← end
      gives (body.Stmt (AddAp r)))
    or (do
      _ ← reserve reserved.Dw
      x ← imm
      _ ← end
      gives (body.Dw x))

-- number | name: a number below 2^32. Own.
abbrev pub target : Grammar Target
target = (do
  x ← up_to 4294967295
  gives (target_is.Number x.number))
    or (do
      n ← label
      gives (target_is.Name n))

-- [ word ]. Own.
abbrev pub given : Directive → Grammar Bool
given d = gives false
    or (do
      _ ← direct d
      gives true)

-- "%" "builtins" [ "output" ] [ "range_check" ] | "%" "start" target | "%" "end" target. Own.
abbrev pub setting : Grammar Body
setting = (do
  _ ← say Percent
  _ ← direct the.Builtins
  o ← given the.Output
  r ← given the.RangeCheck
  gives (body.Builtins o r))
    or (do
      _ ← say Percent
      _ ← direct the.Start
      t ← target
      gives (body.Start t))
    or (do
      _ ← say Percent
      _ ← direct the.End
      t ← target
      gives (body.End t))

-- [ name ":" ] and [ stmt ], with the items that they mean. Own.
abbrev pub named : Grammar (List Body)
named = gives []
    or (do
      n ← label
      _ ← say Colon
      gives (body.Label n ∷ []))

-- A statement, or nothing. Own.
abbrev pub said : Grammar (List Body)
said = gives []
    or (do
      s ← stmt
      gives (s ∷ []))

-- directive | [ name ":" ] [ stmt ]. Own.
abbrev pub line : Grammar (List Body)
line = (do
  d ← setting
  gives (d ∷ []))
    or (do
      n ← named
      s ← said
      gives (n ++ s))

-- A whole line. Own.
unfoldable pub whole_line : Language
whole_line = line ended
