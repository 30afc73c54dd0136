-- What the parser reads of the tokens of a line, each part as a function of the tokens. An auditor needn't read this
-- file: what is read of a text is computed by it, and the law `reading_laws` of casm_text says that this is what the
-- grammar says.
use Rattle.std.specs.Prelude.{ℕ, ◌+◌, ◌==◌, nat_le, ℤ, pos, neg_ℤ, Bool, true, false, List, [], ◌∷◌, length, if◌then◌else◌, Option, Some, None, Result, Ok, Err}
use Rattle.goldilocks.specs.declared.Felt.{Felt}
use Rattle.casm_statements.specs.declared.name.Reserved.{Reserved}
use Rattle.casm_statements.specs.declared.name.Reserved.TheVariants as reserved
use Rattle.casm_statements.specs.declared.Reg.{Reg}
use Rattle.casm_statements.specs.declared.Reg.TheVariants as reg_is
use Rattle.casm_statements.specs.declared.Cell.{Cell}
use Rattle.casm_statements.specs.declared.Term.{Term}
use Rattle.casm_statements.specs.declared.Term.TheVariants as term_is
use Rattle.casm_statements.specs.declared.Operand.{Operand}
use Rattle.casm_statements.specs.declared.Operand.TheVariants.{Deref, Double, Imm, Sum, Product}
use Rattle.casm_statements.specs.declared.Stmt.TheVariants.{Assert, Jump, Branch, Call, Ret, AddAp}
use Rattle.casm_statements.specs.declared.Target.{Target}
use Rattle.casm_statements.specs.declared.Target.TheVariants as target_is
use Rattle.casm_statements.specs.declared.Body.{Body}
use Rattle.casm_statements.specs.declared.Body.TheVariants as body
use Rattle.casm_tokens.specs.declared.marks.Symbol.{Symbol}
use Rattle.casm_tokens.specs.declared.marks.Symbol.TheVariants.{Increment, AddTo, NotEqual, Open, Close, Plus, Minus, Times, Equal, Semicolon, Comma, Colon, Percent}
use Rattle.casm_tokens.specs.declared.fault.SyntaxKind.{SyntaxKind}
use Rattle.casm_tokens.specs.declared.fault.SyntaxKind.TheVariants as kind
use Rattle.casm_tokens.specs.Marks.{Mark, Sign, Keyword, Label, Number}
use Rattle.casm_grammar.specs.declared.directive.Directive.{Directive}
use Rattle.casm_grammar.specs.declared.directive.Directive.TheVariants as the
use Rattle.casm_grammar.specs.Directives.{directive_word}
use Rattle.casm_grammar.specs.Grammar.{negative}

-- The number of a sign, by which signs are compared. Own.
abbrev pub sign_code : Symbol → ℕ
sign_code Increment = 0
sign_code AddTo = 1
sign_code NotEqual = 2
sign_code Open = 3
sign_code Close = 4
sign_code Plus = 5
sign_code Minus = 6
sign_code Times = 7
sign_code Equal = 8
sign_code Semicolon = 9
sign_code Comma = 10
sign_code Colon = 11
sign_code Percent = 12

-- The number of a reserved word, by which reserved words are compared. Own.
abbrev pub word_code : Reserved → ℕ
word_code reserved.Ap = 0
word_code reserved.Fp = 1
word_code reserved.Jmp = 2
word_code reserved.Call = 3
word_code reserved.Ret = 4
word_code reserved.If = 5
word_code reserved.Rel = 6
word_code reserved.Abs = 7
word_code reserved.Dw = 8

-- The number of a directive, by which directives are compared. Own.
abbrev pub directive_code : Directive → ℕ
directive_code the.Builtins = 0
directive_code the.Output = 1
directive_code the.RangeCheck = 2
directive_code the.Start = 3
directive_code the.End = 4

-- Whether there is a directive, and it is this one. Own.
abbrev pub same_directive : Option Directive → Directive → Bool
same_directive None d = false
same_directive (Some e) d = directive_code e == directive_code d

-- How many tokens are left where reading stops, and why. Own.
abbrev pub Refusal : Type 0
Refusal = ℕ × SyntaxKind

-- A value and the tokens after it, or a refusal. Own.
abbrev pub Reading : Type 0 → Type 0
Reading A = Result (A × List Mark) Refusal

-- The refusal at the first of these tokens. Own.
abbrev pub refused : {A : Type 0} → List Mark → Result A Refusal
refused ts = Err (length ts, kind.Token)

-- Reading on after a value, or the refusal. Own.
abbrev pub after : {A B : Type 0} → Reading A → (A → List Mark → Result B Refusal) → Result B Refusal
after (Ok p) f = f p.0 p.1
after (Err e) f = Err e

-- Reading on with the tokens that are left, or the refusal. Own.
abbrev pub skip : {B : Type 0} → Result (List Mark) Refusal → (List Mark → Result B Refusal) → Result B Refusal
skip (Ok rest) f = f rest
skip (Err e) f = Err e

-- What a function makes of the value that was read last, or the refusal. Own.
abbrev pub making : {A B : Type 0} → (A → B) → Result A Refusal → Result B Refusal
making f (Ok x) = Ok (f x)
making f (Err e) = Err e

-- Reading on after a part that stands first, and else the other answer. Own.
abbrev pub choose : {R : Type 0} → Option (List Mark) → (List Mark → R) → R → R
choose (Some rest) f other = f rest
choose None f other = other

-- The tokens after a sign, where it stands first. Own.
unfoldable pub after_sign : Symbol → List Mark → Option (List Mark)
after_sign s [] = None
after_sign s (Sign t ∷ rest) = if (sign_code t == sign_code s) then Some rest else None
after_sign s (Keyword _ ∷ rest) = None
after_sign s (Label _ ∷ rest) = None
after_sign s (Number _ ∷ rest) = None

-- The tokens after a reserved word, where it stands first. Own.
unfoldable pub after_word : Reserved → List Mark → Option (List Mark)
after_word r [] = None
after_word r (Sign _ ∷ rest) = None
after_word r (Keyword t ∷ rest) = if (word_code t == word_code r) then Some rest else None
after_word r (Label _ ∷ rest) = None
after_word r (Number _ ∷ rest) = None

-- The tokens after the word of a directive, where it stands first. Own.
unfoldable pub after_directive : Directive → List Mark → Option (List Mark)
after_directive d [] = None
after_directive d (Sign _ ∷ rest) = None
after_directive d (Keyword _ ∷ rest) = None
after_directive d (Label text ∷ rest) = if same_directive (directive_word text) d then Some rest else None
after_directive d (Number _ ∷ rest) = None

-- The tokens after a sign, or a refusal where it doesn't stand first. Own.
unfoldable pub expect_sign : Symbol → List Mark → Result (List Mark) Refusal
expect_sign s ts = choose (after_sign s ts) (λ rest. Ok rest) (refused ts)

-- The tokens after a reserved word, or a refusal where it doesn't stand first. Own.
unfoldable pub expect_word : Reserved → List Mark → Result (List Mark) Refusal
expect_word r ts = choose (after_word r ts) (λ rest. Ok rest) (refused ts)

-- A number. Own.
unfoldable pub number_in : List Mark → Reading Felt
number_in [] = refused []
number_in (Sign t ∷ rest) = refused (Sign t ∷ rest)
number_in (Keyword t ∷ rest) = refused (Keyword t ∷ rest)
number_in (Label t ∷ rest) = refused (Label t ∷ rest)
number_in (Number x ∷ rest) = Ok (x, rest)

-- A number that was read before these tokens, where it is within a bound. Own.
abbrev pub bounded : ℕ → Felt → List Mark → Reading Felt
bounded most x rest = if nat_le x.number most then Ok (x, rest) else Err (length rest + 1, kind.Range)

-- A number within a bound. Own.
unfoldable pub number_up_to : ℕ → List Mark → Reading Felt
number_up_to most ts = after (number_in ts) (λ x rest. bounded most x rest)

-- The tokens after a number 0. Own.
unfoldable pub zero_in : List Mark → Result (List Mark) Refusal
zero_in ts = after (number_in ts) (λ x rest. if (x.number == 0) then Ok rest else Err (length rest + 1, kind.Token))

-- A label. Own.
unfoldable pub label_in : List Mark → Reading (List ℕ)
label_in [] = refused []
label_in (Sign t ∷ rest) = refused (Sign t ∷ rest)
label_in (Keyword t ∷ rest) = refused (Keyword t ∷ rest)
label_in (Label text ∷ rest) = Ok (text, rest)
label_in (Number x ∷ rest) = refused (Number x ∷ rest)

-- A label stands first. Own.
abbrev pub begins_label : List Mark → Bool
begins_label [] = false
begins_label (Sign _ ∷ rest) = false
begins_label (Keyword _ ∷ rest) = false
begins_label (Label _ ∷ rest) = true
begins_label (Number _ ∷ rest) = false

-- A register. Own.
unfoldable pub reg_in : List Mark → Reading Reg
reg_in ts = choose (after_word reserved.Ap ts) (λ rest. Ok (reg_is.Ap, rest)) (choose (after_word reserved.Fp ts) (λ rest. Ok (reg_is.Fp, rest)) (refused ts))

-- An offset: a plus or a minus and a number within its bound, or 0 where neither stands first. Own.
unfoldable pub offset_in : List Mark → Reading ℤ
offset_in ts =
    choose (after_sign Plus ts) (λ a. after (number_up_to 32767 a) (λ n rest. Ok (pos n.number, rest)))
    (choose (after_sign Minus ts) (λ a. after (number_up_to 32768 a) (λ n rest. Ok (neg_ℤ (pos n.number), rest)))
    (Ok (pos 0, ts)))

-- A cell, after its opening bracket. Own.
unfoldable pub rest_of_cell : List Mark → Reading Cell
rest_of_cell ts = after (reg_in ts) (λ r a. after (offset_in a) (λ o b. skip (expect_sign Close b) (λ c. Ok (record { reg = r; off = o }, c))))

-- A cell. Own.
unfoldable pub cell_in : List Mark → Reading Cell
cell_in ts = skip (expect_sign Open ts) (λ a. rest_of_cell a)

-- A number, with a minus before it or without. Own.
unfoldable pub imm_in : List Mark → Reading Felt
imm_in ts = choose (after_sign Minus ts) (λ a. after (number_in a) (λ x rest. Ok (negative x, rest))) (number_in ts)

-- A cell, or a number with a minus before it or without. Own.
unfoldable pub term_in : List Mark → Reading Term
term_in ts =
    choose (after_sign Open ts) (λ a. after (rest_of_cell a) (λ c rest. Ok (term_is.Cell c, rest)))
    (after (imm_in ts) (λ x rest. Ok (term_is.Imm x, rest)))

-- An operand such as `[[fp - 3] + 1]`, after its two opening brackets. Own.
unfoldable pub rest_of_double : List Mark → Reading Operand
rest_of_double ts = after (rest_of_cell ts) (λ r a. after (offset_in a) (λ o b. skip (expect_sign Close b) (λ c. Ok (Double r o, c))))

-- An operand that begins with this cell: a sum, a product, or the cell alone. Own.
unfoldable pub after_cell : Cell → List Mark → Reading Operand
after_cell c ts =
    choose (after_sign Plus ts) (λ a. after (term_in a) (λ t rest. Ok (Sum c t, rest)))
    (choose (after_sign Times ts) (λ a. after (term_in a) (λ t rest. Ok (Product c t, rest)))
    (choose (after_sign Minus ts) (λ a. after (number_in a) (λ x rest. Ok (Sum c (term_is.Imm (negative x)), rest)))
    (Ok (Deref c, ts))))

-- An operand, after its first opening bracket. Own.
unfoldable pub bracket_in : List Mark → Reading Operand
bracket_in ts = choose (after_sign Open ts) (λ a. rest_of_double a) (after (rest_of_cell ts) (λ c a. after_cell c a))

-- An operand. Own.
unfoldable pub res_in : List Mark → Reading Operand
res_in ts = choose (after_sign Open ts) (λ a. bracket_in a) (after (imm_in ts) (λ x rest. Ok (Imm x, rest)))

-- The end of the line. Own.
unfoldable pub nothing_in : List Mark → Result (Unit {0}) Refusal
nothing_in [] = Ok tt
nothing_in (t ∷ rest) = refused (t ∷ rest)

-- The end of the line, after a semicolon or without one. Own.
unfoldable pub end_in : List Mark → Result (Unit {0}) Refusal
end_in ts = choose (after_sign Semicolon ts) (λ a. nothing_in a) (nothing_in ts)

-- `++`, and then the end of the line. Own.
unfoldable pub increment_in : List Mark → Result Bool Refusal
increment_in ts = skip (expect_sign Increment ts) (λ a. making (λ _. true) (end_in a))

-- The end of a statement, and whether it says that ap rises: `; ap++` or `, ap++`. Own.
unfoldable pub inc_in : List Mark → Result Bool Refusal
inc_in ts =
    choose (after_sign Semicolon ts) (λ a. choose (after_word reserved.Ap a) (λ b. increment_in b) (making (λ _. false) (nothing_in a)))
    (choose (after_sign Comma ts) (λ a. skip (expect_word reserved.Ap a) (λ b. increment_in b))
    (making (λ _. false) (nothing_in ts)))

-- The condition after `if`. Own.
unfoldable pub condition_in : List Mark → Reading Cell
condition_in ts = after (cell_in ts) (λ c a. skip (expect_sign NotEqual a) (λ b. skip (zero_in b) (λ d. Ok (c, d))))

-- An operand that is a term. Own.
abbrev pub as_term : Operand → Option Term
as_term (Deref c) = Some (term_is.Cell c)
as_term (Double c o) = None
as_term (Imm x) = Some (term_is.Imm x)
as_term (Sum c t) = None
as_term (Product c t) = None

-- An assertion, after its opening bracket. Own.
unfoldable pub assert_in : List Mark → Result Body Refusal
assert_in ts = after (rest_of_cell ts) (λ dst a. skip (expect_sign Equal a) (λ b. after (res_in b) (λ r c. making (λ i. body.Stmt (Assert dst r i)) (inc_in c))))

-- The end of a jump that has this operand. Own.
unfoldable pub jump_on : Bool → Operand → List Mark → Result Body Refusal
jump_on abs r ts = making (λ i. body.Stmt (Jump abs r i)) (inc_in ts)

-- A conditional jump that has this term, after `if`. Own.
unfoldable pub branch_on : Term → List Mark → Result Body Refusal
branch_on t ts = after (condition_in ts) (λ c a. making (λ i. body.Stmt (Branch c t i)) (inc_in a))

-- A relative jump that has this operand. Where the operand is a term, `if` may stand next. Own.
abbrev pub jump_rel_by : Option Term → Operand → List Mark → Result Body Refusal
jump_rel_by None r ts = jump_on false r ts
jump_rel_by (Some t) r ts = choose (after_word reserved.If ts) (λ a. branch_on t a) (jump_on false r ts)

-- A relative jump, after `jmp rel`. Own.
unfoldable pub jump_rel_in : List Mark → Result Body Refusal
jump_rel_in ts = after (res_in ts) (λ r a. jump_rel_by (as_term r) r a)

-- An absolute jump, after `jmp abs`. Own.
unfoldable pub jump_abs_in : List Mark → Result Body Refusal
jump_abs_in ts = after (res_in ts) (λ r a. jump_on true r a)

-- A jump to a label, with a condition or without, after `jmp`. Own.
unfoldable pub jump_to_in : List Mark → Result Body Refusal
jump_to_in ts =
    after (label_in ts) (λ n a. choose (after_word reserved.If a) (λ b. after (condition_in b) (λ c d. making (λ i. body.BranchTo c n i) (inc_in d)))
    (making (λ i. body.JumpTo n i) (inc_in a)))

-- A jump, after `jmp`. Own.
unfoldable pub jump_in : List Mark → Result Body Refusal
jump_in ts = choose (after_word reserved.Rel ts) (λ a. jump_rel_in a) (choose (after_word reserved.Abs ts) (λ a. jump_abs_in a) (jump_to_in ts))

-- A call that has a term, after `call rel` or `call abs`. Own.
unfoldable pub call_on : Bool → List Mark → Result Body Refusal
call_on abs ts = after (term_in ts) (λ t a. making (λ _. body.Stmt (Call abs t)) (end_in a))

-- A call, after `call`. Own.
unfoldable pub call_in : List Mark → Result Body Refusal
call_in ts =
    choose (after_word reserved.Rel ts) (λ a. call_on false a)
    (choose (after_word reserved.Abs ts) (λ a. call_on true a)
    (after (label_in ts) (λ n a. making (λ _. body.CallTo n) (end_in a))))

-- A statement `ap += ..`, after `ap`. Own.
unfoldable pub add_ap_in : List Mark → Result Body Refusal
add_ap_in ts = skip (expect_sign AddTo ts) (λ a. after (res_in a) (λ r b. making (λ _. body.Stmt (AddAp r)) (end_in b)))

-- A number, after `dw`. Own.
unfoldable pub dw_in : List Mark → Result Body Refusal
dw_in ts = after (imm_in ts) (λ x a. making (λ _. body.Dw x) (end_in a))

-- A statement, by its first token. Own.
unfoldable pub stmt_in : List Mark → Result Body Refusal
stmt_in ts =
    choose (after_sign Open ts) (λ a. assert_in a)
    (choose (after_word reserved.Jmp ts) (λ a. jump_in a)
    (choose (after_word reserved.Call ts) (λ a. call_in a)
    (choose (after_word reserved.Ret ts) (λ a. making (λ _. body.Stmt Ret) (end_in a))
    (choose (after_word reserved.Ap ts) (λ a. add_ap_in a)
    (choose (after_word reserved.Dw ts) (λ a. dw_in a)
    (refused ts))))))

-- A place: a label, or a number below 2^32. Own.
unfoldable pub target_in : List Mark → Reading Target
target_in [] = refused []
target_in (Sign t ∷ rest) = refused (Sign t ∷ rest)
target_in (Keyword t ∷ rest) = refused (Keyword t ∷ rest)
target_in (Label text ∷ rest) = Ok (target_is.Name text, rest)
target_in (Number x ∷ rest) = after (bounded 4294967295 x rest) (λ x rest. Ok (target_is.Number x.number, rest))

-- Whether the word of this directive stands first, and the tokens that are left then. Own.
unfoldable pub given_in : Directive → List Mark → Bool × List Mark
given_in d ts = choose (after_directive d ts) (λ rest. (true, rest)) (false, ts)

-- The builtins after `%builtins`: `output` and `range_check` in this order, one of them, or none. Own.
unfoldable pub builtins_in : List Mark → Result Body Refusal
builtins_in ts = making (λ _. body.Builtins (given_in the.Output ts).0 (given_in the.RangeCheck (given_in the.Output ts).1).0) (nothing_in (given_in the.RangeCheck (given_in the.Output ts).1).1)

-- A place and then the end of the line, after `%start` or `%end`. Own.
unfoldable pub place_in : (Target → Body) → List Mark → Result Body Refusal
place_in f ts = after (target_in ts) (λ t a. making (λ _. f t) (nothing_in a))

-- A directive, after `%`. Own.
unfoldable pub setting_in : List Mark → Result Body Refusal
setting_in ts =
    choose (after_directive the.Builtins ts) (λ a. builtins_in a)
    (choose (after_directive the.Start ts) (λ a. place_in (λ t. body.Start t) a)
    (choose (after_directive the.End ts) (λ a. place_in (λ t. body.End t) a)
    (refused ts)))

-- A statement, or the end of the line. Own.
unfoldable pub said_in : List Mark → Result (List Body) Refusal
said_in [] = Ok []
said_in (t ∷ rest) = making (λ s. s ∷ []) (stmt_in (t ∷ rest))

-- A label with its colon, and then a statement or the end of the line. Own.
unfoldable pub named_in : List Mark → Result (List Body) Refusal
named_in ts = after (label_in ts) (λ n a. skip (expect_sign Colon a) (λ b. making (λ s. body.Label n ∷ s) (said_in b)))

-- A whole line. Own.
unfoldable pub line_in : List Mark → Result (List Body) Refusal
line_in ts =
    choose (after_sign Percent ts) (λ a. making (λ d. d ∷ []) (setting_in a))
    (if begins_label ts then named_in ts else said_in ts)
