-- What items assemble to: words, labels, the places of start and end, and builtins. Bodies are what items say, without
-- their lines.
use Rattle.std.specs.Prelude.{ℕ, ◌+◌, Bool, false, List, [], ◌∷◌, ◌++◌, length, sum_by, Option, Some, None, unwrap_or}
use Rattle.std.specs.Option.{option_or}
use Rattle.std.specs.Map.{lookup}
use Rattle.std.specs.Str.{bytes_eq}
use Rattle.goldilocks.specs.declared.Felt.{Felt}
use Rattle.goldilocks.specs.Field.{field_sub}
use Rattle.goldilocks.specs.Felts.{felt}
use Rattle.casm_statements.specs.declared.Term.TheVariants as term
use Rattle.casm_statements.specs.declared.Operand.TheVariants as operand
use Rattle.casm_statements.specs.declared.Stmt.TheVariants.{Jump, Branch, Call}
use Rattle.casm_statements.specs.declared.Target.{Target}
use Rattle.casm_statements.specs.declared.Target.TheVariants.{Number, Name}
use Rattle.casm_statements.specs.declared.Body.{Body}
use Rattle.casm_statements.specs.declared.Body.TheVariants as body
use Rattle.assembler.specs.StatementWords.{statement_words}

-- How many words a body gives. Own.
abbrev pub body_size : Body → ℕ
body_size (body.Builtins o r) = 0
body_size (body.Start t) = 0
body_size (body.End t) = 0
body_size (body.Label n) = 0
body_size (body.Stmt s) = length (statement_words s)
body_size (body.JumpTo n inc) = 2
body_size (body.BranchTo c n inc) = 2
body_size (body.CallTo n) = 2
body_size (body.Dw v) = 1

-- How many words bodies give together. Own.
abbrev pub word_count : List Body → ℕ
word_count bs = sum_by body_size bs

-- The label that a body is, if it is one. Own.
abbrev pub label_in : Body → Option (List ℕ)
label_in (body.Builtins o r) = None
label_in (body.Start t) = None
label_in (body.End t) = None
label_in (body.Label n) = Some n
label_in (body.Stmt s) = None
label_in (body.JumpTo n inc) = None
label_in (body.BranchTo c n inc) = None
label_in (body.CallTo n) = None
label_in (body.Dw v) = None

-- A label with its value, where there is one. Own.
abbrev pub label_at : ℕ → Option (List ℕ) → List (List ℕ × ℕ)
label_at place None = []
label_at place (Some n) = (n, place) ∷ []

-- The labels in their order, each with its value, which is the number of words before it; `place` words stand before the
-- first body. Own.
abbrev pub labels_from : ℕ → List Body → List (List ℕ × ℕ)
labels_from place [] = []
labels_from place (b ∷ bs) = label_at place (label_in b) ++ labels_from (place + body_size b) bs

-- The labels in their order, each with the number of words before it. Own.
abbrev pub labels_of : List Body → List (List ℕ × ℕ)
labels_of bs = labels_from 0 bs

-- The value of a name, if it is one of these labels. Own.
abbrev pub value_in : List (List ℕ × ℕ) → List ℕ → Option ℕ
value_in labels n = lookup (bytes_eq n) labels

-- The label of which a target is the name, if it is one. Own.
abbrev pub target_name : Target → Option (List ℕ)
target_name (Number n) = None
target_name (Name n) = Some n

-- The label that a body names, if it names one. Own.
abbrev pub label_named : Body → Option (List ℕ)
label_named (body.Builtins o r) = None
label_named (body.Start t) = target_name t
label_named (body.End t) = target_name t
label_named (body.Label n) = None
label_named (body.Stmt s) = None
label_named (body.JumpTo n inc) = Some n
label_named (body.BranchTo c n inc) = Some n
label_named (body.CallTo n) = Some n
label_named (body.Dw v) = None

-- How far it is from one place to another, as a number of the field. Own.
unfoldable pub distance : ℕ → ℕ → Felt
distance to from = felt (field_sub to from)

-- How far the label of a name is from a place. Own.
abbrev pub distance_to : List (List ℕ × ℕ) → ℕ → Option (List ℕ) → Felt
distance_to labels place None = distance place place
distance_to labels place (Some n) = distance (unwrap_or (value_in labels n) 0) place

-- The words of a body; what names a label is the relative statement with this immediate. Own.
abbrev pub body_words : Felt → Body → List Felt
body_words by (body.Builtins o r) = []
body_words by (body.Start t) = []
body_words by (body.End t) = []
body_words by (body.Label n) = []
body_words by (body.Stmt s) = statement_words s
body_words by (body.JumpTo n inc) = statement_words (Jump false (operand.Imm by) inc)
body_words by (body.BranchTo c n inc) = statement_words (Branch c (term.Imm by) inc)
body_words by (body.CallTo n) = statement_words (Call false (term.Imm by))
body_words by (body.Dw v) = v ∷ []

-- The words of bodies one after another, over these labels; `place` words stand before the first body. A statement that
-- names a label leads from its own first word to it. Own.
abbrev pub words_from : List (List ℕ × ℕ) → ℕ → List Body → List Felt
words_from labels place [] = []
words_from labels place (b ∷ bs) =
    body_words (distance_to labels place (label_named b)) b ++ words_from labels (place + body_size b) bs

-- The words of bodies one after another, over their own labels. Own.
abbrev pub words_of : List Body → List Felt
words_of bs = words_from (labels_of bs) 0 bs

-- What the first body that gives one gives. Own.
abbrev pub first_given : {A : Type 0} → (Body → Option A) → List Body → Option A
first_given f [] = None
first_given f (b ∷ bs) = option_or (f b) (first_given f bs)

-- The target of a directive `%start`. Own.
abbrev pub start_in : Body → Option Target
start_in (body.Builtins o r) = None
start_in (body.Start t) = Some t
start_in (body.End t) = None
start_in (body.Label n) = None
start_in (body.Stmt s) = None
start_in (body.JumpTo n inc) = None
start_in (body.BranchTo c n inc) = None
start_in (body.CallTo n) = None
start_in (body.Dw v) = None

-- The target of a directive `%end`. Own.
abbrev pub end_in : Body → Option Target
end_in (body.Builtins o r) = None
end_in (body.Start t) = None
end_in (body.End t) = Some t
end_in (body.Label n) = None
end_in (body.Stmt s) = None
end_in (body.JumpTo n inc) = None
end_in (body.BranchTo c n inc) = None
end_in (body.CallTo n) = None
end_in (body.Dw v) = None

-- The builtins of a directive `%builtins`: output, and range checks. Own.
abbrev pub builtins_in : Body → Option (Bool × Bool)
builtins_in (body.Builtins o r) = Some (o, r)
builtins_in (body.Start t) = None
builtins_in (body.End t) = None
builtins_in (body.Label n) = None
builtins_in (body.Stmt s) = None
builtins_in (body.JumpTo n inc) = None
builtins_in (body.BranchTo c n inc) = None
builtins_in (body.CallTo n) = None
builtins_in (body.Dw v) = None

-- The place of a target over these labels; 0 where none is given. Own.
abbrev pub target_place : List (List ℕ × ℕ) → Option Target → ℕ
target_place labels None = 0
target_place labels (Some (Number n)) = n
target_place labels (Some (Name n)) = unwrap_or (value_in labels n) 0

-- The place where bodies say that the program starts: 0 where they don't. Own.
abbrev pub start_place : List Body → ℕ
start_place bs = target_place (labels_of bs) (first_given start_in bs)

-- The place where bodies say that the program ends. Own.
abbrev pub end_place : List Body → ℕ
end_place bs = target_place (labels_of bs) (first_given end_in bs)

-- The builtins of bodies: none where they don't say. Own.
abbrev pub builtins_of : List Body → Bool × Bool
builtins_of bs = unwrap_or (first_given builtins_in bs) (false, false)
