-- The statements that a list of words shows.
use Rattle.std.specs.Prelude.{◌≡◌, Bool, true, false, List, [], ◌∷◌, filter}
use Rattle.goldilocks.specs.declared.Felt.{Felt}
use Rattle.casm_statements.specs.declared.Body.{Body}
use Rattle.casm_statements.specs.declared.Body.TheVariants as body
use Rattle.assembler.specs.StatementWords.{BeginsWith, BeginsWithNone}

-- The words are shown as these bodies. No words are shown as none. Where the words begin with those of a statement, they
-- are shown as it, and then come the words after it. Where they begin with those of none, the first one is shown as a
-- number, and then come the others. Own.
abbrev pub Shown : List Felt → List Body → Type 0
Shown words [] = words ≡ []
Shown words (body.Stmt s ∷ bs) = (others : List Felt) × BeginsWith words s others × Shown others bs
Shown words (body.Dw v ∷ bs) = (others : List Felt) × (words ≡ v ∷ others) × BeginsWithNone words × Shown others bs
Shown words (body.Builtins o r ∷ bs) = ⊥
Shown words (body.Start t ∷ bs) = ⊥
Shown words (body.End t ∷ bs) = ⊥
Shown words (body.Label n ∷ bs) = ⊥
Shown words (body.JumpTo n inc ∷ bs) = ⊥
Shown words (body.BranchTo c n inc ∷ bs) = ⊥
Shown words (body.CallTo n ∷ bs) = ⊥

-- The body gives words. Own.
abbrev pub gives_words : Body → Bool
gives_words (body.Builtins o r) = false
gives_words (body.Start t) = false
gives_words (body.End t) = false
gives_words (body.Label n) = false
gives_words (body.Stmt s) = true
gives_words (body.JumpTo n inc) = true
gives_words (body.BranchTo c n inc) = true
gives_words (body.CallTo n) = true
gives_words (body.Dw v) = true

-- The bodies that give words, in their order. Own.
abbrev pub word_bodies : List Body → List Body
word_bodies bs = filter gives_words bs
