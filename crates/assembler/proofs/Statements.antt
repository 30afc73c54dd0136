-- The words of items that are statements without names are shown as these statements.
use Rattle.std.proofs.Common.{◌≡◌, ℕ, ◌+◌, ◌<◌, List, [], ◌∷◌, ◌++◌, length, map, get_or, take, refl, sym, subst}
use Rattle.std.specs.List.{AllByRecursion}
use Rattle.casm_statements.specs.declared.Stmt.{Stmt}
use Rattle.casm_statements.specs.declared.Body.{Body}
use Rattle.casm_statements.specs.declared.Body.TheVariants as body
use Rattle.casm_statements.specs.declared.Item.{Item}
use Rattle.casm_text.specs.Meaning.{bodies}
use Rattle.assembler.specs.StatementWords.{statement_words, BeginsWith}
use Rattle.assembler.specs.Shown.{Shown, word_bodies}
use Rattle.assembler.specs.Assembly.{body_size, words_from}
use Rattle.assembler.specs.Views.{KeepsOffsets}
use Rattle.assembler.proofs.AssemblyLemmas.{bodies-more}

all_push : (P : Body → Type 0) (xs : List Body) (x : Body) → AllByRecursion P xs → P x → AllByRecursion P (xs ++ x ∷ [])
all_push P [] x h p = (p, tt)
all_push P (y ∷ ys) x h p = (h.0, all_push P ys x h.1 p)

-- one item more, in a loop
pub offsets_more : (items : List Item) (n : ℕ) (i : Item) → n < length items → i ≡ get_or items n i → AllByRecursion KeepsOffsets (bodies (take n items)) → KeepsOffsets i.body → AllByRecursion KeepsOffsets (bodies (take (n + 1) items))
offsets_more items n i h at all own =
    subst (λ (bs : List Body). AllByRecursion KeepsOffsets bs) (sym (bodies-more items n i h at)) (all_push KeepsOffsets (bodies (take n items)) i.body all own)

pub words_shown : (labels : List (List ℕ × ℕ)) (place : ℕ) (bs : List Body) (stmts : List Stmt) → AllByRecursion KeepsOffsets bs → word_bodies bs ≡ map body.Stmt stmts → Shown (words_from labels place bs) (map body.Stmt stmts)
words_shown labels place [] [] h e = refl
words_shown labels place [] (t ∷ ts) h e = absurd cc
words_shown labels place (body.Builtins o r ∷ bs) stmts h e = words_shown labels (place + 0) bs stmts h.1 e
words_shown labels place (body.Start t ∷ bs) stmts h e = words_shown labels (place + 0) bs stmts h.1 e
words_shown labels place (body.End t ∷ bs) stmts h e = words_shown labels (place + 0) bs stmts h.1 e
words_shown labels place (body.Label n ∷ bs) stmts h e = words_shown labels (place + 0) bs stmts h.1 e
words_shown labels place (body.Stmt s ∷ bs) [] h e = absurd cc
words_shown labels place (body.Stmt s ∷ bs) (t ∷ ts) h e =
    let same : s ≡ t = cc in
    let rest : word_bodies bs ≡ map body.Stmt ts = cc in
    let others = words_from labels (place + body_size (body.Stmt s)) bs in (
      others,
      subst (λ (x : Stmt). BeginsWith (statement_words s ++ others) x others) same (record { offsets = h.0; parts = refl }),
      words_shown labels (place + body_size (body.Stmt s)) bs ts h.1 rest,
    )
words_shown labels place (body.JumpTo n inc ∷ bs) [] h e = absurd cc
words_shown labels place (body.JumpTo n inc ∷ bs) (t ∷ ts) h e = absurd cc
words_shown labels place (body.BranchTo c n inc ∷ bs) [] h e = absurd cc
words_shown labels place (body.BranchTo c n inc ∷ bs) (t ∷ ts) h e = absurd cc
words_shown labels place (body.CallTo n ∷ bs) [] h e = absurd cc
words_shown labels place (body.CallTo n ∷ bs) (t ∷ ts) h e = absurd cc
words_shown labels place (body.Dw v ∷ bs) [] h e = absurd cc
words_shown labels place (body.Dw v ∷ bs) (t ∷ ts) h e = absurd cc
