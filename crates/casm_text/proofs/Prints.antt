-- The text of items, one after another.
use Rattle.std.proofs.Common.{◌≡◌, ℕ, ◌+◌, ◌<◌, List, [], ◌∷◌, ◌++◌, length, take, get_or, refl, ap, sym, ◌∙◌, append_assoc}
use Rattle.std.proofs.lemmas.List.{take_more}
use Rattle.casm_statements.specs.declared.Item.{Item}
use Rattle.casm_text.specs.Canonical.{body_text, printed}

pub printed-append : (xs ys : List Item) → printed (xs ++ ys) ≡ printed xs ++ printed ys
unfolding printed
printed-append [] ys = refl
printed-append (x ∷ xs) ys = ap (λ t. body_text x.body ++ (10 ∷ t)) (printed-append xs ys) ∙ sym (append_assoc (body_text x.body) (10 ∷ printed xs) (printed ys))

pub printed-one : (x : Item) → printed (x ∷ []) ≡ body_text x.body ++ 10 ∷ []
unfolding printed
printed-one x = refl

-- one more item is printed
pub printed-more : (xs : List Item) (i : ℕ) (x : Item) (out mid new : List ℕ) → i < length xs → x ≡ get_or xs i x → out ≡ printed (take i xs) → mid ≡ out ++ body_text x.body → new ≡ mid ++ 10 ∷ [] → new ≡ printed (take (i + 1) xs)
printed-more xs i x out mid new h is e f g =
    g ∙ (ap (λ t. t ++ 10 ∷ []) (f ∙ ap (λ t. t ++ body_text x.body) e)
    ∙ (append_assoc (printed (take i xs)) (body_text x.body) (10 ∷ [])
    ∙ (ap (λ t. printed (take i xs) ++ t) (sym (printed-one x))
    ∙ (sym (printed-append (take i xs) (x ∷ []))
    ∙ (ap (λ y. printed (take i xs ++ y ∷ [])) is ∙ ap printed (sym (take_more xs i x h)))))))
