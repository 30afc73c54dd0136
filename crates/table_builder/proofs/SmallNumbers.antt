-- The least and the greatest of the digits of numbers, met one number after another.
use Rattle.std.proofs.Common.{◌≡◌, ℕ, ◌+◌, ◌<◌, List, [], ◌∷◌, ◌++◌, fold, length, get_or, take, sym, ap, ◌∙◌, append-nil, zero-add}
use Rattle.std.specs.Prelude.{unwrap_or}
use Rattle.std.proofs.lemmas.List.{map_more}
use Rattle.std.proofs.lemmas.List.Sums.{fold-append}
use Rattle.std.proofs.lemmas.Grind.{flat_map-append}
use Rattle.std.proofs.lemmas.List.FromFn.{map-range_with_len_more}
use Rattle.goldilocks.specs.Field.{field_add}
use Rattle.casm_word.specs.declared.State.{State}
use Rattle.casm_word.specs.Transition.{Memory}
use Rattle.table_builder.specs.PublicParts.{digits, all_digits, words_at, numbers_from}

module _ (f : ℕ → ℕ → ℕ) (start : ℕ) where
  -- one number more
  pub fold_more : (ns : List ℕ) (n now after : ℕ) → now ≡ fold f start (all_digits ns) → after ≡ fold f now (digits n) → after ≡ fold f start (all_digits (ns ++ n ∷ []))
  fold_more ns n now after so_far e =
      e
      ∙ (ap (λ a. fold f a (digits n)) so_far
      ∙ (sym (fold-append f start (all_digits ns) (digits n))
      ∙ ap (fold f start) (ap (λ ds. all_digits ns ++ ds) (sym (append-nil (digits n))) ∙ sym (flat_map-append digits ns (n ∷ [])))))

  pub fold_word : (m : Memory) (states : List State) (i : ℕ) (state : State) (now after : ℕ) → i < length states → state ≡ get_or states i state → now ≡ fold f start (all_digits (words_at m (take i states))) → after ≡ fold f now (digits (unwrap_or (m state.pc.number) 0)) → after ≡ fold f start (all_digits (words_at m (take (i + 1) states)))
  fold_word m states i state now after within at so_far e =
      let word : State → ℕ = λ s. unwrap_or (m s.pc.number) 0 in
      fold_more (words_at m (take i states)) (word state) now after so_far e
      ∙ ap (λ ns. fold f start (all_digits ns)) (ap (λ s. words_at m (take i states) ++ word s ∷ []) at ∙ sym (map_more word states i state within))

  pub fold_cell : (m : Memory) (begin i addr now after : ℕ) → addr ≡ field_add begin i → now ≡ fold f start (all_digits (numbers_from m begin i)) → after ≡ fold f now (digits (unwrap_or (m addr) 0)) → after ≡ fold f start (all_digits (numbers_from m begin (i + 1)))
  fold_cell m begin i addr now after at so_far e =
      let number : ℕ → ℕ = λ k. unwrap_or (m (field_add begin k)) 0 in
      fold_more (numbers_from m begin i) (number i) now after so_far (e ∙ ap (λ a. fold f now (digits (unwrap_or (m a) 0))) at)
      ∙ ap (λ ns. fold f start (all_digits ns)) (sym (map-range_with_len_more number 0 i i (zero-add i)))
