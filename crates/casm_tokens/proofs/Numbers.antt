-- Numbers and words as tokens.
use Rattle.std.proofs.Common.{◌≡◌, ℕ, ◌<◌, true, false, not, cond, nat_lt, List, length, refl, ap, ◌∙◌, arith, Decides, inl, inr, length-drop, lt-ltb}
use Rattle.std.proofs.lemmas.Bool.Decides.{Decides-ltb}
use Rattle.std.proofs.lemmas.Bool.{cases_lt}
use Rattle.goldilocks.specs.Field.{prime}
use Rattle.goldilocks.specs.declared.Felt.{Felt}
use Rattle.goldilocks.specs.Text.{is_number_text, mark_len, text_number, IsNumberText, Writes, IsTooLarge}
use Rattle.goldilocks.specs.Felts.{felt}
use Rattle.goldilocks.proofs.Pairs.{felt-number}
use Rattle.goldilocks.proofs.Texts.{is_number_text_tells}
use Rattle.casm_tokens.specs.declared.fault.SyntaxKind.TheVariants as kind
use Rattle.casm_tokens.specs.Marks.{Number}
use Rattle.casm_tokens.specs.Pieces.{Cut, Bad, number_piece}

-- a text of a value is that number
pub number_read : (text : List ℕ) (v : Felt) → Writes text v.number → number_piece text ≡ Cut (length text) (Number v)
unfolding number_piece Writes
number_read text v w =
    let n = (is_number_text_tells text).1 w.0 in
    let below : text_number text < prime = omega arith in
    let l = lt-ltb (text_number text) prime below in
    let f : felt (text_number text) ≡ v = ap felt w.1 ∙ felt-number v in
    rw (n, l, f) refl

-- a text that is no number is refused
pub number_bad : (text : List ℕ) → (IsNumberText text → ⊥) → number_piece text ≡ Bad kind.Number
unfolding number_piece
number_bad text none =
    elim (is_number_text text) as (λ t. Decides t (IsNumberText text) → cond (not t) (Bad kind.Number) (cond (not (nat_lt (text_number text) prime)) (Bad kind.Range) (Cut (length text) (Number (felt (text_number text))))) ≡ Bad kind.Number) [
      | true ↦ λ d. absurd (none (d.0 refl))
      | false ↦ λ d. refl
    ] (is_number_text_tells text)

-- and so is one of a number of p or more
pub number_large : (text : List ℕ) → IsTooLarge text → number_piece text ≡ Bad kind.Range
unfolding number_piece IsTooLarge
number_large text large =
    let n = (is_number_text_tells text).1 large.0 in
    elim (nat_lt (text_number text) prime) as (λ t. Decides t (text_number text < prime) → cond (not (is_number_text text)) (Bad kind.Number) (cond (not t) (Bad kind.Range) (Cut (length text) (Number (felt (text_number text))))) ≡ Bad kind.Range) [
      | true ↦ λ d. absurd (let h = d.0 refl in omega (arith, large.1))
      | false ↦ λ d. rw n refl
    ] (Decides-ltb (text_number text) prime)

-- a number's text isn't empty
pub number_length : (text : List ℕ) → IsNumberText text → 0 < length text
unfolding IsNumberText
number_length text n = let h = length-drop (mark_len text) text in omega (arith, n.0)

-- a text that is read neither as a value nor as a number of p or more is no number
pub number_none : (text : List ℕ) (is_read : Type 0) → (IsNumberText text × (text_number text < prime) → is_read) → (is_read → ⊥) → (IsTooLarge text → ⊥) → IsNumberText text → ⊥
unfolding IsTooLarge
number_none text is_read reads unread small n =
    elim (cases_lt (text_number text) prime) [ inl h ↦ unread (reads (n, h)) | inr h ↦ small (n, h) ]
