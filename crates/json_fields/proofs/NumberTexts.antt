-- Texts of numbers of the field: the test and the relation say the same.
use Rattle.std.proofs.Common.{◌≡◌, ℕ, ◌<◌, ◌&&◌, ◌↔◌, Bool, true, false, nat_lt, List, Some, None, Result, Ok, Err, IfOk, IsOk, cond, refl, sym, ap, ◌∙◌, subst, lt-ltb, ltb-true}
use Rattle.std.proofs.lemmas.Bool.{false≢true}
use Rattle.std.specs.Result.{result_ok}
use Rattle.goldilocks.specs.Field.{prime}
use Rattle.goldilocks.specs.Text.{is_number_text, text_number, IsNumberText, Writes}
use Rattle.goldilocks.specs.declared.Felt.{Felt}
use Rattle.goldilocks.specs.declared.text.TextFault.{TextFault}
use Rattle.goldilocks.proofs.Pairs.{same_felt, number-felt}
use Rattle.goldilocks.proofs.Texts.{Writes-hex, is_number_text_tells}
use Rattle.goldilocks.specs.Felts.{felt}
use Rattle.json_fields.specs.FieldTexts.{felt_of_text, hex_text}

-- a text that writes a number is read as it
pub felt_of_text-Writes : (text : List ℕ) (x : Felt) → Writes text x.number → felt_of_text text ≡ Some x
unfolding felt_of_text Writes
felt_of_text-Writes text x h =
    let low : text_number text < prime = subst (λ n. n < prime) (sym h.1) h.2 in
    let same : felt (text_number text) ≡ x = same_felt (felt (text_number text)) x (number-felt (text_number text) low ∙ h.1) in
    rw ((is_number_text_tells text).1 h.0, lt-ltb _ _ low) (ap Some same)

given : (text : List ℕ) (x : Felt) (a b : Bool) → is_number_text text ≡ a → nat_lt (text_number text) prime ≡ b → cond (a && b) (Some (felt (text_number text))) None ≡ Some x → Writes text x.number
unfolding Writes
given text x true true e f h =
    let low : text_number text < prime = ltb-true _ _ f in
    let same : felt (text_number text) ≡ x = cc in
    let number : text_number text ≡ x.number = sym (number-felt (text_number text) low) ∙ ap (λ (v : Felt). v.number) same in
    ((is_number_text_tells text).0 e, number, x.in_field)
given text x true false e f h = absurd (cc)
given text x false b e f h = absurd (cc)

-- and only such a text
pub Writes-felt_of_text : (text : List ℕ) (x : Felt) → felt_of_text text ≡ Some x → Writes text x.number
unfolding felt_of_text
Writes-felt_of_text text x h = given text x _ _ refl refl h

pub felt_of_text-hex_text : (x : Felt) → felt_of_text (hex_text x) ≡ Some x
felt_of_text-hex_text x = felt_of_text-Writes (hex_text x) x (Writes-hex x.number x.in_field)

refused : (text : List ℕ) (a b : Bool) → is_number_text text ≡ a → nat_lt (text_number text) prime ≡ b → (IsNumberText text × (text_number text < prime) → ⊥) → None ≡ cond (a && b) (Some (felt (text_number text))) None
refused text true true e f none = absurd (none ((is_number_text_tells text).0 e, ltb-true _ _ f))
refused text true false e f none = refl
refused text false b e f none = refl

-- what reading a text answers
pub felt_of_text-read : (text : List ℕ) (r : Result Felt TextFault) → IfOk r (λ v. Writes text v.number) → (IsOk r ↔ (IsNumberText text × (text_number text < prime))) → result_ok r ≡ felt_of_text text
unfolding felt_of_text
felt_of_text-read text (Ok v) reads accepted = sym (felt_of_text-Writes text v reads)
felt_of_text-read text (Err e) reads accepted = refused text _ _ refl refl (λ both. absurd (false≢true (accepted.1 both)))
