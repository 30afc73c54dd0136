-- Numbers among the words of a call.
use Rattle.std.proofs.Common.{◌≡◌, ◌≢◌, ℕ, ◌<◌, ◌≤◌, ◌^◌, Bool, true, false, cond, ◌&&◌, ◌⊎◌, inl, inr, length, get_or, Option, Some, None, Result, Ok, refl, sym, ap, ◌∙◌, arith, subst, nat_le}
use Rattle.std.specs.Prelude.{codes}
use Rattle.std.specs.Fmt.{decimal}
use Rattle.std.specs.Str.{bytes_eq}
use Rattle.std.specs.Str.Parse.{AllDigits, ParsesUnsigned, digits_value}
use Rattle.std.proofs.Common.{zero, suc}
use Rattle.std.proofs.lemmas.Bool.{and_parts, leb-true, le-leb}
use Rattle.std.proofs.lemmas.Fmt.{decimal_is_IsNumeral, decimal_digit, decimal-digits_value, first_decimal, parse-decimal}
use Rattle.std.proofs.lemmas.Slice.Eq.{bytes_eq-Decides}
use Rattle.std.proofs.lemmas.Str.Parse.{IsNumeralModel, numerals_by_value, tells_digits, digit_at, parse_plain}
use Rattle.file_port.specs.Files.{Name}
use Rattle.command_words.specs.Numbers.{IsNumber, number_in}

-- ---- the number that a word is

kept_some : (b : Bool) (value n : ℕ) → cond b (Some value) None ≡ Some n → (b ≡ true) × (value ≡ n)
kept_some true value n some = (refl, cc)
kept_some false value n some = cc

-- a word that is told to be a number is it
pub IsNumber-from_some : (least most : ℕ) (word : Name) (n : ℕ) → number_in least most word ≡ Some n → IsNumber least most word n
unfolding number_in
IsNumber-from_some least most word n some =
    let value = digits_value 10 word in
    let kept = kept_some (bytes_eq word (decimal value) && nat_le least value && nat_le value most) value n some in
    let front = and_parts _ _ kept.0 in
    let parts = and_parts _ _ front.0 in
    let is : IsNumber least most word value = record {
      at_least = leb-true least value parts.1;
      at_most = leb-true value most front.1;
      written = (bytes_eq-Decides word (decimal value)).0 parts.0;
    } in
    subst (IsNumber least most word) kept.1 is

-- and a word that is a number is told to be it
pub some-from_IsNumber : (least most : ℕ) (word : Name) (n : ℕ) → most < 2 ^ 64 → IsNumber least most word n → number_in least most word ≡ Some n
unfolding number_in
some-from_IsNumber least most word n few is =
    let value : digits_value 10 word ≡ n = ap (digits_value 10) is.written ∙ (decimal_is_IsNumeral n (omega arith)).1 in
    let same : bytes_eq word (decimal n) ≡ true = (bytes_eq-Decides word (decimal n)).1 is.written in
    rw (value, same, le-leb least n is.at_least, le-leb n most is.at_most) refl

-- a word that is no number is told to be none
none-unless : (least most : ℕ) (word : Name) (found : Option ℕ) → number_in least most word ≡ found → ((n : ℕ) → IsNumber least most word n → ⊥) → number_in least most word ≡ None
none-unless least most word None told never = told
none-unless least most word (Some n) told never = absurd (never n (IsNumber-from_some least most word n told))

pub none-from_never : (least most : ℕ) (word : Name) → ((n : ℕ) → IsNumber least most word n → ⊥) → number_in least most word ≡ None
none-from_never least most word never = none-unless least most word (number_in least most word) refl never

-- ---- what `parse` makes of a word

-- the word is `0`, or begins with another digit
abbrev pub BeginsWell : Name → Type 0
BeginsWell word = (word ≡ codes "0") ⊎ ((48 < get_or word 0 0) × (get_or word 0 0 < 58))

own : IsNumeralModel (AllDigits 10) (digits_value 10)
own = numerals_by_value (AllDigits 10) tells_digits

-- what is written of a number begins well
well_begun : (n : ℕ) → n < 2 ^ 64 → BeginsWell (decimal n)
well_begun zero few = inl (decimal_digit zero (omega arith))
well_begun (suc k) few =
    let is = decimal_is_IsNumeral (suc k) few in
    let first = digit_at (decimal (suc k)) 0 is.0.1 is.0.0 in
    inr (first_decimal (suc k) (omega arith) few, omega arith)

not_plus : (word : Name) → BeginsWell word → get_or word 0 0 ≢ 43
not_plus word (inl alone) plus = let first : get_or word 0 0 ≡ 48 = ap (λ w. get_or w 0 0) alone in omega arith
not_plus word (inr first) plus = omega arith

zero_alone : (word : Name) → BeginsWell word → get_or word 0 0 ≡ 48 → length word ≡ 1
zero_alone word (inl alone) first = ap length alone
zero_alone word (inr other) first = absurd (omega arith)

-- a numeral that begins well is what is written of its value
pub parsed_number : {E : Type 0} (least most : ℕ) (word : Name) (n : ℕ) (r : Result ℕ E) → ParsesUnsigned 64 10 word r → r ≡ Ok n → least ≤ n → n ≤ most → most < 2 ^ 64 → BeginsWell word → number_in least most word ≡ Some n
parsed_number least most word n r parsed is low high few well =
    let plain = rw is at (parse_plain own 64 word r parsed (not_plus word well)) in
    let written : decimal n ≡ word = ap decimal plain.1 ∙ decimal-digits_value own word plain.0.0 plain.0.1 (zero_alone word well) plain.0.2 in
    some-from_IsNumber least most word n few (record { at_least = low; at_most = high; written = sym written })

-- a word that is a number begins well
pub begins_well : (least most : ℕ) (word : Name) (n : ℕ) → most < 2 ^ 64 → IsNumber least most word n → BeginsWell word
begins_well least most word n few is = subst BeginsWell (sym is.written) (well_begun n (omega (arith, is.at_most)))

-- and `parse` gives it: what it doesn't give within the bounds is no number
pub none_parsed : {E : Type 0} (least most : ℕ) (word : Name) (r : Result ℕ E) → ParsesUnsigned 64 10 word r → most < 2 ^ 64 → ((n : ℕ) → r ≡ Ok n → least ≤ n → n ≤ most → ⊥) → number_in least most word ≡ None
none_parsed least most word r parsed few never =
    none-from_never least most word (λ n is.
    never n (parse-decimal 64 n word r (omega (arith, is.at_most)) (omega (arith, is.at_most)) is.written parsed) is.at_least is.at_most)
