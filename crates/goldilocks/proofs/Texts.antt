-- Texts of numbers: what is written is read back, and the steps of reading.
use Rattle.std.proofs.Common.{◌≡◌, ℕ, zero, suc, ◌+◌, ◌-◌, ◌*◌, ◌<◌, ◌≤◌, ◌↔◌, ◌∙◌, Bool, true, false, ◌&&◌, cond, eqb, ltb, nat_lt, Decides, List, [], ◌∷◌, ◌++◌, length, get_or, take, drop, min, sym, ap, refl, subst, arith, inl, inr, codes, Result, Ok, Err, IfOk, IsOk, length-drop}
use Rattle.std.proofs.Math.Nat.{mul-le-mul_left, mul-le-mul_right}
use Rattle.std.proofs.lemmas.Fmt.{decimal_is_IsNumeral, digits_is_IsNumeral}
use Rattle.std.proofs.lemmas.Int.Digits.{digits_value_more, digits_more}
use Rattle.std.proofs.lemmas.List.{get_or_past, get_or-drop}
use Rattle.std.proofs.lemmas.Str.Parse.{digit_at}
use Rattle.std.proofs.lemmas.Bool.Decides.{Decides-ltb}
use Rattle.std.proofs.lemmas.Bool.{cases_lt, cases_order, and_right, ne_eqb, false≢true}
use Rattle.std.specs.Char.{digit_value}
use Rattle.std.specs.Fmt.{decimal, digits}
use Rattle.std.specs.Int.{IsInRange}
use Rattle.std.specs.List.{list_all}
use Rattle.std.specs.Str.Parse.{AllDigits, IsNumeral, digits_value}
use Rattle.goldilocks.specs.declared.Felt.{Felt}
use Rattle.goldilocks.specs.declared.text.TextFault.{TextFault}
use Rattle.goldilocks.specs.declared.text.TextFault.TheVariants.{Empty, BadDigit, TooLarge}
use Rattle.goldilocks.specs.Field.{prime}
use Rattle.goldilocks.specs.Text.{is_marked, mark_len, base_of, digit_bytes, IsNumberText, is_number_text, text_number, Writes, HasNoDigits, IsFirstOther, IsFirstBadDigit, IsTooLarge}
use Rattle.goldilocks.specs.Reading.{IsAnswer}

not_marked : (bs : List ℕ) → AllDigits 10 bs → is_marked bs ≡ false
not_marked bs all =
    elim (cases_lt 1 (length bs)) [
      | inl h ↦
          let r : IsInRange 48 57 (get_or bs 1 0) = digit_at bs 1 all h in
          and_right (eqb (get_or bs 0 0) 48) (eqb (get_or bs 1 0) 120) (ne_eqb (get_or bs 1 0) 120 (λ e. omega (arith, r.1)))
      | inr h ↦
          let z : get_or bs 1 0 ≡ 0 = get_or_past bs 1 0 h in
          and_right (eqb (get_or bs 0 0) 48) (eqb (get_or bs 1 0) 120) (ne_eqb (get_or bs 1 0) 120 (λ e. omega arith))
    ]

pub Writes-decimal : (n : ℕ) → n < prime → Writes (decimal n) n
unfolding Writes IsNumberText text_number
Writes-decimal n low =
    let d = decimal_is_IsNumeral n (omega arith) in
    let m : is_marked (decimal n) ≡ false = not_marked (decimal n) d.0.1 in
    let P : Bool → Type 0 = λ b.
    IsNumeral (cond b 16 10) (drop (cond b 2 0) (decimal n))
    × (digits_value (cond b 16 10) (drop (cond b 2 0) (decimal n)) ≡ n)
    × (n < prime) in
    subst P (sym m) (d.0, d.1, low)

pub Writes-hex : (n : ℕ) → n < prime → Writes (codes "0x" ++ digits 16 false n) n
unfolding Writes IsNumberText text_number
Writes-hex n low =
    let h = digits_is_IsNumeral 16 false (omega arith) (omega arith) n (omega arith) in
    (h.0, h.1, low)

-- the test of digits
all_digits : (base : ℕ) (ds : List ℕ) → Decides (list_all (λ b. nat_lt (digit_value b) base) ds) (AllDigits base ds)
all_digits base [] = (λ _. tt, λ _. refl)
all_digits base (d ∷ ds) =
    let h = all_digits base ds in let k = Decides-ltb (digit_value d) base in
    elim (ltb (digit_value d) base) as (λ t. Decides t (digit_value d < base) → Decides (t && list_all (λ b. nat_lt (digit_value b) base) ds) ((digit_value d < base) × AllDigits base ds)) [
      | true ↦ λ k. (λ e. (k.0 refl, h.0 e), λ p. h.1 p.1)
      | false ↦ λ k. (λ e. cc, λ p. k.1 p.0)
    ] k

-- the test of a number's text
pub is_number_text_tells : (text : List ℕ) → Decides (is_number_text text) (IsNumberText text)
unfolding IsNumberText
is_number_text_tells text =
    let h = all_digits (base_of text) (digit_bytes text) in let k = Decides-ltb 0 (length (digit_bytes text)) in
    elim (ltb 0 (length (digit_bytes text))) as (λ t. Decides t (0 < length (digit_bytes text)) → Decides (t && list_all (λ b. nat_lt (digit_value b) (base_of text)) (digit_bytes text)) ((0 < length (digit_bytes text)) × AllDigits (base_of text) (digit_bytes text))) [
      | true ↦ λ k. (λ e. (k.0 refl, h.0 e), λ p. h.1 p.1)
      | false ↦ λ k. (λ e. cc, λ p. k.1 p.0)
    ] k

-- one more digit, where the number so far stands at most at p
pub capped_step : (b n v d : ℕ) → 1 ≤ b → n ≡ min v prime → min (n * b + d) prime ≡ min (v * b + d) prime
capped_step b n v d pos e =
    elim (cases_lt v prime) [
      | inl h ↦ let f : n ≡ v = omega arith in ap (λ x. min (x * b + d) prime) f
      | inr h ↦
          let f : n ≡ prime = omega arith in
          let g : prime * 1 ≤ prime * b = mul-le-mul_left prime pos in
          let k : prime * b ≤ v * b = mul-le-mul_right b h in
          let m : min (prime * b + d) prime ≡ min (v * b + d) prime = omega arith in
          ap (λ x. min (x * b + d) prime) f ∙ m
    ]

-- one turn of reading: the byte at i is a digit
module _ (text : List ℕ) (start base i : ℕ) (from : start ≤ i) (within : i < length text) where
  more_at : i + 1 - start ≡ i - start + 1
  more_at = omega arith

  room : i - start < length (drop start text)
  room = rw length-drop (omega arith)

  read_at : get_or (drop start text) (i - start) 0 ≡ get_or text i 0
  read_at = let e : start + (i - start) ≡ i = omega arith in get_or-drop start text (i - start) 0 ∙ ap (λ x. get_or text x 0) e

  pub value_turn : (n d : ℕ) → 1 ≤ base → n ≡ min (digits_value base (take (i - start) (drop start text))) prime → d ≡ digit_value (get_or text i 0) → min (n * base + d) prime ≡ min (digits_value base (take (i + 1 - start) (drop start text))) prime
  value_turn n d pos e f =
      capped_step base n (digits_value base (take (i - start) (drop start text))) d pos e
      ∙ ap (λ x. min x prime)
      (ap (λ x. digits_value base (take (i - start) (drop start text)) * base + x) (f ∙ ap digit_value (sym read_at))
      ∙ (sym (digits_value_more base (drop start text) (i - start) room) ∙ ap (λ x. digits_value base (take x (drop start text))) (sym more_at)))

  pub digits_turn : AllDigits base (take (i - start) (drop start text)) → digit_value (get_or text i 0) < base → AllDigits base (take (i + 1 - start) (drop start text))
  digits_turn all low =
      let P : ℕ → Type 0 = λ x. AllDigits base (take x (drop start text)) in
      let Q : ℕ → Type 0 = λ x. digit_value x < base in
      subst P (sym more_at) (digits_more base (drop start text) (i - start) room all (subst Q (sym read_at) low))

-- what a read answers, told by the text's own mark
module _ (text : List ℕ) where
  pub of_marked : (b : Bool) (r : Result Felt TextFault) → is_marked text ≡ b → IsAnswer text (cond b 2 0) (cond b 16 10) r → IsAnswer text (mark_len text) (base_of text) r
  of_marked b r m h = let P : Bool → Type 0 = λ x. IsAnswer text (cond x 2 0) (cond x 16 10) r in subst P (sym m) h

digit_below : (base : ℕ) (ds : List ℕ) (k : ℕ) → AllDigits base ds → k < length ds → digit_value (get_or ds k 0) < base
digit_below base [] k all h = absurd (omega arith)
digit_below base (c ∷ cs) zero all h = all.0
digit_below base (c ∷ cs) (suc k) all h = digit_below base cs k all.1 (omega arith)

module _ (text : List ℕ) (start base : ℕ) where
  none_or_other : (i : ℕ) → length text ≤ start → IsFirstOther text start base i → ⊥
  none_or_other i h o = let a = o.0 in let b = o.1 in omega arith

  none_or_numeral : length text ≤ start → IsNumeral base (drop start text) → ⊥
  none_or_numeral h n = let a = n.0 in omega (arith, length-drop start text)

  other_or_numeral : (i : ℕ) → IsFirstOther text start base i → IsNumeral base (drop start text) → ⊥
  other_or_numeral i o n =
      let a = o.0 in
      let b = o.1 in
      let c = o.2 in
      let e : get_or (drop start text) (i - start) 0 ≡ get_or text i 0 = read_at text start base i o.0 o.1 in
      let l : digit_value (get_or (drop start text) (i - start) 0) < base = digit_below base (drop start text) (i - start) n.1 (room text start base i o.0 o.1) in
      omega (arith, ap digit_value e)

  same_other : (i j : ℕ) → IsFirstOther text start base i → IsFirstOther text start base j → i ≡ j
  same_other i j o p =
      elim (cases_order i j) [
        | inl e ↦ e
        | inr h ↦ elim h [
          | inl l ↦ absurd (let a = o.2 in omega (arith, p.3 i o.0 l))
          | inr l ↦ absurd (let a = p.2 in omega (arith, o.3 j p.0 l))
        ]
      ]

module _ (text : List ℕ) where
  pub reads_of : (r : Result Felt TextFault) → IsAnswer text (mark_len text) (base_of text) r → IfOk r (λ value. Writes text value.number)
  unfolding Writes IsNumberText text_number
  reads_of (Ok v) h = (h.0, h.1, v.in_field)
  reads_of (Err e) h = tt

  pub accepted_of : (r : Result Felt TextFault) → IsAnswer text (mark_len text) (base_of text) r → IsOk r ↔ (IsNumberText text × (text_number text < prime))
  unfolding IsNumberText text_number
  accepted_of (Ok v) h = (λ e. (h.0, let l = v.in_field in omega (arith, h.1)), λ e. refl)
  accepted_of (Err Empty) h = (λ e. absurd (false≢true e), λ n. absurd (none_or_numeral text (mark_len text) (base_of text) h n.0))
  accepted_of (Err (BadDigit i)) h = (λ e. absurd (false≢true e), λ n. absurd (other_or_numeral text (mark_len text) (base_of text) i h n.0))
  accepted_of (Err TooLarge) h = (λ e. absurd (false≢true e), λ n. absurd (let a = n.1 in omega (arith, h.1)))

  pub empty_of : (r : Result Felt TextFault) → IsAnswer text (mark_len text) (base_of text) r → (r ≡ Err Empty) ↔ HasNoDigits text
  unfolding HasNoDigits
  empty_of (Ok v) h = (λ e. absurd (cc), λ n. absurd (none_or_numeral text (mark_len text) (base_of text) n h.0))
  empty_of (Err Empty) h = (λ e. h, λ n. refl)
  empty_of (Err (BadDigit i)) h = (λ e. absurd (cc), λ n. absurd (none_or_other text (mark_len text) (base_of text) i n h))
  empty_of (Err TooLarge) h = (λ e. absurd (cc), λ n. absurd (none_or_numeral text (mark_len text) (base_of text) n h.0))

  pub bad_digit_of : (r : Result Felt TextFault) → IsAnswer text (mark_len text) (base_of text) r → (i : ℕ) → (r ≡ Err (BadDigit i)) ↔ IsFirstBadDigit text i
  unfolding IsFirstBadDigit
  bad_digit_of (Ok v) h i = (λ e. absurd (cc), λ o. absurd (other_or_numeral text (mark_len text) (base_of text) i o h.0))
  bad_digit_of (Err Empty) h i = (λ e. absurd (cc), λ o. absurd (none_or_other text (mark_len text) (base_of text) i h o))
  bad_digit_of (Err (BadDigit j)) h i = (
    λ e. let f : j ≡ i = cc in let P : ℕ → Type 0 = λ x. IsFirstOther text (mark_len text) (base_of text) x in subst P f h,
    λ o. let f : j ≡ i = same_other text (mark_len text) (base_of text) j i h o in cc,
  )
  bad_digit_of (Err TooLarge) h i = (λ e. absurd (cc), λ o. absurd (other_or_numeral text (mark_len text) (base_of text) i o h.0))

  pub too_large_of : (r : Result Felt TextFault) → IsAnswer text (mark_len text) (base_of text) r → (r ≡ Err TooLarge) ↔ IsTooLarge text
  unfolding IsTooLarge IsNumberText text_number
  too_large_of (Ok v) h = (λ e. absurd (cc), λ t. absurd (let l = v.in_field in let a = t.1 in omega (arith, h.1)))
  too_large_of (Err Empty) h = (λ e. absurd (cc), λ t. absurd (none_or_numeral text (mark_len text) (base_of text) h t.0))
  too_large_of (Err (BadDigit i)) h = (λ e. absurd (cc), λ t. absurd (other_or_numeral text (mark_len text) (base_of text) i h t.0))
  too_large_of (Err TooLarge) h = (λ e. h, λ t. refl)
