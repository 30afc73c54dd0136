-- How long the texts in JSON files are at most: those of numbers, and of members with their keys.
use Rattle.std.proofs.Common.{◌≡◌, ℕ, zero, suc, ◌+◌, ◌/◌, ◌%◌, ◌^◌, ◌<◌, ◌≤◌, Bool, true, false, cond, List, [], ◌∷◌, ◌++◌, length, refl, sym, ap, ◌∙◌, subst, arith, inl, inr, lt-ltb, le-ltb}
use Rattle.std.specs.Fmt.{digits, digits_onto, digit_glyph}
use Rattle.std.proofs.Math.Nat.{pow-suc}
use Rattle.std.proofs.lemmas.Bool.{cases_eq, cases_lt, eq-eqb, ne_eqb}
use Rattle.std.proofs.lemmas.Fmt.{length-decimal-le}
use Rattle.std.proofs.lemmas.List.{length-append}
use Rattle.json.specs.Print.{escape_byte, escape, quoted}
use Rattle.serde_json.specs.Data.{Data, Members, member}
use Rattle.serde_json.specs.Written.{comma_if, compact_text, members_text}
use Rattle.json_fields.specs.FieldTexts.{hex_text}
use Rattle.json_fields.specs.Encoding.{whole_json}
use Rattle.goldilocks.specs.declared.Felt.{Felt}

-- two texts one after another
pub text_le : (xs ys : List ℕ) (m n : ℕ) → length xs ≤ m → length ys ≤ n → length (xs ++ ys) ≤ m + n
text_le xs ys m n a b = omega (arith, length-append xs ys)

-- ---- a word

-- a byte that a string holds as it is
plain_byte : (x : ℕ) → 48 ≤ x → (x ≡ 92 → ⊥) → escape_byte x ≡ x ∷ []
unfolding escape_byte
plain_byte x h other =
    rw (
      ne_eqb x 34 (λ e. omega (arith, e)),
      ne_eqb x 92 other,
      ne_eqb x 8 (λ e. omega (arith, e)),
      ne_eqb x 12 (λ e. omega (arith, e)),
      ne_eqb x 10 (λ e. omega (arith, e)),
      ne_eqb x 13 (λ e. omega (arith, e)),
      ne_eqb x 9 (λ e. omega (arith, e)),
      le-ltb x 32 (omega arith),
    ) refl

plain_glyph : (d : ℕ) → d < 16 → length (escape_byte (digit_glyph false d)) ≡ 1
plain_glyph d h = elim (cases_lt d 10) [
  | inl low ↦ rw (lt-ltb d 10 low) (ap length (plain_byte (48 + d) (omega arith) (λ e. omega (arith, e))))
  | inr high ↦ rw (le-ltb d 10 high) (ap length (plain_byte (87 + d) (omega arith) (λ e. omega (arith, e))))
]

glyph_more : (d : ℕ) (text : List ℕ) → d < 16 → length (escape (digit_glyph false d ∷ text)) ≡ 1 + length (escape text)
glyph_more d text h =
    length-append (escape_byte (digit_glyph false d)) (escape text) ∙ ap (λ n. n + length (escape text)) (plain_glyph d h)

-- hexadecimal digits as a string holds them
onto_le : (k j n : ℕ) (acc : List ℕ) → 0 < j → j ≤ k → n < 16 ^ j → length (escape (digits_onto k 16 false n acc)) ≤ j + length (escape acc)
onto_le zero j n acc p q h = absurd (omega arith)
onto_le (suc k) zero n acc p q h = absurd (omega arith)
onto_le (suc k) (suc j) n acc p q h =
    let g = digit_glyph false (n % 16) in
    let power = pow-suc 16 j in
    let more : length (escape (g ∷ acc)) ≡ 1 + length (escape acc) = glyph_more (n % 16) acc (omega arith) in
    elim (cases_eq (n / 16) 0) [
      | inl e ↦
          let t = ap (λ (b : Bool). cond b (g ∷ acc) (digits_onto k 16 false (n / 16) (g ∷ acc))) (eq-eqb (n / 16) 0 e) in
          subst (λ (ds : List ℕ). length (escape ds) ≤ suc j + length (escape acc)) (sym t) (omega arith)
      | inr ne ↦
          let t = ap (λ (b : Bool). cond b (g ∷ acc) (digits_onto k 16 false (n / 16) (g ∷ acc))) (ne_eqb (n / 16) 0 ne) in
          let below : n / 16 < 16 ^ j = omega arith in
          let left : 0 < j = some_left j n ne h in
          let rest = onto_le k j (n / 16) (g ∷ acc) left (omega arith) below in
          subst (λ (ds : List ℕ). length (escape ds) ≤ suc j + length (escape acc)) (sym t) (omega arith)
    ]
  where
    some_left : (j n : ℕ) → (n / 16 ≡ 0 → ⊥) → n < 16 ^ suc j → 0 < j
    some_left zero n ne h = absurd (ne (omega arith))
    some_left (suc j) n ne h = omega arith

hex_le : (x : Felt) → length (escape (digits 16 false x.number)) ≤ 16
unfolding digits
hex_le x =
    let low = x.in_field in
    let e : 16 ^ 16 ≡ 18446744073709551616 = refl in
    onto_le 64 16 x.number [] (omega arith) (omega arith) (omega arith)

pub word_le : (x : Felt) → length (quoted (hex_text x)) ≤ 20
unfolding escape_byte
word_le x =
    let front : length (escape (hex_text x)) ≡ suc (suc (length (escape (digits 16 false x.number)))) = refl in
    let k = text_le (escape (hex_text x)) (34 ∷ []) 18 1 (omega (arith, front, hex_le x)) (omega arith) in
    omega arith

pub comma_le : (later : Bool) → length (comma_if later) ≤ 1
comma_le true = omega arith
comma_le false = omega arith

-- ---- members

pub place_le : (n : ℕ) → n < 2 ^ 32 → length (compact_text (whole_json n)) ≤ 10
place_le n h = length-decimal-le 10 n (omega arith) (omega arith) (omega arith)

pub member_le : (later : Bool) (key : List ℕ) (d : Data) (ms : Members) (a b c : ℕ) → length (quoted key) ≤ a → length (compact_text d) ≤ b → length (members_text true ms) ≤ c → length (members_text later (member key d ms)) ≤ a + b + c + 2
member_le later key d ms a b c h k l =
    let value = text_le (compact_text d) (members_text true ms) b c k l in
    let named = text_le (quoted key) (58 ∷ (compact_text d ++ members_text true ms)) a (b + c + 1) h (omega arith) in
    let whole = text_le (comma_if later) (quoted key ++ 58 ∷ (compact_text d ++ members_text true ms)) 1 (a + (b + c + 1)) (comma_le later) named in
    omega arith
