-- The parts of a file: each is plain, lies flat, and is read back.
use Rattle.std.proofs.Common.{◌≡◌, ℕ, ◌≤◌, ◌<◌, false, List, [], ◌∷◌, map, Option, Some, refl, ap, ap₂, arith, inl, inr, codes}
use Rattle.std.proofs.lemmas.Bool.{cases_lt, le-ltb}
use Rattle.std.proofs.lemmas.Fmt.{digits_is_IsNumeral}
use Rattle.std.proofs.lemmas.Str.{IsUtf8-append, IsUtf8-from_ascii}
use Rattle.std.proofs.lemmas.Str.Ascii.{IsAscii-nil, IsAscii-cons}
use Rattle.std.specs.Char.{digit_value}
use Rattle.std.specs.Str.{IsUtf8, IsAscii}
use Rattle.std.specs.Str.Parse.{AllDigits}
use Rattle.goldilocks.specs.declared.Felt.{Felt}
use Rattle.goldilocks.specs.declared.Pair.{Pair}
use Rattle.json.proofs.Printed.Utf8.{IsUtf8-are_ascii}
use Rattle.serde_json.specs.Data.{Data, depth, items_depth}
use Rattle.serde_json.specs.View.{items_of}
use Rattle.json_fields.specs.FieldTexts.{hex_text}
use Rattle.json_fields.specs.Values.{list_in, whole_in, felt_in, pair_in}
use Rattle.json_fields.specs.Plain.{IsPlain, ArePlain}
use Rattle.json_fields.specs.Encoding.{list_json, whole_json, felt_json, pair_json}
use Rattle.json_fields.proofs.NumberTexts.{felt_of_text-hex_text}
use Rattle.json_fields.proofs.ReadValues.{entries-items_of}

-- ---- the text of a number is UTF-8

high_byte : (c : ℕ) → 128 ≤ c → digit_value c ≡ 36
high_byte c h = rw (le-ltb c 48 (omega arith), le-ltb c 58 (omega arith), le-ltb c 65 (omega arith), le-ltb c 91 (omega arith), le-ltb c 97 (omega arith), le-ltb c 123 (omega arith))

digit_is_low : (c : ℕ) → digit_value c < 16 → c < 128
digit_is_low c h = elim (cases_lt c 128) [ inl low ↦ low | inr high ↦ absurd (omega (arith, high_byte c high)) ]

IsAscii-AllDigits : (ds : List ℕ) → AllDigits 16 ds → IsAscii ds
IsAscii-AllDigits [] h = IsAscii-nil
IsAscii-AllDigits (d ∷ ds) h = IsAscii-cons d ds (digit_is_low d h.0) (IsAscii-AllDigits ds h.1)

pub IsUtf8-hex_text : (x : Felt) → IsUtf8 (hex_text x)
IsUtf8-hex_text x =
    let low = x.in_field in
    IsUtf8-append (codes "0x") _ (IsUtf8-are_ascii (codes "0x") refl) (IsUtf8-from_ascii _ (IsAscii-AllDigits _ (digits_is_IsNumeral 16 false (omega arith) (omega arith) x.number (omega arith)).0.1))

-- ---- lists of values

module _ {X : Type 0} (f : X → Data) where
  pub ArePlain-items_of : ((x : X) → IsPlain (f x)) → (xs : List X) → ArePlain (items_of (map f xs))
  ArePlain-items_of plain [] = tt
  ArePlain-items_of plain (x ∷ xs) = (plain x, ArePlain-items_of plain xs)

  pub items_depth-items_of : (n : ℕ) → ((x : X) → depth (f x) ≤ n) → (xs : List X) → items_depth (items_of (map f xs)) ≤ n
  items_depth-items_of n flat [] = omega arith
  items_depth-items_of n flat (x ∷ xs) = omega (arith, flat x, items_depth-items_of n flat xs)

  pub map-entries : (give : Data → Option X) → ((x : X) → give (f x) ≡ Some x) → (xs : List X) → map give (map f xs) ≡ map Some xs
  map-entries give back [] = refl
  map-entries give back (x ∷ xs) = ap₂ (λ o os. o ∷ os) (back x) (map-entries give back xs)

pub list_in-list_json : (ds : List Data) → list_in (list_json ds) ≡ Some ds
unfolding list_in
list_in-list_json ds = ap Some (entries-items_of ds)

-- ---- each part

pub whole_in-whole_json : (n : ℕ) → whole_in (whole_json n) ≡ Some n
unfolding whole_in
whole_in-whole_json n = refl

pub felt_in-felt_json : (x : Felt) → felt_in (felt_json x) ≡ Some x
unfolding felt_in
felt_in-felt_json x = felt_of_text-hex_text x

pub pair_in-pair_json : (p : Pair) → pair_in (pair_json p) ≡ Some p
unfolding pair_in
pair_in-pair_json p = rw (list_in-list_json (felt_json p.addr ∷ felt_json p.value ∷ []), felt_in-felt_json p.addr, felt_in-felt_json p.value)

pub IsPlain-felt_json : (x : Felt) → IsPlain (felt_json x)
IsPlain-felt_json x = IsUtf8-hex_text x

pub IsPlain-pair_json : (p : Pair) → IsPlain (pair_json p)
IsPlain-pair_json p = (IsUtf8-hex_text p.addr, (IsUtf8-hex_text p.value, tt))

pub depth-pair_json : (p : Pair) → depth (pair_json p) ≤ 1
depth-pair_json p = omega arith
