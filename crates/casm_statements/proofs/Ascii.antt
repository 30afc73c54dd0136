-- Labels are ASCII.
use Rattle.std.proofs.Common.{◌≡◌, ℕ, zero, suc, ◌<◌, Bool, true, false, ◌&&◌, List, [], ◌∷◌, refl, arith, is_none}
use Rattle.std.proofs.lemmas.Bool.Decides.{nat_tests}
use Rattle.std.proofs.lemmas.Str.{IsUtf8-from_ascii}
use Rattle.std.specs.List.{list_all}
use Rattle.std.specs.Prelude.{slice_index}
use Rattle.std.specs.Str.{IsUtf8}
use Rattle.casm_statements.specs.Label.{is_word_head, is_word_byte, is_word, is_label, reserved_word}

byte_below : (b : ℕ) → is_word_byte b ≡ true → b < 128
byte_below b h = grind (arith, nat_tests)

head_byte : (b : ℕ) → is_word_head b ≡ true → is_word_byte b ≡ true
head_byte b h = rw h refl

both : (x y : Bool) → (x && y) ≡ true → (x ≡ true) × (y ≡ true)
both true true h = (refl, refl)
both true false h = cc
both false y h = cc

bytes_below : (bs : List ℕ) → list_all is_word_byte bs ≡ true → (i : ℕ) → slice_index bs i < 128
bytes_below [] h i = omega arith
bytes_below (b ∷ bs) h zero = byte_below b (both (is_word_byte b) (list_all is_word_byte bs) h).0
bytes_below (b ∷ bs) h (suc i) = bytes_below bs (both (is_word_byte b) (list_all is_word_byte bs) h).1 i

word_below : (bs : List ℕ) → is_word bs ≡ true → (i : ℕ) → slice_index bs i < 128
word_below [] h i = omega arith
word_below (b ∷ bs) h zero = byte_below b (head_byte b (both (is_word_head b) (list_all is_word_byte bs) h).0)
word_below (b ∷ bs) h (suc i) = bytes_below bs (both (is_word_head b) (list_all is_word_byte bs) h).1 i

-- so they are UTF-8
pub label_utf8 : (text : List ℕ) → is_label text ≡ true → IsUtf8 text
unfolding is_label
label_utf8 text h = IsUtf8-from_ascii text (word_below text (both (is_word text) (is_none (reserved_word text)) h).0)
