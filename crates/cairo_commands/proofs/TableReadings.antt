-- What the bytes of tables files are read as, and what they spell.
use Rattle.std.proofs.Common.{◌≡◌, ℕ, zero, suc, ◌<◌, ◌/◌, ◌^◌, Bool, true, false, cond, List, [], ◌∷◌, ◌++◌, get_or, Result, Ok, Err, refl, sym, ap, ◌∙◌, subst, nat_lt, inl, inr, ◌⊎◌, lit<}
use Rattle.std.specs.Prelude.{codes}
use Rattle.std.specs.Int.{byte_at, bytes_low_first}
use Rattle.std.proofs.Math.Nat.{mod-lt}
use Rattle.std.proofs.lemmas.Bool.{ltb-true, lt-ltb, and_parts, and_from}
use Rattle.std.proofs.lemmas.List.Folds.{list_all-append}
use Rattle.file_records.specs.Numbers.{numbers_bytes, number_bytes}
use Rattle.table_file.specs.declared.TableFault.{TableFault}
use Rattle.table_file.specs.declared.TableFault.TheVariants.{Memory}
use Rattle.table_file.specs.Tables.{Contents}
use Rattle.table_file.specs.Spelling.{SpellsTables, magic, counts, all_values, spelling}
use Rattle.table_file.specs.Reading.{reading}
use Rattle.table_file.proofs.Readings.{reading-spells, spells-reading}
use Rattle.command_frame.specs.declared.formats.Unread.{Unread}
use Rattle.command_frame.specs.declared.formats.Unread.TheVariants.{OutOfMemory}
use Rattle.command_frame.specs.Formats.{Faulty, told}
use Rattle.cairo_commands.specs.TableInputs.{are_bytes, tables_unread, tables_read}
use Rattle.command_frame.specs.Parts.{ReadsAs, IsReason}
use Rattle.command_frame.proofs.Readings.{told_ok, ReadsAs-reason}

-- ---- numbers that are bytes

pub bytes_of_test : (bytes : List ℕ) → are_bytes bytes ≡ true → (i : ℕ) → get_or bytes i 0 < 256
bytes_of_test [] test i = lit< tt
bytes_of_test (b ∷ bytes) test zero = ltb-true b 256 (and_parts (nat_lt b 256) (are_bytes bytes) test).0
bytes_of_test (b ∷ bytes) test (suc i) = bytes_of_test bytes (and_parts (nat_lt b 256) (are_bytes bytes) test).1 i

pub test_of_bytes : (bytes : List ℕ) → ((i : ℕ) → get_or bytes i 0 < 256) → are_bytes bytes ≡ true
test_of_bytes [] low = refl
test_of_bytes (b ∷ bytes) low =
    and_from (nat_lt b 256) (are_bytes bytes) (lt-ltb b 256 (low zero)) (test_of_bytes bytes (λ i. low (suc i)))

byte_low : (i n : ℕ) → byte_at i n < 256
byte_low zero n = mod-lt n (lit< tt)
byte_low (suc i) n = mod-lt (n / 256 ^ suc i) (lit< tt)

bytes_of_number : (i k n : ℕ) → are_bytes (bytes_low_first i k n) ≡ true
bytes_of_number i zero n = refl
bytes_of_number i (suc k) n =
    and_from (nat_lt (byte_at i n) 256) (are_bytes (bytes_low_first (suc i) k n)) (lt-ltb (byte_at i n) 256 (byte_low i n)) (bytes_of_number (suc i) k n)

joined : (front back : List ℕ) → are_bytes front ≡ true → are_bytes back ≡ true → are_bytes (front ++ back) ≡ true
joined front back one other =
    list_all-append (λ b. nat_lt b 256) front back ∙ and_from (are_bytes front) (are_bytes back) one other

bytes_of_numbers : (ns : List ℕ) → are_bytes (numbers_bytes ns) ≡ true
bytes_of_numbers [] = refl
bytes_of_numbers (n ∷ ns) = joined (number_bytes n) (numbers_bytes ns) (bytes_of_number 0 8 n) (bytes_of_numbers ns)

bytes_of_spelling : (t : Contents) → are_bytes (spelling t) ≡ true
unfolding spelling
bytes_of_spelling t =
    joined magic (numbers_bytes (counts t) ++ numbers_bytes (all_values t)) refl
    (joined (numbers_bytes (counts t)) (numbers_bytes (all_values t)) (bytes_of_numbers (counts t)) (bytes_of_numbers (all_values t)))

-- ---- what bytes are read as

pub tables_read-bytes : (bytes : List ℕ) (r : Result Contents TableFault) → are_bytes bytes ≡ true → reading bytes ≡ r → tables_read bytes ≡ told tables_unread r
unfolding tables_read
tables_read-bytes bytes r test is = rw test (ap (told tables_unread) is)

pub tables_read-spelled : (bytes : List ℕ) (t : Contents) → SpellsTables bytes t → tables_read bytes ≡ Ok t
tables_read-spelled bytes t spells =
    tables_read-bytes bytes (Ok t) (ap are_bytes spells.parts ∙ bytes_of_spelling t) (reading-spells bytes t spells)

pub SpellsTables-from_read : (bytes : List ℕ) (t : Contents) → tables_read bytes ≡ Ok t → SpellsTables bytes t
unfolding tables_read
SpellsTables-from_read bytes t read = by_test (are_bytes bytes) refl read
  where
    by_test : (b : Bool) → are_bytes bytes ≡ b → cond b (told tables_unread (reading bytes)) (Err (Faulty (codes "no bytes"))) ≡ Ok t → SpellsTables bytes t
    by_test true test e = spells-reading bytes t (bytes_of_test bytes test) (told_ok tables_unread (reading bytes) t e)
    by_test false test e = cc

-- a refusal of the reader is what the bytes are read as
pub tables_refused : {X : Type 0} (meaning : X → Contents) (bytes : List ℕ) (fault : TableFault) (code : Unread) → are_bytes bytes ≡ true → (fault ≡ Memory) ⊎ (reading bytes ≡ Err fault) → IsReason (tables_unread fault) code → (fault ≡ Memory → code ≡ OutOfMemory) → ReadsAs meaning (tables_read bytes) (Err code)
tables_refused meaning bytes fault code test (inl memory) says wants =
    subst (λ (c : Unread). ReadsAs meaning (tables_read bytes) (Err c)) (sym (wants memory)) tt
tables_refused meaning bytes fault code test (inr is) says wants =
    ReadsAs-reason meaning (tables_unread fault) (tables_read bytes) (tables_read-bytes bytes (Err fault) test is) code says
