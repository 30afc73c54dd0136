-- The fault of bytes that comes first.
use Rattle.std.proofs.Common.{◌≡◌, ◌≢◌, ℕ, ◌+◌, ◌<◌, ◌≤◌, ◌⊎◌, inl, inr, List, length, refl, sym, ap, ◌∙◌, subst, arith}
use Rattle.std.proofs.lemmas.Bool.{cases_lt}
use Rattle.std.specs.Prelude.{slice_index}
use Rattle.goldilocks.specs.Field.{prime}
use Rattle.file_records.specs.Numbers.{number_at}
use Rattle.table_file.specs.declared.TableFault.{TableFault}
use Rattle.table_file.specs.declared.TableFault.TheVariants.{Magic, TooMany, NotField, Length, Memory}
use Rattle.table_file.specs.Spelling.{magic}
use Rattle.table_file.specs.Faults.{count_limits, count_place, value_place, count_in, file_end, IsOtherByte, IsHighCount, IsHighValue, EndsEarly, IsFollowed, HasFault, IsFirstFault}
use Rattle.table_file.specs.Parts.{HasText, HasCounts, HasLowValues, IsFirstHighValue}

-- the bytes have no fault before a place
pub record IsClean (bytes : List ℕ) (p : ℕ) : Type 0 where
  pub inside : p ≤ length bytes
  pub in_file : p ≤ file_end bytes
  pub text : (i : ℕ) → i < 8 → i < p → slice_index bytes i ≡ slice_index magic i
  pub counts : (k : ℕ) → k < 5 → count_place k < p → count_place k + 8 ≤ length bytes → count_in bytes k ≤ slice_index count_limits k
  pub values : (k : ℕ) → value_place k < p → value_place k + 8 ≤ length bytes → number_at bytes (value_place k) < prime

pub file_end_least : (bytes : List ℕ) → 72 ≤ file_end bytes
unfolding file_end
file_end_least bytes = omega arith

module _ (bytes : List ℕ) (p : ℕ) (clean : IsClean bytes p) where
  not_before : (q : ℕ) → (q < p → ⊥) → p ≤ q
  not_before q never = elim (cases_lt q p) [ inl before ↦ absurd (never before) | inr behind ↦ behind ]

  other_byte_behind : (q : ℕ) → IsOtherByte bytes q → p ≤ q
  other_byte_behind q h = not_before q (λ before. h.other (clean.text q h.in_text before))

  high_count_behind : (q : ℕ) → IsHighCount bytes q → p ≤ q
  high_count_behind q h =
      not_before q (λ before.
      let same : number_at bytes q ≡ count_in bytes h.k = ap (number_at bytes) h.begins in
      let low = clean.counts h.k h.is_count (omega (arith, h.begins)) (omega (arith, h.begins, h.whole)) in
      let above = h.above in
      omega arith)

  high_value_behind : (q : ℕ) → IsHighValue bytes q → p ≤ q
  high_value_behind q h =
      not_before q (λ before.
      let same : number_at bytes q ≡ number_at bytes (value_place h.k) = ap (number_at bytes) h.begins in
      let low = clean.values h.k (omega (arith, h.begins)) (omega (arith, h.begins, h.whole)) in
      let above = h.above in
      omega arith)

  length_behind : (q : ℕ) → EndsEarly bytes q ⊎ IsFollowed bytes q → p ≤ q
  length_behind q h =
      elim h [
        | inl early ↦ omega (arith, early.ends, clean.inside)
        | inr followed ↦ omega (arith, followed.ends, clean.in_file)
      ]

  pub fault_behind : (q : ℕ) (f : TableFault) → HasFault bytes q f → p ≤ q
  unfolding HasFault
  fault_behind q Magic h = other_byte_behind q h
  fault_behind q TooMany h = high_count_behind q h
  fault_behind q (NotField named) h = high_value_behind q h.1
  fault_behind q Length h = length_behind q h
  fault_behind q Memory h = absurd h

  -- a fault where none comes before is the first
  pub first_here : (f : TableFault) → HasFault bytes p f → IsFirstFault bytes f
  first_here f here = record { place = p; here = here; first = fault_behind }

-- ---- the faults where the parts of the reader find them

-- a byte of the text
pub first_other_byte : (bytes : List ℕ) (i : ℕ) → i < 8 → i < length bytes → ((j : ℕ) → j < i → slice_index bytes j ≡ slice_index magic j) → slice_index bytes i ≢ slice_index magic i → IsFirstFault bytes Magic
unfolding HasFault
first_other_byte bytes i in_text there before other =
    first_here bytes i (record {
      inside = omega arith;
      in_file = omega (arith, file_end_least bytes);
      text = λ j small below. before j below;
      counts = λ k few below whole. absurd (omega arith);
      values = λ k below whole. absurd (omega arith);
    }) Magic (record { in_text = in_text; there = there; other = other })

-- a count that isn't there as a whole
pub missing_count : (bytes : List ℕ) (k : ℕ) → k < 5 → HasText bytes → length bytes < count_place k + 8 → HasCounts bytes k → IsFirstFault bytes Length
unfolding HasFault
missing_count bytes k few text missing has =
    let least = file_end_least bytes in
    let low = has.low in
    first_here bytes (length bytes) (record {
      inside = omega arith;
      in_file = omega arith;
      text = text;
      counts = λ j small below whole. low j (omega arith);
      values = λ j below whole. absurd (omega arith);
    }) Length (inl (record { ends = refl; early = omega arith }))

-- a count above its limit
pub high_count : (bytes : List ℕ) (k : ℕ) → k < 5 → HasText bytes → count_place k + 8 ≤ length bytes → HasCounts bytes k → slice_index count_limits k < count_in bytes k → IsFirstFault bytes TooMany
unfolding HasFault
high_count bytes k few text whole has above =
    let least = file_end_least bytes in
    let low = has.low in
    first_here bytes (count_place k) (record {
      inside = omega arith;
      in_file = omega arith;
      text = λ i small below. text i small (omega arith);
      counts = λ j small below fits. low j (omega arith);
      values = λ j below fits. absurd (omega arith);
    }) TooMany (record { k = k; is_count = few; begins = refl; whole = whole; above = above })

-- a value of p or more
pub high_value : (bytes : List ℕ) (end place : ℕ) → HasText bytes → HasCounts bytes 5 → end ≤ length bytes → end ≤ file_end bytes → IsFirstHighValue bytes end place → IsFirstFault bytes (NotField place)
unfolding HasFault
high_value bytes end place text has inside in_file found =
    let low = has.low in
    let begins = found.begins in
    let fits = found.whole in
    let before = found.before in
    first_here bytes place (record {
      inside = omega arith;
      in_file = omega arith;
      text = λ i small below. text i small (omega arith);
      counts = λ j small below whole. low j small;
      values = λ j below whole. before j (omega arith);
    }) (NotField place) (refl, record { k = found.k; begins = begins; in_file = omega arith; whole = omega arith; above = found.above })

-- the bytes end early
pub ends_early : (bytes : List ℕ) → HasText bytes → HasCounts bytes 5 → HasLowValues bytes (length bytes) → length bytes < file_end bytes → IsFirstFault bytes Length
unfolding HasFault
ends_early bytes text has low early =
    let counts = has.low in
    first_here bytes (length bytes) (record {
      inside = omega arith;
      in_file = omega arith;
      text = text;
      counts = λ j small below whole. counts j small;
      values = λ j below whole. low j whole;
    }) Length (inl (record { ends = refl; early = early }))

-- a byte follows the file
pub is_followed : (bytes : List ℕ) → HasText bytes → HasCounts bytes 5 → HasLowValues bytes (file_end bytes) → file_end bytes < length bytes → IsFirstFault bytes Length
unfolding HasFault file_end
is_followed bytes text has low followed =
    let counts = has.low in
    first_here bytes (file_end bytes) (record {
      inside = omega arith;
      in_file = omega arith;
      text = λ i small below. text i small (omega arith);
      counts = λ j small below whole. counts j small;
      values = λ j below whole. low j (omega arith);
    }) Length (inr (record { ends = refl; followed = followed }))

-- two first faults are the same
pub at_one_place : (bytes : List ℕ) (p : ℕ) (f g : TableFault) → HasFault bytes p f → HasFault bytes p g → f ≡ g
unfolding HasFault file_end
at_one_place bytes p Magic Magic a b = refl
at_one_place bytes p Magic TooMany a b = absurd (omega (arith, a.in_text, b.begins))
at_one_place bytes p Magic (NotField y) a b = absurd (omega (arith, a.in_text, b.1.begins))
at_one_place bytes p Magic Length a b = absurd (elim b [ inl e ↦ omega (arith, a.there, e.ends) | inr e ↦ omega (arith, a.in_text, e.ends) ])
at_one_place bytes p TooMany Magic a b = absurd (omega (arith, b.in_text, a.begins))
at_one_place bytes p TooMany TooMany a b = refl
at_one_place bytes p TooMany (NotField y) a b = absurd (omega (arith, a.is_count, a.begins, b.1.begins))
at_one_place bytes p TooMany Length a b = absurd (elim b [ inl e ↦ omega (arith, a.whole, e.ends) | inr e ↦ omega (arith, a.is_count, a.begins, e.ends) ])
at_one_place bytes p (NotField x) Magic a b = absurd (omega (arith, b.in_text, a.1.begins))
at_one_place bytes p (NotField x) TooMany a b = absurd (omega (arith, b.is_count, b.begins, a.1.begins))
at_one_place bytes p (NotField x) (NotField y) a b = ap NotField (a.0 ∙ sym b.0)
at_one_place bytes p (NotField x) Length a b = absurd (elim b [ inl e ↦ omega (arith, a.1.whole, e.ends) | inr e ↦ omega (arith, a.1.in_file, e.ends) ])
at_one_place bytes p Length Magic a b = absurd (elim a [ inl e ↦ omega (arith, b.there, e.ends) | inr e ↦ omega (arith, b.in_text, e.ends) ])
at_one_place bytes p Length TooMany a b = absurd (elim a [ inl e ↦ omega (arith, b.whole, e.ends) | inr e ↦ omega (arith, b.is_count, b.begins, e.ends) ])
at_one_place bytes p Length (NotField y) a b = absurd (elim a [ inl e ↦ omega (arith, b.1.whole, e.ends) | inr e ↦ omega (arith, b.1.in_file, e.ends) ])
at_one_place bytes p Length Length a b = refl
at_one_place bytes p Memory g a b = absurd a
at_one_place bytes p f Memory a b = absurd b

pub first_fault_is_one : (bytes : List ℕ) (f g : TableFault) → IsFirstFault bytes f → IsFirstFault bytes g → f ≡ g
first_fault_is_one bytes f g a b =
    let low = a.first b.place g b.here in
    let high = b.first a.place f a.here in
    let same : b.place ≡ a.place = omega arith in
    at_one_place bytes a.place f g a.here (subst (λ p. HasFault bytes p g) same b.here)
