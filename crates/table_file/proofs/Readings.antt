-- What bytes are read as: the tables that they spell, or their first fault.
use Rattle.std.proofs.Common.{◌≡◌, ◌≢◌, ℕ, zero, suc, ◌+◌, ◌-◌, ◌/◌, ◌%◌, ◌<◌, ◌≤◌, ◌⊎◌, min, inl, inr, Bool, true, false, cond, List, length, All, refl, sym, ap, ◌∙◌, subst, arith, Option, Some, None, Ok, Err}
use Rattle.std.proofs.lemmas.Bool.{both_ways, and_parts, and_from, not-true, not_from_false, ltb-true, leb-true, eqb-true, eqb-false, lt-ltb, le-leb, eq-eqb, ne_eqb, cases_lt, cases_eq, cases_order}
use Rattle.std.proofs.lemmas.Option.{same_Some, none-some}
use Rattle.std.proofs.lemmas.List.{get_or_past}
use Rattle.std.specs.Prelude.{slice_index, slice_get}
use Rattle.std.specs.List.{cons_option, filter_map, range_with_len}
use Rattle.goldilocks.specs.Field.{prime}
use Rattle.file_records.specs.Numbers.{number_at}
use Rattle.table_file.specs.declared.head.Counts.{Counts}
use Rattle.table_file.specs.declared.TableFault.{TableFault}
use Rattle.table_file.specs.declared.TableFault.TheVariants.{Magic, TooMany, NotField, Length, Memory}
use Rattle.table_file.specs.Tables.{Contents}
use Rattle.table_file.specs.Spelling.{magic, SpellsTables}
use Rattle.table_file.specs.Faults.{count_limits, count_place, value_place, count_in, file_end, IsOtherByte, IsHighCount, IsHighValue, EndsEarly, IsFollowed, HasFault, IsFirstFault, is_other_byte, is_high_count, is_high_value, is_wrong_end, fault_at, first_fault}
use Rattle.table_file.specs.Reading.{tables_in, unless_fault, reading}
use Rattle.file_records.proofs.GoodBytes.{IsBytes}
use Rattle.table_file.proofs.FirstFaults.{file_end_least, first_fault_is_one}
use Rattle.table_file.proofs.WholeFiles.{file_spells}
use Rattle.table_file.proofs.Spellings.{SpellsTables-reads, no_fault}

-- ---- four tests in a row

module _ {F : Type 0} where
  chosen : (a b c d : Bool) (w x y z f : F) → cond a (Some w) (cond b (Some x) (cond c (Some y) (cond d (Some z) None))) ≡ Some f → ((a ≡ true) × (w ≡ f)) ⊎ (((b ≡ true) × (x ≡ f)) ⊎ (((c ≡ true) × (y ≡ f)) ⊎ ((d ≡ true) × (z ≡ f))))
  chosen true b c d w x y z f e = inl (refl, same_Some w f e)
  chosen false true c d w x y z f e = inr (inl (refl, same_Some x f e))
  chosen false false true d w x y z f e = inr (inr (inl (refl, same_Some y f e)))
  chosen false false false true w x y z f e = inr (inr (inr (refl, same_Some z f e)))
  chosen false false false false w x y z f e = absurd (none-some f e)

  none_chosen : (a b c d : Bool) (w x y z : F) → cond a (Some w) (cond b (Some x) (cond c (Some y) (cond d (Some z) None))) ≡ None → (a ≡ false) × (b ≡ false) × (c ≡ false) × (d ≡ false)
  none_chosen true b c d w x y z e = absurd (none-some w (sym e))
  none_chosen false true c d w x y z e = absurd (none-some x (sym e))
  none_chosen false false true d w x y z e = absurd (none-some y (sym e))
  none_chosen false false false true w x y z e = absurd (none-some z (sym e))
  none_chosen false false false false w x y z e = (refl, refl, refl, refl)

-- ---- each test tells its fault

other_byte_tells : (bytes : List ℕ) (place : ℕ) → is_other_byte bytes place ≡ true → IsOtherByte bytes place
unfolding is_other_byte
other_byte_tells bytes place e =
    let p = and_parts _ _ e in
    let q = and_parts _ _ p.0 in
    record { in_text = ltb-true _ _ q.0; there = ltb-true _ _ q.1; other = eqb-false _ _ (not-true _ p.1) }

other_byte_tested : (bytes : List ℕ) (place : ℕ) → IsOtherByte bytes place → is_other_byte bytes place ≡ true
unfolding is_other_byte
other_byte_tested bytes place h =
    and_from _ _ (and_from _ _ (lt-ltb _ _ h.in_text) (lt-ltb _ _ h.there)) (not_from_false _ (ne_eqb _ _ h.other))

high_count_tells : (bytes : List ℕ) (place : ℕ) → is_high_count bytes place ≡ true → IsHighCount bytes place
unfolding is_high_count
high_count_tells bytes place e =
    let p = and_parts _ _ e in
    let q = and_parts _ _ p.0 in
    let r = and_parts _ _ q.0 in
    let s = and_parts _ _ r.0 in
    let low : 8 ≤ place = leb-true 8 place s.0 in
    let high : place < 48 = ltb-true place 48 s.1 in
    let eighth : place % 8 ≡ 0 = eqb-true (place % 8) 0 r.1 in
    record { k = (place - 8) / 8; is_count = omega arith; begins = omega arith; whole = leb-true _ _ q.1; above = ltb-true _ _ p.1 }

high_count_tested : (bytes : List ℕ) (place : ℕ) → IsHighCount bytes place → is_high_count bytes place ≡ true
unfolding is_high_count
high_count_tested bytes place h =
    let few = h.is_count in
    let begins = h.begins in
    let same : h.k ≡ (place - 8) / 8 = omega arith in
    and_from _ _
    (and_from _ _ (and_from _ _ (and_from _ _ (le-leb 8 place (omega arith)) (lt-ltb place 48 (omega arith))) (eq-eqb (place % 8) 0 (omega arith))) (le-leb _ _ h.whole))
    (lt-ltb _ _ (subst (λ k. slice_index count_limits k < number_at bytes place) same h.above))

high_value_tells : (bytes : List ℕ) (place : ℕ) → is_high_value bytes place ≡ true → IsHighValue bytes place
unfolding is_high_value
high_value_tells bytes place e =
    let p = and_parts _ _ e in
    let q = and_parts _ _ p.0 in
    let r = and_parts _ _ q.0 in
    let s = and_parts _ _ r.0 in
    let low : 48 ≤ place = leb-true 48 place s.0 in
    let eighth : place % 8 ≡ 0 = eqb-true (place % 8) 0 r.1 in
    record { k = (place - 48) / 8; begins = omega arith; in_file = ltb-true _ _ s.1; whole = leb-true _ _ q.1; above = leb-true _ _ p.1 }

high_value_tested : (bytes : List ℕ) (place : ℕ) → IsHighValue bytes place → is_high_value bytes place ≡ true
unfolding is_high_value
high_value_tested bytes place h =
    let begins = h.begins in
    and_from _ _
    (and_from _ _ (and_from _ _ (and_from _ _ (le-leb 48 place (omega arith)) (lt-ltb _ _ h.in_file)) (eq-eqb (place % 8) 0 (omega arith))) (le-leb _ _ h.whole))
    (le-leb _ _ h.above)

wrong_end_tells : (bytes : List ℕ) (place : ℕ) → is_wrong_end bytes place ≡ true → EndsEarly bytes place ⊎ IsFollowed bytes place
unfolding is_wrong_end
wrong_end_tells bytes place e =
    let p = and_parts _ _ e in
    let ends : place ≡ min (length bytes) (file_end bytes) = eqb-true place (min (length bytes) (file_end bytes)) p.0 in
    let apart : length bytes ≢ file_end bytes = eqb-false (length bytes) (file_end bytes) (not-true _ p.1) in
    elim (cases_lt (length bytes) (file_end bytes)) [
      | inl early ↦ inl (record { ends = omega arith; early = early })
      | inr late ↦ inr (record { ends = omega arith; followed = omega arith })
    ]

wrong_end_tested : (bytes : List ℕ) (place : ℕ) → EndsEarly bytes place ⊎ IsFollowed bytes place → is_wrong_end bytes place ≡ true
unfolding is_wrong_end
wrong_end_tested bytes place h =
    elim h [
      | inl e ↦ and_from _ _ (eq-eqb place (min (length bytes) (file_end bytes)) (omega (arith, e.ends, e.early))) (not_from_false _ (ne_eqb _ _ (λ same. omega (arith, e.early, same))))
      | inr e ↦ and_from _ _ (eq-eqb place (min (length bytes) (file_end bytes)) (omega (arith, e.ends, e.followed))) (not_from_false _ (ne_eqb _ _ (λ same. omega (arith, e.followed, same))))
    ]

-- ---- the fault at a place

fault_at-some : (bytes : List ℕ) (place : ℕ) (f : TableFault) → fault_at bytes place ≡ Some f → HasFault bytes place f
unfolding fault_at HasFault
fault_at-some bytes place f e =
    elim (chosen (is_other_byte bytes place) (is_high_count bytes place) (is_high_value bytes place) (is_wrong_end bytes place) Magic TooMany (NotField place) Length f e) [
      | inl h ↦ subst (HasFault bytes place) h.1 (other_byte_tells bytes place h.0)
      | inr h ↦ elim h [
        | inl i ↦ subst (HasFault bytes place) i.1 (high_count_tells bytes place i.0)
        | inr i ↦ elim i [
          | inl j ↦ subst (HasFault bytes place) j.1 (refl, high_value_tells bytes place j.0)
          | inr j ↦ subst (HasFault bytes place) j.1 (wrong_end_tells bytes place j.0)
        ]
      ]
    ]

fault_at-none : (bytes : List ℕ) (place : ℕ) → fault_at bytes place ≡ None → (f : TableFault) → HasFault bytes place f → ⊥
unfolding fault_at HasFault
fault_at-none bytes place e Magic h =
    both_ways _ (none_chosen (is_other_byte bytes place) (is_high_count bytes place) (is_high_value bytes place) (is_wrong_end bytes place) Magic TooMany (NotField place) Length e).0 (other_byte_tested bytes place h)
fault_at-none bytes place e TooMany h =
    both_ways _ (none_chosen (is_other_byte bytes place) (is_high_count bytes place) (is_high_value bytes place) (is_wrong_end bytes place) Magic TooMany (NotField place) Length e).1 (high_count_tested bytes place h)
fault_at-none bytes place e (NotField named) h =
    both_ways _ (none_chosen (is_other_byte bytes place) (is_high_count bytes place) (is_high_value bytes place) (is_wrong_end bytes place) Magic TooMany (NotField place) Length e).2 (high_value_tested bytes place h.1)
fault_at-none bytes place e Length h =
    both_ways _ (none_chosen (is_other_byte bytes place) (is_high_count bytes place) (is_high_value bytes place) (is_wrong_end bytes place) Magic TooMany (NotField place) Length e).3 (wrong_end_tested bytes place h)
fault_at-none bytes place e Memory h = h

-- ---- the first of the faults at all places

pub record IsFirstSome {F : Type 0} (test : ℕ → Option F) (a n : ℕ) (f : F) : Type 0 where
  pub place : ℕ
  pub low : a ≤ place
  pub high : place < a + n
  pub here : test place ≡ Some f
  pub before : (q : ℕ) → a ≤ q → q < place → test q ≡ None

module _ {F : Type 0} (test : ℕ → Option F) where
  first_some_step : (o : Option F) (a n : ℕ) (f : F) → test a ≡ o → slice_get (cons_option o (filter_map test (range_with_len (a + 1) n))) 0 ≡ Some f → (slice_get (filter_map test (range_with_len (a + 1) n)) 0 ≡ Some f → IsFirstSome test (a + 1) n f) → IsFirstSome test a (suc n) f
  first_some_step None a n f here e behind =
      let found = behind e in
      record {
        place = found.place;
        low = omega (arith, found.low);
        high = omega (arith, found.high);
        here = found.here;
        before = λ q above below. elim (cases_eq q a) [
          | inl same ↦ ap test same ∙ here
          | inr apart ↦ found.before q (omega arith) below
        ];
      }
  first_some_step (Some x) a n f here e behind =
      record { place = a; low = omega arith; high = omega arith; here = here ∙ e; before = λ q above below. absurd (omega arith) }

  first_some : (a n : ℕ) (f : F) → slice_get (filter_map test (range_with_len a n)) 0 ≡ Some f → IsFirstSome test a n f
  first_some a zero f e = absurd (none-some f e)
  first_some a (suc n) f e = first_some_step (test a) a n f refl e (first_some (a + 1) n f)

  all_none_step : (o : Option F) (a n : ℕ) → test a ≡ o → slice_get (cons_option o (filter_map test (range_with_len (a + 1) n))) 0 ≡ None → (slice_get (filter_map test (range_with_len (a + 1) n)) 0 ≡ None → (q : ℕ) → a + 1 ≤ q → q < a + 1 + n → test q ≡ None) → (q : ℕ) → a ≤ q → q < a + suc n → test q ≡ None
  all_none_step None a n here e behind q low high =
      elim (cases_eq q a) [
        | inl same ↦ ap test same ∙ here
        | inr apart ↦ behind e q (omega arith) (omega arith)
      ]
  all_none_step (Some x) a n here e behind q low high = absurd (none-some x (sym e))

  all_none : (a n : ℕ) → slice_get (filter_map test (range_with_len a n)) 0 ≡ None → (q : ℕ) → a ≤ q → q < a + n → test q ≡ None
  all_none a zero e q low high = absurd (omega arith)
  all_none a (suc n) e q low high = all_none_step (test a) a n refl e (all_none (a + 1) n) q low high

-- a fault lies at a place from 0 to the length
fault_inside : (bytes : List ℕ) (place : ℕ) (f : TableFault) → HasFault bytes place f → place ≤ length bytes
unfolding HasFault
fault_inside bytes place Magic h = omega (arith, h.there)
fault_inside bytes place TooMany h = omega (arith, h.whole)
fault_inside bytes place (NotField named) h = omega (arith, h.1.whole)
fault_inside bytes place Length h = elim h [ inl e ↦ omega (arith, e.ends) | inr e ↦ omega (arith, e.ends, e.followed) ]
fault_inside bytes place Memory h = absurd h

first_fault-some : (bytes : List ℕ) (f : TableFault) → first_fault bytes ≡ Some f → IsFirstFault bytes f
unfolding first_fault
first_fault-some bytes f e =
    let found = first_some (fault_at bytes) 0 (length bytes + 1) f e in
    record {
      place = found.place;
      here = fault_at-some bytes found.place f found.here;
      first = λ other g has. elim (cases_lt other found.place) [
        | inl before ↦ absurd (fault_at-none bytes other (found.before other (omega arith) before) g has)
        | inr behind ↦ behind
      ];
    }

first_fault-none : (bytes : List ℕ) → first_fault bytes ≡ None → (place : ℕ) (f : TableFault) → HasFault bytes place f → ⊥
unfolding first_fault
first_fault-none bytes e place f has =
    fault_at-none bytes place (all_none (fault_at bytes) 0 (length bytes + 1) e place (omega arith) (omega (arith, fault_inside bytes place f has))) f has

-- by what the first fault is
by_first_fault : (bytes : List ℕ) (o : Option TableFault) (f : TableFault) → first_fault bytes ≡ o → IsFirstFault bytes f → o ≡ Some f
by_first_fault bytes None f e first = absurd (first_fault-none bytes e first.place f first.here)
by_first_fault bytes (Some g) f e first = ap Some (first_fault_is_one bytes g f (first_fault-some bytes g e) first)

first_fault-first : (bytes : List ℕ) (f : TableFault) → IsFirstFault bytes f → first_fault bytes ≡ Some f
first_fault-first bytes f first = by_first_fault bytes (first_fault bytes) f refl first

by_no_fault : (bytes : List ℕ) (o : Option TableFault) → first_fault bytes ≡ o → ((place : ℕ) (f : TableFault) → HasFault bytes place f → ⊥) → o ≡ None
by_no_fault bytes None e never = refl
by_no_fault bytes (Some g) e never = let first = first_fault-some bytes g e in absurd (never first.place g first.here)

-- ---- bytes with no fault

module _ (bytes : List ℕ) (never : (place : ℕ) (f : TableFault) → HasFault bytes place f → ⊥) where
  no_other_byte : (i : ℕ) → i < 8 → i < length bytes → slice_index bytes i ≡ slice_index magic i
  unfolding HasFault
  no_other_byte i small inside =
      elim (cases_eq (slice_index bytes i) (slice_index magic i)) [
        | inl same ↦ same
        | inr other ↦ absurd (never i Magic (record { in_text = small; there = inside; other = other }))
      ]

  right_end : length bytes ≡ file_end bytes
  unfolding HasFault
  right_end =
      elim (cases_order (length bytes) (file_end bytes)) [
        | inl same ↦ same
        | inr apart ↦ elim apart [
          | inl early ↦ absurd (never (length bytes) Length (inl (record { ends = refl; early = early })))
          | inr late ↦ absurd (never (file_end bytes) Length (inr (record { ends = refl; followed = late })))
        ]
      ]

  low_count : (k : ℕ) → k < 5 → count_in bytes k ≤ slice_index count_limits k
  unfolding HasFault
  low_count k few =
      elim (cases_lt (slice_index count_limits k) (count_in bytes k)) [
        | inl above ↦ absurd (never (count_place k) TooMany (record { k = k; is_count = few; begins = refl; whole = omega (arith, right_end, file_end_least bytes); above = above }))
        | inr low ↦ low
      ]

  low_value : (k : ℕ) → value_place k + 8 ≤ length bytes → number_at bytes (value_place k) < prime
  unfolding HasFault
  low_value k whole =
      elim (cases_lt (number_at bytes (value_place k)) prime) [
        | inl low ↦ low
        | inr above ↦ absurd (never (value_place k) (NotField (value_place k)) (refl, record { k = k; begins = refl; in_file = omega (arith, right_end); whole = whole; above = above }))
      ]

  -- they spell the tables that stand in them
  spells_without_fault : IsBytes bytes → SpellsTables bytes (tables_in bytes)
  unfolding tables_in
  spells_without_fault are_bytes =
      let c : Counts = record { rows = count_in bytes 0; range = count_in bytes 1; fillers = count_in bytes 2; pairs = count_in bytes 3; range_fillers = count_in bytes 4 } in
      file_spells bytes c are_bytes (record {
        text = no_other_byte;
        head = record {
          rows = refl;
          range = refl;
          fillers = refl;
          pairs = refl;
          range_fillers = refl;
          has_counts = record { whole = λ k few. omega (arith, right_end, file_end_least bytes); low = low_count };
        };
        ends = right_end;
        low = low_value;
      })

-- ---- what bytes are read as

pub reading-spells : (bytes : List ℕ) (t : Contents) → SpellsTables bytes t → reading bytes ≡ Ok t
unfolding reading
reading-spells bytes t spells =
    ap (unless_fault (tables_in bytes)) (by_no_fault bytes (first_fault bytes) refl (no_fault bytes t spells)) ∙ ap Ok (SpellsTables-reads bytes t spells)

pub reading-first : (bytes : List ℕ) (f : TableFault) → IsFirstFault bytes f → reading bytes ≡ Err f
unfolding reading
reading-first bytes f first = ap (unless_fault (tables_in bytes)) (first_fault-first bytes f first)

ok_unless : (bytes : List ℕ) (t u : Contents) (o : Option TableFault) → unless_fault u o ≡ Ok t → (o ≡ None) × (u ≡ t)
ok_unless bytes t u None e = (refl, cc)
ok_unless bytes t u (Some g) e = absurd (cc)

err_unless : (u : Contents) (o : Option TableFault) (f : TableFault) → unless_fault u o ≡ Err f → o ≡ Some f
err_unless u None f e = absurd (cc)
err_unless u (Some g) f e = ap Some (let h : g ≡ f = cc in h)

pub spells-reading : (bytes : List ℕ) (t : Contents) → IsBytes bytes → reading bytes ≡ Ok t → SpellsTables bytes t
unfolding reading
spells-reading bytes t are_bytes e =
    let parts = ok_unless bytes t (tables_in bytes) (first_fault bytes) e in
    subst (SpellsTables bytes) parts.1 (spells_without_fault bytes (first_fault-none bytes parts.0) are_bytes)

pub first-reading : (bytes : List ℕ) (f : TableFault) → reading bytes ≡ Err f → IsFirstFault bytes f
unfolding reading
first-reading bytes f e = first_fault-some bytes f (err_unless (tables_in bytes) (first_fault bytes) f e)

-- elements below 256 are bytes
pub bytes_of_all : (bytes : List ℕ) → All (λ b. b < 256) bytes → IsBytes bytes
bytes_of_all bytes all = λ i.
    elim (cases_lt i (length bytes)) [
      | inl inside ↦ all i 0 inside
      | inr past ↦ rw (get_or_past bytes i 0 past) (omega arith)
    ]

-- want of memory is no fault of the bytes
pub no_want_first : (bytes : List ℕ) (f : TableFault) → IsFirstFault bytes f → f ≡ Memory → ⊥
unfolding HasFault
no_want_first bytes f first e = subst (HasFault bytes first.place) e first.here
