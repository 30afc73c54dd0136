-- What every memory keeps, from the program on through each call that changes it.
use Rattle.std.proofs.Common.{◌≡◌, ◌≢◌, ℕ, zero, suc, ◌+◌, ◌-◌, ◌^◌, ◌<◌, ◌≤◌, max, ◌&&◌, not, Bool, true, false, cond, nat_eq, nat_lt, nat_le, List, [], ◌∷◌, ◌++◌, map, length, get_or, Option, Some, None, refl, sym, ◌∙◌, ap, subst, arith, length-append, inl, inr, zero-add}
use Rattle.std.specs.Prelude.{sum, slice_set, slice_get, option_map, IsSome}
use Rattle.std.specs.Ordering.{eq_by_cmp}
use Rattle.std.proofs.lemmas.Bool.Decides.{nat_tests}
use Rattle.std.proofs.lemmas.Bool.{cases_lt}
use Rattle.std.proofs.lemmas.List.{get_or-set_same, get_or-set_other, length-set}
use Rattle.std.proofs.lemmas.List.Sums.{sum_by-append}
use Rattle.goldilocks.specs.declared.Felt.{Felt}
use Rattle.segments.specs.declared.Place.{Place}
use Rattle.segments.specs.declared.Value.{Value}
use Rattle.segments.specs.declared.Value.TheVariants.{Num, Ptr}
use Rattle.segments.specs.Values.{place_cmp, place, same_value}
use Rattle.segments.specs.Memory.{RunMemory, IsMemory, Grows, total_limit, segment_limit, cell, size, has_segment, names_segment, program_memory, with_segment, sizes_with, with_cell, conflict, put_cause}
use Rattle.goldilocks.specs.Field.{prime}
use Rattle.segments.specs.Relocation.{address, relocated}
use Rattle.segments.specs.Columns.{HasOffset, word_value}
use Rattle.segments.specs.declared.memory.PutCause.TheVariants.{NoSegment, Fixed, CellLimit, Conflict}
use Rattle.segments.proofs.Addresses.{sums_within, sum-set, one_address, address_within, address_positive, base_within}
use Rattle.segments.proofs.Values.{equal_values, same_value-refl}
use Rattle.segments.proofs.Places.{same_memory, place_tied, cell-with_cell, cell-written}
use Rattle.segments.proofs.Columns.{cell-kept, kept-program, cell-with_segment}

-- ---- what no cause says

-- the value may go there, in facts
pub record MayPut (m : RunMemory) (p : Place) (v : Value) : Type 0 where
  pub there : p.seg < length m.sizes
  pub named : names_segment m v ≡ true
  pub fixed : (nat_eq p.seg 0 && nat_le (size m 0) p.off) ≡ false
  pub fits : sum (sizes_with m p) ≤ total_limit

no_first : {X : Type 0} (b : Bool) (x : X) (rest : Option X) → cond b (Some x) rest ≡ None → (b ≡ false) × (rest ≡ None)
no_first true x rest e = absurd (cc)
no_first false x rest e = (refl, e)

both_true : (a b : Bool) → not (a && b) ≡ false → (a ≡ true) × (b ≡ true)
both_true true true e = (refl, refl)
both_true true false e = absurd (cc)
both_true false b e = absurd (cc)

pub may_put : (m : RunMemory) (p : Place) (v : Value) → put_cause m p v ≡ None → MayPut m p v
unfolding put_cause has_segment
may_put m p v none =
    let first = no_first (not (has_segment m p.seg && names_segment m v)) _ _ none in
    let second = no_first ((nat_eq p.seg 0) && nat_le (size m 0) p.off) _ _ first.1 in
    let third = no_first (nat_lt total_limit (sum (sizes_with m p))) _ _ second.1 in
    let names = both_true (has_segment m p.seg) (names_segment m v) first.0 in
    let there : nat_lt p.seg (length m.sizes) ≡ true = names.0 in
    let fits : nat_lt total_limit (sum (sizes_with m p)) ≡ false = third.0 in
    record { there = grind (arith, nat_tests); named = names.1; fixed = second.0; fits = grind (arith, nat_tests) }

-- ---- the sizes once a cell is written

pub size-with_cell : (m : RunMemory) (p : Place) (v : Value) → p.seg < length m.sizes → size (with_cell m p v) p.seg ≡ max (size m p.seg) (p.off + 1)
unfolding size with_cell sizes_with
size-with_cell m p v inside = get_or-set_same m.sizes p.seg (max (size m p.seg) (p.off + 1)) 0 inside

pub size-with_cell_other : (m : RunMemory) (p : Place) (v : Value) (seg : ℕ) → seg ≢ p.seg → size (with_cell m p v) seg ≡ size m seg
unfolding size with_cell sizes_with
size-with_cell_other m p v seg apart = get_or-set_other m.sizes p.seg seg (max (size m p.seg) (p.off + 1)) 0 apart

length-sizes_with : (m : RunMemory) (p : Place) (v : Value) → length (with_cell m p v).sizes ≡ length m.sizes
unfolding with_cell sizes_with
length-sizes_with m p v = length-set m.sizes p.seg (max (size m p.seg) (p.off + 1))

sum-with_cell : (m : RunMemory) (p : Place) (v : Value) → (with_cell m p v).sizes ≡ sizes_with m p
unfolding with_cell
sum-with_cell m p v = refl

-- no size falls
size_grows : (m : RunMemory) (p : Place) (v : Value) (seg : ℕ) → p.seg < length m.sizes → size m seg ≤ size (with_cell m p v) seg
size_grows m p v seg there =
    elim (nat_eq seg p.seg) as (λ b. nat_eq seg p.seg ≡ b → size m seg ≤ size (with_cell m p v) seg) [
      | true ↦ λ e.
          let same : seg ≡ p.seg = grind (arith, nat_tests) in
          subst (λ (s : ℕ). size m s ≤ size (with_cell m p v) s) (sym same) (omega (arith, size-with_cell m p v there))
      | false ↦ λ e. let apart : seg ≢ p.seg = grind (arith, nat_tests) in omega (arith, size-with_cell_other m p v seg apart)
    ] refl

-- a cell of the memory with a value is that of the value, or one of the memory
pub cell_cases : (m : RunMemory) (p : Place) (v : Value) (q : Place) (P : Option Value → Type 0) → (q ≡ p → P (Some v)) → P (cell m q) → P (cell (with_cell m p v) q)
cell_cases m p v q P here other =
    subst P (sym (cell-with_cell m p v q))
    (elim (eq_by_cmp place_cmp q p) as (λ b. eq_by_cmp place_cmp q p ≡ b → P (cond b (Some v) (cell m q))) [
      | true ↦ λ e. here (place_tied q p e)
      | false ↦ λ e. other
    ] refl)

-- what is held stays held
pub held_stays : (m : RunMemory) (p : Place) (v : Value) (q : Place) → IsSome (cell m q) → IsSome (cell (with_cell m p v) q)
held_stays m p v q held = cell_cases m p v q (λ o. IsSome o) (λ _. refl) held

inside-with_cell : (m : RunMemory) (p : Place) (v : Value) → IsMemory m → p.seg < length m.sizes → (q : Place) → IsSome (cell (with_cell m p v) q) → q.off < size (with_cell m p v) q.seg
inside-with_cell m p v is there q =
    cell_cases m p v q (λ o. IsSome o → q.off < size (with_cell m p v) q.seg)
    (λ e _. let same : q.off ≡ p.off = ap (λ (r : Place). r.off) e in
    let sizes : size (with_cell m p v) q.seg ≡ size (with_cell m p v) p.seg = ap (λ (r : Place). size (with_cell m p v) r.seg) e in
    omega (arith, size-with_cell m p v there))
    (λ held. omega (arith, is.inside q held, size_grows m p v q.seg there))

last-with_cell : (m : RunMemory) (p : Place) (v : Value) → IsMemory m → p.seg < length m.sizes → (seg : ℕ) → 0 < size (with_cell m p v) seg → IsSome (cell (with_cell m p v) (place seg (size (with_cell m p v) seg - 1)))
last-with_cell m p v is there seg positive =
    elim (nat_eq seg p.seg) as (λ b. nat_eq seg p.seg ≡ b → IsSome (cell (with_cell m p v) (place seg (size (with_cell m p v) seg - 1)))) [
      | true ↦ λ e.
          let same : seg ≡ p.seg = grind (arith, nat_tests) in
          let size_is : size (with_cell m p v) seg ≡ max (size m seg) (p.off + 1) =
          subst (λ (s : ℕ). size (with_cell m p v) s ≡ max (size m s) (p.off + 1)) (sym same) (size-with_cell m p v there) in
          elim (cases_lt p.off (size m seg)) [
            | inl below ↦
                let kept : size (with_cell m p v) seg ≡ size m seg = omega arith in
                let old : IsSome (cell m (place seg (size (with_cell m p v) seg - 1))) =
                subst (λ (n : ℕ). IsSome (cell m (place seg (n - 1)))) (sym kept) (is.last seg (omega arith)) in
                held_stays m p v (place seg (size (with_cell m p v) seg - 1)) old
            | inr past ↦
                let offset : size (with_cell m p v) seg - 1 ≡ p.off = omega arith in
                let at : place seg (size (with_cell m p v) seg - 1) ≡ p = λ i. place (same i) (offset i) in
                subst (λ (q : Place). IsSome (cell (with_cell m p v) q)) (sym at) (subst (λ (o : Option Value). IsSome o) (sym (cell-written m p v)) refl)
          ]
      | false ↦ λ e.
          let apart : seg ≢ p.seg = grind (arith, nat_tests) in
          let kept : size (with_cell m p v) seg ≡ size m seg = size-with_cell_other m p v seg apart in
          let old : IsSome (cell m (place seg (size (with_cell m p v) seg - 1))) =
          subst (λ (n : ℕ). IsSome (cell m (place seg (n - 1)))) (sym kept) (is.last seg (omega arith)) in
          held_stays m p v (place seg (size (with_cell m p v) seg - 1)) old
    ] refl

-- what a value that may be written names
named : (m : RunMemory) (v : Value) (q : Place) → names_segment m v ≡ true → HasOffset v → v ≡ Ptr q → (q.seg < length m.sizes) × (q.off < 2 ^ 32)
unfolding names_segment has_segment
named m (Num x) q is offset e = absurd (cc)
named m (Ptr p) q is offset e =
    let same : p ≡ q = cc in
    let inside : p.seg < length m.sizes = grind (arith, nat_tests) in
    let low : p.off < 2 ^ 32 = offset in
    subst (λ (r : Place). (r.seg < length m.sizes) × (r.off < 2 ^ 32)) same (inside, low)

pointers-with_cell : (m : RunMemory) (p : Place) (v : Value) → IsMemory m → HasOffset v → names_segment m v ≡ true → (q r : Place) → cell (with_cell m p v) q ≡ Some (Ptr r) → (r.seg < length m.sizes) × (r.off < 2 ^ 32)
pointers-with_cell m p v is offset names q r =
    cell_cases m p v q (λ o. o ≡ Some (Ptr r) → (r.seg < length m.sizes) × (r.off < 2 ^ 32))
    (λ _ e. named m v r names offset (cc))
    (λ e. is.pointers q r e)

size_in_sum : (n : RunMemory) (seg : ℕ) → size n seg ≤ sum n.sizes
unfolding size
size_in_sum n seg = omega (arith, sums_within n.sizes seg)

-- a value that may be written leaves a memory
pub IsMemory-with_cell : (m : RunMemory) (p : Place) (v : Value) → IsMemory m → HasOffset v → put_cause m p v ≡ None → IsMemory (with_cell m p v)
IsMemory-with_cell m p v is offset none =
    let may : MayPut m p v = may_put m p v none in
    record {
      has_program = omega (arith, is.has_program, length-sizes_with m p v);
      segments = omega (arith, is.segments, length-sizes_with m p v);
      total = rw sum-with_cell may.fits;
      inside = inside-with_cell m p v is may.there;
      last = last-with_cell m p v is may.there;
      pointers = λ q r e.
          let old = pointers-with_cell m p v is offset may.named q r e in
          (omega (arith, old.0, length-sizes_with m p v), old.1);
    }

-- ---- what is known of a memory

-- no size is above the limit
pub size_within : (m : RunMemory) (seg : ℕ) → IsMemory m → size m seg ≤ total_limit
unfolding size
size_within m seg is = omega (arith, is.total, sums_within m.sizes seg)

-- a value that may be written goes below the limit
pub offset_within : (m : RunMemory) (p : Place) (v : Value) → IsMemory m → put_cause m p v ≡ None → p.off < total_limit
offset_within m p v is none =
    let may : MayPut m p v = may_put m p v none in
    let all : sum (with_cell m p v).sizes ≤ total_limit = rw sum-with_cell may.fits in
    omega (arith, size-with_cell m p v may.there, size_in_sum (with_cell m p v) p.seg)

pub size_is_item : (m : RunMemory) (seg n : ℕ) → n < size m seg → n < get_or m.sizes seg 0
unfolding size
size_is_item m seg n inside = inside

-- the sum of the sizes grows by as much as the segment does
pub total-with_cell : (m : RunMemory) (p : Place) (v : Value) → p.seg < length m.sizes → sum (with_cell m p v).sizes ≡ sum m.sizes + ((p.off + 1) - size m p.seg)
unfolding with_cell sizes_with size
total-with_cell m p v there =
    let n : ℕ = get_or m.sizes p.seg 0 in
    omega (arith, sum-set m.sizes p.seg (max n (p.off + 1)) there)

-- a list whose item is replaced by itself
set_again : (sizes : List ℕ) (i : ℕ) → slice_set sizes i (get_or sizes i 0) ≡ sizes
set_again [] i = refl
set_again (x ∷ sizes) zero = refl
set_again (x ∷ sizes) (suc i) = ap (λ rest. x ∷ rest) (set_again sizes i)

-- a cell below the size leaves the sizes
sizes_inside : (m : RunMemory) (p : Place) → p.off < size m p.seg → sizes_with m p ≡ m.sizes
unfolding sizes_with size
sizes_inside m p inside =
    let n : ℕ = get_or m.sizes p.seg 0 in
    let same : max n (p.off + 1) ≡ n = omega arith in
    ap (λ k. slice_set m.sizes p.seg k) same ∙ set_again m.sizes p.seg

-- the same value again changes nothing
pub with_cell_again : (m : RunMemory) (p : Place) (v : Value) → IsMemory m → cell m p ≡ Some v → with_cell m p v ≡ m
with_cell_again m p v is held =
    let inside : p.off < size m p.seg = is.inside p (subst (λ (o : Option Value). IsSome o) (sym held) refl) in
    same_memory (with_cell m p v) m (sum-with_cell m p v ∙ sizes_inside m p inside) (λ q.
    cell_cases m p v q (λ o. o ≡ cell m q) (λ e. sym held ∙ ap (cell m) (sym e)) refl)

-- ---- the first cause

-- the tests of the causes, one after another
causes : (m : RunMemory) (p : Place) (v : Value) (absent fixed over : Bool) → not (has_segment m p.seg && names_segment m v) ≡ absent → (nat_eq p.seg 0 && nat_le (size m 0) p.off) ≡ fixed → nat_lt total_limit (sum (sizes_with m p)) ≡ over → put_cause m p v ≡ cond absent (Some NoSegment) (cond fixed (Some Fixed) (cond over (Some CellLimit) (conflict (cell m p) v)))
unfolding put_cause
causes m p v absent fixed over a f o = λ i. cond (a i) (Some NoSegment) (cond (f i) (Some Fixed) (cond (o i) (Some CellLimit) (conflict (cell m p) v)))

pub cause_absent : (m : RunMemory) (p : Place) (v : Value) → (has_segment m p.seg && names_segment m v) ≡ false → put_cause m p v ≡ Some NoSegment
cause_absent m p v absent = causes m p v true _ _ (ap not absent) refl refl

-- both tests tell that the place's segment is there
pub there_inside : (m : RunMemory) (p : Place) (v : Value) → (has_segment m p.seg && names_segment m v) ≡ true → p.seg < length m.sizes
unfolding has_segment
there_inside m p v there = grind (arith, nat_tests)

-- the place is below its segment's size
pub cause_inside : (m : RunMemory) (p : Place) (v : Value) → IsMemory m → (has_segment m p.seg && names_segment m v) ≡ true → p.off < size m p.seg → put_cause m p v ≡ conflict (cell m p) v
cause_inside m p v is there inside =
    let fixed : (nat_eq p.seg 0 && nat_le (size m 0) p.off) ≡ false =
    elim (nat_eq p.seg 0) as (λ b. nat_eq p.seg 0 ≡ b → (b && nat_le (size m 0) p.off) ≡ false) [
      | true ↦ λ e.
          let first : p.seg ≡ 0 = grind (arith, nat_tests) in
          let low : p.off < size m 0 = subst (λ (s : ℕ). p.off < size m s) first inside in
          grind (arith, nat_tests)
      | false ↦ λ e. refl
    ] refl in
    let total : sum (sizes_with m p) ≤ total_limit = rw (sizes_inside m p inside) is.total in
    causes m p v false false false (ap not there) fixed (grind (arith, nat_tests))

pub cause_fixed : (m : RunMemory) (p : Place) (v : Value) → (has_segment m p.seg && names_segment m v) ≡ true → p.seg ≡ 0 → size m p.seg ≤ p.off → put_cause m p v ≡ Some Fixed
cause_fixed m p v there first past =
    let past' : size m 0 ≤ p.off = subst (λ (s : ℕ). size m s ≤ p.off) first past in
    causes m p v false true _ (ap not there) (grind (arith, nat_tests)) refl

pub cause_limit : (m : RunMemory) (p : Place) (v : Value) → (has_segment m p.seg && names_segment m v) ≡ true → p.seg < length m.sizes → p.seg ≢ 0 → size m p.seg ≤ p.off → total_limit ≤ sum m.sizes + (p.off - size m p.seg) → put_cause m p v ≡ Some CellLimit
cause_limit m p v there inside other past over =
    let total : sum (sizes_with m p) ≡ sum m.sizes + ((p.off + 1) - size m p.seg) = rw sum-with_cell at (total-with_cell m p v inside) in
    let above : total_limit < sum (sizes_with m p) = omega arith in
    causes m p v false false true (ap not there) (grind (arith, nat_tests)) (grind (arith, nat_tests))

pub cause_none : (m : RunMemory) (p : Place) (v : Value) → IsMemory m → (has_segment m p.seg && names_segment m v) ≡ true → p.seg < length m.sizes → p.seg ≢ 0 → size m p.seg ≤ p.off → sum m.sizes + (p.off - size m p.seg) < total_limit → put_cause m p v ≡ None
unfolding conflict
cause_none m p v is there inside other past under =
    let total : sum (sizes_with m p) ≡ sum m.sizes + ((p.off + 1) - size m p.seg) = rw sum-with_cell at (total-with_cell m p v inside) in
    let within : sum (sizes_with m p) ≤ total_limit = omega arith in
    let free : cell m p ≡ None = not_held (cell m p) (λ held. omega (arith, is.inside p held)) in
    causes m p v false false false (ap not there) (grind (arith, nat_tests)) (grind (arith, nat_tests)) ∙ ap (λ o. conflict o v) free
  where
    not_held : (o : Option Value) → (IsSome o → ⊥) → o ≡ None
    not_held None free = refl
    not_held (Some w) free = absurd (free refl)

-- ---- one more segment

length-with_segment : (m : RunMemory) → length (with_segment m).sizes ≡ length m.sizes + 1
unfolding with_segment
length-with_segment m = length-append m.sizes (0 ∷ [])

pub sum-with_segment : (m : RunMemory) → sum (with_segment m).sizes ≡ sum m.sizes
unfolding with_segment
sum-with_segment m = omega (arith, sum_by-append (λ n. n) m.sizes (0 ∷ []))

get_or-push_zero : (sizes : List ℕ) (i : ℕ) → get_or (sizes ++ 0 ∷ []) i 0 ≡ get_or sizes i 0
get_or-push_zero [] zero = refl
get_or-push_zero [] (suc i) = refl
get_or-push_zero (x ∷ sizes) zero = refl
get_or-push_zero (x ∷ sizes) (suc i) = get_or-push_zero sizes i

size-with_segment : (m : RunMemory) (seg : ℕ) → size (with_segment m) seg ≡ size m seg
unfolding size with_segment
size-with_segment m seg = get_or-push_zero m.sizes seg

pub IsMemory-with_segment : (m : RunMemory) → IsMemory m → length m.sizes < segment_limit → IsMemory (with_segment m)
IsMemory-with_segment m is room = record {
  has_program = omega (arith, length-with_segment m);
  segments = omega (arith, length-with_segment m);
  total = omega (arith, is.total, sum-with_segment m);
  inside = λ p held. omega (arith, is.inside p (subst (λ (o : Option Value). IsSome o) (cell-with_segment m p) held), size-with_segment m p.seg);
  last = λ seg positive.
      let same : size (with_segment m) seg ≡ size m seg = size-with_segment m seg in
      let old : IsSome (cell m (place seg (size (with_segment m) seg - 1))) =
      subst (λ (n : ℕ). IsSome (cell m (place seg (n - 1)))) (sym same) (is.last seg (omega arith)) in
      subst (λ (o : Option Value). IsSome o) (sym (cell-with_segment m (place seg (size (with_segment m) seg - 1)))) old;
  pointers = λ p q e.
      let old = is.pointers p q (sym (cell-with_segment m p) ∙ e) in
      (omega (arith, old.0, length-with_segment m), old.1);
}

-- ---- the program

-- the cells of the program's memory
cell-program : (words : List Felt) (p : Place) → cell (program_memory words) p ≡ get_or (get_or (map word_value words ∷ []) p.seg []) p.off None
cell-program words p = ap (λ m. cell m p) (sym (kept-program words)) ∙ cell-kept (map word_value words ∷ []) p

pub sum-program : (words : List Felt) → sum (program_memory words).sizes ≡ length words
unfolding program_memory
sum-program words = zero-add (length words)

-- a word is a number
word_at : (words : List Felt) (off : ℕ) → off < length words → IsSome (get_or (map word_value words) off None)
word_at [] off inside = absurd (omega arith)
word_at (x ∷ words) zero inside = refl
word_at (x ∷ words) (suc off) inside = word_at words off (omega arith)

no_word_past : (words : List Felt) (off : ℕ) → IsSome (get_or (map word_value words) off None) → off < length words
no_word_past [] off is = absurd (cc)
no_word_past (x ∷ words) zero is = omega arith
no_word_past (x ∷ words) (suc off) is = omega (arith, no_word_past words off is)

no_pointer : (words : List Felt) (off : ℕ) (q : Place) → get_or (map word_value words) off None ≡ Some (Ptr q) → ⊥
no_pointer [] off q e = cc
no_pointer (x ∷ words) zero q e = cc
no_pointer (x ∷ words) (suc off) q e = no_pointer words off q e

size-program : (words : List Felt) (seg : ℕ) → size (program_memory words) seg ≡ get_or (length words ∷ []) seg 0
unfolding size program_memory
size-program words seg = refl

sizes_are : (words : List Felt) (P : List ℕ → Type 0) → P (length words ∷ []) → P (program_memory words).sizes
unfolding program_memory
sizes_are words P is = is

-- the same of the one column that the words are
program_inside : (words : List Felt) (seg off : ℕ) → IsSome (get_or (get_or (map word_value words ∷ []) seg []) off None) → off < get_or (length words ∷ []) seg 0
program_inside words zero off held = no_word_past words off held
program_inside words (suc seg) off held = absurd (cc)

program_last : (words : List Felt) (seg : ℕ) → 0 < get_or (length words ∷ []) seg 0 → IsSome (get_or (get_or (map word_value words ∷ []) seg []) (get_or (length words ∷ []) seg 0 - 1) None)
program_last words zero positive = word_at words (length words - 1) (omega arith)
program_last words (suc seg) positive = absurd (omega arith)

program_pointer : (words : List Felt) (seg off : ℕ) (q : Place) → get_or (get_or (map word_value words ∷ []) seg []) off None ≡ Some (Ptr q) → ⊥
program_pointer words zero off q e = no_pointer words off q e
program_pointer words (suc seg) off q e = cc

-- the program's words leave a memory
pub IsMemory-program : (words : List Felt) → length words ≤ 2 ^ 18 → IsMemory (program_memory words)
IsMemory-program words few = record {
  has_program = sizes_are words (λ s. 0 < length s) (omega arith);
  segments = sizes_are words (λ s. length s ≤ segment_limit) (omega arith);
  total = sizes_are words (λ s. sum s ≤ total_limit) (omega arith);
  inside = λ p held.
      omega (arith, size-program words p.seg, program_inside words p.seg p.off (subst (λ (o : Option Value). IsSome o) (cell-program words p) held));
  last = λ seg positive.
      let n : ℕ = get_or (length words ∷ []) seg 0 in
      let size_is : size (program_memory words) seg ≡ n = size-program words seg in
      let at : IsSome (cell (program_memory words) (place seg (n - 1))) =
      subst (λ (o : Option Value). IsSome o) (sym (cell-program words (place seg (n - 1)))) (program_last words seg (omega arith)) in
      subst (λ (k : ℕ). IsSome (cell (program_memory words) (place seg (k - 1)))) (sym size_is) at;
  pointers = λ p q e. absurd (program_pointer words p.seg p.off q (sym (cell-program words p) ∙ e));
}

-- ---- growing

pub Grows-refl : (m : RunMemory) → Grows m m
Grows-refl m = record { segments = omega arith; sizes = λ seg. omega arith; cells = λ p v e. e }

pub Grows-trans : (l m n : RunMemory) → Grows l m → Grows m n → Grows l n
Grows-trans l m n f g = record {
  segments = omega (arith, f.segments, g.segments);
  sizes = λ seg. omega (arith, f.sizes seg, g.sizes seg);
  cells = λ p v e. g.cells p v (f.cells p v e);
}

pub Grows-with_segment : (m : RunMemory) → Grows m (with_segment m)
Grows-with_segment m = record {
  segments = omega (arith, length-with_segment m);
  sizes = λ seg. omega (arith, size-with_segment m seg);
  cells = λ p v e. cell-with_segment m p ∙ e;
}

-- a cell that has no conflict with a value that it holds
no_conflict : (w v : Value) → conflict (Some w) v ≡ None → w ≡ v
unfolding conflict
no_conflict w v e =
    elim (same_value w v) as (λ b. same_value w v ≡ b → cond b None (Some (Conflict w)) ≡ None → w ≡ v) [
      | true ↦ λ same _. equal_values w v same
      | false ↦ λ _ f. absurd (cc)
    ] refl e

-- what no cause says of the held value
held_same : (m : RunMemory) (p : Place) (v w : Value) → put_cause m p v ≡ None → cell m p ≡ Some w → w ≡ v
unfolding put_cause
held_same m p v w none held =
    let first = no_first (not (has_segment m p.seg && names_segment m v)) _ _ none in
    let second = no_first ((nat_eq p.seg 0) && nat_le (size m 0) p.off) _ _ first.1 in
    let third = no_first (nat_lt total_limit (sum (sizes_with m p))) _ _ second.1 in
    no_conflict w v (ap (λ o. conflict o v) (sym held) ∙ third.1)

pub Grows-with_cell : (m : RunMemory) (p : Place) (v : Value) → put_cause m p v ≡ None → Grows m (with_cell m p v)
Grows-with_cell m p v none =
    let may : MayPut m p v = may_put m p v none in
    record {
      segments = omega (arith, length-sizes_with m p v);
      sizes = λ seg. size_grows m p v seg may.there;
      cells = λ q w held.
          cell_cases m p v q (λ o. o ≡ Some w)
          (λ e. ap (λ (x : Value). Some x) (sym (held_same m p v w none (ap (cell m) (sym e) ∙ held))))
          held;
    }

-- a segment with a size is there
size_there : (sizes : List ℕ) (seg : ℕ) → 0 < get_or sizes seg 0 → seg < length sizes
size_there [] seg positive = absurd (omega arith)
size_there (x ∷ sizes) zero positive = omega arith
size_there (x ∷ sizes) (suc seg) positive = omega (arith, size_there sizes seg positive)

pub held_there : (m : RunMemory) (p : Place) → IsMemory m → IsSome (cell m p) → p.seg < length m.sizes
held_there m p is held = size_there m.sizes p.seg (omega (arith, size_is_item m p.seg p.off (is.inside p held)))

names_held : (m : RunMemory) (v : Value) → ((q : Place) → v ≡ Ptr q → q.seg < length m.sizes) → names_segment m v ≡ true
unfolding names_segment has_segment
names_held m (Num x) inside = refl
names_held m (Ptr q) inside = let below : q.seg < length m.sizes = inside q refl in grind (arith, nat_tests)

segment_held : (m : RunMemory) (seg : ℕ) → seg < length m.sizes → has_segment m seg ≡ true
unfolding has_segment
segment_held m seg inside = grind (arith, nat_tests)

no_conflict-same : (v : Value) → conflict (Some v) v ≡ None
unfolding conflict
no_conflict-same v = ap (λ b. cond b None (Some (Conflict v))) (same_value-refl v)

-- the program keeps its size
pub program_fixed : (m : RunMemory) (p : Place) (v : Value) → put_cause m p v ≡ None → size (with_cell m p v) 0 ≡ size m 0
program_fixed m p v none =
    let may : MayPut m p v = may_put m p v none in
    elim (nat_eq p.seg 0) as (λ b. nat_eq p.seg 0 ≡ b → (b && nat_le (size m 0) p.off) ≡ false → size (with_cell m p v) 0 ≡ size m 0) [
      | true ↦ λ e fixed.
          let first : p.seg ≡ 0 = grind (arith, nat_tests) in
          let inside : p.off < size m 0 = grind (arith, nat_tests) in
          let grows : size (with_cell m p v) 0 ≡ max (size m 0) (p.off + 1) =
          subst (λ (s : ℕ). size (with_cell m p v) s ≡ max (size m s) (p.off + 1)) first (size-with_cell m p v may.there) in
          omega arith
      | false ↦ λ e _.
          let other : 0 ≢ p.seg = grind (arith, nat_tests) in
          size-with_cell_other m p v 0 other
    ] refl may.fixed

-- the same value again has no cause against it
pub again_none : (m : RunMemory) (p : Place) (v : Value) → IsMemory m → cell m p ≡ Some v → put_cause m p v ≡ None
again_none m p v is held =
    let some : IsSome (cell m p) = subst (λ (o : Option Value). IsSome o) (sym held) refl in
    let names : names_segment m v ≡ true = names_held m v (λ q e. (is.pointers p q (held ∙ ap (λ (w : Value). Some w) e)).0) in
    let segment : has_segment m p.seg ≡ true = segment_held m p.seg (held_there m p is some) in
    let both : (has_segment m p.seg && names_segment m v) ≡ true = λ i. segment i && names i in
    cause_inside m p v is both (is.inside p some) ∙ (ap (λ o. conflict o v) held ∙ no_conflict-same v)

-- ---- the cells of the program

pub program_word : (words : List Felt) (off : ℕ) → cell (program_memory words) (place 0 off) ≡ option_map (λ x. Num x) (slice_get words off)
program_word words off = cell-program words (place 0 off) ∙ word_get words off
  where
    word_get : (words : List Felt) (off : ℕ) → get_or (map word_value words) off None ≡ option_map (λ x. Num x) (slice_get words off)
    word_get [] off = refl
    word_get (x ∷ words) zero = refl
    word_get (x ∷ words) (suc off) = word_get words off

pub program_only : (words : List Felt) (p : Place) → p.seg ≢ 0 → cell (program_memory words) p ≡ None
program_only words p other = cell-program words p ∙ none p.seg p.off other
  where
    none : (seg off : ℕ) → seg ≢ 0 → get_or (get_or (map word_value words ∷ []) seg []) off None ≡ None
    none zero off no_zero = absurd (no_zero refl)
    none (suc seg) off no_zero = refl

-- ---- addresses

pub held_inside : (m : RunMemory) (p : Place) → IsMemory m → IsSome (cell m p) → p.off < get_or m.sizes p.seg 0
held_inside m p is held = size_is_item m p.seg p.off (is.inside p held)

pub addresses-distinct : (m : RunMemory) (p q : Place) → IsMemory m → IsSome (cell m p) → IsSome (cell m q) → address m.sizes p ≡ address m.sizes q → p ≡ q
addresses-distinct m p q is held held' e = one_address m.sizes p q (held_inside m p is held) (held_inside m q is held') e

pub addresses-to_total : (m : RunMemory) (p : Place) → IsMemory m → IsSome (cell m p) → address m.sizes p ≤ sum m.sizes
addresses-to_total m p is held = address_within m.sizes p (held_inside m p is held)

-- a held value relocates to a number of the field
pub relocated-in_field : (m : RunMemory) (p : Place) (v : Value) → IsMemory m → cell m p ≡ Some v → relocated m.sizes v < prime
unfolding relocated address
relocated-in_field m p (Num x) is held = x.in_field
relocated-in_field m p (Ptr q) is held = omega (arith, (is.pointers p q held).1, base_within m.sizes q.seg, is.total)

pub relocated-not_zero : (sizes : List ℕ) (p : Place) → relocated sizes (Ptr p) ≢ 0
unfolding relocated
relocated-not_zero sizes p e = omega (arith, address_positive sizes p)
