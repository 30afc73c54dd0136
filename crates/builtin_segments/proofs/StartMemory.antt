-- The memory in which a run starts: how it is filled, what it holds, and that it is a memory.
use Rattle.std.proofs.Common.{◌≡◌, ◌≢◌, ℕ, zero, suc, ◌+◌, ◌-◌, ◌<◌, ◌≤◌, max, ◌&&◌, true, List, [], ◌∷◌, ◌++◌, length, get_or, Option, Some, None, refl, sym, ◌∙◌, ap, subst, arith, length-append}
use Rattle.std.specs.Prelude.{sum, slice_get, option_map, IsSome}
use Rattle.std.proofs.lemmas.Bool.Decides.{nat_tests}
use Rattle.std.proofs.lemmas.List.{length-set}
use Rattle.goldilocks.specs.declared.Felt.{Felt}
use Rattle.segments.specs.declared.Place.{Place}
use Rattle.segments.specs.declared.Value.{Value}
use Rattle.segments.specs.declared.Value.TheVariants.{Num, Ptr}
use Rattle.segments.specs.Values.{place, number}
use Rattle.segments.specs.Memory.{RunMemory, IsMemory, segment_limit, cell, size, has_segment, names_segment, program_memory, with_segment, sizes_with, with_cell, put_cause}
use Rattle.segments.specs.Columns.{HasOffset}
use Rattle.segments.proofs.Places.{cell-written, cell-other}
use Rattle.segments.proofs.Columns.{cell-with_segment}
use Rattle.segments.proofs.Memories.{cause_none, size-with_cell, size-with_cell_other, total-with_cell, IsMemory-with_cell, IsMemory-with_segment, sum-with_segment, IsMemory-program, sum-program, program_word}
use Rattle.program_file.specs.declared.Builtins.{Builtins}
use Rattle.program_file.specs.Listing.{Listing, IsProgram}
use Rattle.hint_cells.specs.Limits.{extra_limit}
use Rattle.builtin_segments.specs.Layout.{execution, builtin_count, builtin_segments}
use Rattle.builtin_segments.specs.Start.{start_stack, with_segments, with_stack, start_memory, first_state}
use Rattle.builtin_segments.specs.Filling.{IsFilled, IsNamed, base_pointers, stack_limit}

-- ---- one cell of the execution segment

count-with_cell : (m : RunMemory) (p : Place) (v : Value) → length (with_cell m p v).sizes ≡ length m.sizes
unfolding with_cell sizes_with
count-with_cell m p v = length-set m.sizes p.seg (max (size m p.seg) (p.off + 1))

has_offset : (k : ℕ) (v : Value) → IsNamed k v → HasOffset v
has_offset k (Num x) named = tt
has_offset k (Ptr q) named = named.1

are_there : (m : RunMemory) (p : Place) (v : Value) → p.seg < length m.sizes → IsNamed (length m.sizes) v → (has_segment m p.seg && names_segment m v) ≡ true
unfolding has_segment names_segment
are_there m p (Num x) there named = grind (arith, nat_tests)
are_there m p (Ptr q) there named = let below : q.seg < length m.sizes = named.0 in grind (arith, nat_tests)

-- nothing is against the next cell of the execution segment
pub may_push : (m : RunMemory) (off : ℕ) (v : Value) → IsFilled m off → off < stack_limit → IsNamed (length m.sizes) v → put_cause m (place execution off) v ≡ None
may_push m off v is low named =
    cause_none m (place execution off) v is.memory (are_there m (place execution off) v is.there named) is.there (λ e. cc) (omega (arith, is.filled)) (omega (arith, is.filled, is.few))

pub pushed : (m : RunMemory) (off : ℕ) (v : Value) → IsFilled m off → off < stack_limit → IsNamed (length m.sizes) v → IsFilled (with_cell m (place execution off) v) (off + 1)
pushed m off v is low named = record {
  memory = IsMemory-with_cell m (place execution off) v is.memory (has_offset (length m.sizes) v named) (may_push m off v is low named);
  there = omega (arith, is.there, count-with_cell m (place execution off) v);
  filled = omega (arith, is.filled, size-with_cell m (place execution off) v is.there);
  few = omega (arith, is.filled, is.few, total-with_cell m (place execution off) v is.there);
}

pub pushed-count : (m : RunMemory) (off : ℕ) (v : Value) → length (with_cell m (place execution off) v).sizes ≡ length m.sizes
pushed-count m off v = count-with_cell m (place execution off) v

-- ---- more segments

pub more_segments : (m : RunMemory) (more i : ℕ) → i < more → with_segments (more - i) m ≡ with_segments (more - (i + 1)) (with_segment m)
unfolding with_segments
more_segments m more i inside =
    let one : more - i ≡ suc (more - (i + 1)) = omega arith in
    ap (λ (k : ℕ). with_segments k m) one

pub no_more_segments : (m : RunMemory) (more i : ℕ) → more ≤ i → with_segments (more - i) m ≡ m
unfolding with_segments
no_more_segments m more i past =
    let none : more - i ≡ 0 = omega arith in
    ap (λ (k : ℕ). with_segments k m) none

count-with_segment : (m : RunMemory) → length (with_segment m).sizes ≡ length m.sizes + 1
unfolding with_segment
count-with_segment m = length-append m.sizes (0 ∷ [])

pub room_for_one : (m : RunMemory) (more i : ℕ) → i < more → length m.sizes + (more - i) ≤ segment_limit → length (with_segment m).sizes + (more - (i + 1)) ≤ segment_limit
room_for_one m more i inside room = omega (arith, count-with_segment m)

same_item : (sizes : List ℕ) (i : ℕ) → get_or (sizes ++ 0 ∷ []) i 0 ≡ get_or sizes i 0
same_item [] zero = refl
same_item [] (suc i) = refl
same_item (x ∷ sizes) zero = refl
same_item (x ∷ sizes) (suc i) = same_item sizes i

same_size : (m : RunMemory) (seg : ℕ) → size (with_segment m) seg ≡ size m seg
unfolding size with_segment
same_size m seg = same_item m.sizes seg

-- a memory with more segments, which are empty
pub record HasMore (m n : RunMemory) (more : ℕ) : Type 0 where
  pub memory : IsMemory n
  pub count : length n.sizes ≡ length m.sizes + more
  pub sizes : (seg : ℕ) → size n seg ≡ size m seg
  pub total : sum n.sizes ≡ sum m.sizes
  pub cells : (p : Place) → cell n p ≡ cell m p

pub with_segments-more : (more : ℕ) (m : RunMemory) → IsMemory m → length m.sizes + more ≤ segment_limit → HasMore m (with_segments more m) more
unfolding with_segments
with_segments-more zero m is room = record { memory = is; count = omega arith; sizes = λ _. refl; total = refl; cells = λ _. refl }
with_segments-more (suc more) m is room =
    let next : HasMore (with_segment m) (with_segments more (with_segment m)) more =
    with_segments-more more (with_segment m) (IsMemory-with_segment m is (omega arith)) (omega (arith, count-with_segment m)) in
    record {
      memory = next.memory;
      count = omega (arith, next.count, count-with_segment m);
      sizes = λ seg. next.sizes seg ∙ same_size m seg;
      total = next.total ∙ sum-with_segment m;
      cells = λ p. next.cells p ∙ cell-with_segment m p;
    }

-- ---- the segments of the start

count-program : (words : List Felt) → length (program_memory words).sizes ≡ 1
unfolding program_memory
count-program words = refl

size-program-first : (words : List Felt) → size (program_memory words) 0 ≡ length words
unfolding size program_memory
size-program-first words = refl

size-program-other : (words : List Felt) → size (program_memory words) 1 ≡ 0
unfolding size program_memory
size-program-other words = refl

pub few_builtins : (b : Builtins) → builtin_count b ≤ 2
unfolding builtin_count
few_builtins b = grind arith

pub room_at_start : (words : List Felt) (b : Builtins) (extra : ℕ) → extra ≤ extra_limit → length (program_memory words).sizes + (1 + builtin_count b + extra) ≤ segment_limit
room_at_start words b extra few = omega (arith, few_builtins b, count-program words)

start-has_more : (p : Listing) (extra : ℕ) → IsProgram p → extra ≤ extra_limit → HasMore (program_memory p.words) (with_segments (1 + builtin_count p.builtins + extra) (program_memory p.words)) (1 + builtin_count p.builtins + extra)
start-has_more p extra is few =
    with_segments-more (1 + builtin_count p.builtins + extra) (program_memory p.words) (IsMemory-program p.words is.few_words) (room_at_start p.words p.builtins extra few)

pub start-ready : (p : Listing) (extra : ℕ) → IsProgram p → extra ≤ extra_limit → IsFilled (with_segments (1 + builtin_count p.builtins + extra) (program_memory p.words)) 0
start-ready p extra is few =
    let more = start-has_more p extra is few in
    record {
      memory = more.memory;
      there = omega (arith, more.count, count-program p.words);
      filled = more.sizes 1 ∙ size-program-other p.words;
      few = omega (arith, more.total, sum-program p.words, is.few_words);
    }

pub start-there : (p : Listing) (extra : ℕ) → IsProgram p → extra ≤ extra_limit → length (with_segments (1 + builtin_count p.builtins + extra) (program_memory p.words)).sizes ≡ 2 + builtin_count p.builtins + extra
start-there p extra is few = omega (arith, (start-has_more p extra is few).count, count-program p.words)

-- ---- the start stack

pub first_two : (m one two : RunMemory) (b : Builtins) →
    one ≡ with_cell m (place execution 0) (Ptr (place execution 2)) → two ≡ with_cell one (place execution 1) (number 0) →
    with_stack 2 (base_pointers 2 (builtin_count b)) two ≡ with_stack 0 (start_stack b) m
unfolding with_stack start_stack builtin_segments
first_two m one two b first second =
    ap (λ (l : RunMemory). with_stack 2 (base_pointers 2 (builtin_count b)) l) (second ∙ ap (λ (l : RunMemory). with_cell l (place execution 1) (number 0)) first)

pub next_place : (i : ℕ) → 2 + i + 1 ≡ 2 + (i + 1)
next_place i = omega arith

pub next_base : (m : RunMemory) (n i : ℕ) → i < n →
    with_stack (2 + i) (base_pointers (2 + i) (n - i)) m
    ≡ with_stack (2 + (i + 1)) (base_pointers (2 + (i + 1)) (n - (i + 1))) (with_cell m (place execution (2 + i)) (Ptr (place (2 + i) 0)))
unfolding with_stack
next_base m n i inside =
    let one : n - i ≡ suc (n - (i + 1)) = omega arith in
    let on : 2 + i + 1 ≡ 2 + (i + 1) = omega arith in
    ap (λ (k : ℕ). with_stack (2 + i) (base_pointers (2 + i) k) m) one
    ∙ ap (λ (k : ℕ). with_stack k (base_pointers k (n - (i + 1))) (with_cell m (place execution (2 + i)) (Ptr (place (2 + i) 0)))) on

pub last_base : (m : RunMemory) (n i : ℕ) → n ≤ i → with_stack (2 + i) (base_pointers (2 + i) (n - i)) m ≡ m
unfolding with_stack
last_base m n i past =
    let none : n - i ≡ 0 = omega arith in
    ap (λ (k : ℕ). with_stack (2 + i) (base_pointers (2 + i) k) m) none

pub start-parts : (p : Listing) (extra : ℕ) → with_stack 0 (start_stack p.builtins) (with_segments (1 + builtin_count p.builtins + extra) (program_memory p.words)) ≡ start_memory p extra
unfolding start_memory
start-parts p extra = refl

-- ---- values of the execution segment, one after another

-- the values can be held where there are so many segments
abbrev pub AreNamed : ℕ → List Value → Type 0
AreNamed count [] = Unit {0}
AreNamed count (v ∷ values) = IsNamed count v × AreNamed count values

-- the memory has these values in the execution segment from an offset on, and else it is as before
pub record HasStacked (m n : RunMemory) (off : ℕ) (values : List Value) : Type 0 where
  pub filled : IsFilled n (off + length values)
  pub count : length n.sizes ≡ length m.sizes
  pub sizes : (seg : ℕ) → seg ≢ execution → size n seg ≡ size m seg
  pub others : (q : Place) → q.seg ≢ execution → cell n q ≡ cell m q
  pub before : (i : ℕ) → i < off → cell n (place execution i) ≡ cell m (place execution i)
  pub held : (i : ℕ) → cell n (place execution (off + i)) ≡ slice_get values i

not_held : (o : Option Value) → (IsSome o → ⊥) → o ≡ None
not_held None free = refl
not_held (Some v) free = absurd (free refl)

nothing_past : (m : RunMemory) (off i : ℕ) → IsFilled m off → cell m (place execution (off + i)) ≡ None
nothing_past m off i is = not_held (cell m (place execution (off + i))) (λ held. omega (arith, is.memory.inside (place execution (off + i)) held, is.filled))

one_after : (n : RunMemory) (v : Value) (values : List Value) (off : ℕ) → cell n (place execution off) ≡ Some v →
    ((i : ℕ) → cell n (place execution (off + 1 + i)) ≡ slice_get values i) → (i : ℕ) → cell n (place execution (off + i)) ≡ slice_get (v ∷ values) i
one_after n v values off first rest zero =
    let same : off + 0 ≡ off = omega arith in
    ap (λ (k : ℕ). cell n (place execution k)) same ∙ first
one_after n v values off first rest (suc i) =
    let same : off + suc i ≡ off + 1 + i = omega arith in
    ap (λ (k : ℕ). cell n (place execution k)) same ∙ rest i

pub with_stack-stacked : (values : List Value) (off : ℕ) (m : RunMemory) → IsFilled m off → off + length values ≤ stack_limit → AreNamed (length m.sizes) values → HasStacked m (with_stack off values m) off values
unfolding with_stack
with_stack-stacked [] off m is low named =
    let same : off ≡ off + 0 = omega arith in
    record {
      filled = subst (λ (k : ℕ). IsFilled m k) same is;
      count = refl;
      sizes = λ _ _. refl;
      others = λ _ _. refl;
      before = λ _ _. refl;
      held = λ i. nothing_past m off i is;
    }
with_stack-stacked (v ∷ values) off m is low named =
    let one : RunMemory = with_cell m (place execution off) v in
    let next : HasStacked one (with_stack (off + 1) values one) (off + 1) values =
    with_stack-stacked values (off + 1) one (pushed m off v is (omega arith) named.0) (omega arith)
    (subst (λ (k : ℕ). AreNamed k values) (sym (pushed-count m off v)) named.1) in
    let same : off + 1 + length values ≡ off + length (v ∷ values) = omega arith in
    record {
      filled = subst (λ (k : ℕ). IsFilled (with_stack (off + 1) values one) k) same next.filled;
      count = next.count ∙ pushed-count m off v;
      sizes = λ seg apart. next.sizes seg apart ∙ size-with_cell_other m (place execution off) v seg apart;
      others = λ q apart. next.others q apart ∙ cell-other m (place execution off) q v (λ e. apart (ap (λ (r : Place). r.seg) e));
      before = λ i earlier.
          next.before i (omega arith)
          ∙ cell-other m (place execution off) (place execution i) v (λ e. let here : i ≡ off = ap (λ (r : Place). r.off) e in omega arith);
      held = one_after (with_stack (off + 1) values one) v values off (next.before off (omega arith) ∙ cell-written m (place execution off) v) next.held;
    }

-- ---- what the start stack is

bases-named : (first count k : ℕ) → first + count ≤ k → AreNamed k (base_pointers first count)
bases-named first zero k below = tt
bases-named first (suc count) k below = ((omega arith, omega arith), bases-named (first + 1) count k (omega arith))

bases-length : (first count : ℕ) → length (base_pointers first count) ≡ count
bases-length first zero = refl
bases-length first (suc count) = ap suc (bases-length (first + 1) count)

stack-named : (b : Builtins) (k : ℕ) → 2 + builtin_count b ≤ k → AreNamed k (start_stack b)
unfolding start_stack builtin_segments number
stack-named b k below = ((omega arith, omega arith), (tt, bases-named 2 (builtin_count b) k below))

pub stack-length : (b : Builtins) → length (start_stack b) ≡ 2 + builtin_count b
unfolding start_stack builtin_segments
stack-length b = omega (arith, bases-length 2 (builtin_count b))

-- ---- the memory at the start

start-stacked : (p : Listing) (extra : ℕ) → IsProgram p → extra ≤ extra_limit →
    HasStacked (with_segments (1 + builtin_count p.builtins + extra) (program_memory p.words)) (start_memory p extra) 0 (start_stack p.builtins)
start-stacked p extra is few =
    let first : RunMemory = with_segments (1 + builtin_count p.builtins + extra) (program_memory p.words) in
    let there : 2 + builtin_count p.builtins ≤ length first.sizes = omega (arith, start-there p extra is few) in
    subst (λ (m : RunMemory). HasStacked first m 0 (start_stack p.builtins)) (start-parts p extra)
    (with_stack-stacked (start_stack p.builtins) 0 first (start-ready p extra is few) (omega (arith, stack-length p.builtins, few_builtins p.builtins)) (stack-named p.builtins (length first.sizes) there))

-- it is a memory
pub start-memory : (p : Listing) (extra : ℕ) → IsProgram p → extra ≤ extra_limit → IsMemory (start_memory p extra)
start-memory p extra is few = (start-stacked p extra is few).filled.memory

-- how many segments there are
pub start-count : (p : Listing) (extra : ℕ) → IsProgram p → extra ≤ extra_limit → length (start_memory p extra).sizes ≡ 2 + builtin_count p.builtins + extra
start-count p extra is few = (start-stacked p extra is few).count ∙ start-there p extra is few

-- segment 0 is as long as the program
pub start-size0 : (p : Listing) (extra : ℕ) → IsProgram p → extra ≤ extra_limit → size (start_memory p extra) 0 ≡ length p.words
start-size0 p extra is few =
    (start-stacked p extra is few).sizes 0 (λ e. cc) ∙ ((start-has_more p extra is few).sizes 0 ∙ size-program-first p.words)

-- the execution segment is as long as the start stack
pub start-size1 : (p : Listing) (extra : ℕ) → IsProgram p → extra ≤ extra_limit → size (start_memory p extra) execution ≡ 2 + builtin_count p.builtins
start-size1 p extra is few = omega (arith, (start-stacked p extra is few).filled.filled, stack-length p.builtins)

size-program-past : (words : List Felt) (seg : ℕ) → execution < seg → size (program_memory words) seg ≡ 0
unfolding size program_memory
size-program-past words zero past = absurd (omega arith)
size-program-past words (suc seg) past = refl

-- all other segments are empty
pub start-empty : (p : Listing) (extra seg : ℕ) → IsProgram p → extra ≤ extra_limit → execution < seg → size (start_memory p extra) seg ≡ 0
start-empty p extra seg is few past =
    (start-stacked p extra is few).sizes seg (λ e. omega arith) ∙ ((start-has_more p extra is few).sizes seg ∙ size-program-past p.words seg past)

-- segment 0 holds the words
pub start-words : (p : Listing) (extra off : ℕ) → IsProgram p → extra ≤ extra_limit → cell (start_memory p extra) (place 0 off) ≡ option_map (λ x. Num x) (slice_get p.words off)
start-words p extra off is few =
    (start-stacked p extra is few).others (place 0 off) (λ e. cc) ∙ ((start-has_more p extra is few).cells (place 0 off) ∙ program_word p.words off)

-- the execution segment holds the start stack
pub start-stack : (p : Listing) (extra off : ℕ) → IsProgram p → extra ≤ extra_limit → cell (start_memory p extra) (place execution off) ≡ slice_get (start_stack p.builtins) off
start-stack p extra off is few =
    let same : 0 + off ≡ off = omega arith in
    subst (λ (k : ℕ). cell (start_memory p extra) (place execution k) ≡ slice_get (start_stack p.builtins) off) same ((start-stacked p extra is few).held off)

-- the segments of the first state are there
pub first-inside : (p : Listing) (extra : ℕ) → IsProgram p → extra ≤ extra_limit →
    ((first_state p).pc.seg < length (start_memory p extra).sizes)
    × (((first_state p).ap.seg < length (start_memory p extra).sizes) × ((first_state p).fp.seg < length (start_memory p extra).sizes))
unfolding first_state
first-inside p extra is few =
    let count = start-count p extra is few in
    (omega arith, (omega arith, omega arith))
