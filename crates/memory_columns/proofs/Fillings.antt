-- Fillers, and columns that have no fault.
use Rattle.std.proofs.Common.{◌≡◌, ℕ, ◌+◌, ◌-◌, ◌<◌, ◌≤◌, inl, inr, Bool, true, false, not, eqb, List, [], ◌∷◌, ◌++◌, length, get_or, filter, map, take, None, refl, sym, ap, subst, ◌∙◌, arith, IsPermutation, IsSorted}
use Rattle.std.specs.Prelude.{All, Any, Contains, unwrap_or, ◌||◌}
use Rattle.std.specs.List.{range_with_len, list_any}
use Rattle.std.specs.List.Sorted.{IsNonDecreasingBy}
use Rattle.std.proofs.lemmas.Bool.{not-true, cases_Bool, or_left, or_right, both_ways}
use Rattle.std.proofs.lemmas.List.{map_push, map_more, take_all, map-id, get_or_read, get_or-map, length-map}
use Rattle.std.proofs.lemmas.List.Elements.{All-filter, filter_passes, filter_agree, All-append, All-contains, Contains-append_cases, Contains-get_or}
use Rattle.std.proofs.lemmas.List.Folds.{list_any-append}
use Rattle.std.proofs.lemmas.List.FromFn.{length-range_with_len, get_or-range_with_len}
use Rattle.std.proofs.lemmas.List.Sorted.{All-permutation, Contains-permutation, list_any-IsPermutation, IsPermutation-sym, IsPermutation-append_left, length_permutation, ranks_by}
use Rattle.goldilocks.specs.Field.{prime, field_sub}
use Rattle.goldilocks.specs.declared.Pair.{Pair}
use Rattle.casm_word.specs.Transition.{Memory}
use Rattle.sorted_lists.specs.Order.{in_order}
use Rattle.sorted_lists.specs.Gaps.{absent, is_taken, gaps_between}
use Rattle.sorted_lists.specs.Difference.{list_difference}
use Rattle.sorted_lists.specs.Climbing.{first_between}
use Rattle.sorted_lists.proofs.Absent.{absent-has, any_from, no_gap}
use Rattle.sorted_lists.proofs.Differences.{difference-none}
use Rattle.sorted_lists.proofs.InOrder.{in_order-IsPermutation, in_order-IsSorted, in_order_kept, in_order-IsPermutation_same}
use Rattle.sorted_lists.proofs.Neighbours.{climb_from_step, first_between-none}
use Rattle.memory_columns.specs.Equations.{m1, pair_cmp, is_same_pair, pair_fault, first_memory_fault}
use Rattle.memory_columns.specs.OneMemory.{OneValueEach}
use Rattle.memory_columns.proofs.Cells.{pair_total, pair_equal, same_pair_tells, addresses_ascend}
use Rattle.memory_columns.proofs.PairFaults.{fault-nothing}
use Rattle.memory_columns.specs.Filling.{Spans, unaccessed, numbers_of, filler_at, AreFillers, filler_limit}

module _ {A B C : Type 0} (f : B → C) (h : A → C) (xs : List A) where
  -- one more item was made of one more
  pub made_more : (i : ℕ) (before after : List B) (x : A) (y : B) → i < length xs → x ≡ get_or xs i x → after ≡ before ++ y ∷ [] → f y ≡ h x → map f before ≡ map h (take i xs) → map f after ≡ map h (take (i + 1) xs)
  made_more i before after x y lt at e is so_far =
      ap (map f) e ∙ (map_push f before y ∙ (rw so_far (ap (λ z. map h (take i xs) ++ z ∷ []) (is ∙ ap h at)) ∙ sym (map_more h xs i x lt)))

  pub made_all : (i : ℕ) (bs : List B) → length xs ≤ i → map f bs ≡ map h (take i xs) → map f bs ≡ map h xs
  made_all i bs le e = e ∙ ap (map h) (take_all i xs le)

pub map-map : {A B C : Type 0} (f : B → C) (g : A → B) (xs : List A) → map f (map g xs) ≡ map (λ x. f (g x)) xs
map-map f g [] = refl
map-map f g (x ∷ xs) = ap (λ ys. f (g x) ∷ ys) (map-map f g xs)

abbrev addr_of : Pair → ℕ
addr_of x = x.addr.number

-- lists with the same items
pub any_moved : {X : Type 0} (P : X → Type 0) (xs ys : List X) → IsPermutation xs ys → Any P xs → Any P ys
any_moved P xs ys moved (k, x, lt, e, p) =
    let there : Contains ys x = Contains-permutation xs ys x moved (k, lt, e) in
    (there.0, x, there.1, there.2, p)

pub spans_moved : (xs ys : List Pair) (least greatest : ℕ) → IsPermutation xs ys → Spans xs least greatest → Spans ys least greatest
spans_moved xs ys least greatest moved s = record {
  has_least = any_moved (λ x. x.addr.number ≡ least) xs ys moved s.has_least;
  has_greatest = any_moved (λ x. x.addr.number ≡ greatest) xs ys moved s.has_greatest;
  within = All-permutation (λ x. (least ≤ x.addr.number) × (x.addr.number ≤ greatest)) xs ys moved s.within;
}

pub unaccessed_moved : (xs ys : List Pair) (least greatest : ℕ) → IsPermutation xs ys → unaccessed xs least greatest ≡ unaccessed ys least greatest
unfolding unaccessed gaps_between absent
unaccessed_moved xs ys least greatest moved =
    filter_agree (λ n. not (is_taken addr_of xs n)) (λ n. not (is_taken addr_of ys n)) (λ n. ap not (list_any-IsPermutation (λ x. eqb (addr_of x) n) xs ys moved)) (range_with_len least (greatest + 1 - least))

-- the first and the last of ordered cells have the least and the greatest address
pub spans_ordered : (xs : List Pair) (first last : Pair) → 0 < length xs → IsNonDecreasingBy addr_of xs → first ≡ get_or xs 0 first → last ≡ get_or xs (length xs - 1) last → Spans xs first.addr.number last.addr.number
spans_ordered xs first last some up at_first at_last = record {
  has_least = (0, first, some, sym at_first, refl);
  has_greatest = (length xs - 1, last, omega arith, sym at_last, refl);
  within = λ k d lt. (
    let low : addr_of (get_or xs 0 d) ≤ addr_of (get_or xs k d) = up 0 k d (omega arith) lt in
        let e : addr_of first ≡ addr_of (get_or xs 0 d) = ap addr_of (get_or_read xs 0 first some at_first d) in
        omega arith,
    let high : addr_of (get_or xs k d) ≤ addr_of (get_or xs (length xs - 1) d) = up k (length xs - 1) d (omega arith) (omega arith) in
        let e : addr_of last ≡ addr_of (get_or xs (length xs - 1) d) = ap addr_of (get_or_read xs (length xs - 1) last (omega arith) at_last d) in
        omega arith,
  );
}

-- what each number that isn't accessed is, and each filler
abbrev IsFree : List Pair → ℕ → ℕ → ℕ → Type 0
IsFree accesses least greatest n = (least ≤ n) × (n ≤ greatest) × (is_taken addr_of accesses n ≡ false)

in_range : (low count : ℕ) → All (λ n. (low ≤ n) × (n < low + count)) (range_with_len low count)
in_range low count k d lt =
    let short : k < count = omega (arith, length-range_with_len low count) in
    let e : get_or (range_with_len low count) k d ≡ low + k = get_or-range_with_len low count k d short in
    (omega arith, omega arith)

all_free : (accesses : List Pair) (least greatest : ℕ) → All (IsFree accesses least greatest) (unaccessed accesses least greatest)
unfolding unaccessed gaps_between absent
all_free accesses least greatest k d lt =
    let p : ℕ → Bool = λ n. not (is_taken addr_of accesses n) in
    let range : List ℕ = range_with_len least (greatest + 1 - least) in
    let within : (least ≤ get_or (filter p range) k d) × (get_or (filter p range) k d < least + (greatest + 1 - least)) = All-filter p (λ n. (least ≤ n) × (n < least + (greatest + 1 - least))) range (in_range least (greatest + 1 - least)) k d lt in
    (omega (arith, within.0), omega (arith, within.0, within.1), not-true (is_taken addr_of accesses (get_or (filter p range) k d)) (filter_passes p range k d lt))

has_unaccessed : (accesses : List Pair) (least greatest n : ℕ) → least ≤ n → n ≤ greatest → is_taken addr_of accesses n ≡ false → list_any (λ a. eqb a n) (unaccessed accesses least greatest) ≡ true
unfolding unaccessed gaps_between
has_unaccessed accesses least greatest n lo hi free = absent-has (is_taken addr_of accesses) n least (greatest + 1 - least) lo (omega arith) free

any-map : {X : Type 0} (f : X → ℕ) (n : ℕ) (xs : List X) → list_any (λ a. eqb a n) (map f xs) ≡ list_any (λ x. eqb (f x) n) xs
any-map f n [] = refl
any-map f n (x ∷ xs) = ap (λ t. eqb (f x) n || t) (any-map f n xs)

near : (a b : ℕ) → a ≤ b → b ≤ a + 1 → b < prime → field_sub b a ≤ 1
unfolding field_sub
near a b p q r = omega arith

module _ (m : Memory) (accesses fill : List Pair) (least greatest : ℕ) (fillers : map numbers_of fill ≡ map (filler_at m) (unaccessed accesses least greatest)) where
  abbrev IsFiller : Pair → Type 0
  IsFiller x = IsFree accesses least greatest x.addr.number × (x.value.number ≡ unwrap_or (m x.addr.number) 0)

  all_fillers : All IsFiller fill
  unfolding filler_at
  all_fillers k d lt =
      let un : List ℕ = unaccessed accesses least greatest in
      let long : length fill ≡ length un = sym (length-map fill numbers_of) ∙ (ap length fillers ∙ length-map un (filler_at m)) in
      let x : Pair = get_or fill k d in
      let n : ℕ = get_or un k 0 in
      let made : numbers_of x ≡ filler_at m n =
      sym (get_or-map numbers_of fill k d (numbers_of d) lt) ∙ (ap (λ ps. get_or ps k (numbers_of d)) fillers ∙ get_or-map (filler_at m) un k 0 (numbers_of d) (omega arith)) in
      let at : x.addr.number ≡ n = ap (λ (p : ℕ × ℕ). p.0) made in
      let has : x.value.number ≡ unwrap_or (m n) 0 = ap (λ (p : ℕ × ℕ). p.1) made in
      let free : IsFree accesses least greatest n = all_free accesses least greatest k 0 (omega arith) in
      (let P : ℕ → Type 0 = IsFree accesses least greatest in subst P (sym at) free, has ∙ ap (λ a. unwrap_or (m a) 0) (sym at))

  addresses_filled : map addr_of fill ≡ unaccessed accesses least greatest
  unfolding filler_at
  addresses_filled =
      sym (map-map (λ (p : ℕ × ℕ). p.0) numbers_of fill) ∙ (ap (map (λ (p : ℕ × ℕ). p.0)) fillers ∙ (map-map (λ (p : ℕ × ℕ). p.0) (filler_at m) (unaccessed accesses least greatest) ∙ map-id (unaccessed accesses least greatest)))

  -- each number between is an address
  each_address : (n : ℕ) → least ≤ n → n ≤ greatest → list_any (λ x. eqb (addr_of x) n) (accesses ++ fill) ≡ true
  each_address n lo hi =
      let p : Pair → Bool = λ x. eqb (addr_of x) n in
      list_any-append p accesses fill ∙
      elim (cases_Bool (is_taken addr_of accesses n)) [
        | inl here ↦ or_left (list_any p accesses) (list_any p fill) here
        | inr free ↦ or_right (list_any p accesses) (list_any p fill) (sym (any-map addr_of n fill) ∙ (ap (list_any (λ a. eqb a n)) addresses_filled ∙ has_unaccessed accesses least greatest n lo hi free))
      ]

  -- each cell of the columns is an access or a filler
  abbrev all : List Pair
  all = accesses ++ fill

  within_all : Spans accesses least greatest → All (λ x. (least ≤ x.addr.number) × (x.addr.number ≤ greatest)) all
  within_all s = All-append (λ x. (least ≤ x.addr.number) × (x.addr.number ≤ greatest)) accesses fill s.within (λ k d lt. let f : IsFiller (get_or fill k d) = all_fillers k d lt in (f.0.0, f.0.1))

  -- an accessed address has no filler
  never_both : (x y : Pair) → Contains accesses x → Contains fill y → x.addr.number ≡ y.addr.number → ⊥
  never_both x y p q e =
      let f : IsFiller y = All-contains IsFiller fill y all_fillers q in
      let taken : is_taken addr_of accesses y.addr.number ≡ true = any_from addr_of y.addr.number accesses (p.0) x (p.1) (ap addr_of (p.2) ∙ e) in
      both_ways (is_taken addr_of accesses y.addr.number) (f.0.2) taken

  one_value_all : OneValueEach accesses → OneValueEach all
  unfolding OneValueEach
  one_value_all one x y p q e =
      elim (Contains-append_cases accesses fill x p) [
        | inl x_access ↦ elim (Contains-append_cases accesses fill y q) [
          | inl y_access ↦ one x y x_access y_access e
          | inr y_filler ↦ absurd (never_both x y x_access y_filler e)
        ]
        | inr x_filler ↦ elim (Contains-append_cases accesses fill y q) [
          | inl y_access ↦ absurd (never_both y x y_access x_filler (sym e))
          | inr y_filler ↦
              let f : IsFiller x = All-contains IsFiller fill x all_fillers x_filler in
              let h : IsFiller y = All-contains IsFiller fill y all_fillers y_filler in
              f.1 ∙ (ap (λ a. unwrap_or (m a) 0) e ∙ sym (h.1))
        ]
      ]

  -- the columns have no fault
  module _ (spans : Spans accesses least greatest) (one : OneValueEach accesses) (sorted : List Pair) (ordered : sorted ≡ in_order pair_cmp all) where
    moved : IsPermutation all sorted
    moved = rw ordered (in_order-IsPermutation pair_cmp all)

    up : IsSorted pair_cmp sorted
    up = rw ordered (in_order-IsSorted pair_cmp (ranks_by pair_total (λ (x : Pair). x)) all)

    climbs : (k : ℕ) (d : Pair) → k + 1 < length sorted → m1 (get_or sorted k d) (get_or sorted (k + 1) d) ≡ 0
    unfolding m1
    climbs k d lt =
        let x : Pair = get_or sorted k d in
        let y : Pair = get_or sorted (k + 1) d in
        let rises : IsNonDecreasingBy addr_of sorted = addresses_ascend sorted up in
        let within : All (λ z. (least ≤ z.addr.number) × (z.addr.number ≤ greatest)) sorted = All-permutation (λ z. (least ≤ z.addr.number) × (z.addr.number ≤ greatest)) all sorted moved (within_all spans) in
        let low : least ≤ x.addr.number = (within k d (omega arith)).0 in
        let high : y.addr.number ≤ greatest = (within (k + 1) d lt).1 in
        let close : y.addr.number ≤ x.addr.number + 1 = no_gap addr_of sorted d rises k (k + 1) refl lt (λ n a b. sym (list_any-IsPermutation (λ z. eqb (addr_of z) n) all sorted moved) ∙ each_address n (omega arith) (omega arith)) in
        climb_from_step x.addr.number y.addr.number (near x.addr.number y.addr.number (rises k (k + 1) d (omega arith) lt) close y.addr.in_field)

    stays : (k : ℕ) (d : Pair) → k + 1 < length sorted → addr_of (get_or sorted k d) ≡ addr_of (get_or sorted (k + 1) d) → (get_or sorted k d).value.number ≡ (get_or sorted (k + 1) d).value.number
    unfolding OneValueEach
    stays k d lt e =
        let back : IsPermutation sorted all = IsPermutation-sym all sorted moved in
        one_value_all one (get_or sorted k d) (get_or sorted (k + 1) d)
        (Contains-permutation sorted all (get_or sorted k d) back (Contains-get_or sorted k d (omega arith)))
        (Contains-permutation sorted all (get_or sorted (k + 1) d) back (Contains-get_or sorted (k + 1) d lt))
        e

    pub no_fault : first_memory_fault all sorted ≡ None
    unfolding first_memory_fault
    no_fault =
        let neighbours : first_between pair_fault sorted ≡ None = first_between-none pair_fault sorted (λ k d lt. fault-nothing (get_or sorted k d) (get_or sorted (k + 1) d) (climbs k d lt) (stays k d lt)) in
        let kept : in_order pair_cmp sorted ≡ sorted = in_order_kept pair_cmp pair_total pair_equal sorted up in
        let order : list_difference is_same_pair (in_order pair_cmp all) (in_order pair_cmp sorted) ≡ None = (difference-none is_same_pair same_pair_tells (in_order pair_cmp all) (in_order pair_cmp sorted)).1 (sym ordered ∙ sym kept) in
        rw (neighbours, order) refl

-- where nothing is to be filled
pub made_none : (h : ℕ → ℕ × ℕ) (ns : List ℕ) → length ns ≡ 0 → ◌≡◌ {A = List (ℕ × ℕ)} [] (map h ns)
made_none h [] e = refl
made_none h (n ∷ ns) e = absurd (omega arith)

append_none : (xs : List Pair) → xs ≡ xs ++ []
append_none [] = refl
append_none (x ∷ xs) = ap (λ ys. x ∷ ys) (append_none xs)

pub in_order_alone : (xs : List Pair) → IsSorted pair_cmp xs → xs ≡ in_order pair_cmp (xs ++ [])
in_order_alone xs up = sym (in_order_kept pair_cmp pair_total pair_equal xs up) ∙ ap (in_order pair_cmp) (append_none xs)

-- accesses that were put in order
pub record Ordered (accesses ordered : List Pair) (first last : Pair) : Type 0 where
  pub moved : IsPermutation accesses ordered
  pub up : IsSorted pair_cmp ordered
  pub some : 0 < length accesses
  pub at_first : first ≡ get_or ordered 0 first
  pub at_last : last ≡ get_or ordered (length ordered - 1) last

module _ (accesses ordered : List Pair) (first last : Pair) (o : Ordered accesses ordered first last) where
  pub ordered_ascend : IsNonDecreasingBy addr_of ordered
  ordered_ascend = addresses_ascend ordered o.up

  pub ordered_spans : Spans ordered first.addr.number last.addr.number
  ordered_spans = spans_ordered ordered first last (omega (arith, length_permutation accesses ordered o.moved, o.some)) ordered_ascend o.at_first o.at_last

  pub accessed_spans : Spans accesses first.addr.number last.addr.number
  accessed_spans = spans_moved ordered accesses first.addr.number last.addr.number (IsPermutation-sym accesses ordered o.moved) ordered_spans

  pub ordered_range : first.addr.number ≤ last.addr.number
  ordered_range =
      let long : length ordered ≡ length accesses = length_permutation accesses ordered o.moved in
      omega (arith, (ordered_spans.within 0 first (omega (arith, o.some))).1, ap addr_of o.at_first)

  pub same_unaccessed : unaccessed ordered first.addr.number last.addr.number ≡ unaccessed accesses first.addr.number last.addr.number
  same_unaccessed = unaccessed_moved ordered accesses first.addr.number last.addr.number (IsPermutation-sym accesses ordered o.moved)

  module _ (m : Memory) (fill sorted : List Pair) (made : map numbers_of fill ≡ map (filler_at m) (unaccessed ordered first.addr.number last.addr.number)) (in_turn : sorted ≡ in_order pair_cmp (ordered ++ fill)) where
    pub made_fillers : map numbers_of fill ≡ map (filler_at m) (unaccessed accesses first.addr.number last.addr.number)
    made_fillers = made ∙ ap (map (filler_at m)) same_unaccessed

    pub are_fillers : AreFillers m accesses fill
    are_fillers = record { least = first.addr.number; greatest = last.addr.number; spans = accessed_spans; fillers = made_fillers }

    pub sorted_accesses : sorted ≡ in_order pair_cmp (accesses ++ fill)
    sorted_accesses = in_turn ∙ in_order-IsPermutation_same pair_cmp pair_total pair_equal (ordered ++ fill) (accesses ++ fill) (IsPermutation-append_left fill ordered accesses (IsPermutation-sym accesses ordered o.moved))

    pub fillers_fit : length (unaccessed ordered first.addr.number last.addr.number) ≤ filler_limit → length fill ≤ filler_limit
    fillers_fit h =
        let long : length fill ≡ length (unaccessed ordered first.addr.number last.addr.number) = sym (length-map fill numbers_of) ∙ (ap length made ∙ length-map (unaccessed ordered first.addr.number last.addr.number) (filler_at m)) in
        omega arith

    pub columns_no_fault : OneValueEach accesses → first_memory_fault (accesses ++ fill) sorted ≡ None
    columns_no_fault one = no_fault m accesses fill first.addr.number last.addr.number made_fillers accessed_spans one sorted sorted_accesses
