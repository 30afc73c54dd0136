-- The memory of the relocated cells: it holds each held cell, and its addresses ascend from 1 on.
use Rattle.std.proofs.Common.{◌≡◌, ◌≢◌, ℕ, suc, ◌+◌, ◌<◌, ◌≤◌, true, false, cond, List, [], ◌∷◌, map, length, All, Option, Some, refl, sym, ◌∙◌, ap, subst, arith, inl, inr}
use Rattle.std.specs.Prelude.{T, IsSome, IfSome, sum, slice_get}
use Rattle.std.specs.List.{AllByRecursion}
use Rattle.std.specs.List.Sorted.{IsStrictlyIncreasing, IsStrictlySortedBy}
use Rattle.std.specs.Ordering.{nat_cmp, eq_by_cmp}
use Rattle.std.specs.declared.cmp.Ordering.TheVariants.{Less}
use Rattle.std.specs.FinMap.{entries, entries_sorted}
use Rattle.std.specs.FinMap.Entries.{find, below_all, is_sorted}
use Rattle.std.proofs.lemmas.Bool.{eq-eqb, ne_eqb}
use Rattle.std.proofs.lemmas.Bool.Decides.{nat_tests}
use Rattle.std.proofs.lemmas.Cmp.{ranked}
use Rattle.std.proofs.lemmas.List.Elements.{All-from_recursion}
use Rattle.std.proofs.lemmas.Map.Keys.{IsStrictlyIncreasing-from_sorted}
use Rattle.goldilocks.specs.declared.Felt.{Felt}
use Rattle.goldilocks.specs.declared.Pair.{Pair}
use Rattle.goldilocks.specs.Field.{prime}
use Rattle.goldilocks.specs.Cells.{memory_of, addresses, cells_from}
use Rattle.goldilocks.proofs.Pairs.{number-felt}
use Rattle.segments.specs.declared.Place.{Place}
use Rattle.segments.specs.declared.Value.{Value}
use Rattle.segments.specs.declared.Value.TheVariants.{Num}
use Rattle.segments.specs.Values.{place_cmp, place, IsBefore}
use Rattle.segments.specs.Memory.{RunMemory, IsMemory, cell, total_limit}
use Rattle.segments.specs.Relocation.{base, address, relocated}
use Rattle.segments.proofs.Addresses.{address_before, address_positive}
use Rattle.segments.proofs.Memories.{addresses-distinct, addresses-to_total, held_inside, relocated-in_field}
use Rattle.segments.proofs.Places.{place_tied, place_same}
use Rattle.trace_files.specs.CellList.{CanBeListed}
use Rattle.run_steps.specs.ValueRun.{HoldsRelocated}
use Rattle.relocation.specs.Relocated.{relocated_cell, relocated_cells}
use Rattle.relocation.proofs.Walk.{Held, both_parts, each, all_later, entries_held, found_held}

pub if_some : {A : Type 0} (P : A → Type 0) (o : Option A) (x : A) → o ≡ Some x → IfSome o P → P x
if_some P o x is holds = subst (λ (found : Option _). IfSome found P) is holds

some_held : (m : RunMemory) (p : Place) (v : Value) → cell m p ≡ Some v → IsSome (cell m p)
some_held m p v held = subst (λ (o : Option Value). IsSome o) (sym held) refl

-- ---- the numbers of a relocated cell

pub address_low : (m : RunMemory) (p : Place) (v : Value) → IsMemory m → cell m p ≡ Some v → address m.sizes p ≤ total_limit
address_low m p v is held = omega (arith, is.total, addresses-to_total m p is (some_held m p v held))

pub cell-address : (m : RunMemory) (p : Place) (v : Value) → IsMemory m → cell m p ≡ Some v → (relocated_cell m.sizes (p, v)).addr.number ≡ address m.sizes p
unfolding relocated_cell
cell-address m p v is held = number-felt (address m.sizes p) (omega (arith, address_low m p v is held))

pub cell-value : (m : RunMemory) (p : Place) (v : Value) → IsMemory m → cell m p ≡ Some v → (relocated_cell m.sizes (p, v)).value.number ≡ relocated m.sizes v
unfolding relocated_cell
cell-value m p v is held = number-felt (relocated m.sizes v) (relocated-in_field m p v is held)

-- ---- the memory holds them

memory_of-here : (c : Pair) (cells : List Pair) (a : ℕ) → c.addr.number ≡ a → memory_of (c ∷ cells) a ≡ Some c.value.number
unfolding memory_of
memory_of-here c cells a same = rw (eq-eqb c.addr.number a same) refl

memory_of-past : (c : Pair) (cells : List Pair) (a : ℕ) → c.addr.number ≢ a → memory_of (c ∷ cells) a ≡ memory_of cells a
unfolding memory_of
memory_of-past c cells a other = rw (ne_eqb c.addr.number a other) refl

-- these cells of the memory are held
abbrev pub AreHeld : RunMemory → Held → Type 0
AreHeld m held = AllByRecursion (λ c. cell m c.0 ≡ Some c.1) held

found_cell : (m : RunMemory) (held : Held) (p : Place) (v : Value) → IsMemory m → AreHeld m held → cell m p ≡ Some v → find place_cmp p held ≡ Some v → memory_of (map (relocated_cell m.sizes) held) (address m.sizes p) ≡ Some (relocated m.sizes v)
found_cell m [] p v is all there found = absurd (cc)
found_cell m (c ∷ held) p v is all there found =
    elim (eq_by_cmp place_cmp p c.0) as (λ t. eq_by_cmp place_cmp p c.0 ≡ t → cond t (Some c.1) (find place_cmp p held) ≡ Some v → memory_of (map (relocated_cell m.sizes) (c ∷ held)) (address m.sizes p) ≡ Some (relocated m.sizes v)) [
      | true ↦ λ e same.
          let at : p ≡ c.0 = place_tied p c.0 e in
          let value : c.1 ≡ v = cc in
          memory_of-here (relocated_cell m.sizes c) (map (relocated_cell m.sizes) held) (address m.sizes p) (cell-address m c.0 c.1 is all.0 ∙ ap (address m.sizes) (sym at))
          ∙ ap (λ (n : ℕ). Some n) (cell-value m c.0 c.1 is all.0 ∙ ap (relocated m.sizes) value)
      | false ↦ λ e rest.
          memory_of-past (relocated_cell m.sizes c) (map (relocated_cell m.sizes) held) (address m.sizes p) (λ same.
          apart e (addresses-distinct m p c.0 is (some_held m p v there) (some_held m c.0 c.1 all.0) (sym same ∙ cell-address m c.0 c.1 is all.0)))
          ∙ found_cell m held p v is all.1 there rest
    ] refl found
  where
    apart : eq_by_cmp place_cmp p c.0 ≡ false → p ≡ c.0 → ⊥
    apart e same =
        let tied : eq_by_cmp place_cmp p c.0 ≡ true = ap (eq_by_cmp place_cmp p) (sym same) ∙ place_same p in
        absurd (cc)

-- every held cell, relocated, is held by the memory of the relocated cells
pub holds_relocated : (m : RunMemory) → IsMemory m → HoldsRelocated m (memory_of (relocated_cells m))
unfolding relocated_cells
holds_relocated m is = record {
  holds = λ p v there. found_cell m (entries m.cells) p v is (entries_held m) there (found_held m p ∙ there);
}

-- ---- they ascend

further_on : (sizes : List ℕ) (p q : Place) → p.seg ≡ q.seg → p.off < q.off → address sizes p < address sizes q
unfolding address
further_on sizes p q seg off = let bases : base sizes p.seg ≡ base sizes q.seg = ap (base sizes) seg in omega arith

-- a place that comes before another has the lower address
address_rises : (m : RunMemory) (p q : Place) (v : Value) → IsMemory m → cell m p ≡ Some v → IsBefore p q → address m.sizes p < address m.sizes q
unfolding IsBefore
address_rises m p q v is there (inl earlier) = address_before m.sizes p q (held_inside m p is (some_held m p v there)) earlier
address_rises m p q v is there (inr same) = further_on m.sizes p q same.0 same.1

pub less : (a b : ℕ) → a < b → nat_cmp a b ≡ Less
less a b below = grind (arith, nat_tests)

above_all : (m : RunMemory) (a : ℕ) (held : Held) → IsMemory m → AreHeld m held → AllByRecursion (λ c. a < address m.sizes c.0) held → AllByRecursion (λ n. nat_cmp a n ≡ Less) (addresses (map (relocated_cell m.sizes) held))
above_all m a [] is all above = tt
above_all m a (c ∷ held) is all above = (
  less a (relocated_cell m.sizes c).addr.number (omega (arith, above.0, cell-address m c.0 c.1 is all.0)),
  above_all m a held is all.1 above.1,
)

rises : (m : RunMemory) (held : Held) → IsMemory m → AreHeld m held → T (is_sorted place_cmp held) → IsStrictlySortedBy nat_cmp (addresses (map (relocated_cell m.sizes) held))
unfolding IsStrictlySortedBy
rises m [] is all sorted = tt
rises m (c ∷ held) is all sorted =
    let parts = both_parts (below_all place_cmp c.0 held) (is_sorted place_cmp held) sorted in
    let at : (relocated_cell m.sizes c).addr.number ≡ address m.sizes c.0 = cell-address m c.0 c.1 is all.0 in (
      above_all m (relocated_cell m.sizes c).addr.number held is all.1
          (each (λ d later. let above : address m.sizes c.0 < address m.sizes d.0 = address_rises m c.0 d.0 c.1 is all.0 later in omega arith) held (all_later c.0 held parts.0)),
      rises m held is all.1 parts.1,
    )

sorted_cells : (m : RunMemory) → IsMemory m → IsStrictlySortedBy nat_cmp (addresses (relocated_cells m))
unfolding relocated_cells
sorted_cells m is = rises m (entries m.cells) is (entries_held m) (entries_sorted m.cells)

pub ascending : (m : RunMemory) → IsMemory m → IsStrictlyIncreasing (addresses (relocated_cells m))
ascending m is = IsStrictlyIncreasing-from_sorted (addresses (relocated_cells m)) (sorted_cells m is)

-- ---- each comes from a held cell

-- what is true of each held cell's relocated cell is true of all relocated cells
all_cells : (m : RunMemory) (P : Pair → Type 0) → ((p : Place) (v : Value) → cell m p ≡ Some v → P (relocated_cell m.sizes (p, v))) → AllByRecursion P (relocated_cells m)
unfolding relocated_cells
all_cells m P has = go (entries m.cells) (entries_held m)
  where
    go : (held : Held) → AreHeld m held → AllByRecursion P (map (relocated_cell m.sizes) held)
    go [] all = tt
    go (c ∷ held) all = (has c.0 c.1 all.0, go held all.1)

pub every_cell : (m : RunMemory) (P : Pair → Type 0) → ((p : Place) (v : Value) → cell m p ≡ Some v → P (relocated_cell m.sizes (p, v))) → All P (relocated_cells m)
every_cell m P has = All-from_recursion P (relocated_cells m) (all_cells m P has)

-- the addresses lie from 1 to the sum of the sizes
pub in_bounds : (m : RunMemory) → IsMemory m → All (λ c. (1 ≤ c.addr.number) × (c.addr.number ≤ sum m.sizes)) (relocated_cells m)
in_bounds m is =
    every_cell m (λ c. (1 ≤ c.addr.number) × (c.addr.number ≤ sum m.sizes)) (λ p v there.
    let at : (relocated_cell m.sizes (p, v)).addr.number ≡ address m.sizes p = cell-address m p v is there in
    (omega (arith, at, address_positive m.sizes p), omega (arith, at, addresses-to_total m p is (some_held m p v there))))

-- numbers that ascend up to a bound are no more than there are
few : (low high : ℕ) (cells : List Pair) → low ≤ high → IsStrictlySortedBy nat_cmp (addresses cells) → AllByRecursion (λ n. nat_cmp low n ≡ Less) (addresses cells) → AllByRecursion (λ c. c.addr.number ≤ high) cells → length cells + low ≤ high
unfolding IsStrictlySortedBy
few low high [] room sorted above below = omega arith
few low high (c ∷ cells) room sorted above below =
    let next : low < c.addr.number = ranked low c.addr.number Less (sym above.0) in
    omega (arith, next, few c.addr.number high cells below.0 sorted.1 sorted.0 below.1)

pub few_cells : (m : RunMemory) → IsMemory m → length (relocated_cells m) ≤ sum m.sizes
few_cells m is =
    let above = all_cells m (λ c. nat_cmp 0 c.addr.number ≡ Less) (λ p v there.
    less 0 (relocated_cell m.sizes (p, v)).addr.number (omega (arith, cell-address m p v is there, address_positive m.sizes p))) in
    let below = all_cells m (λ c. c.addr.number ≤ sum m.sizes) (λ p v there.
    omega (arith, cell-address m p v is there, addresses-to_total m p is (some_held m p v there))) in
    omega (arith, few 0 (sum m.sizes) (relocated_cells m) (omega arith) (sorted_cells m is) (to_addresses (relocated_cells m) above) below)
  where
    to_addresses : (cells : List Pair) → AllByRecursion (λ c. nat_cmp 0 c.addr.number ≡ Less) cells → AllByRecursion (λ n. nat_cmp 0 n ≡ Less) (addresses cells)
    to_addresses [] all = tt
    to_addresses (c ∷ cells) all = (all.0, to_addresses cells all.1)

pub can_be_listed : (m : RunMemory) → IsMemory m → CanBeListed (relocated_cells m)
can_be_listed m is = record { ascending = ascending m is; most = omega (arith, few_cells m is, is.total) }

-- ---- the program

-- the word in a cell of segment 0 is at the address behind its offset
pub word_at : (m : RunMemory) (off : ℕ) (x : Felt) → IsMemory m → cell m (place 0 off) ≡ Some (Num x) → memory_of (relocated_cells m) (1 + off) ≡ Some x.number
unfolding address base relocated
word_at m off x is held = (holds_relocated m is).holds (place 0 off) (Num x) held

pub address_of_word : (sizes : List ℕ) (off : ℕ) → address sizes (place 0 off) ≡ 1 + off
unfolding address base
address_of_word sizes off = omega arith

-- cells one after another, each with the word that its address has
words_from : (m : RunMemory) (first : ℕ) (words : List Felt) → IsMemory m → ((i : ℕ) (x : Felt) → slice_get words i ≡ Some x → cell m (place 0 (first + i)) ≡ Some (Num x)) → AllByRecursion (λ c. memory_of (relocated_cells m) c.addr.number ≡ Some c.value.number) (cells_from (1 + first) words)
unfolding cells_from
words_from m first [] is held = tt
words_from m first (x ∷ words) is held =
    let here : cell m (place 0 first) ≡ Some (Num x) = subst (λ (k : ℕ). cell m (place 0 k) ≡ Some (Num x)) (omega arith) (held 0 x refl) in
    let low : address m.sizes (place 0 first) ≤ total_limit = address_low m (place 0 first) (Num x) is here in
    let below : 1 + first < prime = omega (arith, low, address_of_word m.sizes first) in
    let rest : AllByRecursion (λ c. memory_of (relocated_cells m) c.addr.number ≡ Some c.value.number) (cells_from (1 + (first + 1)) words) =
    words_from m (first + 1) words is (λ i y at.
    subst (λ (k : ℕ). cell m (place 0 k) ≡ Some (Num y)) (omega arith) (held (suc i) y at)) in (
      ap (memory_of (relocated_cells m)) (number-felt (1 + first) below) ∙ word_at m first x is here,
      subst (λ (k : ℕ). AllByRecursion (λ c. memory_of (relocated_cells m) c.addr.number ≡ Some c.value.number) (cells_from k words)) (omega arith) rest,
    )

-- the words in segment 0 stand at the addresses 1, 2 and on
pub has_words : (m : RunMemory) (words : List Felt) → IsMemory m → ((i : ℕ) (x : Felt) → slice_get words i ≡ Some x → cell m (place 0 i) ≡ Some (Num x)) → All (λ c. memory_of (relocated_cells m) c.addr.number ≡ Some c.value.number) (cells_from 1 words)
has_words m words is held =
    All-from_recursion (λ c. memory_of (relocated_cells m) c.addr.number ≡ Some c.value.number) (cells_from 1 words)
    (words_from m 0 words is (λ i x at. subst (λ (k : ℕ). cell m (place 0 k) ≡ Some (Num x)) (omega arith) (held i x at)))
