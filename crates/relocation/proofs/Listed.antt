-- The list of the bases, and addresses by it.
use Rattle.std.proofs.Common.{◌≡◌, ℕ, ◌+◌, ◌<◌, ◌≤◌, ◌^◌, List, [], ◌∷◌, ◌++◌, map, length, get_or, All, refl, sym, ◌∙◌, ap, arith, zero-add}
use Rattle.std.specs.Prelude.{sum, IsSome}
use Rattle.std.specs.List.{range_with_len}
use Rattle.std.proofs.lemmas.List.FromFn.{map-range_with_len_more, get_or-map-range_with_len, length-map-range_with_len}
use Rattle.std.proofs.lemmas.List.Sums.{sum_by_more}
use Rattle.std.proofs.lemmas.List.Elements.{All-from_get_or}
use Rattle.segments.specs.declared.Place.{Place}
use Rattle.segments.specs.declared.Value.{Value}
use Rattle.segments.specs.declared.Value.TheVariants.{Num, Ptr}
use Rattle.segments.specs.Memory.{RunMemory, IsMemory, cell, size}
use Rattle.segments.specs.Relocation.{base, address, relocated, segment_bases}
use Rattle.segments.proofs.Addresses.{base_within}
use Rattle.segments.proofs.Memories.{addresses-distinct, held_there}
use Rattle.relocation.specs.Bases.{address_by, relocated_by, HasBase}

-- the next base is that size further on
pub base-next : (m : RunMemory) (seg : ℕ) → seg < length m.sizes → base m.sizes (seg + 1) ≡ base m.sizes seg + size m seg
unfolding base size
base-next m seg inside = omega (arith, sum_by_more (λ n. n) m.sizes seg 0 inside)

pub base-first : (sizes : List ℕ) → base sizes 0 ≡ 1
unfolding base
base-first sizes = omega arith

-- one more base behind those of the segments below n
pub bases-pushed : (sizes list : List ℕ) (n b : ℕ) → list ≡ map (base sizes) (range_with_len 0 n) → b ≡ base sizes n → list ++ b ∷ [] ≡ map (base sizes) (range_with_len 0 (n + 1))
bases-pushed sizes list n b so_far next =
    ap (λ xs. xs ++ b ∷ []) so_far
    ∙ (ap (λ c. map (base sizes) (range_with_len 0 n) ++ c ∷ []) next
    ∙ sym (map-range_with_len_more (base sizes) 0 n n (zero-add n)))

pub bases-whole : (sizes : List ℕ) (n : ℕ) → n ≡ length sizes → map (base sizes) (range_with_len 0 n) ≡ segment_bases sizes
unfolding segment_bases
bases-whole sizes n e = ap (λ k. map (base sizes) (range_with_len 0 k)) e

pub length-segment_bases : (sizes : List ℕ) → length (segment_bases sizes) ≡ length sizes
unfolding segment_bases
length-segment_bases sizes = length-map-range_with_len (base sizes) 0 (length sizes)

pub get_or-segment_bases : (sizes : List ℕ) (seg d : ℕ) → seg < length sizes → get_or (segment_bases sizes) seg d ≡ base sizes seg
unfolding segment_bases
get_or-segment_bases sizes seg d inside = get_or-map-range_with_len (base sizes) 0 (length sizes) seg seg d inside (zero-add seg)

-- every base is low where the sizes are
pub bases-low : (sizes : List ℕ) → sum sizes ≤ 2 ^ 21 → All (λ b. b ≤ 2 ^ 21 + 1) (segment_bases sizes)
bases-low sizes few =
    All-from_get_or (λ b. b ≤ 2 ^ 21 + 1) (segment_bases sizes) 0 (λ k inside.
    let at : get_or (segment_bases sizes) k 0 ≡ base sizes k = get_or-segment_bases sizes k 0 (omega (arith, length-segment_bases sizes)) in
    omega (arith, base_within sizes k))

-- the address by the bases is the address by the sizes
pub address_by-bases : (sizes : List ℕ) (p : Place) → p.seg < length sizes → address_by (segment_bases sizes) p ≡ address sizes p
unfolding address_by address
address_by-bases sizes p inside = ap (λ b. b + p.off) (get_or-segment_bases sizes p.seg 0 inside)

pub relocated_by-bases : (sizes : List ℕ) (v : Value) → HasBase (segment_bases sizes) v → relocated_by (segment_bases sizes) v ≡ relocated sizes v
unfolding relocated_by relocated
relocated_by-bases sizes (Num x) based = refl
relocated_by-bases sizes (Ptr p) based = let inside : p.seg < length (segment_bases sizes) = based in address_by-bases sizes p (omega (arith, length-segment_bases sizes))

-- no two held places share an address by the bases
pub bases-distinct : (m : RunMemory) (p q : Place) → IsMemory m → IsSome (cell m p) → IsSome (cell m q) → address_by (segment_bases m.sizes) p ≡ address_by (segment_bases m.sizes) q → p ≡ q
bases-distinct m p q is held_p held_q e =
    addresses-distinct m p q is held_p held_q
    (sym (address_by-bases m.sizes p (held_there m p is held_p)) ∙ (e ∙ address_by-bases m.sizes q (held_there m q is held_q)))
