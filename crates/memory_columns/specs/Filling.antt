-- The fillers of the memory columns: the cells between the accessed ones that are never accessed.
use Rattle.std.specs.Prelude.{ℕ, ◌≡◌, ◌<◌, ◌≤◌, ◌^◌, List, length, map, All, Any, unwrap_or}
use Rattle.goldilocks.specs.declared.Pair.{Pair}
use Rattle.casm_word.specs.Transition.{Memory}
use Rattle.sorted_lists.specs.Gaps.{gaps_between}
use Rattle.memory_columns.specs.declared.fault.SortFault.{SortFault}
use Rattle.memory_columns.specs.declared.fault.SortFault.TheVariants.{TooWide, Memory as WantOfMemory}

-- The least and the greatest address of the cells. Own.
pub record Spans (cells : List Pair) (least greatest : ℕ) : Type 0 where
  pub has_least : Any (λ x. x.addr.number ≡ least) cells
  pub has_greatest : Any (λ x. x.addr.number ≡ greatest) cells
  pub within : All (λ x. (least ≤ x.addr.number) × (x.addr.number ≤ greatest)) cells

-- The addresses from the least to the greatest that none of the cells has, ascending. Own.
unfoldable pub unaccessed : List Pair → ℕ → ℕ → List ℕ
unaccessed cells least greatest = gaps_between (λ x. x.addr.number) cells least greatest

-- A cell as two numbers, its address and its value. Own.
abbrev pub numbers_of : Pair → ℕ × ℕ
numbers_of x = (x.addr.number, x.value.number)

-- The cell that fills an address: with the memory's value there, or 0 where it has none. Own.
unfoldable pub filler_at : Memory → ℕ → ℕ × ℕ
filler_at m a = (a, unwrap_or (m a) 0)

-- The fillers are the cells at the addresses between the least and the greatest accessed one that are never accessed,
-- ascending. Own.
pub record AreFillers (m : Memory) (accesses fill : List Pair) : Type 0 where
  pub least : ℕ
  pub greatest : ℕ
  pub spans : Spans accesses least greatest
  pub fillers : map numbers_of fill ≡ map (filler_at m) (unaccessed accesses least greatest)

-- The most fillers. Own.
abbrev pub filler_limit : ℕ
filler_limit = 2 ^ 21

-- There is room for the fillers: they are at most as many as the limit. Own.
pub record HasRoom (accesses : List Pair) : Type 0 where
  pub least : ℕ
  pub greatest : ℕ
  pub spans : Spans accesses least greatest
  pub few : length (unaccessed accesses least greatest) ≤ filler_limit

-- Why there are no columns: the fillers would be more than the limit, between these addresses. Want of memory has no
-- cause, but there is room for the fillers then. Own.
unfoldable pub IsCause : List Pair → SortFault → Type 0
IsCause accesses (TooWide least greatest) =
    Spans accesses least.number greatest.number × (filler_limit < length (unaccessed accesses least.number greatest.number))
IsCause accesses WantOfMemory = HasRoom accesses
