-- What stands in the way of tables: how a run, its memory, its program and its public input disagree.
use Rattle.std.specs.Prelude.{ℕ, ◌≡◌, ◌-◌, ◌+◌, ◌==◌, nat_lt, List, [], ◌∷◌, ◌++◌, map, length, take, All, slice_get, Option, Some, None, option_map, if◌then◌else◌}
use Rattle.std.specs.List.{range_with_len}
use Rattle.goldilocks.specs.declared.Pair.{Pair}
use Rattle.casm_word.specs.Transition.{Memory, Registers, Outcome, outcome_of}
use Rattle.casm_word.specs.Run.{first_refused}
use Rattle.goldilocks.specs.Felts.{numbers}
use Rattle.memory_columns.specs.declared.fault.SortFault.{SortFault}
use Rattle.memory_columns.specs.declared.fault.SortFault.TheVariants as sorting
use Rattle.memory_columns.specs.Filling.{filler_limit}
use Rattle.program_file.specs.Listing.{Listing}
use Rattle.public_input.specs.Statement.{Statement}
use Rattle.goldilocks.specs.Cells.{addresses}
use Rattle.range_columns.specs.Limbs.{limb_limit, range_bound}
use Rattle.access_lists.specs.Accesses.{program_cells}
use Rattle.table_builder.specs.declared.faults.Field.{Field}
use Rattle.table_builder.specs.declared.faults.Field.TheVariants.{Steps, PcFirst, ApFirst, FpFirst, PcLast, ApLast, Cell, RcMin, RcMax}
use Rattle.table_builder.specs.declared.faults.BuildFault.{BuildFault}
use Rattle.table_builder.specs.declared.faults.BuildFault.TheVariants as fault
use Rattle.table_builder.specs.Rows.{first_of, last_of, range_address}
use Rattle.table_builder.specs.Columns.{least_of, greatest_of, reads, run_small_values, free_addresses}

-- What is found, in numbers. The names are those of the faults of `build`. Own.
pub data Finding : Type 0 where
  -- what is stated of this, and what is found
  Mismatch : (field : Field) → (stated found : ℕ) → Finding
  -- the first step that isn't the transition, and what the transition comes to in its place
  Step : (step : ℕ) → (result : Outcome) → Finding
  -- a cell that is missing, by its address
  NoCell : (address : ℕ) → Finding
  -- a range cell of 2^48 or more
  RangeWidth : (row : ℕ) → Finding
  -- more addresses between the least and the greatest accessed one that are never accessed than there may be fillers
  TooWide : (least greatest : ℕ) → Finding

-- What a fault of `build` says, in numbers; want of memory says nothing. Own.
unfoldable pub finding_of : BuildFault → Option Finding
finding_of (fault.Mismatch field stated found) = Some (Mismatch field stated.number found.number)
finding_of (fault.Step step result) = Some (Step step (outcome_of result))
finding_of (fault.NoCell address) = Some (NoCell address.number)
finding_of (fault.RangeWidth row) = Some (RangeWidth row)
finding_of (fault.TooWide least greatest) = Some (TooWide least.number greatest.number)
finding_of fault.Memory = None

-- The fault of `build` where sorting the accesses has this fault. Own.
abbrev pub build_fault : SortFault → BuildFault
build_fault (sorting.TooWide least greatest) = fault.TooWide least greatest
build_fault sorting.Memory = fault.Memory

-- The first thing that is found. Own.
abbrev pub first_found : List (Option Finding) → Option Finding
first_found [] = None
first_found (Some found ∷ later) = Some found
first_found (None ∷ later) = first_found later

-- ---- one question after another

-- What is stated has to be what is found. Own.
abbrev pub differs : Field → ℕ → ℕ → Option Finding
differs field stated found = if stated == found then None else Some (Mismatch field stated found)

-- The number of steps, the first state, and the last pc and ap have to be those of the program and the public input.
-- Own.
unfoldable pub end_findings : Listing → Statement → List Registers → List (Option Finding)
end_findings program public states =
    differs Steps public.steps (length states - 1)
    ∷ differs PcFirst (1 + program.start) (first_of states).pc
    ∷ differs ApFirst public.ap_first.number (first_of states).ap
    ∷ differs FpFirst public.ap_first.number (first_of states).fp
    ∷ differs PcLast (1 + program.end) (last_of states).pc
    ∷ differs ApLast public.ap_last.number (last_of states).ap
    ∷ []

-- Each step has to be the transition. The whitepaper's machine with a read-only memory.
unfoldable pub step_finding : Memory → List Registers → Option Finding
step_finding m states = option_map (λ refused. Step refused.0 refused.1) (first_refused m states)

-- The memory has to have this cell: what it has at the cell's address, if anything, is the second argument. Own.
abbrev pub cell_finding : Pair → Option ℕ → Option Finding
cell_finding x None = Some (NoCell x.addr.number)
cell_finding x (Some found) = differs (Cell x.addr) x.value.number found

-- The memory has to have the program's words, and then the public cells. The whitepaper's public memory.
unfoldable pub cell_findings : Listing → Statement → Memory → List (Option Finding)
cell_findings program public m = map (λ x. cell_finding x (m x.addr.number)) (program_cells program.words ++ public.cells)

-- Range cell i, at this address, has to be there and below 2^48: what the memory has there is the third argument. Own.
abbrev pub range_finding : ℕ → ℕ → Option ℕ → Option Finding
range_finding i address None = Some (NoCell address)
range_finding i address (Some number) = if nat_lt number (range_bound limb_limit) then None else Some (RangeWidth i)

-- Each range cell has to be there, and below 2^48. The whitepaper's builtin for range checks.
unfoldable pub range_findings : Statement → Memory → List (Option Finding)
range_findings public m = map (λ i. range_finding i (range_address public i) (m (range_address public i))) (range_with_len 0 public.range_count)

-- No offset and no limb may lie below the stated least value or above the stated greatest. Own.
unfoldable pub limit_findings : Statement → List ℕ → List (Option Finding)
limit_findings public small =
    (if nat_lt (least_of small) public.rc_min then Some (Mismatch RcMin public.rc_min (least_of small)) else None)
    ∷ (if nat_lt public.rc_max (greatest_of small) then Some (Mismatch RcMax public.rc_max (greatest_of small)) else None)
    ∷ []

-- Between the least and the greatest accessed address there may be no more than 2^21 that are never accessed. Own.
unfoldable pub width_finding : List Pair → Option Finding
width_finding accessed =
    if nat_lt filler_limit (length (free_addresses accessed))
    then Some (TooWide (least_of (addresses accessed)) (greatest_of (addresses accessed))) else None

-- All that is asked, in its order. First come the ends of the run and its steps. Then come the program's words, the
-- public cells, the range cells, the least and the greatest small value, and how far the accesses reach. Own.
unfoldable pub findings : Listing → Statement → Memory → List Registers → List (Option Finding)
findings program public m states =
    end_findings program public states
    ++ (step_finding m states ∷ [])
    ++ cell_findings program public m
    ++ range_findings public m
    ++ limit_findings public (numbers (run_small_values public m states))
    ++ (width_finding (reads program public m states) ∷ [])

-- Something is found at a place of what is asked, and nothing before it: this is what is found first. Own.
pub record FoundFirst (asked : List (Option Finding)) (found : Finding) : Type 0 where
  pub place : ℕ
  pub here : slice_get asked place ≡ Some (Some found)
  pub before : All (λ earlier. earlier ≡ None) (take place asked)
