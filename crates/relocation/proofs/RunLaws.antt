-- What holds of relocated runs.
use Rattle.std.proofs.Common.{◌≡◌, ℕ, zero, suc, ◌+◌, ◌<◌, ◌≤◌, List, [], ◌∷◌, map, length, All, Option, Some, None, refl, sym, ◌∙◌, subst, arith}
use Rattle.std.specs.Prelude.{IsSome, slice_get}
use Rattle.std.specs.List.{AllByRecursion, range_with_len}
use Rattle.std.specs.List.Sorted.{IsStrictlyIncreasing, IsStrictlySortedBy}
use Rattle.std.specs.Ordering.{nat_cmp}
use Rattle.std.specs.declared.cmp.Ordering.TheVariants.{Less}
use Rattle.std.proofs.lemmas.List.{length-map}
use Rattle.std.proofs.lemmas.List.FromFn.{length-map-range_with_len}
use Rattle.std.proofs.lemmas.List.Elements.{All-from_recursion, recursion_from_All}
use Rattle.std.proofs.lemmas.Map.Keys.{IsStrictlyIncreasing-from_sorted}
use Rattle.goldilocks.specs.Cells.{memory_of}
use Rattle.goldilocks.proofs.Cells.{memory_of-low}
use Rattle.casm_word.specs.Transition.{Registers}
use Rattle.casm_word.specs.Run.{LegalRun}
use Rattle.segments.specs.declared.Place.{Place}
use Rattle.segments.specs.declared.RelState.{RelState}
use Rattle.segments.specs.declared.Value.{Value}
use Rattle.segments.specs.Values.{place}
use Rattle.segments.specs.Memory.{RunMemory, IsMemory, cell, total_limit}
use Rattle.segments.specs.Relocation.{address}
use Rattle.program_file.specs.declared.Builtins.{Builtins}
use Rattle.builtin_segments.specs.declared.layout.Stops.{Stops}
use Rattle.builtin_segments.specs.Layout.{execution, builtin_count}
use Rattle.builtin_segments.specs.Start.{start_stack}
use Rattle.builtin_segments.proofs.StartMemory.{stack-length}
use Rattle.trace_files.specs.TraceFile.{IsState}
use Rattle.run_steps.specs.ValueRun.{ValueRun}
use Rattle.run_steps.proofs.Relocated.{run_at}
use Rattle.relocation.specs.Relocated.{relocated_cells, relocated_run, shown_places, IsHeldCell}
use Rattle.relocation.proofs.CellMemory.{holds_relocated, every_cell, cell-address, cell-value, address_low, less}
use Rattle.relocation.proofs.RunInField.{run_low}

pub held_cells : (m : RunMemory) → IsMemory m → All (IsHeldCell m) (relocated_cells m)
held_cells m is = every_cell m (IsHeldCell m) (λ p v there. (p, v, there, cell-address m p v is there, cell-value m p v is there))

pub low_cells : (m : RunMemory) → IsMemory m → All (λ c. c.addr.number ≤ total_limit) (relocated_cells m)
low_cells m is = every_cell m (λ c. c.addr.number ≤ total_limit) (λ p v there. omega (arith, cell-address m p v is there, address_low m p v is there))

-- the addresses of cells of the execution segment, one behind the other
abbrev stack_addresses : List ℕ → ℕ → ℕ → List ℕ
stack_addresses sizes first count = map (address sizes) (map (place execution) (range_with_len first count))

further_on : (sizes : List ℕ) (a b : ℕ) → a < b → address sizes (place execution a) < address sizes (place execution b)
unfolding address
further_on sizes a b later = omega arith

all_above : (sizes : List ℕ) (a first count : ℕ) → a < first → AllByRecursion (λ n. nat_cmp (address sizes (place execution a)) n ≡ Less) (stack_addresses sizes first count)
all_above sizes a first zero below = tt
all_above sizes a first (suc count) below = (
  less (address sizes (place execution a)) (address sizes (place execution first)) (further_on sizes a first below),
  all_above sizes a (first + 1) count (omega arith),
)

they_ascend : (sizes : List ℕ) (first count : ℕ) → IsStrictlySortedBy nat_cmp (stack_addresses sizes first count)
unfolding IsStrictlySortedBy
they_ascend sizes first zero = tt
they_ascend sizes first (suc count) = (all_above sizes first (first + 1) count (omega arith), they_ascend sizes (first + 1) count)

pub shown_ascend : (b : Builtins) (stops : Stops) (m : RunMemory) (states : List RelState) → IsStrictlyIncreasing (relocated_run b stops m states).shown
unfolding relocated_run shown_places
shown_ascend b stops m states =
    IsStrictlyIncreasing-from_sorted (stack_addresses m.sizes 0 (length (start_stack b))) (they_ascend m.sizes 0 (length (start_stack b)))

-- as many as there are builtins are shown, and two more
pub shown-count : (b : Builtins) (stops : Stops) (m : RunMemory) (states : List RelState) → length (relocated_run b stops m states).shown ≡ 2 + builtin_count b
unfolding relocated_run shown_places
shown-count b stops m states =
    length-map (map (place execution) (range_with_len 0 (length (start_stack b)))) (address m.sizes)
    ∙ (length-map-range_with_len (place execution) 0 (length (start_stack b)) ∙ stack-length b)

-- a held cell's address has a value
address_held : (m : RunMemory) (p : Place) (o : Option Value) → IsMemory m → cell m p ≡ o → IsSome o → IsSome (memory_of (relocated_cells m) (address m.sizes p))
address_held m p (Some v) is there some = subst (λ (o : Option ℕ). IsSome o) (sym ((holds_relocated m is).holds p v there)) refl
address_held m p None is there some = absurd (cc)

addresses_held : (m : RunMemory) (places : List Place) → IsMemory m → AllByRecursion (λ p. IsSome (cell m p)) places → AllByRecursion (λ a. IsSome (memory_of (relocated_cells m) a)) (map (address m.sizes) places)
addresses_held m [] is held = tt
addresses_held m (p ∷ places) is held = (address_held m p (cell m p) is refl held.0, addresses_held m places is held.1)

pub shown_held : (b : Builtins) (stops : Stops) (m : RunMemory) (states : List RelState) → IsMemory m → All (λ p. IsSome (cell m p)) (shown_places b) → All (λ a. IsSome (memory_of (relocated_cells m) a)) (relocated_run b stops m states).shown
unfolding relocated_run
shown_held b stops m states is held =
    All-from_recursion (λ a. IsSome (memory_of (relocated_cells m) a)) (map (address m.sizes) (shown_places b))
    (addresses_held m (shown_places b) is (recursion_from_All (λ p. IsSome (cell m p)) (shown_places b) held))

pub run_in_field : (m : RunMemory) (states : List Registers) → LegalRun (memory_of (relocated_cells m)) states → ((first : Registers) → slice_get states 0 ≡ Some first → IsState first) → All IsState states
run_in_field m states = run_low (memory_of (relocated_cells m)) states (memory_of-low (relocated_cells m))

-- a run over values is a legal run in the relocated cells
pub legal_in_cells : (b : Builtins) (stops : Stops) (m : RunMemory) (states : List RelState) → IsMemory m → ValueRun m states → LegalRun (memory_of (relocated_run b stops m states).cells) (relocated_run b stops m states).states
unfolding relocated_run
legal_in_cells b stops m states is run = run_at m (memory_of (relocated_cells m)) states is (holds_relocated m is) run
