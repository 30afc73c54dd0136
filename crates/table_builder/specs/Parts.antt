-- What the parts of the builder say to one another. The contract of `build` cites none of it. Own.
use Rattle.std.specs.Prelude.{◌≡◌, ◌++◌, List, map, Option, Some, None, Result, Ok, Err, IfSome}
use Rattle.goldilocks.specs.declared.Felt.{Felt}
use Rattle.goldilocks.specs.declared.Pair.{Pair}
use Rattle.goldilocks.specs.Felts.{felt}
use Rattle.casm_word.specs.Transition.{Memory}
use Rattle.sorted_lists.specs.Order.{in_order}
use Rattle.memory_columns.specs.Equations.{pair_cmp}
use Rattle.range_columns.specs.Equations.{felt_cmp}
use Rattle.range_columns.specs.Filling.{absent_values}
use Rattle.public_input.specs.Statement.{Statement}
use Rattle.table_builder.specs.Columns.{cells_at, free_addresses}
use Rattle.table_builder.specs.declared.faults.BuildFault.{BuildFault}
use Rattle.table_builder.specs.Findings.{Finding, finding_of}

-- A part finds nothing, and then what it gives is this; or its fault says what is found first, unless memory ran out.
-- Own.
abbrev pub FindsOrGives : {X : Type 0} → Option Finding → (X → Type 0) → Result X BuildFault → Type 0
FindsOrGives found Good (Ok x) = (found ≡ None) × Good x
FindsOrGives found Good (Err fault) = IfSome (finding_of fault) (λ told. found ≡ Some told)

-- These are the columns of the small values: the fillers are the values that are absent, and all are in order. Own.
pub record AreSmallColumns (public : Statement) (small fill sorted : List Felt) : Type 0 where
  pub fillers : fill ≡ map felt (absent_values small public.rc_min public.rc_max)
  pub in_turn : sorted ≡ in_order felt_cmp (small ++ fill)

-- These are the columns of the memory: the fillers lie at the free addresses, and all are in order. Own.
pub record AreMemoryColumns (m : Memory) (accessed fill sorted : List Pair) : Type 0 where
  pub fillers : fill ≡ cells_at m (free_addresses accessed)
  pub in_turn : sorted ≡ in_order pair_cmp (accessed ++ fill)
