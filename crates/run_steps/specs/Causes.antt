-- How a step goes on from one part to the next, and why a part may refuse it.
use Rattle.std.specs.Prelude.{Bool, true, false, Option, Some, None, Result, Ok, Err, ⊤}
use Rattle.segments.specs.declared.Place.{Place}
use Rattle.segments.specs.declared.Value.{Value}
use Rattle.segments.specs.declared.Value.TheVariants.{Num, Ptr}
use Rattle.segments.specs.declared.arithmetic.ArithFault.{ArithFault}
use Rattle.run_steps.specs.declared.cause.Spot.{Spot}
use Rattle.run_steps.specs.declared.cause.StepCause.{StepCause}
use Rattle.run_steps.specs.declared.cause.StepCause.TheVariants.{AddressRange, Unknown, Arith}

-- One part after another: the first that is refused decides. `do` reads the parts line by line. Own.
infixl 10 ◌>>=◌
abbrev pub ◌>>=◌ : {A B C : Type 0} → Result A C → (A → Result B C) → Result B C
Ok a >>= go_on = go_on a
Err cause >>= go_on = Err cause

-- The step is refused for this cause, unless the test holds. Own.
abbrev pub demand : StepCause → Bool → Result ⊤ StepCause
demand cause true = Ok tt
demand cause false = Err cause

-- A place whose offset has to be one from 0 to 2^32 - 1. Own.
unfoldable pub in_range : Spot → Option Place → Result Place StepCause
in_range spot (Some p) = Ok p
in_range spot None = Err (AddressRange spot)

-- The value of a cell, which has to be known. Own.
unfoldable pub known : Place → Option Value → Result Value StepCause
known p (Some v) = Ok v
known p None = Err (Unknown p)

-- The place that a value points to; it has to be a pointer. Own.
unfoldable pub pointed : StepCause → Value → Result Place StepCause
pointed cause (Ptr p) = Ok p
pointed cause (Num x) = Err cause

-- The value that arithmetic gives. Own.
unfoldable pub by_arithmetic : Result Value ArithFault → Result Value StepCause
by_arithmetic (Ok v) = Ok v
by_arithmetic (Err fault) = Err (Arith fault)
