-- A place after so many cells is a pointer's place, or there is none.
use Rattle.std.proofs.Common.{◌≢◌, ◌^◌, Bool, true, false, cond, nat_lt, Ok, Err}
use Rattle.goldilocks.specs.Field.{field_add}
use Rattle.segments.specs.declared.Place.{Place}
use Rattle.segments.specs.declared.Value.{Value}
use Rattle.segments.specs.declared.Value.TheVariants.{Num, Ptr}
use Rattle.segments.specs.declared.arithmetic.ArithFault.{ArithFault}
use Rattle.segments.specs.declared.arithmetic.ArithFault.TheVariants.{OffsetRange}
use Rattle.segments.specs.Values.{place, pointer, value_sum}
use Rattle.run_steps.specs.declared.cause.StepCause.TheVariants.{NotPointer}
use Rattle.run_steps.specs.Causes.{◌>>=◌, pointed, by_arithmetic}
use Rattle.run_steps.specs.Next.{place_sum}

choice-points : (b : Bool) (q : Place) (fault : ArithFault) → (by_arithmetic (cond b (Ok (Ptr q)) (Err fault)) >>= pointed NotPointer) ≢ Err NotPointer
unfolding by_arithmetic pointed
choice-points true q fault e = cc
choice-points false q fault e = cc

pub never-no_pointer : (p : Place) (v : Value) → place_sum p v ≢ Err NotPointer
unfolding place_sum value_sum pointer by_arithmetic
never-no_pointer p (Num y) e = choice-points (nat_lt (field_add p.off y.number) (2 ^ 32)) (place p.seg (field_add p.off y.number)) OffsetRange e
never-no_pointer p (Ptr q) e = cc
