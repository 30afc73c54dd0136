-- What the table of deduction gives for each operand, case by case. The code finds operands in this form. A law says
-- that they are those of the table (`deduction_laws`).
use Rattle.std.specs.Prelude.{not, Option, Some, None, Result, Ok, Err, if◌then◌else◌}
use Rattle.casm_word.specs.declared.Flags.{Flags}
use Rattle.casm_word.specs.declared.Word.{Word}
use Rattle.segments.specs.declared.Place.{Place}
use Rattle.segments.specs.declared.RelState.{RelState}
use Rattle.segments.specs.declared.Value.{Value}
use Rattle.segments.specs.declared.Value.TheVariants.{Ptr}
use Rattle.segments.specs.Memory.{RunMemory, cell}
use Rattle.run_steps.specs.declared.cause.StepCause.{StepCause}
use Rattle.run_steps.specs.declared.cause.StepCause.TheVariants.{Unknown}
use Rattle.run_steps.specs.declared.operands.Places.{Places}
use Rattle.run_steps.specs.declared.operands.Found.{Found}
use Rattle.run_steps.specs.Causes.{◌>>=◌, known}
use Rattle.run_steps.specs.Operands.{instruction_in, place_after, dst_place, op0_place, op1_place, res_of}
use Rattle.run_steps.specs.Deduction.{known_difference, known_quotient}

-- An unknown op0 of a call is the pointer to the instruction after it. Own.
unfoldable pub called_op0 : Flags → RelState → Option Value → Option Value
called_op0 f s (Some op0) = Some op0
called_op0 f s None = if f.op_call then Some (Ptr (place_after f s)) else None

-- An unknown op0 of an assertion is dst - op1 where the instruction adds, and dst / op1 where it multiplies, as far as
-- these are known. Own.
unfoldable pub sought_op0 : Flags → Option Value → Option Value → Option Value → Result (Option Value) StepCause
sought_op0 f dst (Some op0) op1 = Ok (Some op0)
sought_op0 f dst None op1 =
    if not f.op_assert then Ok None
    else (if f.res_add then known_difference dst op1
    else (if f.res_mul then Ok (known_quotient dst op1)
    else Ok None))

-- An unknown op1 of an assertion is dst - op0 where the instruction adds, dst / op0 where it multiplies, and dst where
-- it does neither, as far as these are known. Own.
unfoldable pub sought_op1 : Flags → Option Value → Option Value → Option Value → Result (Option Value) StepCause
sought_op1 f dst op0 (Some op1) = Ok (Some op1)
sought_op1 f dst op0 None =
    if not f.op_assert then Ok None
    else (if f.res_add then known_difference dst op0
    else (if f.res_mul then Ok (known_quotient dst op0)
    else Ok dst))

-- An unknown dst is what is computed in an assertion, and the pointer fp in a call; else it stays unknown. Own.
unfoldable pub found_dst : Flags → RelState → Place → Value → Option Value → Result Value StepCause
found_dst f s dst_at res (Some dst) = Ok dst
found_dst f s dst_at res None =
    if f.op_assert then Ok res
    else (if f.op_call then Ok (Ptr s.fp)
    else Err (Unknown dst_at))

-- Where the operands of an instruction lie, as `places_of` of the definition of a step. Own.
unfoldable pub places_by_cases : RunMemory → Word → RelState → Result Places StepCause
places_by_cases m w s = do
  dst_at ← dst_place w s
  op0_at ← op0_place w s
  op1_at ← op1_place w s op0_at (called_op0 w.flags s (cell m op0_at))
  Ok (record { dst = dst_at; op0 = op0_at; op1 = op1_at })

-- All operands, where they lie at these places and this is known of dst, op0 and op1, as `operands_of`. Own.
unfoldable pub operands_by_cases : Flags → RelState → Places → Option Value → Option Value → Option Value → Result Found StepCause
operands_by_cases f s at dst op0 op1 = do
  op0_sought ← sought_op0 f dst op0 op1
  op1_sought ← sought_op1 f dst op0_sought op1
  op0_found ← known at.op0 op0_sought
  op1_found ← known at.op1 op1_sought
  res ← res_of f op0_found op1_found
  dst_found ← found_dst f s at.dst res dst
  Ok (record { at = at; dst = dst_found; op0 = op0_found; op1 = op1_found })

-- The operands of a step, as `found_operands`. Own.
unfoldable pub found_by_cases : RunMemory → RelState → Result Found StepCause
found_by_cases m s = do
  w ← instruction_in (cell m s.pc)
  at ← places_by_cases m w s
  operands_by_cases w.flags s at (cell m at.dst) (called_op0 w.flags s (cell m at.op0)) (cell m at.op1)
