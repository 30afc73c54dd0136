-- The transition function over values: what one step does to the three registers in a memory that is only read. "The
-- whitepaper" is Cairo's, ePrint 2021/1063.
use Rattle.std.specs.Prelude.{Bool, not, ◌&&◌, ◌||◌, Some, Result, Ok, if◌then◌else◌}
use Rattle.casm_word.specs.declared.Flags.{Flags}
use Rattle.segments.specs.declared.Place.{Place}
use Rattle.segments.specs.declared.RelState.{RelState}
use Rattle.segments.specs.declared.Value.{Value}
use Rattle.segments.specs.declared.Value.TheVariants.{Ptr}
use Rattle.segments.specs.Values.{number, same_value, value_sum}
use Rattle.segments.specs.Memory.{RunMemory, cell}
use Rattle.run_steps.specs.declared.cause.StepCause.{StepCause}
use Rattle.run_steps.specs.declared.cause.StepCause.TheVariants.{NotPointer, CallPc, CallFp, NotEqual, PcNotPointer, FpNotPointer}
use Rattle.run_steps.specs.Causes.{◌>>=◌, demand, known, pointed, by_arithmetic}
use Rattle.run_steps.specs.Operands.{instruction_in, place_after, dst_place, op0_place, op1_place, res_of, is_zero}

-- The place that is so many cells after a place. A pointer and a number have a pointer as their sum, or none, so the sum
-- is never refused as `NotPointer` (`sum_law`). Own.
unfoldable pub place_sum : Place → Value → Result Place StepCause
place_sum p v = do
  sum ← by_arithmetic (value_sum (Ptr p) v)
  pointed NotPointer sum

-- The next pc. The whitepaper's state transition function.
unfoldable pub next_pc : Flags → RelState → Value → Value → Value → Result Place StepCause
next_pc f s dst op1 res =
    if f.pc_abs then pointed PcNotPointer res
    else (if f.pc_rel then place_sum s.pc res
    else (if f.pc_jnz && not (is_zero dst) then place_sum s.pc op1
    else Ok (place_after f s)))

-- The next ap. The whitepaper's state transition function.
unfoldable pub next_ap : Flags → RelState → Value → Result Place StepCause
next_ap f s res =
    if f.op_call then place_sum s.ap (number 2)
    else (if f.ap_add then place_sum s.ap res
    else (if f.ap_add1 then place_sum s.ap (number 1)
    else Ok s.ap))

-- The next fp. The whitepaper's state transition function.
unfoldable pub next_fp : Flags → RelState → Value → Result Place StepCause
next_fp f s dst =
    if f.op_call then place_sum s.ap (number 2)
    else (if f.op_ret then pointed FpNotPointer dst
    else Ok s.fp)

-- A call demands that op0 is the pointer to return to. The whitepaper's state transition function.
unfoldable pub has_return_pc : Flags → RelState → Value → Bool
has_return_pc f s op0 = not f.op_call || same_value op0 (Ptr (place_after f s))

-- A call demands that dst is the caller's fp. The whitepaper's state transition function.
unfoldable pub has_caller_fp : Flags → RelState → Value → Bool
has_caller_fp f s dst = not f.op_call || same_value dst (Ptr s.fp)

-- An assertion has dst equal to what is computed. The whitepaper's state transition function.
unfoldable pub meets_assertion : Flags → Value → Value → Bool
meets_assertion f dst res = not f.op_assert || same_value dst res

-- The next state with these operands, or the first cause against it: what is computed, what the opcode demands, and then
-- the three registers. The whitepaper's state transition function; the order is own.
unfoldable pub next_by : Flags → RelState → Value → Value → Value → Result RelState StepCause
next_by f s dst op0 op1 = do
  res ← res_of f op0 op1
  _ ← demand CallPc (has_return_pc f s op0)
  _ ← demand CallFp (has_caller_fp f s dst)
  _ ← demand NotEqual (meets_assertion f dst res)
  pc ← next_pc f s dst op1 res
  ap ← next_ap f s res
  fp ← next_fp f s dst
  Ok (record { pc = pc; ap = ap; fp = fp })

-- The transition function, read in a memory of values: its cells have to be there. The whitepaper's state transition
-- function.
unfoldable pub next_in : RunMemory → RelState → Result RelState StepCause
next_in m s = do
  w ← instruction_in (cell m s.pc)
  dst_at ← dst_place w s
  dst ← known dst_at (cell m dst_at)
  op0_at ← op0_place w s
  op0 ← known op0_at (cell m op0_at)
  op1_at ← op1_place w s op0_at (Some op0)
  op1 ← known op1_at (cell m op1_at)
  next_by w.flags s dst op0 op1
