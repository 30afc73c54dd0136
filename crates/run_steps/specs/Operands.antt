-- The instruction of a step, and where its operands lie, over values. "The whitepaper" is Cairo's, ePrint 2021/1063.
use Rattle.std.specs.Prelude.{◌+◌, Bool, ◌==◌, false, Option, Some, None, Result, Ok, Err, if◌then◌else◌}
use Rattle.casm_word.specs.declared.Flags.{Flags}
use Rattle.casm_word.specs.declared.Word.{Word}
use Rattle.casm_word.specs.declared.WordFault.{WordFault}
use Rattle.casm_word.specs.Word.{decoding}
use Rattle.casm_word.specs.Transition.{size}
use Rattle.segments.specs.declared.Place.{Place}
use Rattle.segments.specs.declared.RelState.{RelState}
use Rattle.segments.specs.declared.Value.{Value}
use Rattle.segments.specs.declared.Value.TheVariants.{Num, Ptr}
use Rattle.segments.specs.Values.{place, moved_place, value_sum, value_product}
use Rattle.run_steps.specs.declared.cause.Spot.TheVariants.{Dst, Op0, Op1}
use Rattle.run_steps.specs.declared.cause.StepCause.{StepCause}
use Rattle.run_steps.specs.declared.cause.StepCause.TheVariants.{NoInstruction, BadWord, NotPointer}
use Rattle.run_steps.specs.Causes.{◌>>=◌, in_range, known, pointed, by_arithmetic}

-- A number that has to be a word. Own.
unfoldable pub word_or_fault : Result Word WordFault → Result Word StepCause
word_or_fault (Ok w) = Ok w
word_or_fault (Err fault) = Err (BadWord fault)

-- The instruction in a cell, which has to hold a number that is a word. The whitepaper's state transition function.
unfoldable pub instruction_in : Option Value → Result Word StepCause
instruction_in (Some (Num x)) = word_or_fault (decoding x.number)
instruction_in (Some (Ptr p)) = Err NoInstruction
instruction_in None = Err NoInstruction

-- The place of the instruction after this one. The whitepaper's state transition function.
unfoldable pub place_after : Flags → RelState → Place
place_after f s = place s.pc.seg (s.pc.off + size f)

-- Where dst lies. The whitepaper's state transition function.
unfoldable pub dst_place : Word → RelState → Result Place StepCause
dst_place w s = in_range Dst (moved_place (if w.flags.dst_fp then s.fp else s.ap) w.off_dst)

-- Where op0 lies. The whitepaper's state transition function.
unfoldable pub op0_place : Word → RelState → Result Place StepCause
op0_place w s = in_range Op0 (moved_place (if w.flags.op0_fp then s.fp else s.ap) w.off_op0)

-- The place that op0 points to, where the cell of op0 lies here and this is known of it. Own.
unfoldable pub op0_pointed : Place → Option Value → Result Place StepCause
op0_pointed op0_at op0 = do
  v ← known op0_at op0
  pointed NotPointer v

-- What the place of op1 is counted from. The whitepaper's state transition function.
unfoldable pub op1_origin : Flags → RelState → Place → Option Value → Result Place StepCause
op1_origin f s op0_at op0 =
    if f.op1_imm then Ok s.pc
    else (if f.op1_fp then Ok s.fp
    else (if f.op1_ap then Ok s.ap
    else op0_pointed op0_at op0))

-- Where op1 lies. The whitepaper's state transition function.
unfoldable pub op1_place : Word → RelState → Place → Option Value → Result Place StepCause
op1_place w s op0_at op0 = do
  origin ← op1_origin w.flags s op0_at op0
  in_range Op1 (moved_place origin w.off_op1)

-- What the instruction computes of its operands. A conditional jump makes no use of it. The whitepaper's state
-- transition function.
unfoldable pub res_of : Flags → Value → Value → Result Value StepCause
res_of f op0 op1 =
    if f.res_add then by_arithmetic (value_sum op0 op1)
    else (if f.res_mul then by_arithmetic (value_product op0 op1)
    else Ok op1)

-- Whether a value is the number 0; no pointer is. Own.
unfoldable pub is_zero : Value → Bool
is_zero (Num x) = x.number == 0
is_zero (Ptr p) = false
