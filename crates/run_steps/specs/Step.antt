-- One step of a run: the memory grows by the cells that the step finds out, and the next state is the transition
-- function's in the greater memory.
use Rattle.std.specs.Prelude.{Option, Some, None, Result, Ok, Err}
use Rattle.casm_word.specs.declared.Flags.{Flags}
use Rattle.casm_word.specs.declared.Word.{Word}
use Rattle.segments.specs.declared.Place.{Place}
use Rattle.segments.specs.declared.RelState.{RelState}
use Rattle.segments.specs.declared.Value.{Value}
use Rattle.segments.specs.Memory.{RunMemory, cell}
use Rattle.builtin_segments.specs.declared.cells.CellCause.{CellCause}
use Rattle.builtin_segments.specs.Rules.{Rules, adding}
use Rattle.run_steps.specs.declared.cause.Spot.TheVariants.{Dst, Op0, Op1}
use Rattle.run_steps.specs.declared.cause.StepCause.{StepCause}
use Rattle.run_steps.specs.declared.cause.StepCause.TheVariants.{Cell}
use Rattle.run_steps.specs.declared.operands.Places.{Places}
use Rattle.run_steps.specs.declared.operands.Found.{Found}
use Rattle.run_steps.specs.Causes.{◌>>=◌, known}
use Rattle.run_steps.specs.Operands.{instruction_in, dst_place, op0_place, op1_place, res_of}
use Rattle.run_steps.specs.Deduction.{reads, computed, deduction, before_op1, deduced}
use Rattle.run_steps.specs.Next.{next_in}

-- Where the operands of an instruction lie. The row of the table that gives op0 in a call is asked before the place of op1
-- is computed. The whitepaper's state transition function; what a call knows of op0 is own.
unfoldable pub places_of : RunMemory → Word → RelState → Result Places StepCause
places_of m w s = do
  dst_at ← dst_place w s
  op0_at ← op0_place w s
  op0 ← deduced before_op1 Op0 (reads w.flags s (cell m dst_at) (cell m op0_at) None)
  op1_at ← op1_place w s op0_at op0
  Ok (record { dst = dst_at; op0 = op0_at; op1 = op1_at })

-- All operands, where they lie at these places and their cells hold this. The table is asked for op0 and op1 first, and
-- both have to be known then; and once what is computed of them is known, it is asked for dst. Own.
unfoldable pub operands_of : Flags → RelState → Places → Option Value → Option Value → Option Value → Result Found StepCause
operands_of f s at dst op0 op1 = do
  op0_sought ← deduced deduction Op0 (reads f s dst op0 op1)
  op1_sought ← deduced deduction Op1 (reads f s dst op0_sought op1)
  op0_found ← known at.op0 op0_sought
  op1_found ← known at.op1 op1_sought
  res ← res_of f op0_found op1_found
  dst_sought ← deduced deduction Dst (computed f s dst op0_found op1_found res)
  dst_found ← known at.dst dst_sought
  Ok (record { at = at; dst = dst_found; op0 = op0_found; op1 = op1_found })

-- The operands of a step: all its cells are read first, and then what isn't known is found out by the table of
-- deduction. Own.
unfoldable pub found_operands : RunMemory → RelState → Result Found StepCause
found_operands m s = do
  w ← instruction_in (cell m s.pc)
  at ← places_of m w s
  operands_of w.flags s at (cell m at.dst) (cell m at.op0) (cell m at.op1)

-- The memory with a cell of the step, or the cause against the cell at this place. Own.
unfoldable pub unless_refused : Place → Result RunMemory CellCause → Result RunMemory StepCause
unless_refused p (Ok n) = Ok n
unless_refused p (Err cause) = Err (Cell p cause)

-- The memory with a value that was found out, at a place of which this was known before the step; what was known stays.
-- Own.
unfoldable pub placed : Rules → RunMemory → Place → Option Value → Value → Result RunMemory StepCause
placed rules m p (Some held) v = Ok m
placed rules m p None v = unless_refused p (adding rules m p v)

-- The memory with all cells that were found out, in the order op0, op1, dst. Own.
unfoldable pub all_placed : Rules → RunMemory → Found → Result RunMemory StepCause
all_placed rules m found = do
  first ← placed rules m found.at.op0 (cell m found.at.op0) found.op0
  second ← placed rules first found.at.op1 (cell m found.at.op1) found.op1
  placed rules second found.at.dst (cell m found.at.dst) found.dst

-- The greater memory of a step. Own.
unfoldable pub greater : Rules → RunMemory → RelState → Result RunMemory StepCause
greater rules m s = do
  found ← found_operands m s
  all_placed rules m found

-- One step of a run: the greater memory and the next state, or the first cause against it. The whitepaper's state
-- transition function; how a memory grows, and the order of causes, are own.
unfoldable pub step : Rules → RunMemory → RelState → Result (RunMemory × RelState) StepCause
step rules m s = do
  n ← greater rules m s
  t ← next_in n s
  Ok (n, t)
