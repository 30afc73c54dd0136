-- The rows of a run: what stands in the trace table and in the range rows, as it follows from the memory. "The whitepaper"
-- is Cairo's, ePrint 2021/1063.
use Rattle.std.specs.Prelude.{ℕ, ◌-◌, List, map, length, Option, Some, if◌then◌else◌, unwrap_or, slice_index_or}
use Rattle.std.specs.List.{filter_map, range_with_len}
use Rattle.std.specs.Result.{result_ok}
use Rattle.goldilocks.specs.Field.{prime, field_add, field_pow}
use Rattle.goldilocks.specs.Felts.{felt}
use Rattle.casm_word.specs.declared.Flags.{Flags}
use Rattle.casm_word.specs.declared.State.{State}
use Rattle.casm_word.specs.Word.{decoding}
use Rattle.casm_word.specs.Transition.{◌>>=◌, Memory, Registers, dst_address, op0_address, op1_address, res}
use Rattle.casm_word.specs.Run.{steps}
use Rattle.cpu_rows.specs.declared.Row.{Row}
use Rattle.cpu_rows.specs.Columns.{Columns}
use Rattle.cpu_rows.specs.Steps.{row_of}
use Rattle.range_columns.specs.declared.RangeRow.{RangeRow}
use Rattle.range_columns.specs.Limbs.{limb_at}
use Rattle.public_input.specs.Statement.{Statement}

-- ---- the states at the ends of a run

-- The state of a list of no states. Own.
abbrev pub no_state : Registers
no_state = record { pc = 0; ap = 0; fp = 0 }

-- The first of the states. Own.
abbrev pub first_of : List Registers → Registers
first_of states = slice_index_or states 0 no_state

-- The last of the states. Own.
abbrev pub last_of : List Registers → Registers
last_of states = slice_index_or states (length states - 1) no_state

-- The registers as a state. Own.
abbrev pub as_state : Registers → State
as_state s = record { pc = felt s.pc; ap = felt s.ap; fp = felt s.fp }

-- ---- the rows of the steps

-- The inverse of a number, or 0 for 0: its power p - 2. Own.
unfoldable pub inverse_or_zero : ℕ → ℕ
inverse_or_zero x = field_pow x (prime - 2)

-- What stands in the column res: what the instruction computes, and under a conditional jump the inverse of dst, or 0
-- where dst is 0. The whitepaper's res, with a witness that dst isn't 0.
abbrev pub res_column : Flags → ℕ → ℕ → ℕ → ℕ
res_column f dst op0 op1 = if f.pc_jnz then inverse_or_zero dst else res f op0 op1

-- The row of the step from a state, where the memory has the cells that the step reads. The whitepaper's columns of the
-- trace.
unfoldable pub row_at : Memory → Registers → Option Columns
row_at m s = do
  number ← m s.pc
  w ← result_ok (decoding number)
  dst ← m (dst_address w s)
  op0 ← m (op0_address w s)
  op1 ← m (op1_address w s op0)
  Some (row_of s number w dst op0 op1 (res_column w.flags dst op0 op1))

-- The numbers of a row as a row. Own.
unfoldable pub as_row : Columns → Row
as_row c = record {
  pc = felt c.pc;
  ap = felt c.ap;
  fp = felt c.fp;
  inst = felt c.inst;
  tilde = map felt c.tilde;
  off_dst = felt c.off_dst;
  off_op0 = felt c.off_op0;
  off_op1 = felt c.off_op1;
  dst_addr = felt c.dst_addr;
  op0_addr = felt c.op0_addr;
  op1_addr = felt c.op1_addr;
  dst = felt c.dst;
  op0 = felt c.op0;
  op1 = felt c.op1;
  mul = felt c.mul;
  res = felt c.res;
  t0 = felt c.t0;
  t1 = felt c.t1;
}

-- The rows of a run: that of each step, from its first state on. A step that has no row is passed over. The whitepaper's
-- trace.
unfoldable pub rows_of : Memory → List Registers → List Row
rows_of m states = map as_row (filter_map (λ step. row_at m step.0) (steps states))

-- ---- the range rows

-- Where a range cell lies, counted modulo p. Own.
abbrev pub range_address : Statement → ℕ → ℕ
range_address public i = field_add public.range_begin.number i

-- A number with its three lowest digits to the base 2^16. Own.
unfoldable pub limb_row : ℕ → RangeRow
limb_row number = record { value = felt number; l0 = felt (limb_at 0 number); l1 = felt (limb_at 1 number); l2 = felt (limb_at 2 number) }

-- The range rows: each range cell with its limbs. A missing cell counts as 0. The whitepaper's builtin for range checks.
unfoldable pub range_rows_of : Statement → Memory → List RangeRow
range_rows_of public m = map (λ i. limb_row (unwrap_or (m (range_address public i)) 0)) (range_with_len 0 public.range_count)
