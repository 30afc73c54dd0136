-- Records of a fixed size in files: numbers, states, cells, rows and range rows, each as its numbers one after another.
use Rattle.std.specs.Prelude.{ℕ, zero, suc, List, [], ◌∷◌, take, drop, slice_index_or}
use Rattle.std.specs.Int.{w64, from_le_bytes}
use Rattle.goldilocks.specs.declared.Felt.{Felt}
use Rattle.goldilocks.specs.declared.Pair.{Pair}
use Rattle.goldilocks.specs.Felts.{felt}
use Rattle.casm_word.specs.declared.State.{State}
use Rattle.casm_word.specs.Transition.{Registers}
use Rattle.cpu_rows.specs.declared.Row.{Row}
use Rattle.cpu_rows.specs.Columns.{columns, values}
use Rattle.range_columns.specs.declared.RangeRow.{RangeRow}

-- The values of a row, in the order of its columns. Own.
abbrev pub row_values : Row → List ℕ
row_values r = values (columns r)

-- The values of a state: pc, ap and fp. Own.
abbrev pub state_values : State → List ℕ
state_values s = s.pc.number ∷ s.ap.number ∷ s.fp.number ∷ []

-- The values of registers as a trace file has them: ap, fp and pc. Own.
abbrev pub trace_state_values : Registers → List ℕ
trace_state_values s = s.ap ∷ s.fp ∷ s.pc ∷ []

-- The values of a range row: the value and its three limbs. Own.
abbrev pub range_row_values : RangeRow → List ℕ
range_row_values r = r.value.number ∷ r.l0.number ∷ r.l1.number ∷ r.l2.number ∷ []

-- The values of a pair: the address and the value. Own.
abbrev pub pair_values : Pair → List ℕ
pair_values p = p.addr.number ∷ p.value.number ∷ []

-- So many records of so many bytes each, from the front of the bytes on. Own.
unfoldable pub records_in : {X : Type 0} → ℕ → (List ℕ → X) → ℕ → List ℕ → List X
records_in size record_of zero bytes = []
records_in size record_of (suc n) bytes = record_of (take size bytes) ∷ records_in size record_of n (drop size bytes)

-- The value of eight bytes: their number, modulo p. Own.
unfoldable pub value_of_bytes : List ℕ → Felt
value_of_bytes bytes = felt (from_le_bytes w64 bytes)

-- Value k of a list of values, or 0 where there is none. Own.
abbrev pub value_at : List Felt → ℕ → Felt
value_at values k = slice_index_or values k (felt 0)

-- The values of these many bytes, eight for each. Own.
abbrev pub values_of_bytes : ℕ → List ℕ → List Felt
values_of_bytes n bytes = records_in 8 value_of_bytes n bytes

-- The row of 33 values, in the order of its columns. Own.
unfoldable pub row_of_values : List Felt → Row
row_of_values v = record {
  pc = value_at v 0;
  ap = value_at v 1;
  fp = value_at v 2;
  inst = value_at v 3;
  tilde = take 16 (drop 4 v);
  off_dst = value_at v 20;
  off_op0 = value_at v 21;
  off_op1 = value_at v 22;
  dst_addr = value_at v 23;
  op0_addr = value_at v 24;
  op1_addr = value_at v 25;
  dst = value_at v 26;
  op0 = value_at v 27;
  op1 = value_at v 28;
  mul = value_at v 29;
  res = value_at v 30;
  t0 = value_at v 31;
  t1 = value_at v 32;
}

-- The state of three values: pc, ap and fp. Own.
unfoldable pub state_of_values : List Felt → State
state_of_values v = record { pc = value_at v 0; ap = value_at v 1; fp = value_at v 2 }

-- The state of three values as a trace file has them: ap, fp and pc. Own.
unfoldable pub trace_state_of_values : List Felt → State
trace_state_of_values v = record { pc = value_at v 2; ap = value_at v 0; fp = value_at v 1 }

-- The range row of four values: the value and its three limbs. Own.
unfoldable pub range_row_of_values : List Felt → RangeRow
range_row_of_values v = record { value = value_at v 0; l0 = value_at v 1; l1 = value_at v 2; l2 = value_at v 3 }

-- The pair of two values: the address and the value. Own.
unfoldable pub pair_of_values : List Felt → Pair
pair_of_values v = record { addr = value_at v 0; value = value_at v 1 }

-- The row of 264 bytes. Own.
unfoldable pub row_of_bytes : List ℕ → Row
row_of_bytes bytes = row_of_values (values_of_bytes 33 bytes)

-- The state of 24 bytes. Own.
unfoldable pub state_of_bytes : List ℕ → State
state_of_bytes bytes = state_of_values (values_of_bytes 3 bytes)

-- The state of 24 bytes of a trace file. Own.
unfoldable pub trace_state_of_bytes : List ℕ → State
trace_state_of_bytes bytes = trace_state_of_values (values_of_bytes 3 bytes)

-- The range row of 32 bytes. Own.
unfoldable pub range_row_of_bytes : List ℕ → RangeRow
range_row_of_bytes bytes = range_row_of_values (values_of_bytes 4 bytes)

-- The pair of 16 bytes. Own.
unfoldable pub pair_of_bytes : List ℕ → Pair
pair_of_bytes bytes = pair_of_values (values_of_bytes 2 bytes)
