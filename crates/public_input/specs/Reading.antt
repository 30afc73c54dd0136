-- What is read from bytes, or the first fault: line by line, in the order in which the faults count.
use Rattle.std.specs.Prelude.{ℕ, ◌-◌, List, [], length, Bool, true, nat_lt, nat_le, Option, Some, None, slice_get, Result, Ok}
use Rattle.goldilocks.specs.declared.Felt.{Felt}
use Rattle.goldilocks.specs.declared.Pair.{Pair}
use Rattle.serde_json.specs.Data.{Data}
use Rattle.json_fields.specs.Values.{json_of, whole_at, felt_at, list_at, pair_in}
use Rattle.json_fields.specs.Faults.{needed, demand, ◌>>=◌, in_turn}
use Rattle.public_input.specs.declared.fault.PublicKey.{PublicKey}
use Rattle.public_input.specs.declared.fault.PublicKey.TheVariants.{Steps, ApFirst, ApLast, RcMin, RcMax, RangeBegin, RangeCount, Cells}
use Rattle.public_input.specs.declared.fault.PublicFault.{PublicFault}
use Rattle.public_input.specs.declared.fault.PublicFault.TheVariants.{Json, Key, Range, TooMany, Cell, Order}
use Rattle.public_input.specs.Shown.{key_name}
use Rattle.public_input.specs.Statement.{Statement}
use Rattle.public_input.specs.Limits.{step_limit, small_limit, range_cell_limit, public_cell_limit}

-- The whole number under a key. Own.
unfoldable pub whole_under : PublicKey → Data → Result ℕ PublicFault
whole_under key top = needed (Key key) (whole_at (key_name key) top)

-- The field value under a key. Own.
unfoldable pub felt_under : PublicKey → Data → Result Felt PublicFault
felt_under key top = needed (Key key) (felt_at (key_name key) top)

-- The number of steps. Own.
unfoldable pub steps_in : Data → Result ℕ PublicFault
steps_in top = do
  steps ← whole_under Steps top
  _ ← demand (Range Steps) (nat_lt 0 steps)
  _ ← demand TooMany (nat_le steps step_limit)
  Ok steps

-- The greatest small value, beside the least. Own.
unfoldable pub rc_max_in : ℕ → Data → Result ℕ PublicFault
rc_max_in rc_min top = do
  rc_max ← whole_under RcMax top
  _ ← demand (Range RcMax) (nat_lt rc_max small_limit)
  _ ← demand (Range RcMin) (nat_le rc_min rc_max)
  Ok rc_max

-- The number of range cells. Own.
unfoldable pub range_count_in : Data → Result ℕ PublicFault
range_count_in top = do
  range_count ← whole_under RangeCount top
  _ ← demand TooMany (nat_le range_count range_cell_limit)
  Ok range_count

-- Whether an address is above that of the cell before, where there is one. Own.
unfoldable pub is_above : ℕ → Option Pair → Bool
is_above addr None = true
is_above addr (Some before) = nat_lt before.addr.number addr

-- The cell of an entry, after the cells of the entries before. Own.
unfoldable pub next_cell : List Pair → Data → Result Pair PublicFault
next_cell before entry = do
  cell ← needed (Cell (length before)) (pair_in entry)
  _ ← demand (Order (length before)) (is_above cell.addr.number (slice_get before (length before - 1)))
  Ok cell

-- The cells, one entry after another. Own.
unfoldable pub cells_in : Data → Result (List Pair) PublicFault
cells_in top = do
  entries ← needed (Key Cells) (list_at (key_name Cells) top)
  _ ← demand TooMany (nat_le (length entries) public_cell_limit)
  in_turn next_cell [] entries

-- What the value of a JSON text says, or the first fault. Own.
unfoldable pub statement_in : Data → Result Statement PublicFault
statement_in top = do
  steps ← steps_in top
  ap_first ← felt_under ApFirst top
  ap_last ← felt_under ApLast top
  rc_min ← whole_under RcMin top
  rc_max ← rc_max_in rc_min top
  range_begin ← felt_under RangeBegin top
  range_count ← range_count_in top
  cells ← cells_in top
  Ok (record {
    steps = steps;
    ap_first = ap_first;
    ap_last = ap_last;
    rc_min = rc_min;
    rc_max = rc_max;
    range_begin = range_begin;
    range_count = range_count;
    cells = cells;
  })

-- What the bytes say, or the first fault. Own.
unfoldable pub reading : List ℕ → Result Statement PublicFault
reading bytes = do
  top ← needed Json (json_of bytes)
  statement_in top
