-- A hint file as the list of its faults, key by key, in the order in which they are looked at.
use Rattle.std.specs.Prelude.{ℕ, List, [], length, nat_le, Result, Ok}
use Rattle.serde_json.specs.Data.{Data}
use Rattle.json_fields.specs.Values.{json_of, list_at, whole_at}
use Rattle.json_fields.specs.Faults.{◌>>=◌, needed, demand, in_turn}
use Rattle.hint_cells.specs.declared.HintCell.{HintCell}
use Rattle.hint_cells.specs.declared.fault.HintKey.TheVariants as key
use Rattle.hint_cells.specs.declared.fault.HintFault.{HintFault}
use Rattle.hint_cells.specs.declared.fault.HintFault.TheVariants as fault
use Rattle.hint_cells.specs.Limits.{extra_limit, hint_cell_limit}
use Rattle.hint_cells.specs.Shown.{key_name}
use Rattle.hint_cells.specs.HintList.{HintList}
use Rattle.hint_cells.specs.Cells.{cell_in}

-- The number of extra segments. Own.
unfoldable pub extra_in : Data → Result ℕ HintFault
extra_in top = do
  extra ← needed (fault.Key key.Extra) (whole_at (key_name key.Extra) top)
  _ ← demand fault.TooMany (nat_le extra extra_limit)
  Ok extra

-- The cell at an entry; a fault names the entry by its index. Own.
unfoldable pub next_cell : List HintCell → Data → Result HintCell HintFault
next_cell before d = needed (fault.Cell (length before)) (cell_in d)

-- The cells, one entry after another. Own.
unfoldable pub cells_under : Data → Result (List HintCell) HintFault
cells_under top = do
  entries ← needed (fault.Key key.Cells) (list_at (key_name key.Cells) top)
  _ ← demand fault.TooMany (nat_le (length entries) hint_cell_limit)
  in_turn next_cell [] entries

-- What the value of a JSON text is: hints, or the first fault. Own.
unfoldable pub hints_in : Data → Result HintList HintFault
hints_in top = do
  extra ← extra_in top
  cells ← cells_under top
  Ok (record { extra = extra; cells = cells })

-- What bytes are: hints, or the first fault. Own.
unfoldable pub reading : List ℕ → Result HintList HintFault
reading bytes = do
  top ← needed fault.Json (json_of bytes)
  hints_in top
