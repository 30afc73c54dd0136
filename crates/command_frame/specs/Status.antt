-- How a call ends, and when its end is decided by its words and files alone. Own.
use Rattle.std.specs.Prelude.{ℕ, ⊤}
use Rattle.command_frame.specs.declared.status.Status.{Status}
use Rattle.command_frame.specs.declared.status.Status.TheVariants.{Done, Refused, Words, Input, Run, Store, Sink, Memory, Limit, Missing}

-- The number of each status, which is the program's exit status. Own.
abbrev pub status_number : Status → ℕ
status_number Done = 0
status_number Refused = 1
status_number Words = 2
status_number Input = 3
status_number Run = 4
status_number Store = 5
status_number Sink = 6
status_number Memory = 7
status_number Limit = 8
status_number Missing = 9

-- The status is no fault of the store or the sink and no want of memory. Own.
abbrev pub IsDecided : Status → Type 0
IsDecided Done = ⊤
IsDecided Refused = ⊤
IsDecided Words = ⊤
IsDecided Input = ⊤
IsDecided Run = ⊤
IsDecided Store = ⊥
IsDecided Sink = ⊥
IsDecided Memory = ⊥
IsDecided Limit = ⊤
IsDecided Missing = ⊤
