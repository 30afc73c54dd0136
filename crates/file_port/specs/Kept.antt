-- What the stores and sinks in memory hold. The whitepaper speaks of no files; all of this is the project's
-- own.
use Rattle.std.specs.Prelude.{◌≡◌, ◌↔◌, ℕ, ◌+◌, min, List, [], drop, Contains, Option, None, Some, Result, slice_get}
use Rattle.std.specs.Result.{IsErrOf}
use Rattle.file_port.specs.Counts.{last_count}
use Rattle.file_port.specs.Files.{Name, Files, files_of, named_bytes}
use Rattle.file_port.specs.Seen.{Seen}
use Rattle.file_port.specs.declared.ports.PortError.{PortError}
use Rattle.file_port.specs.declared.ports.PortError.TheVariants.{Failed}
use Rattle.file_port.specs.declared.sure.ReadPosition.{ReadPosition}
use Rattle.file_port.specs.declared.sure.SureStore.{SureStore}
use Rattle.file_port.specs.declared.memory.MemoryStore.{MemoryStore}
use Rattle.file_port.specs.declared.memory.MemorySink.{MemorySink}

-- What is left of a file past an offset. Own.
abbrev pub rest_at : Option (Name × List ℕ) → ℕ → List ℕ
rest_at None offset = []
rest_at (Some file) offset = drop offset file.1

-- What is left of the read that was begun, if one was. Own.
abbrev pub left_at : List (Name × List ℕ) → Option ReadPosition → List ℕ
left_at files None = []
left_at files (Some place) = rest_at (slice_get files place.file) place.offset

-- What is seen of a store in memory. Own.
abbrev pub seen_of : SureStore → Seen
seen_of store = record {
  files = Some (files_of (named_bytes store.files.items));
  reading = Some (left_at (named_bytes store.files.items) store.reading);
  given = store.given;
  faults = 0;
  absent = store.absent;
  torn = 0;
}

-- What is seen of a new store that tells these files: no read is begun, and all counts are 0. Own.
abbrev pub fresh_store : Files → Seen
fresh_store files = record { files = Some files; reading = Some []; given = 0; faults = 0; absent = 0; torn = 0 }

-- The number of a call, where this many were made before it. Calls are numbered from 1 on, and those past the
-- last value of a count have that one. Own.
abbrev pub call_number : ℕ → ℕ
call_number made = min (made + 1) last_count

-- The next call, where this many were made, is one of those that are to fail, which are listed by their numbers. Own.
abbrev pub IsNextListed : List ℕ → ℕ → Type 0
IsNextListed listed made = Contains listed (call_number made)

-- Exactly the listed calls fail: this one fails where its number is listed. It is counted, and the list stays.
-- Own.
pub record CallsListed {T : Type 0} (listed : List ℕ) (made : ℕ) (listed_after : List ℕ) (made_after : ℕ) (result : Result T PortError) : Type 0 where
  pub fails : IsErrOf result Failed ↔ IsNextListed listed made
  pub counted : made_after ≡ call_number made
  pub kept : listed_after ≡ listed

-- The numbers of a store's calls that are to fail. Own.
abbrev pub listed_calls : MemoryStore → List ℕ
listed_calls store = store.calls.fails.items

-- How many calls of a store were numbered so far. Own.
abbrev pub calls_made : MemoryStore → ℕ
calls_made store = store.calls.made

-- The numbers of a sink's calls that are to fail. Own.
abbrev pub listed_puts : MemorySink → List ℕ
listed_puts sink = sink.calls.fails.items

-- How many calls of a sink were numbered so far. Own.
abbrev pub puts_made : MemorySink → ℕ
puts_made sink = sink.calls.made
