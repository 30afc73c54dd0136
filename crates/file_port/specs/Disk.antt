-- What the store of real files has open. The whitepaper speaks of no files; all of this is the project's own.
use Rattle.std.specs.Prelude.{ℕ, List, [], Option, None, Some}
use Rattle.file_port.specs.declared.disk.DiskStore.{DiskStore}

-- The file that is open, if one is. Own.
abbrev pub open_file : {R F D : Type 0} → DiskStore R F D → Option F
open_file store = store.file

-- What a file that may be open has left to read, where it tells that: nothing, if none is open. Own.
abbrev pub left_of : {F : Type 0} → (F → Option (List ℕ)) → Option F → Option (List ℕ)
left_of remaining None = Some []
left_of remaining (Some file) = remaining file
