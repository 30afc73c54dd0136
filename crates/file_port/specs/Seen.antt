-- What is seen of a store and of a sink, and what each of their calls promises of it. The whitepaper speaks of
-- no files; all of this is the project's own.
use Rattle.std.specs.Prelude.{◌≡◌, ℕ, ◌<◌, Bool, false, List, length, take, Option, Result, IfOk, OnOk, OnErr, MatchResult}
use Rattle.std.specs.Option.{option_map}
use Rattle.std.specs.Result.{IsOkAnd, IsErrOf}
use Rattle.std.specs.Io.{ReadsAtMost}
use Rattle.std.specs.Io.KnownBytes.{Appends, Consumes, IsAtEnd, Keeps}
use Rattle.std.specs.FinMap.{insert}
use Rattle.file_port.specs.Files.{Name, Files}
use Rattle.file_port.specs.Counts.{Counts, given_after}
use Rattle.file_port.specs.Ports.{OnFound, OnMissing, OnFailed, OnMemory, HoldsWhole, IsAbsent, ChangesOnly, AppendsPrefix, TellsAlike}
use Rattle.file_port.specs.declared.ports.PortError.{PortError}
use Rattle.file_port.specs.declared.ports.PortError.TheVariants.{Failed}

-- What is seen of a store. `files` and `reading` are its files and what is left to read, where it tells them.
-- `given` counts the bytes that were handed out, and `faults` the calls that failed. `absent` counts the names
-- that were not there, and `torn` the replaces that failed. Own.
pub record Seen : Type 0 where
  pub files : Option Files
  pub reading : Option (List ℕ)
  pub given : ℕ
  pub faults : ℕ
  pub absent : ℕ
  pub torn : ℕ

-- A read of the file of this name is begun. Then the whole file is left to read, or the name is missing, or the
-- store failed or had no memory. Own.
pub record BeginsRead (name : Name) (before after : Seen) (result : Result Bool PortError) : Type 0 where
  pub found : OnFound result (HoldsWhole before.files name after.reading)
  pub missing : OnMissing result (IsAbsent before.files name)
  pub none_left : OnMissing result (IsAtEnd after.reading)
  pub error : OnErr result (IsAtEnd after.reading)
  pub tells : TellsAlike before.reading after.reading
  pub faults : Counts before.faults after.faults (IsErrOf result Failed)
  pub absent : Counts before.absent after.absent (IsOkAnd result (λ found. found ≡ false))
  pub nothing_else : after ≡ record before { reading = after.reading; faults = after.faults; absent = after.absent }

-- The next bytes of the read that was begun are put to the front of the buffer, and taken off what is left.
-- Into a buffer that is not empty none are put exactly at the end, or where no read was begun. Own.
pub record ReadsNext (buf : List ℕ) (before after : Seen) (result : Result ℕ PortError) : Type 0 where
  pub at_most : ReadsAtMost result buf
  pub front : IfOk result (λ n. Consumes before.reading after.reading (take n buf))
  pub at_end : IfOk result (λ n. n ≡ 0 → 0 < length buf → IsAtEnd before.reading)
  pub error : OnErr result (IsAtEnd after.reading)
  pub tells : TellsAlike before.reading after.reading
  pub given : MatchResult result (λ n. after.given ≡ given_after before.given n) (λ _. after.given ≡ before.given)
  pub faults : Counts before.faults after.faults (IsErrOf result Failed)
  pub nothing_else : after ≡ record before { reading = after.reading; given = after.given; faults = after.faults }

-- The file of this name is made to hold these bytes, whatever it held and whether or not it was there. Where
-- the store failed, that name alone may hold anything or be missing. Where there was no memory, all files stay.
-- The read that was begun ends. Own.
pub record Replaces (name bytes : List ℕ) (before after : Seen) (result : Result (Unit {0}) PortError) : Type 0 where
  pub done : OnOk result (after.files ≡ option_map (λ files. insert files name bytes) before.files)
  pub failed : OnFailed result (ChangesOnly name before.files after.files)
  pub memory : OnMemory result (after.files ≡ before.files)
  pub ended : IsAtEnd after.reading
  pub tells_files : TellsAlike before.files after.files
  pub tells : TellsAlike before.reading after.reading
  pub faults : Counts before.faults after.faults (IsErrOf result Failed)
  pub torn : Counts before.torn after.torn (IsErrOf result Failed)
  pub nothing_else : after ≡ record before { files = after.files; reading = after.reading; faults = after.faults; torn = after.torn }

-- What is seen of a sink: what was written so far, where it tells that, and how many calls failed. Own.
pub record SinkSeen : Type 0 where
  pub written : Option (List ℕ)
  pub faults : ℕ

-- The bytes are appended: all of them, or a prefix where the sink failed, or none where there was no memory. Own.
pub record Puts (bytes : List ℕ) (before after : SinkSeen) (result : Result (Unit {0}) PortError) : Type 0 where
  pub done : OnOk result (Appends before.written after.written bytes)
  pub failed : OnFailed result (AppendsPrefix before.written after.written bytes)
  pub memory : OnMemory result (Keeps before.written after.written)
  pub tells : TellsAlike before.written after.written
  pub faults : Counts before.faults after.faults (IsErrOf result Failed)
