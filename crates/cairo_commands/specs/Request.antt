-- The commands with the names that words give them. Own.
use Rattle.std.specs.Prelude.{ℕ}
use Rattle.file_port.specs.Files.{Name}
use Rattle.command_words.specs.declared.table.Command.{Command}
use Rattle.command_words.specs.declared.table.Command.TheVariants as command
use Rattle.command_words.specs.Calls.{Call, word_at}

-- A command with its names. Own.
pub data Request : Type 0 where
  Walk : (trace memory : Name) → Request
  Asm : (text program : Name) → Request
  Dis : (program text : Name) → Request
  Run : (program hints trace memory public tables : Name) → Request
  Tables : (program public trace memory tables : Name) → Request
  Check : (program public tables : Name) → Request

-- What a command is asked where these are the words at each position, from 1 on. Own.
unfoldable pub request_with : Command → (ℕ → Name) → Request
request_with command.Walk word = Walk (word 1) (word 2)
request_with command.Asm word = Asm (word 1) (word 2)
request_with command.Dis word = Dis (word 1) (word 2)
request_with command.Run word = Run (word 1) (word 2) (word 3) (word 4) (word 5) (word 6)
request_with command.Tables word = Tables (word 1) (word 2) (word 3) (word 4) (word 5)
request_with command.Check word = Check (word 1) (word 2) (word 3)

-- What words are asked to do that keep the form of a command. Own.
abbrev pub request_for : Call → Request
request_for call = request_with call.command (word_at call)
