-- What a call is answered with, and what a command reads, writes and answers, as data. Own.
use Rattle.std.specs.Prelude.{ℕ, Bool, List, [], ◌++◌, Option, Some, None, fold, codes}
use Rattle.std.specs.Fmt.{decimal}
use Rattle.std.specs.FinMap.{insert}
use Rattle.file_port.specs.Files.{Name, Files}
use Rattle.command_frame.specs.declared.status.Status.{Status}
use Rattle.command_frame.specs.declared.status.Status.TheVariants.{Words, Limit, Missing, Input as Unspelled}

-- What a call is answered with: its status, the files that it writes before it prints, in their order, and the line
-- that it prints. Every ending has these three, a refusal too. Own.
pub record Answer : Type 0 where
  pub status : Status
  pub writes : List (Name × List ℕ)
  pub line : List ℕ

-- A file that a command reads: its position among the words, its name, and the most bytes that it may have. The
-- command has position 0. `may_have_too_many` says whether it may have too many entries within its limit. Own.
pub record Input : Type 0 where
  pub position : ℕ
  pub name : Name
  pub limit : ℕ
  pub may_have_too_many : Bool

-- What a command is asked to do. It has the files to read and the names of those to write, both in their order, and
-- what is answered to the files. Own.
pub record Task : Type 0 where
  pub inputs : List Input
  pub outputs : List Name
  pub answer : Files → Answer

-- An answer that writes nothing and prints this line. Own.
abbrev pub says : Status → List ℕ → Answer
says status line = record { status = status; writes = []; line = line }

-- The words are an unknown command. Own.
abbrev pub usage : Answer
usage = says Words (codes "usage\n")

-- The input at this position is missing. Own.
abbrev pub missing : ℕ → Answer
missing position = says Missing (codes "missing: input " ++ (decimal position ++ codes "\n"))

-- The input at this position has more bytes than its limit, or more entries than it may have. Own.
abbrev pub over_limit : ℕ → Answer
over_limit position = says Limit (codes "limit: input " ++ (decimal position ++ codes "\n"))

-- The bytes of the input at this position spell no value, for the fault of this text. Own.
abbrev pub unspelled : ℕ → List ℕ → Answer
unspelled position fault = says Unspelled (codes "input " ++ (decimal position ++ (codes ": " ++ (fault ++ codes "\n"))))

-- The line at a fault of the store. Own.
abbrev pub store_fault_line : Name → List ℕ
store_fault_line name = codes "store fault: " ++ (name ++ codes "\n")

-- The files after these were written, one after another. Own.
abbrev pub written : List (Name × List ℕ) → Files → Files
written writes files = fold (λ before output. insert before output.0 output.1) files writes

-- ---- of words that may ask for nothing

-- The files that are read; there are none for words that are an unknown command. Own.
abbrev pub inputs_of : Option Task → List Input
inputs_of None = []
inputs_of (Some task) = task.inputs

-- The names of the files that are written. Own.
abbrev pub outputs_of : Option Task → List Name
outputs_of None = []
outputs_of (Some task) = task.outputs

-- What is answered to the files. Own.
abbrev pub reply_to : Option Task → Files → Answer
reply_to None files = usage
reply_to (Some task) files = task.answer files
