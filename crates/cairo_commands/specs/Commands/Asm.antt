-- `asm TEXT PROGRAM`: an assembly text is assembled to a program file. Its inputs, its answer, and what its
-- endings mean. Own.
use Rattle.std.specs.Prelude.{◌≡◌, ◌↔◌, ◌≤◌, ℕ, List, [], ◌∷◌, ◌++◌, length, Option, Some, Ok, codes}
use Rattle.std.specs.Fmt.{decimal}
use Rattle.std.specs.FinMap.{insert}
use Rattle.std.specs.Io.KnownBytes.{Appends}
use Rattle.casm_statements.specs.declared.Item.{Item}
use Rattle.casm_tokens.specs.Limits.{text_limit}
use Rattle.casm_text.specs.Meaning.{Reads}
use Rattle.assembler.specs.Faults.{HasNoFault}
use Rattle.assembler.specs.Assembling.{Assembly, assembly_of}
use Rattle.program_file.specs.Format.{written}
use Rattle.file_port.specs.Files.{Name, Files, file_at}
use Rattle.command_frame.specs.declared.status.Status.{Status}
use Rattle.command_frame.specs.declared.status.Status.TheVariants.{Done}
use Rattle.command_frame.specs.Answer.{Answer, Task}
use Rattle.command_frame.specs.Formats.{◌>>=◌, answered, input_at, read_as}
use Rattle.cairo_commands.specs.Programs.{text_format, listing_of}

-- ---- its files and its line

-- The line of a program of so many words. Own.
abbrev pub asm_line : ℕ → List ℕ
asm_line count = codes "asm: " ++ (decimal count ++ codes " words\n")

-- ---- its answer

-- What `asm` answers of what its text is assembled to. Own.
abbrev pub program_answer : Name → Assembly → Answer
program_answer program a = record {
  status = Done;
  writes = (program, written (listing_of a)) ∷ [];
  line = asm_line (length a.words);
}

-- The text is read and assembled. Own.
unfoldable pub asm_answer : Name → Name → Files → Answer
asm_answer text program files = answered (do
  a ← read_as text_format 1 text files
  Ok (program_answer program a))

-- What `asm` reads, writes and answers. Own.
abbrev pub asm_task : Name → Name → Task
asm_task text program = record {
  inputs = input_at text_format 1 text ∷ [];
  outputs = program ∷ [];
  answer = asm_answer text program;
}

-- ---- what its endings mean

-- The files have a text of this name, within its limit, which reads as items that can be assembled. Own.
pub record Assembles (text : Name) (files : Files) : Type 0 where
  pub bytes : List ℕ
  pub held : file_at files text ≡ Some bytes
  pub short : length bytes ≤ text_limit
  pub items : List Item
  pub reads : Reads bytes items
  pub accepted : HasNoFault items

-- What the endings of `asm` mean. It ends with `Done` exactly where its text can be assembled. The files are then as
-- before, but that the program's name has the program file of the items, and the line tells how many words that has. The
-- last two arguments are the bytes that were written before and now. Own.
pub record AsmMeans (text program : Name) (files : Files) (status : Status) (after : Option Files) (before now : Option (List ℕ)) : Type 0 where
  pub assembled : (status ≡ Done) ↔ Assembles text files
  pub program_written : (asm : Assembles text files) → after ≡ Some (insert files program (written (listing_of (assembly_of asm.items))))
  pub line : (asm : Assembles text files) → Appends before now (asm_line (length (assembly_of asm.items).words))
