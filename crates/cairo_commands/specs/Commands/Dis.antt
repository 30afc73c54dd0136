-- `dis PROGRAM TEXT`: the words of a program file are shown as an assembly text. Its inputs, its answer, and
-- what its endings mean. Own.
use Rattle.std.specs.Prelude.{◌≡◌, ◌↔◌, ℕ, List, [], ◌∷◌, ◌++◌, length, Option, Some, Ok, codes}
use Rattle.std.specs.Fmt.{decimal}
use Rattle.std.specs.FinMap.{insert}
use Rattle.std.specs.Io.KnownBytes.{Appends}
use Rattle.casm_statements.specs.declared.Item.{Item}
use Rattle.casm_text.specs.Canonical.{printed}
use Rattle.assembler.specs.Disassembly.{Disassembles}
use Rattle.program_file.specs.Listing.{Listing}
use Rattle.file_port.specs.Files.{Name, Files}
use Rattle.command_frame.specs.declared.status.Status.{Status}
use Rattle.command_frame.specs.declared.status.Status.TheVariants.{Done}
use Rattle.command_frame.specs.Answer.{Answer, Task}
use Rattle.command_frame.specs.Formats.{◌>>=◌, answered, input_at, read_as}
use Rattle.cairo_commands.specs.Programs.{program_format, HoldsProgram, items_of}

-- ---- its files and its line

-- The line of a text of so many words. Own.
abbrev pub dis_line : ℕ → List ℕ
dis_line count = codes "dis: " ++ (decimal count ++ codes " words\n")

-- ---- its answer

-- What `dis` answers of its program. Own.
abbrev pub text_answer : Name → Listing → Answer
text_answer text p = record {
  status = Done;
  writes = (text, printed (items_of p)) ∷ [];
  line = dis_line (length p.words);
}

-- The program is read and shown. Own.
unfoldable pub dis_answer : Name → Name → Files → Answer
dis_answer program text files = answered (do
  p ← read_as program_format 1 program files
  Ok (text_answer text p))

-- What `dis` reads, writes and answers. Own.
abbrev pub dis_task : Name → Name → Task
dis_task program text = record {
  inputs = input_at program_format 1 program ∷ [];
  outputs = text ∷ [];
  answer = dis_answer program text;
}

-- ---- what its endings mean

-- The files are those from before, but that the text's name has the canonical text of the items that the program
-- disassembles into. Own.
pub record WritesText (text : Name) (p : Listing) (files : Files) (after : Option Files) : Type 0 where
  pub items : List Item
  pub disassembled : Disassembles p.words p.start p.end p.builtins.output p.builtins.range items
  pub written : after ≡ Some (insert files text (printed items))

-- What the endings of `dis` mean. It ends with `Done` exactly where its program file is within its limit and spells a
-- program. The files are then as before, but that the text's name has the canonical text of what the program's words
-- are shown as. The line tells how many words there are. The last two arguments are the bytes that were written before
-- and now. Own.
pub record DisMeans (program text : Name) (files : Files) (status : Status) (after : Option Files) (before now : Option (List ℕ)) : Type 0 where
  pub shown : (status ≡ Done) ↔ HoldsProgram program files
  pub text_written : (dis : HoldsProgram program files) → WritesText text dis.value files after
  pub line : (dis : HoldsProgram program files) → Appends before now (dis_line (length dis.value.words))
