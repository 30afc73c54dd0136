-- Assembly texts and program files as formats, and each as the other. Own.
use Rattle.std.specs.Prelude.{ℕ, ◌++◌, List, true, Result}
use Rattle.file_port.specs.Files.{Name, Files}
use Rattle.casm_statements.specs.declared.Item.{Item}
use Rattle.casm_tokens.specs.Lines.{Fault}
use Rattle.casm_tokens.specs.declared.fault.ParseFault.{ParseFault}
use Rattle.casm_tokens.specs.declared.fault.ParseFault.TheVariants.{Syntax, Memory as NoMemory}
use Rattle.casm_tokens.specs.FaultText.{syntax_text, parse_fault_text}
use Rattle.casm_tokens.specs.Limits.{text_limit}
use Rattle.casm_text.specs.TextReading.{text_reading}
use Rattle.assembler.specs.declared.fault.AsmFault.{AsmFault}
use Rattle.assembler.specs.declared.fault.AsmFault.TheVariants.{Duplicate, TooLong, Unknown, NoEnd, StartOutside, EndOutside, Memory}
use Rattle.assembler.specs.FaultText.{fault_text as assembly_text}
use Rattle.assembler.specs.Assembling.{Assembly, assembling}
use Rattle.assembler.specs.Disassembly.{directives, on_lines}
use Rattle.assembler.specs.ShownBodies.{shown_bodies}
use Rattle.program_file.specs.declared.faults.ProgramFault.{ProgramFault}
use Rattle.program_file.specs.declared.faults.ProgramFault.TheVariants as program_fault
use Rattle.program_file.specs.Shown.{fault_text}
use Rattle.program_file.specs.Listing.{Listing}
use Rattle.program_file.specs.Format.{SpellsProgram}
use Rattle.program_file.specs.Limits.{program_limit}
use Rattle.program_file.specs.Reading.{reading}
use Rattle.command_frame.specs.Formats.{◌>>=◌, Unread, TooMuch, Faulty, Format, Holds, told}

-- ---- assembly texts

-- Why a text has no items. Own.
abbrev pub syntax_unread : Fault → Unread
syntax_unread fault = Faulty (syntax_text fault)

-- The same of a refusal of the parser. Own.
abbrev pub parse_unread : ParseFault → Unread
parse_unread (Syntax line column kind) = syntax_unread (record { line = line; column = column; kind = kind })
parse_unread NoMemory = Faulty (parse_fault_text NoMemory)

-- Why items are no program. Own.
abbrev pub assembly_unread : AsmFault → Unread
assembly_unread (Duplicate line) = Faulty (assembly_text (Duplicate line))
assembly_unread TooLong = TooMuch
assembly_unread (Unknown name line) = Faulty (assembly_text (Unknown name line))
assembly_unread NoEnd = Faulty (assembly_text NoEnd)
assembly_unread StartOutside = Faulty (assembly_text StartOutside)
assembly_unread EndOutside = Faulty (assembly_text EndOutside)
assembly_unread Memory = Faulty (assembly_text Memory)

-- The items that the bytes of an assembly text are read as. Own.
abbrev pub items_read : List ℕ → Result (List Item) Unread
items_read bytes = told syntax_unread (text_reading bytes)

-- The program that items are assembled to. Own.
abbrev pub assembly_read : List Item → Result Assembly Unread
assembly_read items = told assembly_unread (assembling items)

-- The program that the bytes of an assembly text are read as. Own.
abbrev pub text_read : List ℕ → Result Assembly Unread
text_read bytes = items_read bytes >>= assembly_read

-- Assembly texts. Own.
abbrev pub text_format : Format Assembly
text_format = record { limit = text_limit; may_have_too_many = true; reading = text_read }

-- ---- program files

-- Why bytes are no program file. Own.
abbrev pub program_unread : ProgramFault → Unread
program_unread program_fault.Json = Faulty (fault_text program_fault.Json)
program_unread (program_fault.Key key) = Faulty (fault_text (program_fault.Key key))
program_unread program_fault.Prime = Faulty (fault_text program_fault.Prime)
program_unread program_fault.TooLong = TooMuch
program_unread (program_fault.Felt entry) = Faulty (fault_text (program_fault.Felt entry))
program_unread program_fault.Builtin = Faulty (fault_text program_fault.Builtin)
program_unread (program_fault.Label key) = Faulty (fault_text (program_fault.Label key))
program_unread program_fault.Memory = Faulty (fault_text program_fault.Memory)

-- Program files. Own.
abbrev pub program_format : Format Listing
program_format = record {
  limit = program_limit;
  may_have_too_many = true;
  reading = λ bytes. told program_unread (reading bytes);
}

-- The files have a file of this name, within the limit of a program file, and its bytes spell a program. Own.
abbrev pub HoldsProgram : Name → Files → Type 0
HoldsProgram name files = Holds program_format SpellsProgram name files

-- ---- one as the other

-- An assembled text as a program; its labels are left out. Own.
abbrev pub listing_of : Assembly → Listing
listing_of a = record { words = a.words; start = a.start; end = a.end; builtins = record { output = a.output; range = a.range } }

-- The items that a program is shown as, on lines of their own: its directives, and the bodies that its words are shown
-- as. There is exactly one such list, and `one_list` of `again_laws` says which it is. Own.
unfoldable pub items_of : Listing → List Item
items_of p = on_lines 1 (directives p.start p.end p.builtins.output p.builtins.range ++ shown_bodies p.words)
