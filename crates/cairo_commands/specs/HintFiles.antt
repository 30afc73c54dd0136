-- Hint files, as a format. Own.
use Rattle.std.specs.Prelude.{true}
use Rattle.hint_cells.specs.declared.fault.HintFault.{HintFault}
use Rattle.hint_cells.specs.declared.fault.HintFault.TheVariants as hint_fault
use Rattle.hint_cells.specs.Shown.{fault_text}
use Rattle.hint_cells.specs.HintList.{HintList}
use Rattle.hint_cells.specs.Format.{SpellsHints}
use Rattle.hint_cells.specs.Limits.{hints_limit}
use Rattle.hint_cells.specs.Reading.{reading}
use Rattle.file_port.specs.Files.{Name, Files}
use Rattle.command_frame.specs.Formats.{Unread, TooMuch, Faulty, Format, Holds, told}

-- Why bytes are no hint file. Own.
abbrev pub hints_unread : HintFault → Unread
hints_unread hint_fault.Json = Faulty (fault_text hint_fault.Json)
hints_unread (hint_fault.Key key) = Faulty (fault_text (hint_fault.Key key))
hints_unread hint_fault.TooMany = TooMuch
hints_unread (hint_fault.Cell entry) = Faulty (fault_text (hint_fault.Cell entry))
hints_unread hint_fault.Memory = Faulty (fault_text hint_fault.Memory)

-- Hint files. Own.
abbrev pub hints_format : Format HintList
hints_format = record {
  limit = hints_limit;
  may_have_too_many = true;
  reading = λ bytes. told hints_unread (reading bytes);
}

-- The files have a file of this name, within the limit of a hint file, and its bytes spell hints. Own.
abbrev pub HoldsHints : Name → Files → Type 0
HoldsHints name files = Holds hints_format SpellsHints name files
