-- Public files and tables files, as formats. Own.
use Rattle.std.specs.Prelude.{ℕ, Bool, List, true, nat_lt, codes, Result, Err, if◌then◌else◌}
use Rattle.std.specs.List.{list_all}
use Rattle.file_port.specs.Files.{Name, Files}
use Rattle.public_input.specs.declared.fault.PublicFault.{PublicFault}
use Rattle.public_input.specs.declared.fault.PublicFault.TheVariants as public_fault
use Rattle.public_input.specs.Shown.{fault_text as public_text}
use Rattle.public_input.specs.Statement.{Statement}
use Rattle.public_input.specs.Spelling.{SpellsPublic}
use Rattle.public_input.specs.Limits.{public_limit}
use Rattle.public_input.specs.Reading.{reading as public_reading}
use Rattle.table_file.specs.declared.TableFault.{TableFault}
use Rattle.table_file.specs.declared.TableFault.TheVariants as table_fault
use Rattle.table_file.specs.Shown.{fault_text as table_text}
use Rattle.table_file.specs.Tables.{Contents}
use Rattle.table_file.specs.Spelling.{SpellsTables}
use Rattle.table_file.specs.Limits.{tables_limit}
use Rattle.table_file.specs.Reading.{reading as tables_reading}
use Rattle.command_frame.specs.Formats.{Unread, TooMuch, Faulty, Format, Holds, told}

-- Why bytes are no public file. Own.
abbrev pub public_unread : PublicFault → Unread
public_unread public_fault.Json = Faulty (public_text public_fault.Json)
public_unread (public_fault.Key key) = Faulty (public_text (public_fault.Key key))
public_unread (public_fault.Range key) = Faulty (public_text (public_fault.Range key))
public_unread public_fault.TooMany = TooMuch
public_unread (public_fault.Cell i) = Faulty (public_text (public_fault.Cell i))
public_unread (public_fault.Order i) = Faulty (public_text (public_fault.Order i))
public_unread public_fault.Memory = Faulty (public_text public_fault.Memory)

-- Public files. Own.
abbrev pub public_format : Format Statement
public_format = record {
  limit = public_limit;
  may_have_too_many = true;
  reading = λ bytes. told public_unread (public_reading bytes);
}

-- The files have a file of this name, within the limit of a public file, and its bytes spell a public input. Own.
abbrev pub HoldsPublic : Name → Files → Type 0
HoldsPublic name files = Holds public_format SpellsPublic name files

-- Why bytes are no tables file. Own.
abbrev pub tables_unread : TableFault → Unread
tables_unread table_fault.Magic = Faulty (table_text table_fault.Magic)
tables_unread table_fault.TooMany = TooMuch
tables_unread (table_fault.NotField place) = Faulty (table_text (table_fault.NotField place))
tables_unread table_fault.Length = Faulty (table_text table_fault.Length)
tables_unread table_fault.Memory = Faulty (table_text table_fault.Memory)

-- Whether the numbers are bytes, as all are that a store can hand out. Own.
abbrev pub are_bytes : List ℕ → Bool
are_bytes numbers = list_all (λ b. nat_lt b 256) numbers

-- The tables that the bytes of a tables file are read as. Numbers that are no bytes, which no store can hand out, are
-- read as none. Own.
unfoldable pub tables_read : List ℕ → Result Contents Unread
tables_read bytes = if are_bytes bytes then told tables_unread (tables_reading bytes) else Err (Faulty (codes "no bytes"))

-- Tables files. Own.
abbrev pub tables_format : Format Contents
tables_format = record { limit = tables_limit; may_have_too_many = true; reading = tables_read }

-- The files have a file of this name, within the limit of a tables file, and its bytes spell tables. Own.
abbrev pub HoldsColumns : Name → Files → Type 0
HoldsColumns name files = Holds tables_format SpellsTables name files
