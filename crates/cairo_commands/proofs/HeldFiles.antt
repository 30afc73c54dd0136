-- What files hold is what is read of them as inputs.
use Rattle.std.proofs.Common.{List, ap}
use Rattle.file_port.specs.Files.{Name, Files}
use Rattle.goldilocks.specs.declared.Pair.{Pair}
use Rattle.casm_word.specs.Transition.{Registers}
use Rattle.trace_files.specs.MemoryFile.{SpellsMemory, memory_reading}
use Rattle.trace_files.specs.TraceFile.{SpellsTrace, trace_reading}
use Rattle.trace_files.proofs.TraceFile.{trace_reading-spelled, SpellsTrace-from_reading}
use Rattle.trace_files.proofs.MemoryFile.{memory_reading-spelled, SpellsMemory-from_reading}
use Rattle.program_file.specs.Listing.{Listing}
use Rattle.program_file.specs.Format.{SpellsProgram}
use Rattle.program_file.specs.Reading.{reading as program_reading}
use Rattle.program_file.proofs.Spelling.{reading-SpellsProgram, SpellsProgram-reading}
use Rattle.public_input.specs.Statement.{Statement}
use Rattle.public_input.specs.Spelling.{SpellsPublic}
use Rattle.public_input.specs.Reading.{reading as public_reading}
use Rattle.public_input.proofs.Spellings.{SpellsPublic-from_reading, reading-spelled}
use Rattle.hint_cells.specs.HintList.{HintList}
use Rattle.hint_cells.specs.Format.{SpellsHints}
use Rattle.hint_cells.specs.Reading.{reading as hints_reading}
use Rattle.hint_cells.proofs.Spelling.{reading-SpellsHints, SpellsHints-reading}
use Rattle.table_file.specs.Tables.{Contents}
use Rattle.table_file.specs.Spelling.{SpellsTables}
use Rattle.command_frame.specs.Formats.{told}
use Rattle.command_frame.proofs.Readings.{IsRead, IsRead-held, Holds-read, told_ok}
use Rattle.cairo_commands.specs.Programs.{program_unread, program_format, HoldsProgram}
use Rattle.cairo_commands.specs.TableInputs.{public_unread, public_format, HoldsPublic, tables_format, HoldsColumns}
use Rattle.cairo_commands.specs.HintFiles.{hints_unread, hints_format, HoldsHints}
use Rattle.cairo_commands.specs.RunFiles.{file_unread, trace_format, HoldsTrace, memory_format, HoldsMemory}
use Rattle.cairo_commands.proofs.TableReadings.{tables_read-spelled, SpellsTables-from_read}

module _ (name : Name) (files : Files) where
  -- a program that is held is read, and one that is read is held
  pub program_is_read : (held : HoldsProgram name files) → IsRead program_format name files held.value
  program_is_read held =
      IsRead-held program_format SpellsProgram name files held
      (ap (told program_unread) (reading-SpellsProgram held.bytes held.value held.spelled))

  abbrev pub HoldsProgram-from_read : (p : Listing) → IsRead program_format name files p → HoldsProgram name files
  HoldsProgram-from_read p is =
      Holds-read program_format SpellsProgram name files p is
      (SpellsProgram-reading is.bytes p (told_ok program_unread (program_reading is.bytes) p is.read))

  -- a public input, likewise
  pub public_is_read : (held : HoldsPublic name files) → IsRead public_format name files held.value
  public_is_read held =
      IsRead-held public_format SpellsPublic name files held
      (ap (told public_unread) (reading-spelled held.bytes held.value held.spelled))

  abbrev pub HoldsPublic-from_read : (u : Statement) → IsRead public_format name files u → HoldsPublic name files
  HoldsPublic-from_read u is =
      Holds-read public_format SpellsPublic name files u is
      (SpellsPublic-from_reading is.bytes u (told_ok public_unread (public_reading is.bytes) u is.read))

  -- tables, likewise
  pub tables_are_read : (held : HoldsColumns name files) → IsRead tables_format name files held.value
  tables_are_read held =
      IsRead-held tables_format SpellsTables name files held (tables_read-spelled held.bytes held.value held.spelled)

  abbrev pub HoldsColumns-from_read : (t : Contents) → IsRead tables_format name files t → HoldsColumns name files
  HoldsColumns-from_read t is =
      Holds-read tables_format SpellsTables name files t is (SpellsTables-from_read is.bytes t is.read)

  -- hints, likewise
  pub hints_are_read : (held : HoldsHints name files) → IsRead hints_format name files held.value
  hints_are_read held =
      IsRead-held hints_format SpellsHints name files held
      (ap (told hints_unread) (reading-SpellsHints held.bytes held.value held.spelled))

  abbrev pub HoldsHints-from_read : (h : HintList) → IsRead hints_format name files h → HoldsHints name files
  HoldsHints-from_read h is =
      Holds-read hints_format SpellsHints name files h is
      (SpellsHints-reading is.bytes h (told_ok hints_unread (hints_reading is.bytes) h is.read))

  -- a trace, likewise
  pub trace_is_read : (held : HoldsTrace name files) → IsRead trace_format name files held.value
  trace_is_read held =
      IsRead-held trace_format SpellsTrace name files held
      (ap (told file_unread) (trace_reading-spelled held.bytes held.value held.spelled))

  abbrev pub HoldsTrace-from_read : (states : List Registers) → IsRead trace_format name files states → HoldsTrace name files
  HoldsTrace-from_read states is =
      Holds-read trace_format SpellsTrace name files states is
      (SpellsTrace-from_reading is.bytes states (told_ok file_unread (trace_reading is.bytes) states is.read))

  -- a memory, likewise
  pub memory_is_read : (held : HoldsMemory name files) → IsRead memory_format name files held.value
  memory_is_read held =
      IsRead-held memory_format SpellsMemory name files held
      (ap (told file_unread) (memory_reading-spelled held.bytes held.value held.spelled))

  abbrev pub HoldsMemory-from_read : (cells : List Pair) → IsRead memory_format name files cells → HoldsMemory name files
  HoldsMemory-from_read cells is =
      Holds-read memory_format SpellsMemory name files cells is
      (SpellsMemory-from_reading is.bytes cells (told_ok file_unread (memory_reading is.bytes) cells is.read))
