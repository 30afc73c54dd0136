-- What the endings of `tables` mean.
use Rattle.std.proofs.Common.{◌≡◌, true, false, not, ◌&&◌, List, [], ◌∷◌, Some, Result, Ok, Err, refl, sym, ap, ◌∙◌, subst}
use Rattle.std.specs.FinMap.{insert}
use Rattle.std.specs.Io.KnownBytes.{Appends}
use Rattle.std.specs.Str.{bytes_eq}
use Rattle.std.proofs.lemmas.Bool.{not-true, and_parts, or_parts}
use Rattle.std.proofs.lemmas.List.Elements.{All-from_recursion}
use Rattle.casm_word.specs.Transition.{Registers}
use Rattle.trace_files.specs.TraceFile.{IsState}
use Rattle.goldilocks.specs.declared.Pair.{Pair}
use Rattle.goldilocks.specs.Cells.{memory_of}
use Rattle.goldilocks.proofs.Cells.{memory_of-low}
use Rattle.program_file.specs.Listing.{Listing}
use Rattle.public_input.specs.Statement.{Statement}
use Rattle.table_file.specs.Tables.{Contents}
use Rattle.table_file.specs.Spelling.{spelling, SpellsTables}
use Rattle.table_builder.specs.Findings.{Finding, first_found, findings}
use Rattle.table_builder.specs.Building.{building}
use Rattle.table_builder.specs.Columns.{tables_of}
use Rattle.table_builder.proofs.Findings.{building-err, building-found, FoundFirst-from, FoundFirst-found}
use Rattle.table_builder.proofs.Accepted.{built_valid, built_sixteen, built_meets}
use Rattle.table_builder.proofs.BuiltTables.{built_tables}
use Rattle.table_builder.proofs.OnlyTables.{only_built}
use Rattle.file_port.specs.Files.{Name, Files}
use Rattle.file_port.specs.Seen.{Seen, SinkSeen}
use Rattle.command_words.specs.Names.{is_among, stand_apart, are_names}
use Rattle.command_frame.specs.declared.status.Status.{Status}
use Rattle.command_frame.specs.declared.status.Status.TheVariants.{Done, Refused}
use Rattle.command_frame.specs.Answer.{Answer, says, written}
use Rattle.command_frame.specs.Formats.{◌>>=◌, read_as}
use Rattle.command_frame.specs.Evidence.{Replied}
use Rattle.cairo_commands.specs.Programs.{program_format}
use Rattle.cairo_commands.specs.TableInputs.{public_format}
use Rattle.cairo_commands.specs.RunFiles.{trace_format, memory_format}
use Rattle.cairo_commands.specs.Commands.Check.{MeetsConstraints}
use Rattle.cairo_commands.specs.Commands.Tables.{built_answer, tables_answer, refused_line, HoldsRun, BuildsTables, RefusesTables, TablesMeans}
use Rattle.command_frame.proofs.OwnStatus.{IsOwn, Done_is_own, Refused_is_own}
use Rattle.command_frame.proofs.Readings.{read_ended, then_read}
use Rattle.cairo_commands.proofs.HeldFiles.{program_is_read, HoldsProgram-from_read, public_is_read, HoldsPublic-from_read, trace_is_read, HoldsTrace-from_read, memory_is_read, HoldsMemory-from_read}
use Rattle.table_file.proofs.Lengths.{length-spelled_tables}
use Rattle.command_frame.proofs.WrittenFiles.{held_last, held_apart}
use Rattle.cairo_commands.proofs.ReplyLaws.{settled_tables}

-- ---- what is built of what files spell

-- the tables have neither the program's name nor that of the public input
apart_names : (program public trace memory tables : Name) → are_names (program ∷ public ∷ trace ∷ memory ∷ []) (tables ∷ []) ≡ true → (bytes_eq program tables ≡ false) × (bytes_eq public tables ≡ false)
apart_names program public trace memory tables kept =
    let inputs = program ∷ public ∷ trace ∷ memory ∷ [] in
    let apart = and_parts (not (is_among inputs []) && not (is_among (tables ∷ []) [])) (stand_apart inputs (tables ∷ [])) kept in
    let first = and_parts (not (is_among inputs tables) && not (is_among [] tables)) (stand_apart inputs []) apart.1 in
    let none = and_parts (not (is_among inputs tables)) (not (is_among [] tables)) first.0 in
    let one = or_parts (bytes_eq program tables) (is_among (public ∷ trace ∷ memory ∷ []) tables) (not-true (is_among inputs tables) none.0) in
    let two = or_parts (bytes_eq public tables) (is_among (trace ∷ memory ∷ []) tables) one.1 in
    (one.0, two.0)

built_done : (tables : Name) (r : Result Contents Finding) → (built_answer tables r).status ≡ Done → (columns : Contents) × (r ≡ Ok columns)
built_done tables (Ok columns) done = (columns, refl)
built_done tables (Err found) done = cc

built_refused : (tables : Name) (r : Result Contents Finding) → (built_answer tables r).status ≡ Refused → (found : Finding) × (r ≡ Err found)
built_refused tables (Ok columns) ended = cc
built_refused tables (Err found) ended = (found, refl)

-- what is answered of the values of the four files
of_values : Name → Listing → Statement → List Registers → List Pair → Answer
of_values tables p u states cells = built_answer tables (building p u (memory_of cells) states)

module _ (program public trace memory tables : Name) (files : Files) where
  -- all four files are read where an ending of its own is answered
  reads_all : (status : Status) → IsOwn status → (tables_answer program public trace memory tables files).status ≡ status → (held : HoldsRun program public trace memory files) × ((of_values tables held.program.value held.public.value held.trace.value held.memory.value).status ≡ status)
  unfolding tables_answer of_values
  reads_all status own ended =
      let p = read_ended status own program_format 1 program _ files ended in
      let u = read_ended status own public_format 2 public _ files p.2 in
      let s = read_ended status own trace_format 3 trace _ files u.2 in
      let c = read_ended status own memory_format 4 memory _ files s.2 in (
        record {
          program = HoldsProgram-from_read program files p.0 p.1;
          public = HoldsPublic-from_read public files u.0 u.1;
          trace = HoldsTrace-from_read trace files s.0 s.1;
          memory = HoldsMemory-from_read memory files c.0 c.1;
        },
        c.2,
      )

  module _ (held : HoldsRun program public trace memory files) where
    -- what is answered where all four files are read
    tables_answer-read : tables_answer program public trace memory tables files ≡ of_values tables held.program.value held.public.value held.trace.value held.memory.value
    unfolding tables_answer of_values
    tables_answer-read =
        then_read program_format 1 program files held.program.value (program_is_read program files held.program) (λ p. read_as public_format 2 public files >>= λ u. read_as trace_format 3 trace files >>= λ states. read_as memory_format 4 memory files >>= λ cells. Ok (of_values tables p u states cells))
        ∙ (then_read public_format 2 public files held.public.value (public_is_read public files held.public) (λ u. read_as trace_format 3 trace files >>= λ states. read_as memory_format 4 memory files >>= λ cells. Ok (of_values tables held.program.value u states cells))
        ∙ (then_read trace_format 3 trace files held.trace.value (trace_is_read trace files held.trace) (λ states. read_as memory_format 4 memory files >>= λ cells. Ok (of_values tables held.program.value held.public.value states cells))
        ∙ then_read memory_format 4 memory files held.memory.value (memory_is_read memory files held.memory) (λ cells. Ok (of_values tables held.program.value held.public.value held.trace.value cells))))

    module _ (columns : Contents) (built : building held.program.value held.public.value (memory_of held.memory.value) held.trace.value ≡ Ok columns) where
      -- the bytes that are written spell the tables that are built
      written_spells : SpellsTables (spelling columns) columns
      written_spells =
          let m = memory_of held.memory.value in
          let values = memory_of-low held.memory.value in
          let low = All-from_recursion IsState held.trace.value held.trace.spelled.numbers in
          let is_program = held.program.spelled.program in
          let limits = held.public.spelled.limits in
          record {
            parts = refl;
            valid = built_valid held.program.value held.public.value m held.trace.value values low is_program limits held.trace.spelled.least columns built;
            sixteen = built_sixteen held.program.value held.public.value m held.trace.value values low is_program limits held.trace.spelled.least columns built;
          }

      -- with the program and the public input these meet every constraint, in the files that are left
      written_meets : are_names (program ∷ public ∷ trace ∷ memory ∷ []) (tables ∷ []) ≡ true → MeetsConstraints program public tables (insert files tables (spelling columns))
      written_meets kept =
          let apart = apart_names program public trace memory tables kept in
          record {
            held = record {
              program = record {
                bytes = held.program.bytes;
                held = held_apart files tables program (spelling columns) apart.0 ∙ held.program.held;
                short = held.program.short;
                value = held.program.value;
                spelled = held.program.spelled;
              };
              public = record {
                bytes = held.public.bytes;
                held = held_apart files tables public (spelling columns) apart.1 ∙ held.public.held;
                short = held.public.short;
                value = held.public.value;
                spelled = held.public.spelled;
              };
              tables = record {
                bytes = spelling columns;
                held = held_last files tables (spelling columns);
                short = length-spelled_tables (spelling columns) columns written_spells;
                value = columns;
                spelled = written_spells;
              };
            };
            meets = built_meets held.program.value held.public.value (memory_of held.memory.value) held.trace.value (memory_of-low held.memory.value) (All-from_recursion IsState held.trace.value held.trace.spelled.numbers) held.program.spelled.program held.public.spelled.limits held.trace.spelled.least columns built;
          }

  -- the tables of the run are what is built
  is_built : (run : BuildsTables program public trace memory files) → building run.held.program.value run.held.public.value (memory_of run.held.memory.value) run.held.trace.value ≡ Ok run.columns
  is_built run =
      only_built run.held.program.value run.held.public.value (memory_of run.held.memory.value) run.held.trace.value
      (memory_of-low run.held.memory.value) (All-from_recursion IsState run.held.trace.value run.held.trace.spelled.numbers) run.columns run.of_run

  is_refused : (run : RefusesTables program public trace memory files) → building run.held.program.value run.held.public.value (memory_of run.held.memory.value) run.held.trace.value ≡ Err run.found
  unfolding building
  is_refused run =
      building-found (first_found (findings run.held.program.value run.held.public.value (memory_of run.held.memory.value) run.held.trace.value))
      (tables_of run.held.program.value run.held.public.value (memory_of run.held.memory.value) run.held.trace.value) run.found
      (FoundFirst-found (findings run.held.program.value run.held.public.value (memory_of run.held.memory.value) run.held.trace.value) run.found run.first)

  tables_answer-built : (run : BuildsTables program public trace memory files) → tables_answer program public trace memory tables files ≡ built_answer tables (Ok run.columns)
  unfolding of_values
  tables_answer-built run = tables_answer-read run.held ∙ ap (built_answer tables) (is_built run)

  tables_answer-refused : (run : RefusesTables program public trace memory files) → tables_answer program public trace memory tables files ≡ says Refused (refused_line run.found)
  unfolding of_values
  tables_answer-refused run = tables_answer-read run.held ∙ ap (built_answer tables) (is_refused run)

  BuildsTables-from_done : (tables_answer program public trace memory tables files).status ≡ Done → BuildsTables program public trace memory files
  unfolding of_values
  BuildsTables-from_done done =
      let all = reads_all Done Done_is_own done in
      let built = built_done tables (building all.0.program.value all.0.public.value (memory_of all.0.memory.value) all.0.trace.value) all.1 in
      record {
        held = all.0;
        columns = built.0;
        of_run =
            built_tables all.0.program.value all.0.public.value (memory_of all.0.memory.value) all.0.trace.value
            (memory_of-low all.0.memory.value) (All-from_recursion IsState all.0.trace.value all.0.trace.spelled.numbers) all.0.public.spelled.limits built.0 built.1;
      }

  RefusesTables-from_refused : (tables_answer program public trace memory tables files).status ≡ Refused → RefusesTables program public trace memory files
  unfolding of_values building
  RefusesTables-from_refused ended =
      let all = reads_all Refused Refused_is_own ended in
      let found = built_refused tables (building all.0.program.value all.0.public.value (memory_of all.0.memory.value) all.0.trace.value) all.1 in
      record {
        held = all.0;
        found = found.0;
        first =
            FoundFirst-from (findings all.0.program.value all.0.public.value (memory_of all.0.memory.value) all.0.trace.value) found.0
            (building-err (first_found (findings all.0.program.value all.0.public.value (memory_of all.0.memory.value) all.0.trace.value))
            (tables_of all.0.program.value all.0.public.value (memory_of all.0.memory.value) all.0.trace.value) found.0 found.1);
      }

  -- the reply means what is said of `tables`
  pub TablesMeans-from_reply : are_names (program ∷ public ∷ trace ∷ memory ∷ []) (tables ∷ []) ≡ true → (status : Status) (after : Seen) (sink_before sink_after : SinkSeen) → Replied (tables_answer program public trace memory tables files) files status after sink_before sink_after → TablesMeans program public trace memory tables files status after.files sink_before.written sink_after.written
  TablesMeans-from_reply kept status after sink_before sink_after replied = record {
    built = (
      (λ done. BuildsTables-from_done (sym replied.answers ∙ done)),
      (λ run. replied.answers ∙ ap (λ (a : Answer). a.status) (tables_answer-built run)),
    );
    tables_written = λ run. replied.writes ∙ ap (λ (a : Answer). Some (written a.writes files)) (tables_answer-built run);
    unwritten = λ other.
        replied.writes
        ∙ ap (λ writes. Some (written writes files)) ((settled_tables files program public trace memory tables).nothing (λ done. other (replied.answers ∙ done)));
    checked = λ run. written_meets run.held run.columns (is_built run) kept;
    line = λ run. subst (λ (a : Answer). Appends sink_before.written sink_after.written a.line) (tables_answer-built run) replied.prints;
    refused = (
      (λ ended. RefusesTables-from_refused (sym replied.answers ∙ ended)),
      (λ run. replied.answers ∙ ap (λ (a : Answer). a.status) (tables_answer-refused run)),
    );
    refused_line = λ run. subst (λ (a : Answer). Appends sink_before.written sink_after.written a.line) (tables_answer-refused run) replied.prints;
  }
