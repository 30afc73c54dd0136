-- What the endings of `run` mean.
use Rattle.std.proofs.Common.{◌≡◌, ℕ, ◌-◌, true, List, [], ◌∷◌, length, Some, Result, Ok, Err, refl, sym, ap, ◌∙◌, subst}
use Rattle.std.specs.FinMap.{insert}
use Rattle.std.specs.Io.KnownBytes.{Appends}
use Rattle.program_file.specs.Listing.{Listing}
use Rattle.hint_cells.specs.HintList.{HintList}
use Rattle.builtin_segments.specs.Rules.{rules_of}
use Rattle.vm_runner.specs.declared.fault.RunFault.{RunFault}
use Rattle.vm_runner.specs.Run.{Ran, run_of}
use Rattle.relocation.specs.Relocated.{RelocatedRun}
use Rattle.trace_files.specs.TraceFile.{trace_bytes}
use Rattle.trace_files.specs.MemoryFile.{memory_bytes}
use Rattle.public_input.specs.Written.{written as public_bytes}
use Rattle.table_file.specs.Spelling.{spelling}
use Rattle.table_builder.specs.Public.{public_of, stated_with}
use Rattle.file_port.specs.Files.{Name, Files}
use Rattle.file_port.specs.Seen.{Seen, SinkSeen}
use Rattle.command_words.specs.Names.{are_names}
use Rattle.command_frame.specs.declared.status.Status.{Status}
use Rattle.command_frame.specs.declared.status.Status.TheVariants.{Done, Run}
use Rattle.command_frame.specs.Answer.{Answer, says, written}
use Rattle.command_frame.specs.Formats.{◌>>=◌, read_as}
use Rattle.command_frame.specs.Evidence.{Replied}
use Rattle.cairo_commands.specs.Programs.{program_format}
use Rattle.cairo_commands.specs.HintFiles.{hints_format}
use Rattle.cairo_commands.specs.Commands.Walk.{WalksLegally, walk_answer, steps_line}
use Rattle.cairo_commands.specs.Commands.Check.{MeetsConstraints, check_answer, accepted_line}
use Rattle.cairo_commands.specs.Commands.Run.{laid_out, run_tables, run_files, ended_answer, run_answer, refused_line, HoldsHinted, RunsToEnd, RefusesRun, RunMeans}
use Rattle.command_frame.proofs.OwnStatus.{IsOwn, Done_is_own, Run_is_own}
use Rattle.command_frame.proofs.Readings.{read_ended, then_read}
use Rattle.command_frame.proofs.WrittenFiles.{held_after, held_written}
use Rattle.cairo_commands.proofs.HeldFiles.{program_is_read, HoldsProgram-from_read, hints_are_read, HoldsHints-from_read}
use Rattle.cairo_commands.proofs.WalkTheorem.{walk_answer-legal}
use Rattle.cairo_commands.proofs.CheckTheorem.{check_answer-met}
use Rattle.cairo_commands.proofs.NamesApart.{stand_apart-kept, output_apart, input_apart}
use Rattle.cairo_commands.proofs.CompletedRuns.{WrittenRun, written_run}
use Rattle.cairo_commands.proofs.ReplyLaws.{settled_run}

-- ---- what the run is answered with

module _ (trace memory public tables : Name) (p : Listing) where
  ended_done : (r : Result Ran RunFault) → (ended_answer trace memory public tables p r).status ≡ Done → (ran : Ran) × (r ≡ Ok ran)
  ended_done (Ok ran) done = (ran, refl)
  ended_done (Err fault) done = cc

  ended_refused : (r : Result Ran RunFault) → (ended_answer trace memory public tables p r).status ≡ Run → (fault : RunFault) × (r ≡ Err fault)
  ended_refused (Ok ran) ended = cc
  ended_refused (Err fault) ended = (fault, refl)

-- what is answered of the values of the two files
of_values : (trace memory public tables : Name) → Listing → HintList → Answer
of_values trace memory public tables p h = ended_answer trace memory public tables p (run_of (rules_of p.builtins) p h)

module _ (program hints trace memory public tables : Name) (files : Files) where
  -- both files are read where an ending of its own is answered
  reads_both : (status : Status) → IsOwn status → (run_answer program hints trace memory public tables files).status ≡ status → (held : HoldsHinted program hints files) × ((of_values trace memory public tables held.program.value held.hints.value).status ≡ status)
  unfolding run_answer of_values
  reads_both status own ended =
      let p = read_ended status own program_format 1 program _ files ended in
      let h = read_ended status own hints_format 2 hints _ files p.2 in (
        record {
          program = HoldsProgram-from_read program files p.0 p.1;
          hints = HoldsHints-from_read hints files h.0 h.1;
        },
        h.2,
      )

  -- what is answered where both files are read
  run_answer-read : (held : HoldsHinted program hints files) → run_answer program hints trace memory public tables files ≡ of_values trace memory public tables held.program.value held.hints.value
  unfolding run_answer of_values
  run_answer-read held =
      then_read program_format 1 program files held.program.value (program_is_read program files held.program) (λ p. read_as hints_format 2 hints files >>= λ h. Ok (of_values trace memory public tables p h))
      ∙ then_read hints_format 2 hints files held.hints.value (hints_are_read hints files held.hints) (λ h. Ok (of_values trace memory public tables held.program.value h))

  pub run_answer-ended : (run : RunsToEnd program hints files) → run_answer program hints trace memory public tables files ≡ ended_answer trace memory public tables run.held.program.value (Ok run.ran)
  unfolding of_values
  run_answer-ended run = run_answer-read run.held ∙ ap (ended_answer trace memory public tables run.held.program.value) run.completes

  run_answer-refused : (run : RefusesRun program hints files) → run_answer program hints trace memory public tables files ≡ says Run (refused_line run.fault)
  unfolding of_values
  run_answer-refused run = run_answer-read run.held ∙ ap (ended_answer trace memory public tables run.held.program.value) run.refused

  RunsToEnd-from_done : (run_answer program hints trace memory public tables files).status ≡ Done → RunsToEnd program hints files
  unfolding of_values
  RunsToEnd-from_done done =
      let both = reads_both Done Done_is_own done in
      let p = both.0.program.value in
      let ended = ended_done trace memory public tables p (run_of (rules_of p.builtins) p both.0.hints.value) both.1 in
      record { held = both.0; ran = ended.0; completes = ended.1 }

  RefusesRun-from_refused : (run_answer program hints trace memory public tables files).status ≡ Run → RefusesRun program hints files
  unfolding of_values
  RefusesRun-from_refused refused =
      let both = reads_both Run Run_is_own refused in
      let p = both.0.program.value in
      let ended = ended_refused trace memory public tables p (run_of (rules_of p.builtins) p both.0.hints.value) both.1 in
      record { held = both.0; fault = ended.0; refused = ended.1 }

  -- ---- the files that are left

  module _ (kept : are_names (program ∷ hints ∷ []) (trace ∷ memory ∷ public ∷ tables ∷ []) ≡ true) (run : RunsToEnd program hints files) where
    abbrev is_written : WrittenRun run.held.program.value run.held.hints.value run.ran
    is_written = written_run run.held.program.value run.held.hints.value run.held.program.spelled.program run.held.hints.spelled.hints run.ran run.completes

    abbrev laid : RelocatedRun
    laid = laid_out run.held.program.value run.ran

    abbrev trace_file : List ℕ
    trace_file = trace_bytes laid.states

    abbrev memory_file : List ℕ
    memory_file = memory_bytes laid.cells

    abbrev public_file : List ℕ
    public_file = public_bytes (public_of laid)

    abbrev tables_file : List ℕ
    tables_file = spelling (run_tables run.held.program.value laid)

    abbrev left : Files
    left = written (run_files trace memory public tables run.held.program.value (laid_out run.held.program.value run.ran)) files

    -- what is left is a legal run
    left_walked : WalksLegally trace memory left
    left_walked =
        let inputs = program ∷ hints ∷ [] in
        let first = output_apart inputs trace (memory ∷ public ∷ tables ∷ []) (stand_apart-kept inputs (trace ∷ memory ∷ public ∷ tables ∷ []) kept) in
        let second = output_apart inputs memory (public ∷ tables ∷ []) first.2 in
        record {
          spelled = record {
            trace = record {
              bytes = trace_file;
              held = held_written trace trace_file ((memory, memory_file) ∷ (public, public_file) ∷ (tables, tables_file) ∷ []) files first.1;
              short = is_written.trace_short;
              value = laid.states;
              spelled = is_written.trace;
            };
            memory = record {
              bytes = memory_file;
              held = held_written memory memory_file ((public, public_file) ∷ (tables, tables_file) ∷ []) (insert files trace trace_file) second.1;
              short = is_written.memory_short;
              value = laid.cells;
              spelled = is_written.memory;
            };
          };
          legal = is_written.of_run.run;
        }

    -- and its tables meet every constraint
    left_checked : MeetsConstraints program public tables left
    left_checked =
        let inputs = program ∷ hints ∷ [] in
        let outputs = trace ∷ memory ∷ public ∷ tables ∷ [] in
        let apart = stand_apart-kept inputs outputs kept in
        let first = output_apart inputs trace (memory ∷ public ∷ tables ∷ []) apart in
        let second = output_apart inputs memory (public ∷ tables ∷ []) first.2 in
        let third = output_apart inputs public (tables ∷ []) second.2 in
        record {
          held = record {
            program = record {
              bytes = run.held.program.bytes;
              held = held_after (run_files trace memory public tables run.held.program.value (laid_out run.held.program.value run.ran)) files program (input_apart program (hints ∷ []) outputs apart) ∙ run.held.program.held;
              short = run.held.program.short;
              value = run.held.program.value;
              spelled = run.held.program.spelled;
            };
            public = record {
              bytes = public_file;
              held = held_written public public_file ((tables, tables_file) ∷ []) (insert (insert files trace trace_file) memory memory_file) third.1;
              short = is_written.public_short;
              value = public_of laid;
              spelled = is_written.public;
            };
            tables = record {
              bytes = tables_file;
              held = held_written tables tables_file [] (insert (insert (insert files trace trace_file) memory memory_file) public public_file) refl;
              short = is_written.tables_short;
              value = run_tables run.held.program.value laid;
              spelled = is_written.tables;
            };
          };
          meets = is_written.meets;
        }

    -- so they are what `walk` and `check` answer with `Done`
    pub walked_again : walk_answer trace memory left ≡ says Done (steps_line (length laid.states - 1))
    unfolding left_walked
    walked_again = walk_answer-legal trace memory left left_walked

    pub checked_again : check_answer program public tables left ≡ says Done (accepted_line (length laid.states - 1))
    unfolding left_checked public_of stated_with
    checked_again =
        check_answer-met program public tables left left_checked ∙ ap (λ rows. says Done (accepted_line rows)) is_written.of_run.row_count

  -- the reply means what is said of `run`
  pub RunMeans-from_reply : are_names (program ∷ hints ∷ []) (trace ∷ memory ∷ public ∷ tables ∷ []) ≡ true → (status : Status) (after : Seen) (sink_before sink_after : SinkSeen) → Replied (run_answer program hints trace memory public tables files) files status after sink_before sink_after → RunMeans program hints trace memory public tables files status after.files sink_before.written sink_after.written
  RunMeans-from_reply kept status after sink_before sink_after replied = record {
    ran = (
      (λ done. RunsToEnd-from_done (sym replied.answers ∙ done)),
      (λ run. replied.answers ∙ ap (λ (a : Answer). a.status) (run_answer-ended run)),
    );
    files_written = λ run. replied.writes ∙ ap (λ (a : Answer). Some (written a.writes files)) (run_answer-ended run);
    legal = λ run. (is_written kept run).of_run.run;
    holds = λ run. (is_written kept run).given;
    of_run = λ run. (is_written kept run).of_run;
    walked = λ run. left_walked kept run;
    checked = λ run. left_checked kept run;
    line = λ run. subst (λ (a : Answer). Appends sink_before.written sink_after.written a.line) (run_answer-ended run) replied.prints;
    refused = (
      (λ refused. RefusesRun-from_refused (sym replied.answers ∙ refused)),
      (λ run. replied.answers ∙ ap (λ (a : Answer). a.status) (run_answer-refused run)),
    );
    refused_line = λ run. subst (λ (a : Answer). Appends sink_before.written sink_after.written a.line) (run_answer-refused run) replied.prints;
    unwritten = λ other.
        replied.writes
        ∙ ap (λ writes. Some (written writes files)) ((settled_run files program hints trace memory public tables).nothing (λ done. other (replied.answers ∙ done)));
  }
