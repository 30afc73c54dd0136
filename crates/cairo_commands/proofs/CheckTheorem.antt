-- What the endings of `check` mean.
use Rattle.std.proofs.Common.{◌≡◌, ℕ, length, Ok, refl, sym, ap, ◌∙◌, subst}
use Rattle.std.specs.Io.KnownBytes.{Appends}
use Rattle.file_port.specs.Files.{Name, Files}
use Rattle.file_port.specs.Seen.{Seen, SinkSeen}
use Rattle.program_file.specs.Listing.{Listing}
use Rattle.public_input.specs.Statement.{Statement}
use Rattle.table_file.specs.Tables.{Contents}
use Rattle.constraint_checker.specs.declared.Constraint.{Constraint}
use Rattle.constraint_checker.specs.declared.Verdict.{Verdict}
use Rattle.constraint_checker.specs.declared.Verdict.TheVariants as verdict_is
use Rattle.constraint_checker.specs.Verdict.{verdict}
use Rattle.constraint_checker.proofs.Acceptances.{accepted_exactly}
use Rattle.constraint_checker.proofs.Descriptions.{describe_run}
use Rattle.constraint_checker.proofs.RowSteps.{runs_where_met}
use Rattle.command_frame.specs.declared.status.Status.{Status}
use Rattle.command_frame.specs.declared.status.Status.TheVariants.{Done, Refused}
use Rattle.command_frame.specs.Answer.{Answer, says}
use Rattle.command_frame.specs.Formats.{◌>>=◌, read_as}
use Rattle.command_frame.specs.Evidence.{Replied}
use Rattle.cairo_commands.specs.Programs.{program_format}
use Rattle.cairo_commands.specs.TableInputs.{public_format, tables_format}
use Rattle.cairo_commands.specs.Commands.Check.{checked, check_answer, accepted_line, refused_line, HoldsTables, MeetsConstraints, BreaksConstraint, CheckMeans}
use Rattle.command_frame.proofs.OwnStatus.{IsOwn, Done_is_own, Refused_is_own}
use Rattle.command_frame.proofs.Readings.{read_ended, then_read}
use Rattle.cairo_commands.proofs.HeldFiles.{program_is_read, HoldsProgram-from_read, public_is_read, HoldsPublic-from_read, tables_are_read, HoldsColumns-from_read}

checked_done : (rows : ℕ) (v : Verdict) → (checked rows v).status ≡ Done → v ≡ verdict_is.Accepted
checked_done rows verdict_is.Accepted done = refl
checked_done rows (verdict_is.Refused constraint row) done = cc

checked_refused : (rows : ℕ) (v : Verdict) → (checked rows v).status ≡ Refused → (constraint : Constraint) × (row : ℕ) × (v ≡ verdict_is.Refused constraint row)
checked_refused rows verdict_is.Accepted ended = cc
checked_refused rows (verdict_is.Refused constraint row) ended = (constraint, row, refl)

-- what is answered of the values of the three files
of_values : Listing → Statement → Contents → Answer
of_values p u t = checked (length t.rows) (verdict p u t)

module _ (program public tables : Name) (files : Files) where
  -- all three files are read where an ending of its own is answered
  reads_all : (status : Status) → IsOwn status → (check_answer program public tables files).status ≡ status → (held : HoldsTables program public tables files) × ((of_values held.program.value held.public.value held.tables.value).status ≡ status)
  unfolding check_answer of_values
  reads_all status own ended =
      let p = read_ended status own program_format 1 program _ files ended in
      let u = read_ended status own public_format 2 public _ files p.2 in
      let t = read_ended status own tables_format 3 tables _ files u.2 in (
        record {
          program = HoldsProgram-from_read program files p.0 p.1;
          public = HoldsPublic-from_read public files u.0 u.1;
          tables = HoldsColumns-from_read tables files t.0 t.1;
        },
        t.2,
      )

  module _ (held : HoldsTables program public tables files) where
    -- what is answered where all three files are read
    check_answer-read : check_answer program public tables files ≡ of_values held.program.value held.public.value held.tables.value
    unfolding check_answer of_values
    check_answer-read =
        then_read program_format 1 program files held.program.value (program_is_read program files held.program) (λ p. read_as public_format 2 public files >>= λ u. read_as tables_format 3 tables files >>= λ t. Ok (of_values p u t))
        ∙ (then_read public_format 2 public files held.public.value (public_is_read public files held.public) (λ u. read_as tables_format 3 tables files >>= λ t. Ok (of_values held.program.value u t))
        ∙ then_read tables_format 3 tables files held.tables.value (tables_are_read tables files held.tables) (λ t. Ok (of_values held.program.value held.public.value t)))

  pub check_answer-met : (check : MeetsConstraints program public tables files) → check_answer program public tables files ≡ says Done (accepted_line (length check.held.tables.value.rows))
  unfolding of_values
  check_answer-met check =
      check_answer-read check.held
      ∙ ap (checked (length check.held.tables.value.rows)) ((accepted_exactly check.held.program.value check.held.public.value check.held.tables.value).1 check.meets)

  check_answer-broken : (check : BreaksConstraint program public tables files) → check_answer program public tables files ≡ says Refused (refused_line check.constraint check.row)
  unfolding of_values
  check_answer-broken check =
      check_answer-read check.held ∙ ap (checked (length check.held.tables.value.rows)) check.first

  MeetsConstraints-from_done : (check_answer program public tables files).status ≡ Done → MeetsConstraints program public tables files
  unfolding of_values
  MeetsConstraints-from_done done =
      let all = reads_all Done Done_is_own done in
      record {
        held = all.0;
        meets = (accepted_exactly all.0.program.value all.0.public.value all.0.tables.value).0 (checked_done (length all.0.tables.value.rows) (verdict all.0.program.value all.0.public.value all.0.tables.value) all.1);
      }

  BreaksConstraint-from_refused : (check_answer program public tables files).status ≡ Refused → BreaksConstraint program public tables files
  unfolding of_values
  BreaksConstraint-from_refused ended =
      let all = reads_all Refused Refused_is_own ended in
      let found = checked_refused (length all.0.tables.value.rows) (verdict all.0.program.value all.0.public.value all.0.tables.value) all.1 in
      record { held = all.0; constraint = found.0; row = found.1; first = found.2 }

  -- the reply means what is said of `check`
  pub CheckMeans-from_reply : (status : Status) (after : Seen) (sink_before sink_after : SinkSeen) → Replied (check_answer program public tables files) files status after sink_before sink_after → CheckMeans program public tables files status sink_before.written sink_after.written
  CheckMeans-from_reply status after sink_before sink_after replied = record {
    accepted = (
      (λ done. MeetsConstraints-from_done (sym replied.answers ∙ done)),
      (λ check. replied.answers ∙ ap (λ (a : Answer). a.status) (check_answer-met check)),
    );
    describes = λ check. describe_run check.held.program.value check.held.public.value check.held.tables.value check.held.program.spelled.program.few_words check.held.public.spelled.limits check.held.tables.spelled.valid check.meets (runs_where_met check.held.tables.value check.held.tables.spelled.sixteen check.meets.rows);
    accepted_line = λ check. subst (λ (a : Answer). Appends sink_before.written sink_after.written a.line) (check_answer-met check) replied.prints;
    refused = (
      (λ ended. BreaksConstraint-from_refused (sym replied.answers ∙ ended)),
      (λ check. replied.answers ∙ ap (λ (a : Answer). a.status) (check_answer-broken check)),
    );
    refused_line = λ check. subst (λ (a : Answer). Appends sink_before.written sink_after.written a.line) (check_answer-broken check) replied.prints;
  }
