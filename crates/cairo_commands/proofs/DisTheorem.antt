-- What the endings of `dis` mean.
use Rattle.std.proofs.Common.{◌≡◌, Some, Ok, sym, ap, ◌∙◌, subst}
use Rattle.std.specs.Io.KnownBytes.{Appends}
use Rattle.file_port.specs.Files.{Name, Files}
use Rattle.file_port.specs.Seen.{Seen, SinkSeen}
use Rattle.program_file.specs.Listing.{Listing}
use Rattle.command_frame.specs.declared.status.Status.{Status}
use Rattle.command_frame.specs.declared.status.Status.TheVariants.{Done}
use Rattle.command_frame.specs.Answer.{Answer, written}
use Rattle.command_frame.specs.Evidence.{Replied}
use Rattle.cairo_commands.specs.Programs.{program_format, HoldsProgram, items_of}
use Rattle.cairo_commands.specs.Commands.Dis.{text_answer, dis_answer, DisMeans}
use Rattle.command_frame.proofs.OwnStatus.{Done_is_own}
use Rattle.command_frame.proofs.Readings.{read_ended, then_read}
use Rattle.cairo_commands.proofs.HeldFiles.{program_is_read, HoldsProgram-from_read}
use Rattle.cairo_commands.proofs.ProgramReadings.{Disassembles-items_of}

module _ (program text : Name) (files : Files) where
  HoldsProgram-from_done : (dis_answer program text files).status ≡ Done → HoldsProgram program files
  unfolding dis_answer
  HoldsProgram-from_done ended =
      let read = read_ended Done Done_is_own program_format 1 program (λ (p : Listing). Ok (text_answer text p)) files ended in
      HoldsProgram-from_read program files read.0 read.1

  module _ (dis : HoldsProgram program files) where
    -- what is answered where the file is a program's
    pub dis_answer-shown : dis_answer program text files ≡ text_answer text dis.value
    unfolding dis_answer
    dis_answer-shown =
        then_read program_format 1 program files dis.value (program_is_read program files dis) (λ p. Ok (text_answer text p))

  -- the reply means what is said of `dis`
  pub DisMeans-from_reply : (status : Status) (after : Seen) (sink_before sink_after : SinkSeen) → Replied (dis_answer program text files) files status after sink_before sink_after → DisMeans program text files status after.files sink_before.written sink_after.written
  DisMeans-from_reply status after sink_before sink_after replied = record {
    shown = (
      (λ done. HoldsProgram-from_done (sym replied.answers ∙ done)),
      (λ dis. replied.answers ∙ ap (λ (a : Answer). a.status) (dis_answer-shown dis)),
    );
    text_written = λ dis. record {
      items = items_of dis.value;
      disassembled = Disassembles-items_of dis.value;
      written = replied.writes ∙ ap (λ (a : Answer). Some (written a.writes files)) (dis_answer-shown dis);
    };
    line = λ dis. subst (λ (a : Answer). Appends sink_before.written sink_after.written a.line) (dis_answer-shown dis) replied.prints;
  }
