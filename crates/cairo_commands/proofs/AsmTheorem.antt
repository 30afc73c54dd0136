-- What the endings of `asm` mean.
use Rattle.std.proofs.Common.{◌≡◌, Some, Ok, sym, ap, ◌∙◌, subst}
use Rattle.std.specs.Io.KnownBytes.{Appends}
use Rattle.file_port.specs.Files.{Name, Files}
use Rattle.file_port.specs.Seen.{Seen, SinkSeen}
use Rattle.casm_text.specs.TextReading.{text_reading}
use Rattle.casm_text.proofs.TextReading.{text_reading-meant, Reads-from_text_reading}
use Rattle.assembler.specs.Assembling.{Assembly, assembling, assembly_of}
use Rattle.assembler.proofs.Outcomes.{assembling-accepted, HasNoFault-from_assembling}
use Rattle.command_frame.specs.declared.status.Status.{Status}
use Rattle.command_frame.specs.declared.status.Status.TheVariants.{Done}
use Rattle.command_frame.specs.Answer.{Answer, written}
use Rattle.command_frame.specs.Formats.{told}
use Rattle.command_frame.specs.Evidence.{Replied}
use Rattle.cairo_commands.specs.Programs.{syntax_unread, assembly_unread, items_read, assembly_read, text_format}
use Rattle.cairo_commands.specs.Commands.Asm.{program_answer, asm_answer, Assembles, AsmMeans}
use Rattle.command_frame.proofs.OwnStatus.{Done_is_own}
use Rattle.command_frame.proofs.Readings.{IsRead, read_ended, then_read, told_ok, then_ok}

module _ (text program : Name) (files : Files) where
  -- the text is read where an ending of its own is answered
  reads_text : (asm_answer text program files).status ≡ Done → (a : Assembly) × IsRead text_format text files a
  unfolding asm_answer
  reads_text ended =
      let read = read_ended Done Done_is_own text_format 1 text (λ (a : Assembly). Ok (program_answer program a)) files ended in
      (read.0, read.1)

  Assembles-from_done : (asm_answer text program files).status ≡ Done → Assembles text files
  Assembles-from_done ended =
      let read = reads_text ended in
      let bytes = read.1.bytes in
      let both = then_ok (items_read bytes) assembly_read read.0 read.1.read in
      record {
        bytes = bytes;
        held = read.1.held;
        short = read.1.short;
        items = both.0;
        reads = Reads-from_text_reading bytes both.0 (told_ok syntax_unread (text_reading bytes) both.0 both.1);
        accepted = HasNoFault-from_assembling both.0 read.0 (told_ok assembly_unread (assembling both.0) read.0 both.2);
      }

  module _ (asm : Assembles text files) where
    text_is_read : IsRead text_format text files (assembly_of asm.items)
    text_is_read = record {
      bytes = asm.bytes;
      held = asm.held;
      short = asm.short;
      read = rw (text_reading-meant asm.bytes asm.items asm.reads) (ap (told assembly_unread) (assembling-accepted asm.items asm.accepted));
    }

    -- what is answered where the text can be assembled
    pub asm_answer-assembled : asm_answer text program files ≡ program_answer program (assembly_of asm.items)
    unfolding asm_answer
    asm_answer-assembled =
        then_read text_format 1 text files (assembly_of asm.items) text_is_read (λ a. Ok (program_answer program a))

  -- the reply means what is said of `asm`
  pub AsmMeans-from_reply : (status : Status) (after : Seen) (sink_before sink_after : SinkSeen) → Replied (asm_answer text program files) files status after sink_before sink_after → AsmMeans text program files status after.files sink_before.written sink_after.written
  AsmMeans-from_reply status after sink_before sink_after replied = record {
    assembled = (
      (λ done. Assembles-from_done (sym replied.answers ∙ done)),
      (λ asm. replied.answers ∙ ap (λ (a : Answer). a.status) (asm_answer-assembled asm)),
    );
    program_written = λ asm. replied.writes ∙ ap (λ (a : Answer). Some (written a.writes files)) (asm_answer-assembled asm);
    line = λ asm. subst (λ (a : Answer). Appends sink_before.written sink_after.written a.line) (asm_answer-assembled asm) replied.prints;
  }
