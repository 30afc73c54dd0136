-- A text that is written for a program is assembled to the program again. A program file that is written for a text is
-- shown as the text's words again.
use Rattle.std.proofs.Common.{◌≡◌, ◌<◌, ◌^◌, List, [], ◌∷◌, length, refl, sym, ap, ◌∙◌, arith}
use Rattle.std.specs.FinMap.{insert}
use Rattle.file_port.specs.Files.{Name, Files}
use Rattle.casm_statements.specs.declared.Item.{Item}
use Rattle.casm_text.specs.Canonical.{printed}
use Rattle.casm_text.specs.Meaning.{bodies, MeansBodies}
use Rattle.casm_text.proofs.ReadsBack.{printed-means}
use Rattle.assembler.specs.Assembling.{assembly_of}
use Rattle.assembler.specs.Disassembly.{AssemblesTo}
use Rattle.assembler.proofs.Restored.{restored}
use Rattle.assembler.proofs.Lines.{assembles_too}
use Rattle.assembler.proofs.TextSizes.{text_fits}
use Rattle.program_file.specs.Listing.{Listing, IsProgram}
use Rattle.program_file.specs.Format.{written as program_bytes}
use Rattle.program_file.proofs.WrittenPrograms.{SpellsProgram-written}
use Rattle.command_frame.specs.declared.status.Status.TheVariants.{Done}
use Rattle.command_frame.specs.Answer.{Answer, written}
use Rattle.cairo_commands.specs.Programs.{HoldsProgram, listing_of, items_of}
use Rattle.cairo_commands.specs.Commands.Asm.{asm_answer, asm_line, Assembles}
use Rattle.cairo_commands.specs.Commands.Dis.{dis_answer, text_answer}
use Rattle.cairo_commands.proofs.ProgramReadings.{Disassembles-items_of, IsProgram-assembly}
use Rattle.cairo_commands.proofs.AsmTheorem.{asm_answer-assembled}
use Rattle.cairo_commands.proofs.DisTheorem.{dis_answer-shown}
use Rattle.cairo_commands.proofs.ProgramSizes.{written_fits}
use Rattle.command_frame.proofs.WrittenFiles.{held_last}
use Rattle.cairo_commands.proofs.ShownBodies.{disassembled_bodies}

-- ---- what `asm` makes of what `dis` wrote

-- items that are assembled to the parts of a program make the program
listing_again : (items : List Item) (p : Listing) → AssemblesTo p.words p.start p.end p.builtins.output p.builtins.range items → listing_of (assembly_of items) ≡ p
unfolding assembly_of
listing_again items p is = rw (is.words_are, is.start_is, is.end_is, is.builtins_are) refl

-- the answer of `asm` where its text is assembled to this program
abbrev pub assembled_answer : Name → Listing → Answer
assembled_answer program p = record {
  status = Done;
  writes = (program, program_bytes p) ∷ [];
  line = asm_line (length p.words);
}

module _ (text : Name) (files : Files) (p : Listing) (program : IsProgram p) where
  abbrev shown_files : Files
  shown_files = insert files text (printed (items_of p))

  start_low : p.start < 2 ^ 32
  start_low = omega (arith, program.start_inside, program.few_words)

  end_low : p.end < 2 ^ 32
  end_low = omega (arith, program.end_inside, program.few_words)

  read_back : MeansBodies (printed (items_of p)) (bodies (items_of p))
  read_back =
      printed-means (items_of p) (disassembled_bodies p.words p.start p.end p.builtins.output p.builtins.range (items_of p) start_low end_low (Disassembles-items_of p))

  assembled_again : AssemblesTo p.words p.start p.end p.builtins.output p.builtins.range read_back.items
  assembled_again =
      assembles_too p.words p.start p.end p.builtins.output p.builtins.range (items_of p) read_back.items (sym read_back.same)
      (restored p.words p.start p.end p.builtins.output p.builtins.range (items_of p) program.few_words program.start_inside program.end_inside (Disassembles-items_of p))

  Assembles-shown : Assembles text shown_files
  Assembles-shown = record {
    bytes = printed (items_of p);
    held = held_last files text (printed (items_of p));
    short = text_fits p.words p.start p.end p.builtins.output p.builtins.range (items_of p) program.few_words start_low end_low (Disassembles-items_of p);
    items = read_back.items;
    reads = read_back.reads;
    accepted = assembled_again.accepted;
  }

  assembled_shown : (copy : Name) → asm_answer text copy shown_files ≡ assembled_answer copy p
  unfolding assembly_of Assembles-shown
  assembled_shown copy =
      asm_answer-assembled text copy shown_files Assembles-shown
      ∙ ap (assembled_answer copy) (listing_again read_back.items p assembled_again)

pub asm-of_dis : (program text copy : Name) (files : Files) (dis : HoldsProgram program files) → asm_answer text copy (written (dis_answer program text files).writes files) ≡ assembled_answer copy dis.value
asm-of_dis program text copy files dis =
    ap (λ (a : Answer). asm_answer text copy (written a.writes files)) (dis_answer-shown program text files dis)
    ∙ assembled_shown text files dis.value dis.spelled.program copy

-- ---- what `dis` makes of what `asm` wrote

HoldsProgram-written : (program : Name) (files : Files) (p : Listing) → IsProgram p → HoldsProgram program (insert files program (program_bytes p))
HoldsProgram-written program files p is = record {
  bytes = program_bytes p;
  held = held_last files program (program_bytes p);
  short = written_fits p is;
  value = p;
  spelled = SpellsProgram-written p is;
}

pub dis-of_asm : (text program copy : Name) (files : Files) (asm : Assembles text files) → dis_answer program copy (written (asm_answer text program files).writes files) ≡ text_answer copy (listing_of (assembly_of asm.items))
unfolding HoldsProgram-written assembly_of
dis-of_asm text program copy files asm =
    let p = listing_of (assembly_of asm.items) in
    ap (λ (a : Answer). dis_answer program copy (written a.writes files)) (asm_answer-assembled text program files asm)
    ∙ dis_answer-shown program copy (insert files program (program_bytes p)) (HoldsProgram-written program files p (IsProgram-assembly asm.items asm.accepted))
