use Rattle.std.proofs.Common.{sym, ap, subst}
use Rattle.assembler.specs.Assembling.{Assembly, seen_assembly}
use Rattle.assembler.proofs.Outcomes.{seen_assembly-is, assembling-seen}
use Rattle.program_file.specs.Listing.{IsProgram}
use Rattle.command_frame.specs.Formats.{told}
use Rattle.cairo_commands.specs.Programs.{assembly_unread, listing_of}
use Rattle.cairo_commands.proofs.ProgramReadings.{IsProgram-assembly, assembly_refused}
use Rattle.cairo_commands.proofs.programs.assembly_of.Goals as goal

pub returns-in-Ok-clause-reads : goal.returns-in-Ok-clause-reads
returns-in-Ok-clause-reads c =
    let e = c.in-Ok.ensures in
    ap (told assembly_unread) (assembling-seen c.args.items.now c.in-Ok.assembled e.accepted e.words e.labels e.start e.end e.builtins)

pub returns-in-Ok-clause-bounds : goal.returns-in-Ok-clause-bounds
returns-in-Ok-clause-bounds c =
    let e = c.in-Ok.ensures in
    subst (λ (a : Assembly). IsProgram (listing_of a)) (sym (seen_assembly-is c.args.items.now c.in-Ok.assembled e.words e.labels e.start e.end e.builtins)) (IsProgram-assembly c.args.items.now e.accepted)

pub returns-in-Err : goal.returns-in-Err
returns-in-Err c = record {
  reads = assembly_refused seen_assembly c.args.items.now c.in-Err.fault c.unread_items.result c.in-Err.ensures.fault c.unread_items.ensures.says c.unread_items.ensures.memory;
  bounds = tt;
}
