use Rattle.std.proofs.Common.{◌≡◌, ◌∙◌, sym, subst}
use Rattle.program_file.specs.Listing.{IsProgram, listing}
use Rattle.program_file.specs.Format.{SpellsProgram, written, program_json}
use Rattle.json_fields.proofs.WrittenTokens.{written_text}
use Rattle.program_file.proofs.Spelling.{reading-SpellsProgram}
use Rattle.program_file.proofs.WrittenPrograms.{SpellsProgram-written}
use Rattle.program_file.proofs.writing.write.Goals as goal

pub returns-clause-written : goal.returns-clause-written
unfolding written
returns-clause-written c =
    written_text c.new-out.result c.write_program.new.out (program_json (listing c.args.program.now)) c.into_inner.result.items c.new-out.ensures.tokens
    (c.new-out.ensures.before ∙ c.in_ok-with_capacity.ensures.items) c.in_ok-write_program.ensures c.into_inner.ensures.items

pub returns-clause-spells : goal.returns-clause-spells
unfolding written
returns-clause-spells c =
    let p = listing c.args.program.now in
    let kept : IsProgram p = record { few_words = c.args.program.now.few_words; start_inside = c.args.program.now.start_inside; end_inside = c.args.program.now.end_inside } in
    let text : c.into_inner.result.items ≡ written p =
    written_text c.new-out.result c.write_program.new.out (program_json p) c.into_inner.result.items c.new-out.ensures.tokens
    (c.new-out.ensures.before ∙ c.in_ok-with_capacity.ensures.items) c.in_ok-write_program.ensures c.into_inner.ensures.items in
    subst (λ bytes. SpellsProgram bytes p) (sym text) (SpellsProgram-written p kept)

pub returns-clause-read_back : goal.returns-clause-read_back
returns-clause-read_back c = reading-SpellsProgram c.into_inner.result.items (listing c.args.program.now) (returns-clause-spells c)
