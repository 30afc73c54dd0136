use Rattle.std.proofs.Common.{◌≡◌, List, ℕ, Ok, subst, sym, ◌∙◌}
use Rattle.public_input.specs.Statement.{statement}
use Rattle.public_input.specs.Spelling.{SpellsPublic}
use Rattle.public_input.specs.Reading.{reading}
use Rattle.public_input.proofs.ReadsBack.{SpellsPublic-written, reading-written}
use Rattle.public_input.proofs.Tokens.{WritesTokens-append, WritesTokens-one, print-statement}
use Rattle.public_input.proofs.writing.write.Goals as goal

pub returns-clause-written : goal.returns-clause-written
returns-clause-written c =
    c.into_inner.ensures.items
    ∙ print-statement _ _ (statement c.args.p.now) c.new-out.ensures.tokens (c.new-out.ensures.before ∙ c.new.ensures.items)
    (WritesTokens-append _ _ _ _ _ (WritesTokens-one _ _ _ c.in_ok-begin_object.ensures)
    (WritesTokens-append _ _ _ _ _ c.in_ok-write_registers_and_cells.ensures
    (WritesTokens-append _ _ _ _ _ c.in_ok-write_numbers.ensures
    (WritesTokens-one _ _ _ c.in_ok-end_object.ensures))))

pub returns-clause-spells : goal.returns-clause-spells
returns-clause-spells c =
    let s = statement c.args.p.now in
    subst (λ (bytes : List ℕ). SpellsPublic bytes s) (sym (returns-clause-written c)) (SpellsPublic-written s c.requires.valid)

pub returns-clause-read_back : goal.returns-clause-read_back
returns-clause-read_back c =
    let s = statement c.args.p.now in
    subst (λ (bytes : List ℕ). reading bytes ≡ Ok s) (sym (returns-clause-written c)) (reading-written s c.requires.valid)
