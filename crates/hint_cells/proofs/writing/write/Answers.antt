use Rattle.std.proofs.Common.{◌≡◌, ◌∙◌, sym, subst}
use Rattle.hint_cells.specs.HintList.{AreHints, hint_list}
use Rattle.hint_cells.specs.Format.{SpellsHints, written, hints_json}
use Rattle.json_fields.proofs.WrittenTokens.{written_text}
use Rattle.hint_cells.proofs.Spelling.{reading-SpellsHints}
use Rattle.hint_cells.proofs.WrittenHints.{SpellsHints-written}
use Rattle.hint_cells.proofs.writing.write.Goals as goal

pub returns-clause-written : goal.returns-clause-written
unfolding written
returns-clause-written c =
    written_text c.new-out.result c.write_hints.new.out (hints_json (hint_list c.args.hints.now)) c.into_inner.result.items c.new-out.ensures.tokens
    (c.new-out.ensures.before ∙ c.new.ensures.items) c.in_ok-write_hints.ensures.written c.into_inner.ensures.items

pub returns-clause-spells : goal.returns-clause-spells
returns-clause-spells c =
    let h = hint_list c.args.hints.now in
    let kept : AreHints h = record { few_extra = c.args.hints.now.few_extra; few_cells = c.args.hints.now.few_cells; fit = c.in_ok-write_hints.ensures.fit } in
    let text : c.into_inner.result.items ≡ written h = returns-clause-written c in
    subst (λ bytes. SpellsHints bytes h) (sym text) (SpellsHints-written h kept)

pub returns-clause-read_back : goal.returns-clause-read_back
returns-clause-read_back c = reading-SpellsHints c.into_inner.result.items (hint_list c.args.hints.now) (returns-clause-spells c)
