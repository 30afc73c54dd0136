use Rattle.std.proofs.Common.{◌≡◌, ℕ, ◌++◌, [], ◌∷◌, get_or, refl, sym, subst, ap, ◌∙◌, append_assoc, arith, below_more, List, Vec, Global}
use Rattle.std.specs.Prelude.{string_bytes}
use Rattle.std.proofs.lemmas.List.{get_or_read, take_all}
use Rattle.casm_statements.specs.declared.Item.{Item}
use Rattle.casm_text.specs.Canonical.{body_text, printed}
use Rattle.casm_text.specs.Meaning.{MeansBodies, bodies}
use Rattle.casm_text.specs.Bounds.{IsBody}
use Rattle.casm_text.proofs.Prints.{printed-more}
use Rattle.casm_text.proofs.ReadsBack.{printed-means}
use Rattle.casm_text.proofs.printer.print.Goals as goal
use Rattle.casm_text.proofs.printer.print.Goals.{After-into_bytes}

pub loop-item-init : goal.loop-item-init
unfolding printed
loop-item-init c = record { text = c.new-out.ensures.bytes; kept = λ k d p. absurd (omega arith) }

pub loop-item-preserved : goal.loop-item-preserved
loop-item-preserved c =
    let out : List ℕ = string_bytes c.loop-item.out in
    let text : List ℕ = body_text c.item-item.result.body in
    record {
      text = printed-more c.args.items.now c.loop-item.item-index c.item-item.result out (out ++ text) _ c.loop-item-test.true c.item-item.is c.loop-item.invariant.text refl (c.in_ok-writeln.ensures.bytes ∙ sym (append_assoc out text (10 ∷ [])));
      kept = λ k d p.
          below_more (λ (j : ℕ). IsBody (get_or c.args.items.now j d).body) c.loop-item.item-index (λ j h. c.loop-item.invariant.kept j d h)
          (subst (λ (i : Item). IsBody i.body) (get_or_read c.args.items.now c.loop-item.item-index c.item-item.result c.loop-item-test.true c.item-item.is d) c.keeps_bounds.ensures) k p;
    }

-- all items are printed
whole : (c : After-into_bytes) → c.into_bytes.result.items ≡ printed c.args.items.now
whole c =
    ap (λ (v : Vec ℕ Global). v.items) c.into_bytes.ensures.value
    ∙ (c.loop-item.invariant.text ∙ ap printed (take_all c.loop-item.item-index c.args.items.now c.loop-item-test.false))

pub returns-clause-text : goal.returns-clause-text
returns-clause-text c = whole c

pub returns-clause-reads_back : goal.returns-clause-reads_back
returns-clause-reads_back c =
    subst (λ (t : List ℕ). MeansBodies t (bodies c.args.items.now)) (sym (whole c)) (printed-means c.args.items.now (λ k d p. c.loop-item.invariant.kept k d (omega arith)))
