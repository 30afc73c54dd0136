use Rattle.std.proofs.Common.{arith}
use Rattle.std.proofs.lemmas.List.{nil_from_length, length-append}
use Rattle.casm_statements.specs.declared.Body.TheVariants as body
use Rattle.casm_statements.specs.declared.Item.{Item}
use Rattle.assembler.proofs.ShownLemmas.{left_shorter, shows_more, shows_all}
use Rattle.assembler.proofs.disassembling.push_shown.Goals as goal

pub words-smaller-in-Some-first_statement : goal.words-smaller-in-Some-first_statement
words-smaller-in-Some-first_statement c =
    left_shorter c.words.left.now c.in-Some-first_statement.stmt c.in-Some-first_statement.behind.now c.in-Some-first_statement.ensures

pub words-preserved-in-Some-first_statement : goal.words-preserved-in-Some-first_statement
words-preserved-in-Some-first_statement c =
    let short = left_shorter c.words.left.now c.in-Some-first_statement.stmt c.in-Some-first_statement.behind.now c.in-Some-first_statement.ensures in
    let e = c.in_ok-push-in-Some-first_statement.ensures in
    record {
      room = rw e (omega (arith, c.words.invariant.room, length-append {A = Item}));
      shows = shows_more _ _ _ _ _ c.in-Some-first_statement.behind.now (body.Stmt c.in-Some-first_statement.stmt) c.words.invariant.shows e (λ bs h. (c.in-Some-first_statement.behind.now, c.in-Some-first_statement.ensures, h));
    }

pub words-preserved : goal.words-preserved
words-preserved c =
    let e = c.in_ok-push-in-None.ensures in
    let p = c.in-Some.ensures.cases in
    record {
      room = rw e (omega (arith, c.words.invariant.room, length-append {A = Item}));
      shows = shows_more _ _ _ _ _ c.in-Some.others.now (body.Dw c.in-Some.first.now) c.words.invariant.shows e (λ bs h. (c.in-Some.others.now, p.0, c.in-None.ensures, h));
    }

pub returns : goal.returns
returns c = shows_all _ _ _ c.words.left.now c.words.invariant.shows (nil_from_length c.words.left.now c.in_default.ensures.cases)
