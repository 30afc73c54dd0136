use Rattle.std.proofs.Common.{◌≡◌, ◌+◌, sym, ap, subst, ◌∙◌, Option, ℕ, nat_eq, string_bytes}
use Rattle.std.specs.Cmp.Lexicographic.{pointwise}
use Rattle.file_port.proofs.NamedFiles.{HeldSoFar, held_none, held_hit, held_miss, held_all, held_within}
use Rattle.file_port.proofs.sure.last_named.Goals as goal
use Rattle.file_port.proofs.sure.last_named.Goals.{then-eq, else-eq}

pub loop-index-init : goal.loop-index-init
loop-index-init c = held_none c.args.files.now c.args.name.now

pub loop-index-preserved : goal.loop-index-preserved
loop-index-preserved c =
    let entry = c.index-files-index.result in
    let tested : c.eq.result ≡ pointwise nat_eq (string_bytes entry.0) c.args.name.now =
    c.eq.ensures ∙ ap (λ bytes. pointwise nat_eq bytes c.args.name.now) c.as_str.ensures.value in
    let P : Option ℕ → Type 0 = λ last. HeldSoFar c.args.files.now c.args.name.now (c.loop-index.index + 1) last in
    elim c.if-eq.branch [
      | then-eq w ↦ subst P (sym w.last-is)
          (held_hit c.args.files.now c.args.name.now c.loop-index.index entry c.loop-index-test.true c.index-files-index.is (sym tested ∙ w.if-eq.true))
      | else-eq w ↦ subst P (sym w.last-is)
          (held_miss c.args.files.now c.args.name.now c.loop-index.index entry c.loop-index.last c.loop-index-test.true c.index-files-index.is (sym tested ∙ w.if-eq.false) c.loop-index.invariant)
    ]

pub returns-clause-held : goal.returns-clause-held
returns-clause-held c = held_all c.args.files.now c.args.name.now c.loop-index.index c.loop-index.last c.loop-index-test.false c.loop-index.invariant

pub returns-clause-within : goal.returns-clause-within
returns-clause-within c = held_within c.args.files.now c.args.name.now c.loop-index.index c.loop-index.last c.loop-index.auto.index-end c.loop-index.invariant
