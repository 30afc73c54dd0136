use Rattle.std.proofs.Common.{◌≡◌, sym, subst, rules, arith, Option}
use Rattle.std.proofs.lemmas.Grind.{common_steps}
use Rattle.std.specs.Prelude.{IfSome}
use Rattle.goldilocks.specs.Field.{field_add, field_of_int}
use Rattle.segments.specs.declared.Place.{Place}
use Rattle.segments.specs.Values.{place_at, moved_place}
use Rattle.segments.specs.Relocation.{address}
use Rattle.segments.proofs.Relocations.{move_relocates}
use Rattle.segments.proofs.arithmetic.shift.Goals as goal

pub returns-in-Ok-clause-answer : goal.returns-in-Ok-clause-answer
unfolding moved_place place_at
returns-in-Ok-clause-answer c = first_of (search rules, grind (arith, common_steps))

pub returns-in-Ok-clause-relocates : goal.returns-in-Ok-clause-relocates
returns-in-Ok-clause-relocates c sizes few =
    subst (λ (o : Option Place). IfSome o (λ q. address sizes q ≡ field_add (address sizes c.args.place) (field_of_int c.args.by)))
    (sym (returns-in-Ok-clause-answer c)) (move_relocates sizes c.args.place c.args.by few)
