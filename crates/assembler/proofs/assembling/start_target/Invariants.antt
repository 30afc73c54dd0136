use Rattle.std.proofs.Common.{◌≡◌, drop}
use Rattle.casm_text.specs.Meaning.{bodies}
use Rattle.assembler.specs.Assembly.{first_given, start_in}
use Rattle.assembler.proofs.assembling.start_target.Given as goal

abbrev pub invariant-loop-item : goal.invariant-loop-item
invariant-loop-item l = first_given start_in (bodies (drop l.item-index l.items)) ≡ first_given start_in (bodies l.items)
