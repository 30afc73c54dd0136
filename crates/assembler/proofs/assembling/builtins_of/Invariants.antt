use Rattle.std.proofs.Common.{◌≡◌, drop}
use Rattle.casm_text.specs.Meaning.{bodies}
use Rattle.assembler.specs.Assembly.{first_given, builtins_in}
use Rattle.assembler.proofs.assembling.builtins_of.Given as goal

abbrev pub invariant-loop-item : goal.invariant-loop-item
invariant-loop-item l = first_given builtins_in (bodies (drop l.item-index l.items)) ≡ first_given builtins_in (bodies l.items)
