use Rattle.std.proofs.Common.{sym, ap, ◌∙◌}
use Rattle.goldilocks.specs.Felts.{felt}
use Rattle.goldilocks.proofs.Pairs.{felt-number}
use Rattle.casm_grammar.specs.Grammar.{negative}
use Rattle.casm_grammar.proofs.parts.negative.Goals as goal

pub returns : goal.returns
unfolding negative
returns c = sym (felt-number c.neg.result) ∙ ap felt c.neg.ensures
