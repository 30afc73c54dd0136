use Rattle.std.proofs.Common.{length}
use Rattle.casm_tokens.proofs.Cuts.{Cuts}
use Rattle.casm_tokens.proofs.cutter.tokens.Given as goal

abbrev pub invariant-lines : goal.invariant-lines
invariant-lines l = Cuts l.text l.found.items l.line l.start l.rest

abbrev pub decreases-lines : goal.decreases-lines
decreases-lines l = length l.rest
