use Rattle.std.proofs.Common.{◌≡◌, ◌++◌}
use Rattle.cairo_cli.proofs.collected.Given as goal

abbrev pub invariant-loop-word : goal.invariant-loop-word
invariant-loop-word l = l.words.items ++ l.word-iterator.rest.items ≡ l.fn.found.rest.items
