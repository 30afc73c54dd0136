use Rattle.std.proofs.Common.{◌≡◌, fold, max, min, take}
use Rattle.table_builder.specs.PublicParts.{all_digits, words_at}
use Rattle.table_builder.proofs.public.Limits.with_words.Given as goal

abbrev pub invariant-loop-state : goal.invariant-loop-state
invariant-loop-state g l = record {
  least : l.limits.least ≡ fold min l.initial.limits.least (all_digits (words_at (g.M.Reads.cells l.m) (take l.state-index l.states)));
  greatest : l.limits.greatest ≡ fold max l.initial.limits.greatest (all_digits (words_at (g.M.Reads.cells l.m) (take l.state-index l.states)));
}
