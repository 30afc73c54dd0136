-- What a public input says.
use Rattle.std.specs.Prelude.{ℕ, List}
use Rattle.goldilocks.specs.declared.Felt.{Felt}
use Rattle.goldilocks.specs.declared.Pair.{Pair}
use Rattle.public_input.specs.declared.Public.{Public}

-- What a public input says of a run: how many steps it has, the first ap and the last, the least small value and the
-- greatest. Then where the range cells begin, how many there are, and which cells of the memory are public. The
-- whitepaper's public input of a run.
pub record Statement : Type 0 where
  pub steps : ℕ
  pub ap_first : Felt
  pub ap_last : Felt
  pub rc_min : ℕ
  pub rc_max : ℕ
  pub range_begin : Felt
  pub range_count : ℕ
  pub cells : List Pair

-- What a public input of the code says: its numbers, and the list of its cells. Own.
abbrev pub statement : Public → Statement
statement u = record {
  steps = u.steps;
  ap_first = u.ap_first;
  ap_last = u.ap_last;
  rc_min = u.rc_min;
  rc_max = u.rc_max;
  range_begin = u.range_begin;
  range_count = u.range_count;
  cells = u.cells.items;
}
