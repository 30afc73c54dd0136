use Rattle.std.proofs.Common.{◌≡◌, ◌≤◌, ◌<◌, ◌-◌, ℕ, min, take, drop, get_or}
use Rattle.std.specs.Char.{digit_value}
use Rattle.std.specs.Str.Parse.{AllDigits, digits_value}
use Rattle.goldilocks.specs.Field.{prime}
use Rattle.goldilocks.proofs.text.read_digits.Given as goal

abbrev pub invariant-loop-i : goal.invariant-loop-i
invariant-loop-i l = record {
  value : l.number ≡ min (digits_value l.base (take (l.i - l.start) (drop l.start l.text))) prime;
  digits : AllDigits l.base (take (l.i - l.start) (drop l.start l.text));
  before : (k : ℕ) → l.start ≤ k → k < l.i → digit_value (get_or l.text k 0) < l.base;
}
