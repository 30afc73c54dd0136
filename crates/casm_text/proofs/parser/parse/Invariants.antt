use Rattle.std.proofs.Common.{◌+◌, ◌≤◌, length}
use Rattle.casm_tokens.proofs.LineLemmas.{lines}
use Rattle.casm_text.proofs.Parses.{Parses}
use Rattle.casm_text.proofs.parser.parse.Given as goal

abbrev pub invariant-lines : goal.invariant-lines
invariant-lines l = record {
  first : 1 ≤ l.line;
  in_range : l.line + length l.rest ≤ length l.text + 1;
  parses : Parses l.text l.items.items l.wrong l.line (lines l.rest);
}

abbrev pub decreases-lines : goal.decreases-lines
decreases-lines l = length l.rest
