use Rattle.std.proofs.Common.{◌≡◌, ◌+◌, ◌-◌, ◌≤◌, length, drop}
use Rattle.std.specs.List.{prefix_len}
use Rattle.casm_tokens.specs.Lines.{is_in_line}
use Rattle.casm_tokens.proofs.lines.line_len.Given as goal

abbrev pub invariant-loop-len : goal.invariant-loop-len
invariant-loop-len l = record {
  in_range : l.len ≤ length l.text;
  run : prefix_len is_in_line l.text ≡ l.len + prefix_len is_in_line (drop l.len l.text);
}

abbrev pub decreases-loop-len : goal.decreases-loop-len
decreases-loop-len l = length l.text - l.len
