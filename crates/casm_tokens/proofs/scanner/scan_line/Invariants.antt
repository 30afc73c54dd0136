use Rattle.std.proofs.Common.{length, map}
use Rattle.casm_tokens.specs.Marks.{placed_of}
use Rattle.casm_tokens.proofs.Scans.{Scans}
use Rattle.casm_tokens.proofs.scanner.scan_line.Given as goal

abbrev pub invariant-pieces : goal.invariant-pieces
invariant-pieces l = Scans l.line (map placed_of l.lexemes.items) l.at l.rest

abbrev pub decreases-pieces : goal.decreases-pieces
decreases-pieces l = length l.rest
