use Rattle.std.proofs.Common.{◌≡◌, ◌++◌, map, take}
use Rattle.casm_tokens.specs.Marks.{placed_of}
use Rattle.casm_tokens.specs.Lines.{token_at}
use Rattle.casm_tokens.proofs.cutter.push_tokens.Given as goal

abbrev pub invariant-loop-lexeme : goal.invariant-loop-lexeme
invariant-loop-lexeme l =
    l.found.items ≡ l.initial.found.items ++ map (token_at l.line l.start) (map placed_of (take l.lexeme-index l.lexeme-items))
