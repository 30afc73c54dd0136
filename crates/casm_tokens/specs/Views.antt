-- What private parts of the scanner answer, seen without their borrows. An auditor needn't read this file: no public
-- contract rests on it.
use Rattle.std.specs.Prelude.{ℕ, ◌<◌, ◌≤◌}
use Rattle.casm_tokens.specs.declared.pieces.Piece as rust
use Rattle.casm_tokens.specs.declared.pieces.Piece.TheVariants as variant
use Rattle.casm_tokens.specs.Marks.{mark_of}
use Rattle.casm_tokens.specs.Pieces.{Piece, Over, Gap, Cut, Bad}

-- What stands at a place, seen. Own.
abbrev pub piece_of : rust.Piece → Piece
piece_of variant.Over = Over
piece_of variant.Gap = Gap
piece_of (variant.Cut found) = Cut found.len (mark_of found.mark)
piece_of (variant.Bad k) = Bad k

-- A token has at least one byte, and no more than there are; a blank has one. Own.
abbrev pub IsWithin : rust.Piece → ℕ → Type 0
IsWithin variant.Over len = Unit {0}
IsWithin variant.Gap len = 0 < len
IsWithin (variant.Cut found) len = (0 < found.len) × (found.len ≤ len)
IsWithin (variant.Bad k) len = Unit {0}
