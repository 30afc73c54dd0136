use Rattle.std.proofs.Common.{ap, sym, ◌∙◌, map}
use Rattle.std.proofs.lemmas.List.{map-append}
use Rattle.casm_tokens.specs.Marks.{placed_of}
use Rattle.casm_tokens.proofs.Scans.{Scans-gap, Scans-cut, Scans-over, Scans-bad}
use Rattle.casm_tokens.proofs.Sound.{scan_cuts, scan_stops}
use Rattle.casm_tokens.proofs.scanner.scan_line.Goals as goal

-- the line or a comment ends it
pub returns-in-Over-clause-tokens : goal.returns-in-Over-clause-tokens
returns-in-Over-clause-tokens c = scan_cuts _ _ (Scans-over _ _ _ _ c.pieces.invariant (sym c.in-Over.ensures.value))

-- no token stands here
pub returns-in-Bad-clause-tokens : goal.returns-in-Bad-clause-tokens
returns-in-Bad-clause-tokens c = scan_stops _ _ _ (ap (λ s. s.stop) (Scans-bad _ _ _ _ _ c.pieces.invariant (sym c.in-Bad.ensures.value)))

-- a blank is passed over
pub pieces-preserved-in-Gap : goal.pieces-preserved-in-Gap
pieces-preserved-in-Gap c = Scans-gap _ _ _ _ _ c.pieces.invariant c.in-Gap.ensures.within (sym c.in-Gap.ensures.value) c.split_at.ensures.back

-- a token is one more
pub pieces-preserved : goal.pieces-preserved
unfolding placed_of
pieces-preserved c =
    Scans-cut _ (map placed_of c.pieces.lexemes.items) _ _ _ _ _ _ c.pieces.invariant c.in-Cut.ensures.within.0 c.in-Cut.ensures.within.1 (sym c.in-Cut.ensures.value) c.split_at-in-Cut.ensures.back
    (ap (map placed_of) c.in_ok-push-in-Cut.ensures.items ∙ map-append placed_of c.pieces.lexemes.items _)
