use Rattle.std.proofs.Common.{◌+◌, ◌-◌}
use Rattle.command_frame.proofs.TakenPieces.{HasRead}
use Rattle.command_frame.proofs.pieces.read_rest.Given as goal

abbrev pub invariant-pieces : goal.invariant-pieces
invariant-pieces g l =
    HasRead (g.T.Taker.took l.initial.taker) (g.S.Store.seen l.initial.store) (g.S.Store.seen l.store) l.piece l.taker l.limit l.taken

abbrev pub decreases-pieces : goal.decreases-pieces
decreases-pieces g l = l.limit + 1 - l.taken
