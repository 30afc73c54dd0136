use Rattle.std.proofs.Common.{arith}
use Rattle.std.proofs.lemmas.Grind.{common_steps}
use Rattle.command_frame.specs.Parts.{input_of}
use Rattle.command_frame.proofs.TakenPieces.{over_limit-taken, over_limit-uses}
use Rattle.command_frame.proofs.pieces.read_rest.Goals as goal

pub pieces-preserved : goal.pieces-preserved
pieces-preserved g c = grind (arith, common_steps)

pub returns-clause-takes : goal.returns-clause-takes
returns-clause-takes g c =
    let read = c.pieces.invariant in
    over_limit-taken (input_of c.args.input) (g.S.Store.seen c.args.store.now).reading (g.S.Store.seen c.pieces.store).reading read.bytes (omega (arith, read.count)) read.consumed

pub returns-clause-uses : goal.returns-clause-uses
returns-clause-uses g c =
    over_limit-uses (g.T.Taker.took c.args.taker) (input_of c.args.input) (g.S.Store.seen c.args.store.now) (g.S.Store.seen c.pieces.store) c.pieces.piece c.pieces.taker c.pieces.taken c.pieces.invariant (omega arith)
