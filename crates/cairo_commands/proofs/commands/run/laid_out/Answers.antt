use Rattle.program_file.specs.Listing.{listing}
use Rattle.vm_runner.specs.Completes.{ran}
use Rattle.cairo_commands.proofs.CompletedRuns.{was_inside, was_started, was_used, was_left}
use Rattle.cairo_commands.proofs.commands.run.laid_out.Goals as goal

pub relocate-requires-clause-inside : goal.relocate-requires-clause-inside
relocate-requires-clause-inside c =
    rw (c.deref.ensures.value) (was_inside (listing c.args.program.now) (ran c.args.completed) c.requires)

pub relocate-requires-clause-layout : goal.relocate-requires-clause-layout
relocate-requires-clause-layout c =
    rw (c.builtins.ensures) (was_started (listing c.args.program.now) (ran c.args.completed) c.requires)

pub relocate-requires-clause-used : goal.relocate-requires-clause-used
relocate-requires-clause-used c =
    rw (c.builtins.ensures) (was_used (listing c.args.program.now) (ran c.args.completed) c.requires)

pub relocate-requires-clause-last : goal.relocate-requires-clause-last
relocate-requires-clause-last c =
    rw (c.deref.ensures.value, c.builtins.ensures) (was_left (listing c.args.program.now) (ran c.args.completed) c.requires)
