use Rattle.std.proofs.Common.{arith}
use Rattle.program_file.specs.Listing.{listing}
use Rattle.vm_runner.specs.Completes.{ran}
use Rattle.cairo_commands.proofs.CompletedRuns.{laid_run_of, laid_stated, laid_least, laid_most}
use Rattle.cairo_commands.proofs.commands.run.written.Goals as goal

pub public_of-requires : goal.public_of-requires
public_of-requires c = record { stated = laid_stated (listing c.args.program.now) (ran c.args.completed) c.requires c.in_ok-run.run' c.in_ok-run.ensures }

pub tables_of-requires-clause-of_program : goal.tables_of-requires-clause-of_program
tables_of-requires-clause-of_program c = laid_run_of (listing c.args.program.now) (ran c.args.completed) c.requires c.in_ok-run.run' c.in_ok-run.ensures

pub outputs-requires-clause-least : goal.outputs-requires-clause-least
outputs-requires-clause-least c = laid_least (listing c.args.program.now) (ran c.args.completed) c.requires c.in_ok-run.run' c.in_ok-run.ensures

pub outputs-requires-clause-most : goal.outputs-requires-clause-most
outputs-requires-clause-most c = laid_most (listing c.args.program.now) (ran c.args.completed) c.requires c.in_ok-run.run' c.in_ok-run.ensures

pub overflow_sub-len : goal.overflow_sub-len
overflow_sub-len c = omega (arith, c.len.ensures, laid_least (listing c.args.program.now) (ran c.args.completed) c.requires c.in_ok-run.run' c.in_ok-run.ensures)
