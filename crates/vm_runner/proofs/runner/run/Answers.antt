use Rattle.program_file.specs.Listing.{listing}
use Rattle.hint_cells.specs.HintList.{hint_list}
use Rattle.builtin_segments.specs.Rules.{rules_of}
use Rattle.vm_runner.specs.Completes.{ran}
use Rattle.vm_runner.proofs.Completing.{completes_in}
use Rattle.vm_runner.proofs.runner.run.Goals as goal

pub returns-clause-completes : goal.returns-clause-completes
returns-clause-completes c =
    let p = listing c.args.program.now in
    let h = hint_list c.args.hints.now in
    let done = c.in_ok-completed in
    completes_in (rules_of p.builtins) p h (ran done.completed) c.bound_laws.ensures c.bound_laws-2.ensures.extra (done.ensures.completed (rules_of p.builtins)) done.ensures.kept
