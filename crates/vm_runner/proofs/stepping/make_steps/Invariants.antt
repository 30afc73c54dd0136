use Rattle.std.proofs.Common.{◌≡◌, ◌-◌}
use Rattle.segments.specs.Memory.{IsMemory}
use Rattle.program_file.specs.Listing.{listing}
use Rattle.public_input.specs.Limits.{step_limit}
use Rattle.builtin_segments.specs.Rules.{Rules}
use Rattle.builtin_segments.specs.Start.{first_state}
use Rattle.vm_runner.specs.Run.{after, run_from}
use Rattle.vm_runner.proofs.stepping.make_steps.Given as goal

abbrev pub invariant-loop-index : goal.invariant-loop-index
invariant-loop-index l = record {
  left : (rules : Rules) →
      after l.states.items (run_from rules (listing l.program) (step_limit - l.index) l.index l.memory l.state)
      ≡ run_from rules (listing l.program) step_limit 0 l.fn.memory (first_state (listing l.program));
  kept : IsMemory l.memory;
}
