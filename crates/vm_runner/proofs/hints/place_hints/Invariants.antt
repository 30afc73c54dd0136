use Rattle.std.proofs.Common.{◌≡◌, drop}
use Rattle.segments.specs.Memory.{IsMemory}
use Rattle.builtin_segments.specs.Rules.{Rules}
use Rattle.vm_runner.specs.Run.{hinted}
use Rattle.vm_runner.proofs.hints.place_hints.Given as goal

abbrev pub invariant-loop-index : goal.invariant-loop-index
invariant-loop-index l = record {
  left : (rules : Rules) → hinted rules l.index (drop l.index l.hints) l.memory ≡ hinted rules 0 l.hints l.fn.memory;
  kept : IsMemory l.memory;
}
