use Rattle.std.proofs.Common.{◌≡◌, ◌+◌, ◌-◌, length}
use Rattle.builtin_segments.specs.Start.{start_stack, with_stack}
use Rattle.builtin_segments.specs.Filling.{IsFilled, base_pointers}
use Rattle.builtin_segments.proofs.start.fill_stack.Given as goal

abbrev pub invariant-loop-index : goal.invariant-loop-index
invariant-loop-index l = record {
  filled : IsFilled l.memory (2 + l.index);
  count : length l.memory.sizes ≡ length l.fn.memory.sizes;
  rest : with_stack (2 + l.index) (base_pointers (2 + l.index) (l.index-end - l.index)) l.memory
      ≡ with_stack 0 (start_stack l.fn.builtins) l.fn.memory;
}
