use Rattle.std.proofs.Common.{sym, ◌∙◌, arith}
use Rattle.builtin_segments.proofs.StartMemory.{stack-length}
use Rattle.builtin_segments.proofs.start.start_stack_length.Goals as goal

pub returns : goal.returns
returns c = omega (arith, stack-length c.args.builtins, c.builtin_count.ensures.count)
