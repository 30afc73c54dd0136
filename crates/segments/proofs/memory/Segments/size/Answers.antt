use Rattle.std.proofs.Common.{◌≤◌, ◌^◌, arith}
use Rattle.std.proofs.lemmas.Grind.{common_steps}
use Rattle.segments.specs.Columns.{kept_memory}
use Rattle.segments.specs.Memory.{size}
use Rattle.segments.proofs.Columns.{kept}
use Rattle.segments.proofs.Memories.{size_within}
use Rattle.segments.proofs.memory.Segments.size.Goals as goal

pub overflow_cast-result : goal.overflow_cast-result
overflow_cast-result c =
    let small : size (kept_memory c.self.inside.columns.items) c.args.seg ≤ 2 ^ 21 = size_within (kept_memory c.self.inside.columns.items) c.args.seg c.self.invariant.0 in
    grind (arith, common_steps, kept)
