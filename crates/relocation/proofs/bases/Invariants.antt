use Rattle.std.proofs.Common.{◌≡◌, map}
use Rattle.std.specs.List.{range_with_len}
use Rattle.segments.specs.Relocation.{base}
use Rattle.relocation.proofs.bases.Given as goal

abbrev pub invariant-loop-seg : goal.invariant-loop-seg
invariant-loop-seg l = record {
  so_far : l.list.items ≡ map (base l.s.sizes) (range_with_len 0 l.seg);
  next : l.base ≡ base l.s.sizes l.seg;
}
