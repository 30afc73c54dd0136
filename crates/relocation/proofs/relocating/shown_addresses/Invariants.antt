use Rattle.std.proofs.Common.{◌≡◌, ℕ, List}
use Rattle.goldilocks.specs.Felts.{numbers}
use Rattle.segments.specs.Relocation.{segment_bases}
use Rattle.relocation.proofs.Cells.{first_addresses}
use Rattle.relocation.proofs.relocating.shown_addresses.Given as goal

abbrev pub invariant-loop-off : goal.invariant-loop-off
invariant-loop-off l =
    (sizes : List ℕ) → l.bases ≡ segment_bases sizes → numbers l.list.items ≡ first_addresses sizes l.off
