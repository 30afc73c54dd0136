-- What a memory with one cell more keeps.
use Rattle.std.proofs.Common.{◌≡◌, Some, Ok}
use Rattle.segments.specs.declared.Place.{Place}
use Rattle.segments.specs.declared.Value.{Value}
use Rattle.segments.specs.Memory.{RunMemory, IsMemory, Grows, cell, size}
use Rattle.segments.specs.Columns.{HasOffset}
use Rattle.builtin_segments.specs.Rules.{Rules, adding}
use Rattle.builtin_segments.proofs.Adding.{adding-memory, adding-grows, adding-holds, adding-size0}

-- a memory with a cell more
pub record Adds (m : RunMemory) (p : Place) (v : Value) (n : RunMemory) : Type 0 where
  pub grows : Grows m n
  pub program_size : size n 0 ≡ size m 0
  pub held : cell n p ≡ Some v
  pub memory : IsMemory m → HasOffset v → IsMemory n

pub adding-adds : (rules : Rules) (m : RunMemory) (p : Place) (v : Value) (n : RunMemory) → adding rules m p v ≡ Ok n → Adds m p v n
adding-adds rules m p v n e = record {
  grows = adding-grows rules m p v n e;
  program_size = adding-size0 rules m p v n e;
  held = adding-holds rules m p v n e;
  memory = λ is offset. adding-memory rules m p v n is offset e;
}
