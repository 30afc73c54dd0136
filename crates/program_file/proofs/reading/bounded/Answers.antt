use Rattle.std.proofs.Common.{arith}
use Rattle.program_file.proofs.reading.bounded.Goals as goal

pub invariant_of-result : goal.invariant_of-result
invariant_of-result c = record { few_words = c.requires; start_inside = omega arith; end_inside = omega arith }
