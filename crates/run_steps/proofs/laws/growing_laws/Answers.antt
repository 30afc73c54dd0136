use Rattle.std.proofs.Common.{length}
use Rattle.run_steps.proofs.StepParts.{made, next_later}
use Rattle.run_steps.proofs.StepStands.{stands_of_segments, step-stands}
use Rattle.run_steps.proofs.laws.growing_laws.Goals as goal

pub returns : goal.returns
returns c = record {
  later = next_later;
  grows = λ rules m n s t e. (made rules m s n t e).grows;
  next = λ rules m n s t e. (made rules m s n t e).next;
  program = λ rules m n s t e. (made rules m s n t e).program_size;
  memory = λ rules m n s t is inside low e.
      let after = step-stands rules m s n t is (stands_of_segments (length m.sizes) s inside low) e in
      (after.0, after.1.fp.1);
}
