use Rattle.command_words.specs.Names.{texts}
use Rattle.cairo_commands.proofs.RunAgain.{run_then_walk, run_then_check}
use Rattle.cairo_commands.proofs.again.run_again_laws.Goals as goal

pub returns : goal.returns
returns c = record {
  run_then_walk = λ words. run_then_walk (texts words);
  run_then_check = λ words. run_then_check (texts words);
}
