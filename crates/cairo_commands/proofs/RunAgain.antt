-- What `walk` and `check` answer on the files that `run` has written.
use Rattle.std.proofs.Common.{◌≡◌, ◌-◌, true, List, [], ◌∷◌, length, Option, Some, IfSome, option_map, ap, ◌∙◌, subst}
use Rattle.file_port.specs.Files.{Name, Files}
use Rattle.command_words.specs.Names.{are_names}
use Rattle.command_frame.specs.declared.status.Status.TheVariants.{Done}
use Rattle.command_frame.specs.Answer.{Answer, says, reply_to, written}
use Rattle.cairo_commands.specs.Request.{Request, Run}
use Rattle.cairo_commands.specs.Reply.{request_in, task}
use Rattle.cairo_commands.specs.Commands.Walk.{walk_answer, steps_line}
use Rattle.cairo_commands.specs.Commands.Run.{RunsToEnd, laid}
use Rattle.cairo_commands.specs.Commands.Check.{check_answer, accepted_line}
use Rattle.cairo_commands.proofs.AskedNames.{KeepsNames, KeepsNames-asked}
use Rattle.cairo_commands.proofs.RunTheorem.{run_answer-ended, walked_again, checked_again}

module _ (words : List Name) (program hints trace memory public tables : Name) (files : Files) (asks : request_in words ≡ Some (Run program hints trace memory public tables)) (run : RunsToEnd program hints files) where
  names : are_names (program ∷ hints ∷ []) (trace ∷ memory ∷ public ∷ tables ∷ []) ≡ true
  unfolding KeepsNames task
  names = subst (λ (request : Option Request). IfSome request KeepsNames) asks (KeepsNames-asked words)

  -- what is true of the files that the reply leaves, where it is true of those that the run's answer leaves
  left_by : (answer : Files → Answer) (what : Answer) → answer (written (reply_to (Some (task (Run program hints trace memory public tables))) files).writes files) ≡ what → answer (written (reply_to (option_map task (request_in words)) files).writes files) ≡ what
  left_by answer what told = ap (λ (request : Option Request). answer (written (reply_to (option_map task request) files).writes files)) asks ∙ told

  pub run_then_walk : walk_answer trace memory (written (reply_to (option_map task (request_in words)) files).writes files) ≡ says Done (steps_line (length (laid run).states - 1))
  unfolding task
  run_then_walk =
      left_by (walk_answer trace memory) (says Done (steps_line (length (laid run).states - 1)))
      (ap (λ (a : Answer). walk_answer trace memory (written a.writes files)) (run_answer-ended program hints trace memory public tables files run)
      ∙ walked_again program hints trace memory public tables files names run)

  pub run_then_check : check_answer program public tables (written (reply_to (option_map task (request_in words)) files).writes files) ≡ says Done (accepted_line (length (laid run).states - 1))
  unfolding task
  run_then_check =
      left_by (check_answer program public tables) (says Done (accepted_line (length (laid run).states - 1)))
      (ap (λ (a : Answer). check_answer program public tables (written a.writes files)) (run_answer-ended program hints trace memory public tables files run)
      ∙ checked_again program hints trace memory public tables files names run)
