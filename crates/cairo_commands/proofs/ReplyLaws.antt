-- What every reply keeps: its status is decided, and it writes its outputs where it ends with `Done`, and nothing else.
use Rattle.std.proofs.Common.{ℕ, List, [], ◌∷◌, length, Option, Some, None, Result, Ok, Err, refl}
use Rattle.std.specs.Option.{option_map}
use Rattle.file_port.specs.Files.{Name, Files}
use Rattle.casm_word.specs.Transition.{Registers, Outcome}
use Rattle.casm_word.specs.Run.{first_refused}
use Rattle.goldilocks.specs.Cells.{memory_of}
use Rattle.constraint_checker.specs.declared.Verdict.{Verdict}
use Rattle.constraint_checker.specs.declared.Verdict.TheVariants as verdict_is
use Rattle.constraint_checker.specs.Verdict.{verdict}
use Rattle.program_file.specs.Listing.{Listing}
use Rattle.builtin_segments.specs.Rules.{rules_of}
use Rattle.vm_runner.specs.declared.fault.RunFault.{RunFault}
use Rattle.vm_runner.specs.Run.{Ran, run_of}
use Rattle.table_file.specs.Tables.{Contents}
use Rattle.table_builder.specs.Findings.{Finding}
use Rattle.table_builder.specs.Building.{building}
use Rattle.command_frame.specs.declared.status.Status.TheVariants.{Refused, Run as RunStatus}
use Rattle.command_frame.specs.Answer.{outputs_of, reply_to}
use Rattle.command_frame.proofs.Settled.{IsSettled, settled_done, settled_says, settled_read}
use Rattle.cairo_commands.specs.Request.{Request, Walk, Asm, Dis, Run, Tables, Check}
use Rattle.cairo_commands.specs.Reply.{task}
use Rattle.cairo_commands.specs.RunFiles.{trace_format, memory_format}
use Rattle.cairo_commands.specs.Programs.{text_format, program_format}
use Rattle.cairo_commands.specs.HintFiles.{hints_format}
use Rattle.cairo_commands.specs.TableInputs.{public_format, tables_format}
use Rattle.cairo_commands.specs.Commands.Walk.{walked, walk_answer, refused_line as walk_refused}
use Rattle.cairo_commands.specs.Commands.Asm.{program_answer, asm_answer}
use Rattle.cairo_commands.specs.Commands.Dis.{text_answer, dis_answer}
use Rattle.cairo_commands.specs.Commands.Run.{ended_answer, run_answer, refused_line as run_refused}
use Rattle.cairo_commands.specs.Commands.Tables.{built_answer, tables_answer, refused_line as tables_refused}
use Rattle.cairo_commands.specs.Commands.Check.{checked, check_answer, refused_line as check_refused}

settled_walked : (states : List Registers) (refused : Option (ℕ × Outcome)) → IsSettled [] (walked states refused)
settled_walked states None = settled_done [] (walked states None) refl refl
settled_walked states (Some found) = settled_says [] Refused (walk_refused found.0 found.1) tt (λ e. cc)

settled_checked : (rows : ℕ) (v : Verdict) → IsSettled [] (checked rows v)
settled_checked rows verdict_is.Accepted = settled_done [] (checked rows verdict_is.Accepted) refl refl
settled_checked rows (verdict_is.Refused constraint row) = settled_says [] Refused (check_refused constraint row) tt (λ e. cc)

settled_built : (tables : Name) (r : Result Contents Finding) → IsSettled (tables ∷ []) (built_answer tables r)
settled_built tables (Ok columns) = settled_done (tables ∷ []) (built_answer tables (Ok columns)) refl refl
settled_built tables (Err found) = settled_says (tables ∷ []) Refused (tables_refused found) tt (λ e. cc)

settled_ended : (trace memory public tables : Name) (p : Listing) (r : Result Ran RunFault) → IsSettled (trace ∷ memory ∷ public ∷ tables ∷ []) (ended_answer trace memory public tables p r)
settled_ended trace memory public tables p (Ok ran) = settled_done (trace ∷ memory ∷ public ∷ tables ∷ []) (ended_answer trace memory public tables p (Ok ran)) refl refl
settled_ended trace memory public tables p (Err fault) = settled_says (trace ∷ memory ∷ public ∷ tables ∷ []) RunStatus (run_refused fault) tt (λ e. cc)

module _ (files : Files) where
  settled_walk : (trace memory : Name) → IsSettled [] (walk_answer trace memory files)
  unfolding walk_answer
  settled_walk trace memory =
      settled_read [] trace_format 1 trace files _ (λ states.
      settled_read [] memory_format 2 memory files _ (λ cells.
      settled_walked states (first_refused (memory_of cells) states)))

  settled_asm : (text program : Name) → IsSettled (program ∷ []) (asm_answer text program files)
  unfolding asm_answer
  settled_asm text program =
      settled_read (program ∷ []) text_format 1 text files _ (λ a.
      settled_done (program ∷ []) (program_answer program a) refl refl)

  settled_dis : (program text : Name) → IsSettled (text ∷ []) (dis_answer program text files)
  unfolding dis_answer
  settled_dis program text =
      settled_read (text ∷ []) program_format 1 program files _ (λ p.
      settled_done (text ∷ []) (text_answer text p) refl refl)

  settled_check : (program public tables : Name) → IsSettled [] (check_answer program public tables files)
  unfolding check_answer
  settled_check program public tables =
      settled_read [] program_format 1 program files _ (λ p.
      settled_read [] public_format 2 public files _ (λ u.
      settled_read [] tables_format 3 tables files _ (λ t.
      settled_checked (length t.rows) (verdict p u t))))

  pub settled_tables : (program public trace memory tables : Name) → IsSettled (tables ∷ []) (tables_answer program public trace memory tables files)
  unfolding tables_answer
  settled_tables program public trace memory tables =
      settled_read (tables ∷ []) program_format 1 program files _ (λ p.
      settled_read (tables ∷ []) public_format 2 public files _ (λ u.
      settled_read (tables ∷ []) trace_format 3 trace files _ (λ states.
      settled_read (tables ∷ []) memory_format 4 memory files _ (λ cells.
      settled_built tables (building p u (memory_of cells) states)))))

  pub settled_run : (program hints trace memory public tables : Name) → IsSettled (trace ∷ memory ∷ public ∷ tables ∷ []) (run_answer program hints trace memory public tables files)
  unfolding run_answer
  settled_run program hints trace memory public tables =
      settled_read (trace ∷ memory ∷ public ∷ tables ∷ []) program_format 1 program files _ (λ p.
      settled_read (trace ∷ memory ∷ public ∷ tables ∷ []) hints_format 2 hints files _ (λ h.
      settled_ended trace memory public tables p (run_of (rules_of p.builtins) p h)))

  settled_task : (request : Request) → IsSettled (task request).outputs ((task request).answer files)
  unfolding task
  settled_task (Walk trace memory) = settled_walk trace memory
  settled_task (Asm text program) = settled_asm text program
  settled_task (Dis program text) = settled_dis program text
  settled_task (Run program hints trace memory public tables) = settled_run program hints trace memory public tables
  settled_task (Tables program public trace memory tables) = settled_tables program public trace memory tables
  settled_task (Check program public tables) = settled_check program public tables

  pub settled_reply : (request : Option Request) → IsSettled (outputs_of (option_map task request)) (reply_to (option_map task request) files)
  settled_reply None = record { decided = tt; nothing = λ other. refl; all = λ e. cc }
  settled_reply (Some request) = settled_task request
