-- What the parts of a command say to one another. The contract of the call itself cites none of it. Own.
use Rattle.std.specs.Prelude.{◌≡◌, ⊤, Option, Some, None, Result, Ok, Err}
use Rattle.std.specs.declared.alloc.AllocError.{AllocError}
use Rattle.command_frame.specs.declared.status.Status.TheVariants.{Refused}
use Rattle.command_frame.specs.declared.ending.Work.{Work}
use Rattle.command_frame.specs.Answer.{says}
use Rattle.command_frame.specs.Parts.{work_answer}
use Rattle.hint_cells.specs.HintList.{HintList, AreHints}
use Rattle.program_file.specs.Listing.{Listing, IsProgram}
use Rattle.builtin_segments.specs.Rules.{rules_of}
use Rattle.vm_runner.specs.Run.{Ran, run_of}
use Rattle.table_builder.specs.Findings.{Finding}
use Rattle.cairo_commands.specs.Commands.Tables.{refused_line}

-- A run is refused for what is found, unless memory ran out. Own.
abbrev pub TellsFinding : Option Finding → Result Work AllocError → Type 0
TellsFinding (Some found) (Ok work) = work_answer work ≡ says Refused (refused_line found)
TellsFinding None (Ok work) = ⊥
TellsFinding found (Err memory) = ⊤

-- The run of a program with some hints came to this end. Own.
pub record WasRun (p : Listing) (ran : Ran) : Type 0 where
  pub is_program : IsProgram p
  pub hints : HintList
  pub are_hints : AreHints hints
  pub completes : run_of (rules_of p.builtins) p hints ≡ Ok ran
