-- How the causes against a run are printed.
use Rattle.std.specs.Prelude.{ℕ, List, ◌++◌, codes}
use Rattle.std.specs.Fmt.{decimal}
use Rattle.builtin_segments.specs.Shown.{cell_cause_text}
use Rattle.run_steps.specs.Shown.{step_cause_text}
use Rattle.vm_runner.specs.declared.fault.RunFault.{RunFault}
use Rattle.vm_runner.specs.declared.fault.RunFault.TheVariants.{Builtins, Hint, NoSteps, Step, StepLimit, Memory}

-- A fault as text: what is refused, and where it is one hint or one step its index and the cause there. Own.
abbrev pub fault_text : RunFault → List ℕ
fault_text Builtins = codes "builtins"
fault_text (Hint i cause) = codes "hint " ++ (decimal i ++ (codes ": " ++ cell_cause_text cause))
fault_text NoSteps = codes "no steps"
fault_text (Step i cause) = codes "step " ++ (decimal i ++ (codes ": " ++ step_cause_text cause))
fault_text StepLimit = codes "step limit"
fault_text Memory = codes "Memory"
