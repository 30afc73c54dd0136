-- How the causes against a step are printed.
use Rattle.std.specs.Prelude.{ℕ, List, ◌++◌, codes}
use Rattle.casm_word.specs.Text.{word_fault_text}
use Rattle.segments.specs.Shown.{place_text, fault_text}
use Rattle.builtin_segments.specs.Shown.{cell_cause_text}
use Rattle.run_steps.specs.declared.cause.Spot.{Spot}
use Rattle.run_steps.specs.declared.cause.Spot.TheVariants.{Dst, Op0, Op1}
use Rattle.run_steps.specs.declared.cause.StepCause.{StepCause}
use Rattle.run_steps.specs.declared.cause.StepCause.TheVariants.{NoInstruction, BadWord, AddressRange, Unknown, NotPointer, Arith, Cell, CallPc, CallFp, NotEqual, PcNotPointer, FpNotPointer}

-- The name of an operand. Own.
abbrev pub spot_text : Spot → List ℕ
spot_text Dst = codes "Dst"
spot_text Op0 = codes "Op0"
spot_text Op1 = codes "Op1"

-- A cause as text: its name, and where it has them its operand, its place and the cause there. Own.
abbrev pub step_cause_text : StepCause → List ℕ
step_cause_text NoInstruction = codes "NoInstruction"
step_cause_text (BadWord fault) = codes "BadWord " ++ word_fault_text fault
step_cause_text (AddressRange spot) = codes "AddressRange " ++ spot_text spot
step_cause_text (Unknown place) = codes "Unknown " ++ place_text place
step_cause_text NotPointer = codes "NotPointer"
step_cause_text (Arith fault) = codes "Arith " ++ fault_text fault
step_cause_text (Cell place cause) = codes "cell " ++ (place_text place ++ (codes ": " ++ cell_cause_text cause))
step_cause_text CallPc = codes "CallPc"
step_cause_text CallFp = codes "CallFp"
step_cause_text NotEqual = codes "NotEqual"
step_cause_text PcNotPointer = codes "PcNotPointer"
step_cause_text FpNotPointer = codes "FpNotPointer"
