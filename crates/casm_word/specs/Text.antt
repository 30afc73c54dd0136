-- How the causes of a step are written in printed lines.
use Rattle.std.specs.Prelude.{ℕ, List, ◌++◌, codes}
use Rattle.std.specs.Fmt.{decimal}
use Rattle.casm_word.specs.declared.Shape.{Shape}
use Rattle.casm_word.specs.declared.Shape.TheVariants.{Op1, Res, Pc, Opcode, ApBoth, JnzOpcode, JnzAp, CallAp}
use Rattle.casm_word.specs.declared.WordFault.{WordFault}
use Rattle.casm_word.specs.declared.WordFault.TheVariants.{HighBit, Undefined}
use Rattle.casm_word.specs.Transition.{Outcome, Next, NoCell, BadWord, CallPc, CallFp, NotEqual}

-- The name of a shape. Own.
abbrev pub shape_text : Shape → List ℕ
shape_text Op1 = codes "Op1"
shape_text Res = codes "Res"
shape_text Pc = codes "Pc"
shape_text Opcode = codes "Opcode"
shape_text ApBoth = codes "ApBoth"
shape_text JnzOpcode = codes "JnzOpcode"
shape_text JnzAp = codes "JnzAp"
shape_text CallAp = codes "CallAp"

-- Why a number is no instruction. Own.
abbrev pub word_fault_text : WordFault → List ℕ
word_fault_text HighBit = codes "HighBit"
word_fault_text (Undefined shape) = codes "Undefined " ++ shape_text shape

-- Why a step isn't the transition to the state that was to follow: another next state is a mismatch. Own.
abbrev pub step_text : Outcome → List ℕ
step_text (Next s) = codes "Mismatch"
step_text (NoCell address) = codes "NoCell " ++ decimal address
step_text (BadWord fault) = codes "BadWord " ++ word_fault_text fault
step_text CallPc = codes "CallPc"
step_text CallFp = codes "CallFp"
step_text NotEqual = codes "NotEqual"
