-- How what is found is printed.
use Rattle.std.specs.Prelude.{ℕ, List, ◌++◌, Option, Some, None, codes}
use Rattle.std.specs.Fmt.{decimal}
use Rattle.casm_word.specs.Text.{step_text}
use Rattle.table_builder.specs.declared.faults.Field.{Field}
use Rattle.table_builder.specs.declared.faults.Field.TheVariants.{Steps, PcFirst, ApFirst, FpFirst, PcLast, ApLast, Cell, RcMin, RcMax}
use Rattle.table_builder.specs.declared.faults.BuildFault.{BuildFault}
use Rattle.table_builder.specs.Findings.{Finding, Mismatch, Step, NoCell, RangeWidth, TooWide, finding_of}

-- The name of what differs. Own.
abbrev pub field_name : Field → List ℕ
field_name Steps = codes "steps"
field_name PcFirst = codes "pc_first"
field_name ApFirst = codes "ap_first"
field_name FpFirst = codes "fp_first"
field_name PcLast = codes "pc_last"
field_name ApLast = codes "ap_last"
field_name (Cell address) = codes "cell " ++ decimal address.number
field_name RcMin = codes "rc_min"
field_name RcMax = codes "rc_max"

-- The text of what is found. Own.
abbrev pub finding_text : Finding → List ℕ
finding_text (Mismatch field stated found) =
    codes "Mismatch " ++ (field_name field ++ (codes " " ++ (decimal stated ++ (codes " " ++ decimal found))))
finding_text (Step step result) = codes "Step " ++ (decimal step ++ (codes ": " ++ step_text result))
finding_text (NoCell address) = codes "NoCell " ++ decimal address
finding_text (RangeWidth row) = codes "RangeWidth " ++ decimal row
finding_text (TooWide least greatest) = codes "TooWide " ++ (decimal least ++ (codes " " ++ decimal greatest))

-- The text of what is found, or that of want of memory where nothing is. Own.
abbrev pub text_of : Option Finding → List ℕ
text_of None = codes "Memory"
text_of (Some found) = finding_text found

-- The text of a fault. Own.
abbrev pub fault_text : BuildFault → List ℕ
fault_text fault = text_of (finding_of fault)
