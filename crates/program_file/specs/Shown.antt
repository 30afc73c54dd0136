-- How the faults of a program file are printed.
use Rattle.std.specs.Prelude.{ℕ, List, ◌++◌, codes}
use Rattle.std.specs.Fmt.{decimal}
use Rattle.program_file.specs.declared.faults.ProgramKey.{ProgramKey}
use Rattle.program_file.specs.declared.faults.ProgramKey.TheVariants as key
use Rattle.program_file.specs.declared.faults.ProgramFault.{ProgramFault}
use Rattle.program_file.specs.declared.faults.ProgramFault.TheVariants as fault

-- The name of a key in the file. Own.
abbrev pub key_name : ProgramKey → List ℕ
key_name key.Prime = codes "prime"
key_name key.Words = codes "data"
key_name key.Start = codes "start"
key_name key.End = codes "end"
key_name key.Builtins = codes "builtins"

-- A fault as text: its name, and the key or the entry that it is about. Own.
abbrev pub fault_text : ProgramFault → List ℕ
fault_text fault.Json = codes "Json"
fault_text (fault.Key k) = codes "Key " ++ key_name k
fault_text fault.Prime = codes "Prime"
fault_text fault.TooLong = codes "TooLong"
fault_text (fault.Felt i) = codes "Felt " ++ decimal i
fault_text fault.Builtin = codes "Builtin"
fault_text (fault.Label k) = codes "Label " ++ key_name k
fault_text fault.Memory = codes "Memory"
