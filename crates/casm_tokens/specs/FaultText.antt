-- How the faults of a text are written in printed lines.
use Rattle.std.specs.Prelude.{ℕ, List, ◌++◌, codes}
use Rattle.std.specs.Fmt.{decimal}
use Rattle.casm_tokens.specs.declared.fault.SyntaxKind.{SyntaxKind}
use Rattle.casm_tokens.specs.declared.fault.SyntaxKind.TheVariants as kind
use Rattle.casm_tokens.specs.declared.fault.ParseFault.{ParseFault}
use Rattle.casm_tokens.specs.declared.fault.ParseFault.TheVariants.{Syntax, Memory}
use Rattle.casm_tokens.specs.Lines.{Fault}

-- The name of a kind. Own.
abbrev pub kind_name : SyntaxKind → List ℕ
kind_name kind.Char = codes "Char"
kind_name kind.Number = codes "Number"
kind_name kind.Range = codes "Range"
kind_name kind.Token = codes "Token"

-- A fault by its kind, its line and its column. Own.
abbrev pub syntax_text : Fault → List ℕ
syntax_text fault = kind_name fault.kind ++ (codes " " ++ (decimal fault.line ++ (codes ":" ++ decimal fault.column)))

-- A refusal of a text. Own.
abbrev pub parse_fault_text : ParseFault → List ℕ
parse_fault_text (Syntax line column kind) = syntax_text (record { line = line; column = column; kind = kind })
parse_fault_text Memory = codes "Memory"
