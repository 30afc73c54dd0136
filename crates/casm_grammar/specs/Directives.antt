-- The words of directives.
use Rattle.std.specs.Prelude.{ℕ, if◌then◌else◌, List, Option, Some, None, codes}
use Rattle.std.specs.Str.{bytes_eq}
use Rattle.casm_grammar.specs.declared.directive.Directive.{Directive}
use Rattle.casm_grammar.specs.declared.directive.Directive.TheVariants.{Builtins, Output, RangeCheck, Start, End}

-- The directive's word that a text is, if it is one. Own.
unfoldable pub directive_word : List ℕ → Option Directive
directive_word text =
    if bytes_eq text (codes "builtins") then Some Builtins
    else (if bytes_eq text (codes "output") then Some Output
    else (if bytes_eq text (codes "range_check") then Some RangeCheck
    else (if bytes_eq text (codes "start") then Some Start
    else (if bytes_eq text (codes "end") then Some End
    else None))))
