use Rattle.std.proofs.Common.{subst, ap, ◌∙◌, refl, List, map}
use Rattle.casm_tokens.specs.Marks.{Mark, placed_of}
use Rattle.casm_text.specs.Meaning.{column_at}
use Rattle.casm_grammar.specs.Language.{Derives, Kept, HasFault}
use Rattle.casm_grammar.specs.Grammar.{whole_line}
use Rattle.casm_grammar.specs.Seen.{seen, bodies_of}
use Rattle.casm_text.proofs.Columns.{marks-placed}
use Rattle.casm_text.proofs.parser.add_line.Goals as goal

pub returns-in_ok-push_items-in-Ok : goal.returns-in_ok-push_items-in-Ok
returns-in_ok-push_items-in-Ok c = (
  bodies_of c.in-Ok.read,
  c.in_ok-push_items-in-Ok.ensures,
  subst (λ (x : List Mark). Derives Kept whole_line (bodies_of c.in-Ok.read) x) (ap seen c.deref.ensures.value ∙ marks-placed c.args.lexemes.now.items) c.in-Ok.ensures.derives,
)

pub returns-in-Err : goal.returns-in-Err
returns-in-Err c = (
  c.in-Err.fault.at,
  subst (λ (x : List Mark). HasFault whole_line x c.in-Err.fault.at c.in-Err.fault.kind) (ap seen c.deref.ensures.value ∙ marks-placed c.args.lexemes.now.items) c.in-Err.ensures.fault,
  refl,
  c.column_at.ensures ∙ ap (λ x. column_at 0 (map placed_of x) c.in-Err.fault.at) c.deref-in-Err.ensures.value,
)
