use Rattle.std.proofs.Common.{◌-◌, ℕ, subst, arith}
use Rattle.std.proofs.lemmas.List.{length-map}
use Rattle.casm_tokens.specs.Marks.{mark_of}
use Rattle.casm_tokens.specs.declared.marks.Lexeme.{Lexeme}
use Rattle.casm_grammar.specs.Language.{HasFault}
use Rattle.casm_grammar.specs.Grammar.{whole_line}
use Rattle.casm_grammar.specs.Seen.{seen}
use Rattle.casm_grammar.proofs.LineLaws.{read_derives, read_only, read_fault, read_within}
use Rattle.casm_grammar.proofs.line.read_line.Goals as goal

pub returns-in-Ok-clause-derives : goal.returns-in-Ok-clause-derives
returns-in-Ok-clause-derives c = read_derives _ _ c.in-Ok.ensures

pub returns-in-Ok-clause-only : goal.returns-in-Ok-clause-only
returns-in-Ok-clause-only c = λ v d. read_only _ _ v c.in-Ok.ensures d

pub overflow_sub-result : goal.overflow_sub-result
overflow_sub-result c =
    let h = read_within _ _ _ c.in-Err.ensures in
    omega (arith, length-map c.args.tokens.now (λ (t : Lexeme). mark_of t.mark))

pub returns-in-Err-clause-fault : goal.returns-in-Err-clause-fault
returns-in-Err-clause-fault c =
    subst (λ (n : ℕ). HasFault whole_line (seen c.args.tokens.now) (n - c.in-Err.refusal.left) c.in-Err.refusal.kind) (length-map c.args.tokens.now (λ (t : Lexeme). mark_of t.mark)) (read_fault _ _ _ c.in-Err.ensures)
