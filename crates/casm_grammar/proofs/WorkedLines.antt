-- Worked lines: what tokens derive.
use Rattle.std.proofs.Common.{[], ◌∷◌, refl, inl, inr}
use Rattle.casm_statements.specs.declared.name.Reserved.TheVariants as reserved
use Rattle.casm_statements.specs.declared.Stmt.TheVariants.{Ret}
use Rattle.casm_statements.specs.declared.Body.TheVariants as body
use Rattle.casm_tokens.specs.declared.marks.Symbol.TheVariants.{Semicolon}
use Rattle.casm_tokens.specs.Marks.{Sign, Keyword}
use Rattle.casm_grammar.specs.Language.{Kept, Derives}
use Rattle.casm_grammar.specs.Grammar.{whole_line}

-- `ret;`
ret_derives : Derives Kept whole_line (body.Stmt Ret ∷ []) (Keyword reserved.Ret ∷ Sign Semicolon ∷ [])
unfolding whole_line
ret_derives = inr (inl (inr (inl (inl (inr (_, refl, inr (_, refl, (refl, refl))))))))
