-- The lines of a text that are cut so far.
use Rattle.std.proofs.Common.{◌≡◌, ℕ, ◌+◌, ◌≤◌, inl, inr, List, [], ◌∷◌, ◌++◌, length, map, refl, ap, sym, ◌∙◌, subst, arith, append_assoc, append-nil}
use Rattle.casm_tokens.specs.declared.fault.SyntaxKind.{SyntaxKind}
use Rattle.casm_tokens.specs.declared.spans.Token.{Token}
use Rattle.casm_tokens.specs.Marks.{Placed}
use Rattle.casm_tokens.specs.Tokens.{CutsInto, StopsAt}
use Rattle.casm_tokens.specs.Lines.{Fault, token_at, AreTokens, HasTokens, IsFirstStop, HasStop}
use Rattle.casm_tokens.proofs.LineLemmas.{lines, are_lines}

-- the tokens found so far, and the line that the rest begins with
pub record Cuts (text : List ℕ) (found : List Token) (line start : ℕ) (rest : List ℕ) : Type 0 where
  pub in_range : start + length rest ≡ length text
  pub counted : line ≤ start + 1
  pub are_tokens : (more : List Token) → AreTokens line start (lines rest) more → AreTokens 1 0 (lines text) (found ++ more)
  pub first_stop : (f : Fault) → IsFirstStop line (lines rest) f → IsFirstStop 1 (lines text) f

pub Cuts-none : (text : List ℕ) → Cuts text [] 1 0 text
Cuts-none text = record { in_range = omega arith; counted = omega arith; are_tokens = λ more h. h; first_stop = λ f h. h }

-- one more line
pub Cuts-line : (text : List ℕ) (found more : List Token) (line start : ℕ) (rest bytes next : List ℕ) (tokens : List Placed) → Cuts text found line start rest → lines rest ≡ bytes ∷ lines next → length bytes + 1 + length next ≡ length rest → CutsInto bytes tokens → more ≡ found ++ map (token_at line start) tokens → Cuts text more (line + 1) (start + (length bytes + 1)) next
Cuts-line text found more line start rest bytes next tokens c is len cut pushed = record {
  in_range = omega (arith, c.in_range);
  counted = omega (arith, c.counted);
  are_tokens = λ others h. subst (λ (x : List Token). AreTokens 1 0 (lines text) x) (sym (ap (λ x. x ++ others) pushed ∙ append_assoc found (map (token_at line start) tokens) others))
      (c.are_tokens (map (token_at line start) tokens ++ others) (subst (λ (ls : List (List ℕ)). AreTokens line start ls (map (token_at line start) tokens ++ others)) (sym is) (tokens, others, refl, cut, subst (λ (s : ℕ). AreTokens (line + 1) s (lines next) others) same h)));
  first_stop = λ f h. c.first_stop f (subst (λ (ls : List (List ℕ)). IsFirstStop line ls f) (sym is) (inr (tokens, cut, h)));
}
  where
    same : start + (length bytes + 1) ≡ start + length bytes + 1
    same = omega arith

-- the last line
pub Cuts-last : (text : List ℕ) (found more : List Token) (line start : ℕ) (rest bytes : List ℕ) (tokens : List Placed) → Cuts text found line start rest → lines rest ≡ bytes ∷ [] → CutsInto bytes tokens → more ≡ found ++ map (token_at line start) tokens → HasTokens text more
Cuts-last text found more line start rest bytes tokens c is cut pushed = record {
  lines = lines text;
  are_lines = are_lines text;
  are_tokens = subst (λ (x : List Token). AreTokens 1 0 (lines text) x) (sym pushed)
      (c.are_tokens (map (token_at line start) tokens) (subst (λ (ls : List (List ℕ)). AreTokens line start ls (map (token_at line start) tokens)) (sym is) (tokens, [], sym (append-nil (map (token_at line start) tokens)), cut, refl)));
}

-- a line where no token stands at a place
pub Cuts-stop : (text : List ℕ) (found : List Token) (line start : ℕ) (rest bytes : List ℕ) (others : List (List ℕ)) (at : ℕ) (kind : SyntaxKind) → Cuts text found line start rest → lines rest ≡ bytes ∷ others → StopsAt bytes at kind → HasStop text (record { line = line; column = at + 1; kind = kind })
Cuts-stop text found line start rest bytes others at kind c is stop = record {
  lines = lines text;
  are_lines = are_lines text;
  first = c.first_stop (record { line = line; column = at + 1; kind = kind }) (subst (λ (ls : List (List ℕ)). IsFirstStop line ls (record { line = line; column = at + 1; kind = kind })) (sym is) (inl (at, stop, refl, refl)));
}
