-- The tokens that are written, one part after another, are those of the whole.
use Rattle.std.proofs.Common.{◌≡◌, List, [], ◌∷◌, ◌++◌, Ok, sym, ap, ◌∙◌, append_assoc}
use Rattle.json.specs.Token.{Token}
use Rattle.json.specs.Tree.{json_tokens}
use Rattle.json.specs.Print.{print}
use Rattle.json.specs.Written.{Written, Writes}
use Rattle.serde_json.specs.Written.{outline}
use Rattle.serde_json.proofs.Texts.{print-outline}
use Rattle.public_input.specs.Statement.{Statement}
use Rattle.public_input.specs.Written.{statement_json, written}
use Rattle.public_input.specs.Parts.{WritesTokens, register_tokens, number_tokens}

-- tokens after tokens
pub WritesTokens-append : (a b c : Written) (ts us : List Token) → WritesTokens a b ts → WritesTokens b c us → WritesTokens a c (ts ++ us)
WritesTokens-append a b c ts us first then = record {
  tokens = then.tokens ∙ (ap (λ xs. xs ++ us) first.tokens ∙ append_assoc a.tokens ts us);
  rest = then.rest ∙ first.rest;
}

-- one token
pub WritesTokens-one : {E : Type 0} (a b : Written) (t : Token) → Writes {E = E} (Ok tt) a b t → WritesTokens a b (t ∷ [])
WritesTokens-one a b t one = record { tokens = one.ok; rest = one.room.0 }

-- all tokens of what is said
pub json_tokens-statement : (s : Statement) → json_tokens (outline (statement_json s)) ≡ Token.begin_object ∷ (register_tokens s ++ (number_tokens s ++ Token.end_object ∷ []))
unfolding statement_json
json_tokens-statement s = sym (simp append_assoc)

-- what they print is what is written
pub print-statement : (a b : Written) (s : Statement) → a.tokens ≡ [] → a.before ≡ [] → WritesTokens a b (Token.begin_object ∷ (register_tokens s ++ (number_tokens s ++ Token.end_object ∷ []))) → b.before ++ print b.tokens ≡ written s
unfolding written
print-statement a b s none empty writes =
    let tokens : b.tokens ≡ json_tokens (outline (statement_json s)) = writes.tokens ∙ (ap (λ xs. xs ++ (Token.begin_object ∷ (register_tokens s ++ (number_tokens s ++ Token.end_object ∷ [])))) none ∙ sym (json_tokens-statement s)) in
    let before : b.before ≡ [] = writes.rest ∙ empty in
    rw (before, tokens) (print-outline (statement_json s))
