-- Tokens of a line as the parser has them.
use Rattle.std.proofs.Common.{◌≡◌, ℕ, zero, suc, ◌+◌, ◌-◌, ◌<◌, List, [], ◌∷◌, length, map, get_or, refl, ap, arith}
use Rattle.casm_tokens.specs.declared.marks.Lexeme.{Lexeme}
use Rattle.casm_tokens.specs.Marks.{Mark, mark_of, placed_of, marks}
use Rattle.casm_grammar.specs.Seen.{seen}
use Rattle.casm_text.specs.Meaning.{column_at}

-- what tokens say
pub marks-placed : (xs : List Lexeme) → seen xs ≡ marks (map placed_of xs)
unfolding placed_of
marks-placed [] = refl
marks-placed (x ∷ xs) = ap (λ (r : List Mark). mark_of x.mark ∷ r) (marks-placed xs)

-- the column of a token, and the one behind the last
pub column_in : (e : ℕ) (xs : List Lexeme) (i : ℕ) (d : Lexeme) → i < length xs → (get_or xs i d).start + 1 ≡ column_at e (map placed_of xs) i
unfolding placed_of
column_in e [] i d h = absurd (omega arith)
column_in e (x ∷ xs) zero d h = refl
column_in e (x ∷ xs) (suc i) d h = column_in x.end xs i d (omega arith)

pub column_behind : (e : ℕ) (xs : List Lexeme) (j : ℕ) (d : Lexeme) → length xs ≡ suc j → (get_or xs j d).end + 1 ≡ column_at e (map placed_of xs) (suc j)
unfolding placed_of
column_behind e [] j d h = absurd (omega arith)
column_behind e (x ∷ []) zero d h = refl
column_behind e (x ∷ []) (suc j) d h = absurd (omega arith)
column_behind e (x ∷ y ∷ ys) zero d h = absurd (omega arith)
column_behind e (x ∷ y ∷ ys) (suc j) d h = column_behind x.end (y ∷ ys) j d (omega arith)

pub column_last : (e : ℕ) (xs : List Lexeme) (i : ℕ) (d : Lexeme) → length xs ≡ i → 0 < i → (get_or xs (i - 1) d).end + 1 ≡ column_at e (map placed_of xs) i
column_last e xs zero d h p = absurd (omega arith)
column_last e xs (suc j) d h p = let same : suc j - 1 ≡ j = omega arith in rw same (column_behind e xs j d h)
