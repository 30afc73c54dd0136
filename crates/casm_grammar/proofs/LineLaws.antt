-- What the reading of a line says of the grammar.
use Rattle.std.proofs.Common.{◌≡◌, ℕ, ◌-◌, ◌≤◌, ◌⊎◌, inl, inr, List, [], ◌∷◌, ◌++◌, length, Result, Ok, Err, refl, ap, sym, ◌∙◌, subst, append_assoc, append-nil}
use Rattle.casm_statements.specs.declared.Body.{Body}
use Rattle.casm_tokens.specs.declared.fault.SyntaxKind.{SyntaxKind}
use Rattle.casm_tokens.specs.Marks.{Mark}
use Rattle.casm_tokens.specs.declared.fault.SyntaxKind.TheVariants as kind
use Rattle.casm_grammar.specs.Language.{Language, ended, sign, word, directive, label, number, up_to, zero, either, Derives, Kept, Lifted, Begins, IsFault, HasFault}
use Rattle.casm_grammar.specs.Grammar.{whole_line}
use Rattle.casm_grammar.specs.Readers.{line_in}
use Rattle.casm_grammar.proofs.Runs.{Done}
use Rattle.casm_grammar.proofs.RunLaws.{done_derives, done_only, stopped_fault, stopped_within}
use Rattle.casm_grammar.proofs.Links.{fin, link_line}

pub read_derives : (ts : List Mark) (v : List Body) → Ok v ≡ line_in ts → Derives Kept whole_line v ts
read_derives ts v e = done_derives whole_line ts v (link_line ts ∙ ap (λ r. fin r (λ v. Done v)) (sym e))

pub read_only : (ts : List Mark) (v w : List Body) → Ok v ≡ line_in ts → Derives Kept whole_line w ts → w ≡ v
read_only ts v w e d = done_only whole_line ts v w (link_line ts ∙ ap (λ r. fin r (λ v. Done v)) (sym e)) d

pub read_fault : (ts : List Mark) (left : ℕ) (k : SyntaxKind) → Err (left, k) ≡ line_in ts → HasFault whole_line ts (length ts - left) k
read_fault ts left k e = stopped_fault whole_line ts left k (link_line ts ∙ ap (λ r. fin r (λ v. Done v)) (sym e))

pub read_within : (ts : List Mark) (left : ℕ) (k : SyntaxKind) → Err (left, k) ≡ line_in ts → left ≤ length ts
read_within ts left k e = stopped_within whole_line ts left k (link_line ts ∙ ap (λ r. fin r (λ v. Done v)) (sym e))

-- what derives with bounds kept derives with them lifted
lift : (l : Language) (v : List Body) (ts : List Mark) → Derives Kept l v ts → Derives Lifted l v ts
lift (ended w) v ts d = d
lift (sign s l) v ts (rest, e, d) = (rest, e, lift l v rest d)
lift (word r l) v ts (rest, e, d) = (rest, e, lift l v rest d)
lift (directive d l) v ts (text, rest, e, is, h) = (text, rest, e, is, lift l v rest h)
lift (label f) v ts (text, rest, e, d) = (text, rest, e, lift (f text) v rest d)
lift (number f) v ts (x, rest, e, d) = (x, rest, e, lift (f x) v rest d)
lift (up_to most f) v ts (x, rest, e, low, d) = (x, rest, e, tt, lift (f x) v rest d)
lift (zero l) v ts (x, rest, e, is, d) = (x, rest, e, is, lift l v rest d)
lift (either l r) v ts (inl d) = inl (lift l v ts d)
lift (either l r) v ts (inr d) = inr (lift r v ts d)

-- where a token is wrong, no line has it
excluded : (l : Language) (front rest : List Mark) (k : SyntaxKind) (v : List Body) → IsFault l front rest k → Derives Kept l v (front ++ rest) → ⊥
excluded l front [] k v h d = h.2 v (subst (λ (x : List Mark). Derives Kept l v x) (append-nil front) d)
excluded l front (t ∷ rest) kind.Token v h d =
    h.1 (record { value = v; more = rest; derives = subst (λ (x : List Mark). Derives Lifted l v x) (sym (append_assoc front (t ∷ []) rest)) (lift l v (front ++ t ∷ rest) d) })
excluded l front (t ∷ rest) kind.Range v h d =
    h.2 (record { value = v; more = rest; derives = subst (λ (x : List Mark). Derives Kept l v x) (sym (append_assoc front (t ∷ []) rest)) d })
excluded l front (t ∷ rest) kind.Char v h d = h
excluded l front (t ∷ rest) kind.Number v h d = h

-- tokens with a fault are no line
pub fault_excludes : (ts : List Mark) (at : ℕ) (k : SyntaxKind) (v : List Body) → HasFault whole_line ts at k → Derives Kept whole_line v ts → ⊥
fault_excludes ts at k v h d = excluded whole_line h.front h.rest k v h.fault (subst (λ (x : List Mark). Derives Kept whole_line v x) h.parts d)

-- tokens are a line, or have a fault
pub line_or_fault : (ts : List Mark) → ((v : List Body) × Derives Kept whole_line v ts) ⊎ ((at : ℕ) × (k : SyntaxKind) × HasFault whole_line ts at k)
line_or_fault ts = by_reading (line_in ts) refl
  where
    by_reading : (r : Result (List Body) (ℕ × SyntaxKind)) → r ≡ line_in ts → ((v : List Body) × Derives Kept whole_line v ts) ⊎ ((at : ℕ) × (k : SyntaxKind) × HasFault whole_line ts at k)
    by_reading (Ok v) e = inl (v, read_derives ts v e)
    by_reading (Err p) e = inr (length ts - p.0, p.1, read_fault ts p.0 p.1 e)

-- and have one meaning at most
pub one_meaning : (ts : List Mark) (v w : List Body) → Derives Kept whole_line v ts → Derives Kept whole_line w ts → v ≡ w
one_meaning ts v w d h = by_reading (line_in ts) refl
  where
    by_reading : (r : Result (List Body) (ℕ × SyntaxKind)) → r ≡ line_in ts → v ≡ w
    by_reading (Ok u) e = read_only ts u v e d ∙ sym (read_only ts u w e h)
    by_reading (Err p) e = absurd (fault_excludes ts (length ts - p.0) p.1 v (read_fault ts p.0 p.1 e) d)

-- two ways to cut tokens in two
data Cut (front rest : List Mark) (other others : List Mark) : Type 0 where
  Same : front ≡ other → rest ≡ others → Cut front rest other others
  Shorter : (t : Mark) (d : List Mark) → other ≡ front ++ t ∷ d → rest ≡ t ∷ (d ++ others) → Cut front rest other others
  Longer : (t : Mark) (d : List Mark) → front ≡ other ++ t ∷ d → others ≡ t ∷ (d ++ rest) → Cut front rest other others

cut_more : (x : Mark) (front rest other others : List Mark) → Cut front rest other others → Cut (x ∷ front) rest (x ∷ other) others
cut_more x front rest other others (Same e f) = Same (ap (λ y. x ∷ y) e) f
cut_more x front rest other others (Shorter t d e f) = Shorter t d (ap (λ y. x ∷ y) e) f
cut_more x front rest other others (Longer t d e f) = Longer t d (ap (λ y. x ∷ y) e) f

cuts : (front rest other others : List Mark) → front ++ rest ≡ other ++ others → Cut front rest other others
cuts [] rest [] others e = Same refl e
cuts [] rest (t ∷ d) others e = Shorter t d refl e
cuts (t ∷ d) rest [] others e = Longer t d refl (sym e)
cuts (x ∷ front) rest (y ∷ other) others e =
    let head : x ≡ y = cc in
    let tail : front ++ rest ≡ other ++ others = cc in
    subst (λ (z : Mark). Cut (x ∷ front) rest (z ∷ other) others) head (cut_more x front rest other others (cuts front rest other others tail))

-- before a fault the tokens begin a line, and no longer ones do
begins_before : (l : Language) (front rest : List Mark) (k : SyntaxKind) → IsFault l front rest k → Begins Kept l front
begins_before l front [] k h = h.1
begins_before l front (t ∷ rest) kind.Token h = h.0
begins_before l front (t ∷ rest) kind.Range h = h.0
begins_before l front (t ∷ rest) kind.Char h = absurd h
begins_before l front (t ∷ rest) kind.Number h = absurd h

again : (front : List Mark) (t : Mark) (d more : List Mark) → (front ++ t ∷ d) ++ more ≡ (front ++ t ∷ []) ++ (d ++ more)
again front t d more = append_assoc front (t ∷ d) more ∙ sym (append_assoc front (t ∷ []) (d ++ more))

begins_no_more : (l : Language) (front rest d : List Mark) (t : Mark) (k : SyntaxKind) → IsFault l front (t ∷ rest) k → Begins Kept l (front ++ t ∷ d) → ⊥
begins_no_more l front rest d t kind.Token h b =
    h.1 (record { value = b.value; more = d ++ b.more; derives = lift l b.value ((front ++ t ∷ []) ++ (d ++ b.more)) (subst (λ (x : List Mark). Derives Kept l b.value x) (again front t d b.more) b.derives) })
begins_no_more l front rest d t kind.Range h b =
    h.2 (record { value = b.value; more = d ++ b.more; derives = subst (λ (x : List Mark). Derives Kept l b.value x) (again front t d b.more) b.derives })
begins_no_more l front rest d t kind.Char h b = h
begins_no_more l front rest d t kind.Number h b = h

same_kind : (l : Language) (front rest : List Mark) (k m : SyntaxKind) → IsFault l front rest k → IsFault l front rest m → k ≡ m
same_kind l front [] k m h i = h.0 ∙ sym i.0
same_kind l front (t ∷ rest) kind.Token kind.Token h i = refl
same_kind l front (t ∷ rest) kind.Range kind.Range h i = refl
same_kind l front (t ∷ rest) kind.Token kind.Range h i = absurd (h.1 i.1)
same_kind l front (t ∷ rest) kind.Range kind.Token h i = absurd (i.1 h.1)
same_kind l front (t ∷ rest) kind.Char m h i = absurd h
same_kind l front (t ∷ rest) kind.Number m h i = absurd h
same_kind l front (t ∷ rest) kind.Token kind.Char h i = absurd i
same_kind l front (t ∷ rest) kind.Token kind.Number h i = absurd i
same_kind l front (t ∷ rest) kind.Range kind.Char h i = absurd i
same_kind l front (t ∷ rest) kind.Range kind.Number h i = absurd i

-- tokens have one first fault at most
pub one_fault : (ts : List Mark) (i j : ℕ) (k m : SyntaxKind) → HasFault whole_line ts i k → HasFault whole_line ts j m → (i ≡ j) × (k ≡ m)
one_fault ts i j k m h g = by_cut (cuts h.front h.rest g.front g.rest (sym h.parts ∙ g.parts))
  where
    by_cut : Cut h.front h.rest g.front g.rest → (i ≡ j) × (k ≡ m)
    by_cut (Same e f) =
        (sym h.place ∙ ap length e ∙ g.place, same_kind whole_line g.front g.rest k m (subst (λ (x : List Mark). IsFault whole_line x g.rest k) e (subst (λ (x : List Mark). IsFault whole_line h.front x k) f h.fault)) g.fault)
    by_cut (Shorter t d e f) =
        absurd (begins_no_more whole_line h.front (d ++ g.rest) d t k (subst (λ (x : List Mark). IsFault whole_line h.front x k) f h.fault) (subst (λ (x : List Mark). Begins Kept whole_line x) e (begins_before whole_line g.front g.rest m g.fault)))
    by_cut (Longer t d e f) =
        absurd (begins_no_more whole_line g.front (d ++ h.rest) d t m (subst (λ (x : List Mark). IsFault whole_line g.front x m) f g.fault) (subst (λ (x : List Mark). Begins Kept whole_line x) e (begins_before whole_line h.front h.rest k h.fault)))
