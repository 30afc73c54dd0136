-- What a run of tokens says of the languages that take them.
use Rattle.std.proofs.Common.{◌≡◌, ℕ, suc, ◌-◌, ◌≤◌, ◌<◌, Bool, true, false, not, ◌||◌, ◌⊎◌, inl, inr, eqb, leb, List, [], ◌∷◌, ◌++◌, length, Option, Some, None, refl, ap, sym, subst, ◌∙◌, arith, eqb-true, leb-true, le-leb, eq-eqb, cond, codes, length-append}
use Rattle.goldilocks.specs.declared.Felt.{Felt}
use Rattle.goldilocks.specs.Felts.{felt}
use Rattle.casm_statements.specs.declared.name.Reserved.{Reserved}
use Rattle.casm_statements.specs.declared.name.Reserved.TheVariants as reserved
use Rattle.casm_statements.specs.declared.Body.{Body}
use Rattle.casm_tokens.specs.declared.marks.Symbol.{Symbol}
use Rattle.casm_tokens.specs.declared.marks.Symbol.TheVariants as symbol
use Rattle.casm_tokens.specs.declared.fault.SyntaxKind.{SyntaxKind}
use Rattle.casm_tokens.specs.declared.fault.SyntaxKind.TheVariants as kind
use Rattle.casm_tokens.specs.Marks.{Mark, Sign, Keyword, Label, Number}
use Rattle.casm_grammar.specs.declared.directive.Directive.{Directive}
use Rattle.casm_grammar.specs.declared.directive.Directive.TheVariants as the
use Rattle.casm_grammar.specs.Directives.{directive_word}
use Rattle.casm_grammar.specs.Language.{Language, ended, sign, word, directive, label, number, up_to, zero, either, Bounds, Kept, Lifted, Within, Derives, Begins, IsFault, HasFault}
use Rattle.casm_grammar.specs.Readers.{sign_code, word_code, directive_code, same_directive}
use Rattle.casm_grammar.proofs.Runs.{when, within, next, beyond, ends, nexts, beyonds, endings, Outcome, Done, Stopped, finish, advance, run}

-- the numbers tell signs and words apart
from_sign_code : ℕ → Symbol
from_sign_code n = cond (eqb n 0) symbol.Increment (cond (eqb n 1) symbol.AddTo (cond (eqb n 2) symbol.NotEqual (cond (eqb n 3) symbol.Open (cond (eqb n 4) symbol.Close (cond (eqb n 5) symbol.Plus (cond (eqb n 6) symbol.Minus (cond (eqb n 7) symbol.Times (cond (eqb n 8) symbol.Equal (cond (eqb n 9) symbol.Semicolon (cond (eqb n 10) symbol.Comma (cond (eqb n 11) symbol.Colon symbol.Percent)))))))))))

sign_back : (s : Symbol) → from_sign_code (sign_code s) ≡ s
unfolding from_sign_code
sign_back symbol.Increment = refl
sign_back symbol.AddTo = refl
sign_back symbol.NotEqual = refl
sign_back symbol.Open = refl
sign_back symbol.Close = refl
sign_back symbol.Plus = refl
sign_back symbol.Minus = refl
sign_back symbol.Times = refl
sign_back symbol.Equal = refl
sign_back symbol.Semicolon = refl
sign_back symbol.Comma = refl
sign_back symbol.Colon = refl
sign_back symbol.Percent = refl

from_word_code : ℕ → Reserved
from_word_code n = cond (eqb n 0) reserved.Ap (cond (eqb n 1) reserved.Fp (cond (eqb n 2) reserved.Jmp (cond (eqb n 3) reserved.Call (cond (eqb n 4) reserved.Ret (cond (eqb n 5) reserved.If (cond (eqb n 6) reserved.Rel (cond (eqb n 7) reserved.Abs reserved.Dw)))))))

word_back : (r : Reserved) → from_word_code (word_code r) ≡ r
unfolding from_word_code
word_back reserved.Ap = refl
word_back reserved.Fp = refl
word_back reserved.Jmp = refl
word_back reserved.Call = refl
word_back reserved.Ret = refl
word_back reserved.If = refl
word_back reserved.Rel = refl
word_back reserved.Abs = refl
word_back reserved.Dw = refl

from_directive_code : ℕ → Directive
from_directive_code n = cond (eqb n 0) the.Builtins (cond (eqb n 1) the.Output (cond (eqb n 2) the.RangeCheck (cond (eqb n 3) the.Start the.End)))

directive_back : (d : Directive) → from_directive_code (directive_code d) ≡ d
unfolding from_directive_code
directive_back the.Builtins = refl
directive_back the.Output = refl
directive_back the.RangeCheck = refl
directive_back the.Start = refl
directive_back the.End = refl

eqb_refl : (n : ℕ) → eqb n n ≡ true
eqb_refl n = eq-eqb n n refl

-- some of the languages has the tokens as a line with this meaning
abbrev pub Any : Bounds → List Language → List Body → List Mark → Type 0
Any b [] v ts = ⊥
Any b (l ∷ ls) v ts = Derives b l v ts ⊎ Any b ls v ts

Any-left : (b : Bounds) (xs ys : List Language) (v : List Body) (ts : List Mark) → Any b xs v ts → Any b (xs ++ ys) v ts
Any-left b [] ys v ts h = absurd h
Any-left b (x ∷ xs) ys v ts (inl d) = inl d
Any-left b (x ∷ xs) ys v ts (inr h) = inr (Any-left b xs ys v ts h)

Any-right : (b : Bounds) (xs ys : List Language) (v : List Body) (ts : List Mark) → Any b ys v ts → Any b (xs ++ ys) v ts
Any-right b [] ys v ts h = h
Any-right b (x ∷ xs) ys v ts h = inr (Any-right b xs ys v ts h)

Any-parts : (b : Bounds) (xs ys : List Language) (v : List Body) (ts : List Mark) → Any b (xs ++ ys) v ts → Any b xs v ts ⊎ Any b ys v ts
Any-parts b [] ys v ts h = inr h
Any-parts b (x ∷ xs) ys v ts (inl d) = inl (inl d)
Any-parts b (x ∷ xs) ys v ts (inr h) = elim (Any-parts b xs ys v ts h) [ inl d ↦ inl (inr d) | inr d ↦ inr d ]

when-sound : (b : Bounds) (t : Bool) (l : Language) (v : List Body) (ts : List Mark) → Any b (when t l) v ts → (t ≡ true) × Derives b l v ts
when-sound b true l v ts (inl d) = (refl, d)
when-sound b true l v ts (inr h) = absurd h
when-sound b false l v ts h = absurd h

when-complete : (b : Bounds) (t : Bool) (l : Language) (v : List Body) (ts : List Mark) → t ≡ true → Derives b l v ts → Any b (when t l) v ts
when-complete b t l v ts e d = rw e (inl d)

only-sound : (b : Bounds) (l : Language) (v : List Body) (ts : List Mark) → Any b (l ∷ []) v ts → Derives b l v ts
only-sound b l v ts (inl d) = d
only-sound b l v ts (inr h) = absurd h

-- equal numbers are of equal signs and words
sign_same : (s t : Symbol) → eqb (sign_code s) (sign_code t) ≡ true → s ≡ t
sign_same s t e = sym (sign_back s) ∙ (ap from_sign_code (eqb-true (sign_code s) (sign_code t) e) ∙ sign_back t)

word_same : (s t : Reserved) → eqb (word_code s) (word_code t) ≡ true → s ≡ t
word_same s t e = sym (word_back s) ∙ (ap from_word_code (eqb-true (word_code s) (word_code t) e) ∙ word_back t)

directive_same : (o : Option Directive) (d : Directive) → same_directive o d ≡ true → o ≡ Some d
directive_same None d e = cc
directive_same (Some e) d h = ap Some (sym (directive_back e) ∙ (ap from_directive_code (eqb-true (directive_code e) (directive_code d) h) ∙ directive_back d))

within-sound : (b : Bounds) (most n : ℕ) → within b most n ≡ true → Within b most n
within-sound Kept most n e = leb-true n most e
within-sound Lifted most n e = tt

within-complete : (b : Bounds) (most n : ℕ) → Within b most n → within b most n ≡ true
within-complete Kept most n h = le-leb n most h
within-complete Lifted most n h = refl

-- what may stand after a token is what the language has after it
next-sound : (b : Bounds) (m : Mark) (l : Language) (v : List Body) (ts : List Mark) → Any b (next b m l) v ts → Derives b l v (m ∷ ts)
next-sound b m (ended w) v ts h = absurd h
next-sound b (Sign t) (sign s l) v ts h =
    let p = when-sound b (eqb (sign_code t) (sign_code s)) l v ts h in (ts, ap (λ x. Sign x ∷ ts) (sign_same t s p.0), p.1)
next-sound b (Keyword t) (sign s l) v ts h = absurd h
next-sound b (Label t) (sign s l) v ts h = absurd h
next-sound b (Number t) (sign s l) v ts h = absurd h
next-sound b (Sign t) (word r l) v ts h = absurd h
next-sound b (Keyword t) (word r l) v ts h =
    let p = when-sound b (eqb (word_code t) (word_code r)) l v ts h in (ts, ap (λ x. Keyword x ∷ ts) (word_same t r p.0), p.1)
next-sound b (Label t) (word r l) v ts h = absurd h
next-sound b (Number t) (word r l) v ts h = absurd h
next-sound b (Sign t) (directive d l) v ts h = absurd h
next-sound b (Keyword t) (directive d l) v ts h = absurd h
next-sound b (Label t) (directive d l) v ts h =
    let p = when-sound b (same_directive (directive_word t) d) l v ts h in (t, ts, refl, directive_same (directive_word t) d p.0, p.1)
next-sound b (Number t) (directive d l) v ts h = absurd h
next-sound b (Sign t) (label f) v ts h = absurd h
next-sound b (Keyword t) (label f) v ts h = absurd h
next-sound b (Label t) (label f) v ts h = (t, ts, refl, only-sound b (f t) v ts h)
next-sound b (Number t) (label f) v ts h = absurd h
next-sound b (Sign t) (number f) v ts h = absurd h
next-sound b (Keyword t) (number f) v ts h = absurd h
next-sound b (Label t) (number f) v ts h = absurd h
next-sound b (Number x) (number f) v ts h = (x, ts, refl, only-sound b (f x) v ts h)
next-sound b (Sign t) (up_to most f) v ts h = absurd h
next-sound b (Keyword t) (up_to most f) v ts h = absurd h
next-sound b (Label t) (up_to most f) v ts h = absurd h
next-sound b (Number x) (up_to most f) v ts h =
    let p = when-sound b (within b most x.number) (f x) v ts h in (x, ts, refl, within-sound b most x.number p.0, p.1)
next-sound b (Sign t) (zero l) v ts h = absurd h
next-sound b (Keyword t) (zero l) v ts h = absurd h
next-sound b (Label t) (zero l) v ts h = absurd h
next-sound b (Number x) (zero l) v ts h =
    let p = when-sound b (eqb x.number 0) l v ts h in (x, ts, refl, eqb-true x.number 0 p.0, p.1)
next-sound b m (either l r) v ts h =
    elim (Any-parts b (next b m l) (next b m r) v ts h) [ inl d ↦ inl (next-sound b m l v ts d) | inr d ↦ inr (next-sound b m r v ts d) ]

-- the first of two equal lists, and the others
first_mark : {m n : Mark} {ms ns : List Mark} → (m ∷ ms) ≡ (n ∷ ns) → (m ≡ n) × (ms ≡ ns)
first_mark e = (cc, cc)

next-complete : (b : Bounds) (m : Mark) (l : Language) (v : List Body) (ts : List Mark) → Derives b l v (m ∷ ts) → Any b (next b m l) v ts
next-complete b m (ended w) v ts (e, _) = cc
next-complete b m (sign s l) v ts (rest, e, d) =
    subst (λ (x : Mark). Any b (next b x (sign s l)) v ts) (sym (first_mark e).0) (rw (eqb_refl (sign_code s)) (inl (subst (λ (x : List Mark). Derives b l v x) (sym (first_mark e).1) d)))
next-complete b m (word r l) v ts (rest, e, d) =
    subst (λ (x : Mark). Any b (next b x (word r l)) v ts) (sym (first_mark e).0) (rw (eqb_refl (word_code r)) (inl (subst (λ (x : List Mark). Derives b l v x) (sym (first_mark e).1) d)))
next-complete b m (directive d l) v ts (text, rest, e, is, h) =
    subst (λ (x : Mark). Any b (next b x (directive d l)) v ts) (sym (first_mark e).0) (rw (is, eqb_refl (directive_code d)) (inl (subst (λ (x : List Mark). Derives b l v x) (sym (first_mark e).1) h)))
next-complete b m (label f) v ts (text, rest, e, d) =
    subst (λ (x : Mark). Any b (next b x (label f)) v ts) (sym (first_mark e).0) (inl (subst (λ (x : List Mark). Derives b (f text) v x) (sym (first_mark e).1) d))
next-complete b m (number f) v ts (x, rest, e, d) =
    subst (λ (y : Mark). Any b (next b y (number f)) v ts) (sym (first_mark e).0) (inl (subst (λ (y : List Mark). Derives b (f x) v y) (sym (first_mark e).1) d))
next-complete b m (up_to most f) v ts (x, rest, e, low, d) =
    subst (λ (y : Mark). Any b (next b y (up_to most f)) v ts) (sym (first_mark e).0) (when-complete b (within b most x.number) (f x) v ts (within-complete b most x.number low) (subst (λ (y : List Mark). Derives b (f x) v y) (sym (first_mark e).1) d))
next-complete b m (zero l) v ts (x, rest, e, is, d) =
    subst (λ (y : Mark). Any b (next b y (zero l)) v ts) (sym (first_mark e).0) (when-complete b (eqb x.number 0) l v ts (eq-eqb x.number 0 is) (subst (λ (y : List Mark). Derives b l v y) (sym (first_mark e).1) d))
next-complete b m (either l r) v ts (inl d) = Any-left b (next b m l) (next b m r) v ts (next-complete b m l v ts d)
next-complete b m (either l r) v ts (inr d) = Any-right b (next b m l) (next b m r) v ts (next-complete b m r v ts d)

-- the same of lists
nexts-sound : (b : Bounds) (m : Mark) (s : List Language) (v : List Body) (ts : List Mark) → Any b (nexts b m s) v ts → Any b s v (m ∷ ts)
nexts-sound b m [] v ts h = h
nexts-sound b m (l ∷ ls) v ts h =
    elim (Any-parts b (next b m l) (nexts b m ls) v ts h) [ inl d ↦ inl (next-sound b m l v ts d) | inr d ↦ inr (nexts-sound b m ls v ts d) ]

nexts-complete : (b : Bounds) (m : Mark) (s : List Language) (v : List Body) (ts : List Mark) → Any b s v (m ∷ ts) → Any b (nexts b m s) v ts
nexts-complete b m [] v ts h = h
nexts-complete b m (l ∷ ls) v ts (inl d) = Any-left b (next b m l) (nexts b m ls) v ts (next-complete b m l v ts d)
nexts-complete b m (l ∷ ls) v ts (inr h) = Any-right b (next b m l) (nexts b m ls) v ts (nexts-complete b m ls v ts h)

-- where no number is out of bounds, bounds tell nothing
or-false : (a b : Bool) → (a || b) ≡ false → (a ≡ false) × (b ≡ false)
or-false true b e = cc
or-false false b e = (refl, e)

next-bounds : (m : Mark) (l : Language) → beyond m l ≡ false → next Kept m l ≡ next Lifted m l
next-bounds m (ended w) e = refl
next-bounds (Sign t) (sign s l) e = refl
next-bounds (Keyword t) (sign s l) e = refl
next-bounds (Label t) (sign s l) e = refl
next-bounds (Number t) (sign s l) e = refl
next-bounds (Sign t) (word r l) e = refl
next-bounds (Keyword t) (word r l) e = refl
next-bounds (Label t) (word r l) e = refl
next-bounds (Number t) (word r l) e = refl
next-bounds (Sign t) (directive d l) e = refl
next-bounds (Keyword t) (directive d l) e = refl
next-bounds (Label t) (directive d l) e = refl
next-bounds (Number t) (directive d l) e = refl
next-bounds (Sign t) (label f) e = refl
next-bounds (Keyword t) (label f) e = refl
next-bounds (Label t) (label f) e = refl
next-bounds (Number t) (label f) e = refl
next-bounds (Sign t) (number f) e = refl
next-bounds (Keyword t) (number f) e = refl
next-bounds (Label t) (number f) e = refl
next-bounds (Number x) (number f) e = refl
next-bounds (Sign t) (up_to most f) e = refl
next-bounds (Keyword t) (up_to most f) e = refl
next-bounds (Label t) (up_to most f) e = refl
next-bounds (Number x) (up_to most f) e =
    elim (leb x.number most) as (λ t. not t ≡ false → when t (f x) ≡ f x ∷ []) [ true ↦ λ e. refl | false ↦ λ e. cc ] e
next-bounds (Sign t) (zero l) e = refl
next-bounds (Keyword t) (zero l) e = refl
next-bounds (Label t) (zero l) e = refl
next-bounds (Number x) (zero l) e = refl
next-bounds m (either l r) e =
    let p = or-false (beyond m l) (beyond m r) e in
    rw (next-bounds m l p.0, next-bounds m r p.1) refl

nexts-bounds : (m : Mark) (s : List Language) → beyonds m s ≡ false → nexts Kept m s ≡ nexts Lifted m s
nexts-bounds m [] e = refl
nexts-bounds m (l ∷ ls) e =
    let p = or-false (beyond m l) (beyonds m ls) e in
    rw (next-bounds m l p.0, nexts-bounds m ls p.1) refl

-- a meaning among those of lines that end here
abbrev Among : List (List Body) → List Body → Type 0
Among [] v = ⊥
Among (w ∷ ws) v = (v ≡ w) ⊎ Among ws v

Among-left : (xs ys : List (List Body)) (v : List Body) → Among xs v → Among (xs ++ ys) v
Among-left [] ys v h = absurd h
Among-left (x ∷ xs) ys v (inl e) = inl e
Among-left (x ∷ xs) ys v (inr h) = inr (Among-left xs ys v h)

Among-right : (xs ys : List (List Body)) (v : List Body) → Among ys v → Among (xs ++ ys) v
Among-right [] ys v h = h
Among-right (x ∷ xs) ys v h = inr (Among-right xs ys v h)

Among-parts : (xs ys : List (List Body)) (v : List Body) → Among (xs ++ ys) v → Among xs v ⊎ Among ys v
Among-parts [] ys v h = inr h
Among-parts (x ∷ xs) ys v (inl e) = inl (inl e)
Among-parts (x ∷ xs) ys v (inr h) = elim (Among-parts xs ys v h) [ inl d ↦ inl (inr d) | inr d ↦ inr d ]

ends-sound : (b : Bounds) (l : Language) (v : List Body) → Among (ends l) v → Derives b l v []
ends-sound b (ended w) v (inl e) = (refl, e)
ends-sound b (ended w) v (inr h) = absurd h
ends-sound b (sign s l) v h = absurd h
ends-sound b (word r l) v h = absurd h
ends-sound b (directive d l) v h = absurd h
ends-sound b (label f) v h = absurd h
ends-sound b (number f) v h = absurd h
ends-sound b (up_to most f) v h = absurd h
ends-sound b (zero l) v h = absurd h
ends-sound b (either l r) v h =
    elim (Among-parts (ends l) (ends r) v h) [ inl d ↦ inl (ends-sound b l v d) | inr d ↦ inr (ends-sound b r v d) ]

ends-complete : (b : Bounds) (l : Language) (v : List Body) → Derives b l v [] → Among (ends l) v
ends-complete b (ended w) v (e, is) = inl is
ends-complete b (sign s l) v (rest, e, d) = cc
ends-complete b (word r l) v (rest, e, d) = cc
ends-complete b (directive d l) v (text, rest, e, is, h) = cc
ends-complete b (label f) v (text, rest, e, d) = cc
ends-complete b (number f) v (x, rest, e, d) = cc
ends-complete b (up_to most f) v (x, rest, e, low, d) = cc
ends-complete b (zero l) v (x, rest, e, is, d) = cc
ends-complete b (either l r) v (inl d) = Among-left (ends l) (ends r) v (ends-complete b l v d)
ends-complete b (either l r) v (inr d) = Among-right (ends l) (ends r) v (ends-complete b r v d)

endings-sound : (b : Bounds) (s : List Language) (v : List Body) → Among (endings s) v → Any b s v []
endings-sound b [] v h = h
endings-sound b (l ∷ ls) v h =
    elim (Among-parts (ends l) (endings ls) v h) [ inl d ↦ inl (ends-sound b l v d) | inr d ↦ inr (endings-sound b ls v d) ]

endings-complete : (b : Bounds) (s : List Language) (v : List Body) → Any b s v [] → Among (endings s) v
endings-complete b [] v h = h
endings-complete b (l ∷ ls) v (inl d) = Among-left (ends l) (endings ls) v (ends-complete b l v d)
endings-complete b (l ∷ ls) v (inr h) = Among-right (ends l) (endings ls) v (endings-complete b ls v h)

-- each language has a line
example_word : (d : Directive) → (text : List ℕ) × (directive_word text ≡ Some d)
unfolding directive_word
example_word the.Builtins = (codes "builtins", refl)
example_word the.Output = (codes "output", refl)
example_word the.RangeCheck = (codes "range_check", refl)
example_word the.Start = (codes "start", refl)
example_word the.End = (codes "end", refl)

nothing : Felt
nothing = felt 0

nothing-is : nothing.number ≡ 0
unfolding nothing
nothing-is = refl

nothing-within : (b : Bounds) (most : ℕ) → Within b most nothing.number
nothing-within Kept most = let e = nothing-is in omega arith
nothing-within Lifted most = tt

live : (b : Bounds) (l : Language) → (v : List Body) × (ts : List Mark) × Derives b l v ts
live b (ended w) = (w, [], (refl, refl))
live b (sign s l) = let h = live b l in (h.0, Sign s ∷ h.1, (h.1, refl, h.2))
live b (word r l) = let h = live b l in (h.0, Keyword r ∷ h.1, (h.1, refl, h.2))
live b (directive d l) = let h = live b l in let w = example_word d in (h.0, Label w.0 ∷ h.1, (w.0, h.1, refl, w.1, h.2))
live b (label f) = let h = live b (f (codes "a")) in (h.0, Label (codes "a") ∷ h.1, (codes "a", h.1, refl, h.2))
live b (number f) = let h = live b (f nothing) in (h.0, Number nothing ∷ h.1, (nothing, h.1, refl, h.2))
live b (up_to most f) = let h = live b (f nothing) in (h.0, Number nothing ∷ h.1, (nothing, h.1, refl, nothing-within b most, h.2))
live b (zero l) = let h = live b l in (h.0, Number nothing ∷ h.1, (nothing, h.1, refl, nothing-is, h.2))
live b (either l r) = let h = live b l in (h.0, h.1, inl h.2)

-- the tokens begin a line of some of the languages
record AnyBegins (b : Bounds) (s : List Language) (ts : List Mark) : Type 0 where
  value : List Body
  more : List Mark
  derives : Any b s value (ts ++ more)

AnyBegins-none : (b : Bounds) (l : Language) (ls : List Language) → AnyBegins b (l ∷ ls) []
AnyBegins-none b l ls = let h = live b l in record { value = h.0; more = h.1; derives = inl h.2 }

AnyBegins-sound : (b : Bounds) (m : Mark) (s : List Language) (ts : List Mark) → AnyBegins b (nexts b m s) ts → AnyBegins b s (m ∷ ts)
AnyBegins-sound b m s ts h = record { value = h.value; more = h.more; derives = nexts-sound b m s h.value (ts ++ h.more) h.derives }

AnyBegins-complete : (b : Bounds) (m : Mark) (s : List Language) (ts : List Mark) → AnyBegins b s (m ∷ ts) → AnyBegins b (nexts b m s) ts
AnyBegins-complete b m s ts h = record { value = h.value; more = h.more; derives = nexts-complete b m s h.value (ts ++ h.more) h.derives }

AnyBegins-never : (b : Bounds) (ts : List Mark) → AnyBegins b [] ts → ⊥
AnyBegins-never b ts h = h.derives

abbrev AnyIsFault : List Language → List Mark → List Mark → SyntaxKind → Type 0
AnyIsFault s front [] k = (k ≡ kind.Token) × AnyBegins Kept s front × ((v : List Body) → Any Kept s v front → ⊥)
AnyIsFault s front (t ∷ rest) kind.Token = AnyBegins Kept s front × (AnyBegins Lifted s (front ++ t ∷ []) → ⊥)
AnyIsFault s front (t ∷ rest) kind.Range = AnyBegins Kept s front × AnyBegins Lifted s (front ++ t ∷ []) × (AnyBegins Kept s (front ++ t ∷ []) → ⊥)
AnyIsFault s front (t ∷ rest) _ = ⊥

record AnyFault (s : List Language) (ts : List Mark) (left : ℕ) (k : SyntaxKind) : Type 0 where
  front : List Mark
  rest : List Mark
  parts : ts ≡ front ++ rest
  left_is : length rest ≡ left
  fault : AnyIsFault s front rest k

-- a fault after one more token
more_fault : (m : Mark) (s : List Language) (front rest : List Mark) (k : SyntaxKind) → nexts Kept m s ≡ nexts Lifted m s → AnyIsFault (nexts Kept m s) front rest k → AnyIsFault s (m ∷ front) rest k
more_fault m s front [] k e h = (h.0, AnyBegins-sound Kept m s front h.1, λ v d. h.2 v (nexts-complete Kept m s v front d))
more_fault m s front (t ∷ rest) kind.Token e h =
    (AnyBegins-sound Kept m s front h.0, λ d. h.1 (rw e (AnyBegins-complete Lifted m s (front ++ t ∷ []) d)))
more_fault m s front (t ∷ rest) kind.Range e h = (
  AnyBegins-sound Kept m s front h.0,
  AnyBegins-sound Lifted m s (front ++ t ∷ []) (rw e at h.1),
  λ d. h.2 (AnyBegins-complete Kept m s (front ++ t ∷ []) d),
)
more_fault m s front (t ∷ rest) kind.Char e h = h
more_fault m s front (t ∷ rest) kind.Number e h = h

AnyFault-more : (m : Mark) (s : List Language) (ts : List Mark) (left : ℕ) (k : SyntaxKind) → nexts Kept m s ≡ nexts Lifted m s → AnyFault (nexts Kept m s) ts left k → AnyFault s (m ∷ ts) left k
AnyFault-more m s ts left k e h = record {
  front = m ∷ h.front;
  rest = h.rest;
  parts = ap (λ x. m ∷ x) h.parts;
  left_is = h.left_is;
  fault = more_fault m s h.front h.rest k e h.fault;
}

-- what comes of one token, by what may stand after it
advance_fault : (m : Mark) (l : Language) (ls : List Language) (ms : List Mark) (o : Outcome) (left : ℕ) (k : SyntaxKind) (out : Bool) (kept lifted : List Language) → beyonds m (l ∷ ls) ≡ out → nexts Kept m (l ∷ ls) ≡ kept → nexts Lifted m (l ∷ ls) ≡ lifted → (o ≡ Stopped left k → 0 < length kept → AnyFault kept ms left k) → advance out kept lifted (suc (length ms)) o ≡ Stopped left k → AnyFault (l ∷ ls) (m ∷ ms) left k
advance_fault m l ls ms o left k out kept [] is_out is_kept is_lifted later e =
    let p : (suc (length ms) ≡ left) × (kind.Token ≡ k) = (cc, cc) in
    record {
      front = [];
      rest = m ∷ ms;
      parts = refl;
      left_is = p.0;
      fault = subst (λ (x : SyntaxKind). AnyIsFault (l ∷ ls) [] (m ∷ ms) x) p.1 (AnyBegins-none Kept l ls, λ d. AnyBegins-never Lifted [] (rw is_lifted at (AnyBegins-complete Lifted m (l ∷ ls) [] d)));
    }
advance_fault m l ls ms o left k out [] (a ∷ more) is_out is_kept is_lifted later e =
    let p : (suc (length ms) ≡ left) × (kind.Range ≡ k) = (cc, cc) in
    record {
      front = [];
      rest = m ∷ ms;
      parts = refl;
      left_is = p.0;
      fault = subst (λ (x : SyntaxKind). AnyIsFault (l ∷ ls) [] (m ∷ ms) x) p.1 (
        AnyBegins-none Kept l ls,
        AnyBegins-sound Lifted m (l ∷ ls) [] (rw is_lifted (AnyBegins-none Lifted a more)),
        λ d. AnyBegins-never Kept [] (rw is_kept at (AnyBegins-complete Kept m (l ∷ ls) [] d)),
      );
    }
advance_fault m l ls ms o left k true (c ∷ cs) (a ∷ more) is_out is_kept is_lifted later e = cc
advance_fault m l ls ms o left k false (c ∷ cs) (a ∷ more) is_out is_kept is_lifted later e =
    AnyFault-more m (l ∷ ls) ms left k (nexts-bounds m (l ∷ ls) is_out) (rw is_kept (later e (omega arith)))

-- what comes of the line's end, by what it may mean
end_fault : (l : Language) (ls : List Language) (left : ℕ) (k : SyntaxKind) (found : List (List Body)) → endings (l ∷ ls) ≡ found → finish found ≡ Stopped left k → AnyFault (l ∷ ls) [] left k
end_fault l ls left k [] is e =
    let p : (0 ≡ left) × (kind.Token ≡ k) = (cc, cc) in
    record {
      front = [];
      rest = [];
      parts = refl;
      left_is = p.0;
      fault = (sym p.1, AnyBegins-none Kept l ls, λ v d. absurd (rw is at (endings-complete Kept (l ∷ ls) v d)));
    }
end_fault l ls left k (v ∷ []) is e = cc
end_fault l ls left k (v ∷ w ∷ vs) is e = cc

-- a run that stops has found the first fault
run_fault : (ts : List Mark) (s : List Language) (left : ℕ) (k : SyntaxKind) → 0 < length s → run ts s ≡ Stopped left k → AnyFault s ts left k
run_fault ts [] left k h e = absurd (omega arith)
run_fault [] (l ∷ ls) left k h e = end_fault l ls left k (endings (l ∷ ls)) refl e
run_fault (m ∷ ms) (l ∷ ls) left k h e =
    advance_fault m l ls ms (run ms (nexts Kept m (l ∷ ls))) left k (beyonds m (l ∷ ls)) (nexts Kept m (l ∷ ls)) (nexts Lifted m (l ∷ ls)) refl refl refl (λ d p. run_fault ms (nexts Kept m (l ∷ ls)) left k p d) e

-- a run that is done has found a meaning, and the only one
record IsOnly (s : List Language) (ts : List Mark) (v : List Body) : Type 0 where
  derives : Any Kept s v ts
  only : (w : List Body) → Any Kept s w ts → w ≡ v

one_among : (v w : List Body) → Among (v ∷ []) w → w ≡ v
one_among v w (inl e) = e
one_among v w (inr h) = absurd h

end_done : (s : List Language) (v : List Body) (found : List (List Body)) → endings s ≡ found → finish found ≡ Done v → IsOnly s [] v
end_done s v [] is e = cc
end_done s v (u ∷ []) is e =
    let p : u ≡ v = cc in
    record {
      derives = endings-sound Kept s v (rw (is, p) (inl refl));
      only = λ w d. one_among u w (rw is at (endings-complete Kept s w d)) ∙ p;
    }
end_done s v (u ∷ w ∷ ws) is e = cc

advance_done : (m : Mark) (s : List Language) (ms : List Mark) (o : Outcome) (v : List Body) (out : Bool) (kept lifted : List Language) → nexts Kept m s ≡ kept → (o ≡ Done v → IsOnly kept ms v) → advance out kept lifted (suc (length ms)) o ≡ Done v → IsOnly s (m ∷ ms) v
advance_done m s ms o v out kept [] is later e = cc
advance_done m s ms o v out [] (a ∷ more) is later e = cc
advance_done m s ms o v true (c ∷ cs) (a ∷ more) is later e = cc
advance_done m s ms o v false (c ∷ cs) (a ∷ more) is later e =
    let h = later e in
    record {
      derives = nexts-sound Kept m s v ms (rw is h.derives);
      only = λ w d. h.only w (rw is at (nexts-complete Kept m s w ms d));
    }

run_done : (ts : List Mark) (s : List Language) (v : List Body) → run ts s ≡ Done v → IsOnly s ts v
run_done [] s v e = end_done s v (endings s) refl e
run_done (m ∷ ms) s v e =
    advance_done m s ms (run ms (nexts Kept m s)) v (beyonds m s) (nexts Kept m s) (nexts Lifted m s) refl (λ d. run_done ms (nexts Kept m s) v d) e

-- the same of one language
pub done_derives : (l : Language) (ts : List Mark) (v : List Body) → run ts (l ∷ []) ≡ Done v → Derives Kept l v ts
done_derives l ts v e = only-sound Kept l v ts (run_done ts (l ∷ []) v e).derives

pub done_only : (l : Language) (ts : List Mark) (v w : List Body) → run ts (l ∷ []) ≡ Done v → Derives Kept l w ts → w ≡ v
done_only l ts v w e d = (run_done ts (l ∷ []) v e).only w (inl d)

one_begins : (b : Bounds) (l : Language) (ts : List Mark) → AnyBegins b (l ∷ []) ts → Begins b l ts
one_begins b l ts h = record { value = h.value; more = h.more; derives = only-sound b l h.value (ts ++ h.more) h.derives }

begins_one : (b : Bounds) (l : Language) (ts : List Mark) → Begins b l ts → AnyBegins b (l ∷ []) ts
begins_one b l ts h = record { value = h.value; more = h.more; derives = inl h.derives }

one_fault : (l : Language) (front rest : List Mark) (k : SyntaxKind) → AnyIsFault (l ∷ []) front rest k → IsFault l front rest k
one_fault l front [] k h = (h.0, one_begins Kept l front h.1, λ v d. h.2 v (inl d))
one_fault l front (t ∷ rest) kind.Token h = (one_begins Kept l front h.0, λ d. h.1 (begins_one Lifted l (front ++ t ∷ []) d))
one_fault l front (t ∷ rest) kind.Range h =
    (one_begins Kept l front h.0, one_begins Lifted l (front ++ t ∷ []) h.1, λ d. h.2 (begins_one Kept l (front ++ t ∷ []) d))
one_fault l front (t ∷ rest) kind.Char h = h
one_fault l front (t ∷ rest) kind.Number h = h

pub stopped_fault : (l : Language) (ts : List Mark) (left : ℕ) (k : SyntaxKind) → run ts (l ∷ []) ≡ Stopped left k → HasFault l ts (length ts - left) k
stopped_fault l ts left k e =
    let h = run_fault ts (l ∷ []) left k (omega arith) e in
    record {
      front = h.front;
      rest = h.rest;
      parts = h.parts;
      place = let a = length-append h.front h.rest in let p = ap length h.parts in omega (arith, h.left_is);
      fault = one_fault l h.front h.rest k h.fault;
    }

-- no more tokens are left than there were
pub stopped_within : (l : Language) (ts : List Mark) (left : ℕ) (k : SyntaxKind) → run ts (l ∷ []) ≡ Stopped left k → left ≤ length ts
stopped_within l ts left k e =
    let h = run_fault ts (l ∷ []) left k (omega arith) e in
    let a = length-append h.front h.rest in let p = ap length h.parts in omega (arith, h.left_is)
