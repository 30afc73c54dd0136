-- How a chain of parts that ends well is taken apart and put together, and what each part says where it ends well.
use Rattle.std.proofs.Common.{◌≡◌, Bool, true, false, cond, ◌||◌, Option, Some, None, Ok, Err, refl, ap, subst}
use Rattle.std.specs.Prelude.{Result, IfOk, IfSome, ⊤}
use Rattle.casm_word.specs.declared.Word.{Word}
use Rattle.casm_word.specs.declared.WordFault.{WordFault}
use Rattle.casm_word.specs.Word.{decoding}
use Rattle.goldilocks.specs.declared.Felt.{Felt}
use Rattle.segments.specs.declared.Place.{Place}
use Rattle.segments.specs.declared.Value.{Value}
use Rattle.segments.specs.declared.Value.TheVariants.{Num, Ptr}
use Rattle.segments.specs.declared.arithmetic.ArithFault.{ArithFault}
use Rattle.run_steps.specs.declared.cause.Spot.{Spot}
use Rattle.run_steps.specs.declared.cause.StepCause.{StepCause}
use Rattle.run_steps.specs.Causes.{◌>>=◌, demand, in_range, known, pointed, by_arithmetic}
use Rattle.run_steps.specs.Operands.{instruction_in, word_or_fault}

-- a chain that ends well: its first part does, and so does what goes on from there
pub bound : {A B C : Type 0} (x : Result A C) (k : A → Result B C) (t : B) → (x >>= k) ≡ Ok t → (v : A) × (x ≡ Ok v) × (k v ≡ Ok t)
bound (Ok v) k t e = (v, refl, e)
bound (Err cause) k t e = absurd (cc)

-- and its way back
pub chained : {A B C : Type 0} (x : Result A C) (k : A → Result B C) (v : A) → x ≡ Ok v → (x >>= k) ≡ k v
chained x k v e = ap (λ r. r >>= k) e

-- the same answer is one value
pub same_ok : {A C : Type 0} (x y : A) → ◌≡◌ {A = Result A C} (Ok x) (Ok y) → x ≡ y
same_ok x y e = cc

-- what is said of an answer where it is one
pub if_ok : {A C : Type 0} (r : Result A C) (v : A) (P : A → Type 0) → r ≡ Ok v → IfOk r P → P v
if_ok {A = A} {C = C} r v P e h = subst (λ (x : Result A C). IfOk x P) e h

pub if_some : {A : Type 0} (o : Option A) (v : A) (P : A → Type 0) → o ≡ Some v → IfSome o P → P v
if_some {A = A} o v P e h = subst (λ (x : Option A). IfSome x P) e h

-- ---- what each part says

pub word-ok : (r : Result Word WordFault) (w : Word) → word_or_fault r ≡ Ok w → r ≡ Ok w
unfolding word_or_fault
word-ok (Ok v) w e = cc
word-ok (Err fault) w e = absurd (cc)

pub instruction-ok : (o : Option Value) (w : Word) → instruction_in o ≡ Ok w → (x : Felt) × (o ≡ Some (Num x)) × (decoding x.number ≡ Ok w)
unfolding instruction_in
instruction-ok (Some (Num x)) w e = (x, refl, word-ok (decoding x.number) w e)
instruction-ok (Some (Ptr p)) w e = absurd (cc)
instruction-ok None w e = absurd (cc)

pub range-ok : (spot : Spot) (o : Option Place) (p : Place) → in_range spot o ≡ Ok p → o ≡ Some p
unfolding in_range
range-ok spot (Some q) p e = cc
range-ok spot None p e = absurd (cc)

pub known-ok : (p : Place) (o : Option Value) (v : Value) → known p o ≡ Ok v → o ≡ Some v
unfolding known
known-ok p (Some w) v e = cc
known-ok p None v e = absurd (cc)

pub pointed-ok : (cause : StepCause) (v : Value) (p : Place) → pointed cause v ≡ Ok p → v ≡ Ptr p
unfolding pointed
pointed-ok cause (Ptr q) p e = cc
pointed-ok cause (Num x) p e = absurd (cc)

pub arithmetic-ok : (r : Result Value ArithFault) (v : Value) → by_arithmetic r ≡ Ok v → r ≡ Ok v
unfolding by_arithmetic
arithmetic-ok (Ok w) v e = cc
arithmetic-ok (Err fault) v e = absurd (cc)

pub demand-ok : (cause : StepCause) (b : Bool) (u : ⊤) → demand cause b ≡ Ok u → b ≡ true
demand-ok cause true u e = refl
demand-ok cause false u e = absurd (cc)

-- ---- choices

-- two choices by the same test: what the first gives, where it gives an answer, is what the second is
pub either : {A B C : Type 0} (b b' : Bool) (x y : Result A C) (q : A) (x' y' z : B) → b ≡ b' → (x ≡ Ok q → z ≡ x') → (y ≡ Ok q → z ≡ y') → cond b x y ≡ Ok q → z ≡ cond b' x' y'
either true true x y q x' y' z same first second e = first e
either true false x y q x' y' z same first second e = absurd (cc)
either false true x y q x' y' z same first second e = absurd (cc)
either false false x y q x' y' z same first second e = second e

-- where the one test holds the other does, and so with a first alternative before both
pub weaker : (first test other : Bool) → (test ≡ true → other ≡ true) → (first || test) ≡ true → (first || other) ≡ true
weaker true test other follows e = refl
weaker false test other follows e = follows e
