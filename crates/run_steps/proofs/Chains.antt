-- Parts of a step one after another, and what holds of their answer.
use Rattle.std.proofs.Common.{◌≡◌, Bool, true, false, cond, Option, Some, None, Result, Ok, Err, IfOk, refl, ap, ◌∙◌}
use Rattle.std.specs.Prelude.{IfSome}
use Rattle.segments.specs.declared.Place.{Place}
use Rattle.segments.specs.declared.Value.{Value}
use Rattle.segments.specs.declared.arithmetic.ArithFault.{ArithFault}
use Rattle.run_steps.specs.Causes.{◌>>=◌, known, by_arithmetic}
use Rattle.run_steps.proofs.Shapes.{bound}

-- ---- what holds of an answer

pub IfOk-cond : {A C : Type 0} (P : A → Type 0) (b : Bool) (x y : Result A C) → IfOk x P → IfOk y P → IfOk (cond b x y) P
IfOk-cond P true x y h k = h
IfOk-cond P false x y h k = k

pub then_ok : {A B C : Type 0} (P : A → Type 0) (Q : B → Type 0) (x : Result A C) (go_on : A → Result B C) → IfOk x P → ((a : A) → x ≡ Ok a → P a → IfOk (go_on a) Q) → IfOk (x >>= go_on) Q
then_ok P Q (Ok a) go_on p f = f a refl p
then_ok P Q (Err cause) go_on p f = tt

-- the same where nothing is said of the first part
pub then_any : {A B C : Type 0} (Q : B → Type 0) (x : Result A C) (go_on : A → Result B C) → ((a : A) → x ≡ Ok a → IfOk (go_on a) Q) → IfOk (x >>= go_on) Q
then_any Q (Ok a) go_on f = f a refl
then_any Q (Err cause) go_on f = tt

pub known-ok : (P : Value → Type 0) (p : Place) (o : Option Value) → IfSome o P → IfOk (known p o) P
unfolding known
known-ok P p (Some v) h = h
known-ok P p None h = tt

pub by_arithmetic-ok : (P : Value → Type 0) (r : Result Value ArithFault) → IfOk r P → IfOk (by_arithmetic r) P
unfolding by_arithmetic
by_arithmetic-ok P (Ok v) h = h
by_arithmetic-ok P (Err fault) h = tt

-- ---- what comes about later too

-- where the one comes about, the other does, with the same answer
abbrev pub Later : {A C : Type 0} → Result A C → Result A C → Type 0
Later {A} {C} x y = (a : A) → x ≡ Ok a → y ≡ Ok a

pub later-same : {A C : Type 0} (x : Result A C) → Later x x
later-same x a e = e

pub then_later : {A B C : Type 0} (x y : Result A C) (k l : A → Result B C) → Later x y → ((a : A) → Later (k a) (l a)) → Later (x >>= k) (y >>= l)
then_later x y k l first rest b e =
    let parts = bound x k b e in
    ap (λ r. r >>= l) (first parts.0 parts.1) ∙ rest parts.0 b parts.2

-- what is held later comes about, where it did with what was held
pub held-later : {A C : Type 0} (f : Option Value → Result A C) (o o' : Option Value) → ((v : Value) → o ≡ Some v → o' ≡ Some v) → ((a : A) → f None ≡ Ok a → ⊥) → Later (f o) (f o')
held-later f (Some v) o' stays none a e = ap f (stays v refl) ∙ e
held-later f None o' stays none a e = absurd (none a e)
