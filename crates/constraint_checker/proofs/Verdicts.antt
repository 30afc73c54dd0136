-- Verdicts on conditions one after another.
use Rattle.std.proofs.Common.{◌≡◌, ◌↔◌, ◌⊎◌, ℕ, zero, suc, ◌∙◌, inl, inr, Bool, true, false, not, cond, List, [], ◌∷◌, ◌++◌, take, Option, Some, None, refl, sym, ap, arith}
use Rattle.std.specs.Prelude.{All, IsTrue, slice_get}
use Rattle.std.specs.Option.{option_or}
use Rattle.std.proofs.lemmas.List.Elements.{All-nil, All-cons}
use Rattle.std.proofs.lemmas.List.Folds.{find-append}
use Rattle.constraint_checker.specs.declared.Constraint.{Constraint}
use Rattle.constraint_checker.specs.declared.Verdict.{Verdict}
use Rattle.constraint_checker.specs.declared.Verdict.TheVariants.{Accepted, Refused}
use Rattle.constraint_checker.specs.Constraints.{Condition, condition}
use Rattle.constraint_checker.specs.Verdict.{first_failing, refused_by, verdict_on, FailsFirst, IsVerdict}

-- the first of two verdicts that is a refusal
abbrev pub first_refused : Verdict → Verdict → Verdict
first_refused Accepted later = later
first_refused (Refused constraint row) later = Refused constraint row

refused_by-or : (a b : Option Condition) → refused_by (option_or a b) ≡ first_refused (refused_by a) (refused_by b)
refused_by-or None b = refl
refused_by-or (Some c) b = refl

pub verdict_on-append : (xs ys : List Condition) → verdict_on (xs ++ ys) ≡ first_refused (verdict_on xs) (verdict_on ys)
verdict_on-append xs ys = ap refused_by (find-append (λ c. not c.holds) xs ys) ∙ refused_by-or (first_failing xs) (first_failing ys)

pub fails_here : (constraint : Constraint) (row : ℕ) (holds : Bool) (later : List Condition) → holds ≡ false → verdict_on (condition constraint row holds ∷ later) ≡ Refused constraint row
fails_here constraint row holds later e = rw e refl

pub holds_here : (constraint : Constraint) (row : ℕ) (holds : Bool) (later : List Condition) → holds ≡ true → verdict_on (condition constraint row holds ∷ later) ≡ verdict_on later
holds_here constraint row holds later e = rw e refl

pub goes_on : (v w : Verdict) → v ≡ Accepted → first_refused v w ≡ w
goes_on v w e = rw e refl

pub stays : (v w : Verdict) → (v ≡ Accepted → ⊥) → first_refused v w ≡ v
stays Accepted w h = absurd (h refl)
stays (Refused constraint row) w h = refl

pub second_stays : (v w x : Verdict) → (v ≡ Accepted → ⊥) → first_refused (first_refused v w) x ≡ v
second_stays v w x h = rw (stays v w h) (stays v x h)

pub first_stays : (v w x y : Verdict) → (v ≡ Accepted → ⊥) → first_refused (first_refused (first_refused v w) x) y ≡ v
first_stays v w x y h = rw (second_stays v w x h) (stays v y h)

pub both_accepted : (v w : Verdict) → (first_refused v w ≡ Accepted) ↔ ((v ≡ Accepted) × (w ≡ Accepted))
both_accepted Accepted w = (λ e. (refl, e), λ p. p.1)
both_accepted (Refused constraint row) w = (λ e. absurd (cc), λ p. p.0)

pub accepted-append : (xs ys : List Condition) → (verdict_on (xs ++ ys) ≡ Accepted) ↔ ((verdict_on xs ≡ Accepted) × (verdict_on ys ≡ Accepted))
accepted-append xs ys =
    (λ e. (both_accepted (verdict_on xs) (verdict_on ys)).0 (sym (verdict_on-append xs ys) ∙ e), λ p. verdict_on-append xs ys ∙ (both_accepted (verdict_on xs) (verdict_on ys)).1 p)

-- one condition before others
pub accepted-cons : (constraint : Constraint) (row : ℕ) (holds : Bool) (later : List Condition) → (verdict_on (condition constraint row holds ∷ later) ≡ Accepted) ↔ ((holds ≡ true) × (verdict_on later ≡ Accepted))
accepted-cons constraint row true later = (λ e. (refl, e), λ p. p.1)
accepted-cons constraint row false later = (λ e. absurd (cc), λ p. absurd (let h = p.0 in cc))

-- ---- the verdict is the one that the relation tells

-- what a search finds that begins with a test
nothing_found : (holds : Bool) (c : Condition) (later : Option Condition) → cond (not holds) (Some c) later ≡ None → (holds ≡ true) × (later ≡ None)
nothing_found true c later e = (refl, e)
nothing_found false c later e = absurd (cc)

something_found : (holds : Bool) (c failing : Condition) (later : Option Condition) → cond (not holds) (Some c) later ≡ Some failing → ((holds ≡ true) × (later ≡ Some failing)) ⊎ ((holds ≡ false) × (c ≡ failing))
something_found true c failing later e = inl (refl, e)
something_found false c failing later e = inr (refl, cc)

all_hold : (asked : List Condition) → first_failing asked ≡ None → All (λ c. IsTrue c.holds) asked
all_hold [] e = All-nil (λ c. IsTrue c.holds)
all_hold (c ∷ asked) e =
    let none : (c.holds ≡ true) × (first_failing asked ≡ None) = nothing_found c.holds c (first_failing asked) e in
    All-cons (λ x. IsTrue x.holds) c asked none.0 (all_hold asked none.1)

none_fails : (asked : List Condition) → All (λ c. IsTrue c.holds) asked → verdict_on asked ≡ Accepted
none_fails [] h = refl
none_fails (c ∷ asked) h =
    holds_here c.constraint c.row c.holds asked (h zero c (omega arith)) ∙ none_fails asked (λ k d lt. h (suc k) d (omega arith))

first_fails : (asked : List Condition) (failing : Condition) → first_failing asked ≡ Some failing → FailsFirst asked failing.constraint failing.row
first_fails [] failing e = absurd (cc)
first_fails (c ∷ asked) failing e =
    elim (something_found c.holds c failing (first_failing asked) e) [
      | inl later ↦
          let h : FailsFirst asked failing.constraint failing.row = first_fails asked failing later.1 in
          record { place = suc h.place; fails = h.fails; before = All-cons (λ x. IsTrue x.holds) c (take h.place asked) later.0 h.before }
      | inr here ↦ record {
        place = 0;
        fails = ap Some (ap (condition c.constraint c.row) here.0 ∙ ap (λ (x : Condition). condition x.constraint x.row false) here.1);
        before = All-nil (λ x. IsTrue x.holds);
      }
    ]

refused_from : (asked : List Condition) (constraint : Constraint) (row place : ℕ) → slice_get asked place ≡ Some (condition constraint row false) → All (λ c. IsTrue c.holds) (take place asked) → verdict_on asked ≡ Refused constraint row
refused_from [] constraint row place e h = absurd (cc)
refused_from (c ∷ asked) constraint row zero e h =
    let is : c ≡ condition constraint row false = cc in
    ap (λ (x : Condition). verdict_on (x ∷ asked)) is
refused_from (c ∷ asked) constraint row (suc place) e h =
    holds_here c.constraint c.row c.holds asked (h zero c (omega arith))
    ∙ refused_from asked constraint row place e (λ k d lt. h (suc k) d (omega arith))

pub is_verdict : (asked : List Condition) → IsVerdict asked (verdict_on asked)
unfolding IsVerdict
is_verdict asked = told (first_failing asked) refl
  where
    told : (o : Option Condition) → first_failing asked ≡ o → IsVerdict asked (refused_by o)
    told None e = all_hold asked e
    told (Some failing) e = first_fails asked failing e

pub only_verdict : (asked : List Condition) (v : Verdict) → IsVerdict asked v → v ≡ verdict_on asked
unfolding IsVerdict
only_verdict asked Accepted h = sym (none_fails asked h)
only_verdict asked (Refused constraint row) h = sym (refused_from asked constraint row h.place h.fails h.before)
