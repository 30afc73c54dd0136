-- The least and the greatest of some values of the field, and what is found of them.
use Rattle.std.proofs.Common.{◌≡◌, ℕ, Bool, true, false, ◌<◌, ◌≤◌, ◌∙◌, List, [], ◌∷◌, get_or, Option, Some, None, refl, if◌then◌else◌, nat_lt, lit<, arith}
use Rattle.std.specs.Prelude.{All}
use Rattle.std.proofs.lemmas.Bool.{lt-ltb, le-ltb}
use Rattle.std.proofs.lemmas.List.Elements.{All-map}
use Rattle.goldilocks.specs.Field.{prime}
use Rattle.goldilocks.specs.declared.Felt.{Felt}
use Rattle.goldilocks.specs.Felts.{numbers}
use Rattle.public_input.specs.Statement.{Statement}
use Rattle.table_builder.specs.declared.faults.Field.TheVariants.{RcMin, RcMax}
use Rattle.table_builder.specs.Columns.{least_of, greatest_of}
use Rattle.table_builder.specs.Findings.{Finding, Mismatch, first_found, limit_findings}
use Rattle.table_builder.proofs.LeastGreatest.{least-reached, greatest-reached, any-and_all}
use Rattle.table_builder.proofs.Findings.{first_found-none_cons}
use Rattle.table_builder.proofs.NothingFound.{not_below}

all_low : (values : List Felt) → All (λ n. n < prime) (numbers values)
all_low values = All-map (λ n. n < prime) (λ (x : Felt). x.number) values (λ k d within. (get_or values k d).in_field)

pub least-low : (values : List Felt) → least_of (numbers values) < prime
unfolding least_of
least-low [] = lit< tt
least-low (v ∷ vs) =
    let there = any-and_all (λ x. x ≡ least_of (numbers (v ∷ vs))) (λ n. n < prime) (numbers (v ∷ vs)) (least-reached (numbers (v ∷ vs)) (omega arith)) (all_low (v ∷ vs)) in
    omega (arith, there.1, there.2)

pub greatest-low : (values : List Felt) → greatest_of (numbers values) < prime
unfolding greatest_of
greatest-low [] = lit< tt
greatest-low (v ∷ vs) =
    let there = any-and_all (λ x. x ≡ greatest_of (numbers (v ∷ vs))) (λ n. n < prime) (numbers (v ∷ vs)) (greatest-reached (numbers (v ∷ vs)) (omega arith)) (all_low (v ∷ vs)) in
    omega (arith, there.1, there.2)

-- ---- what is found

told_first : (b : Bool) (found : Finding) (later : List (Option Finding)) → b ≡ true → first_found ((if b then Some found else None) ∷ later) ≡ Some found
told_first true found later e = refl
told_first false found later e = cc

told_later : (b : Bool) (found : Finding) (later : List (Option Finding)) → b ≡ false → first_found ((if b then Some found else None) ∷ later) ≡ first_found later
told_later true found later e = cc
told_later false found later e = refl

module _ (public : Statement) (small : List ℕ) where
  pub below_limit : least_of small < public.rc_min → first_found (limit_findings public small) ≡ Some (Mismatch RcMin public.rc_min (least_of small))
  unfolding limit_findings
  below_limit low = told_first (nat_lt (least_of small) public.rc_min) _ _ (lt-ltb (least_of small) public.rc_min low)

  pub above_limit : public.rc_min ≤ least_of small → public.rc_max < greatest_of small → first_found (limit_findings public small) ≡ Some (Mismatch RcMax public.rc_max (greatest_of small))
  unfolding limit_findings
  above_limit low high =
      told_later (nat_lt (least_of small) public.rc_min) _ _ (le-ltb (least_of small) public.rc_min low)
      ∙ told_first (nat_lt public.rc_max (greatest_of small)) _ [] (lt-ltb public.rc_max (greatest_of small) high)

  pub within_limits : public.rc_min ≤ least_of small → greatest_of small ≤ public.rc_max → first_found (limit_findings public small) ≡ None
  unfolding limit_findings
  within_limits low high =
      told_later (nat_lt (least_of small) public.rc_min) _ _ (le-ltb (least_of small) public.rc_min low)
      ∙ told_later (nat_lt public.rc_max (greatest_of small)) _ [] (le-ltb public.rc_max (greatest_of small) high)

pub limits_hold : (public : Statement) (small : List ℕ) → first_found (limit_findings public small) ≡ None → (public.rc_min ≤ least_of small) × (greatest_of small ≤ public.rc_max)
unfolding limit_findings
limits_hold public small none =
    let low = first_found-none_cons (if nat_lt (least_of small) public.rc_min then Some (Mismatch RcMin public.rc_min (least_of small)) else None) _ none in
    let high = first_found-none_cons (if nat_lt public.rc_max (greatest_of small) then Some (Mismatch RcMax public.rc_max (greatest_of small)) else None) _ low.1 in
    (not_below (least_of small) public.rc_min _ low.0, not_below public.rc_max (greatest_of small) _ high.0)
