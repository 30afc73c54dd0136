-- Immediates with one number are the same.
use Rattle.std.proofs.Common.{◌≡◌, ℕ, ◌<◌, Option, Some, Decides, nat_eq, ap, subst, eq-eqb, eqb-true}
use Rattle.std.proofs.Math.Bridge.{le_prop}
use Rattle.goldilocks.specs.Field.{prime}
use Rattle.goldilocks.specs.declared.Felt.{Felt}
use Rattle.goldilocks.proofs.Pairs.{same_felt}

-- two immediates are one where their numbers are
pub same_immediates : (a b : Option Felt) (x y : Felt) → a ≡ Some x → b ≡ Some y → Decides (nat_eq x.number y.number) (a ≡ b)
same_immediates a b x y is_x is_y = (
  λ e. let h = same_felt x y (eqb-true x.number y.number e) in cc,
  λ e. let h : x ≡ y = cc in eq-eqb x.number y.number (ap (λ (v : Felt). v.number) h),
)
