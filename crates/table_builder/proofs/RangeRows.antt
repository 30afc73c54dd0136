-- A range cell below 2^48 is no finding.
use Rattle.std.proofs.Common.{◌≡◌, ℕ, ◌^◌, ◌<◌, ◌∙◌, Option, Some, None, sym, ap, if◌then◌else◌}
use Rattle.std.proofs.lemmas.Bool.{lt-ltb}
use Rattle.table_builder.specs.Findings.{RangeWidth, range_finding}

pub narrow_range_cell : (i address number : ℕ) (o : Option ℕ) → Some number ≡ o → number < 2 ^ 48 → range_finding i address o ≡ None
narrow_range_cell i address number o is low =
    ap (range_finding i address) (sym is) ∙ ap (λ b. if b then None else Some (RangeWidth i)) (lt-ltb number (2 ^ 48) low)
