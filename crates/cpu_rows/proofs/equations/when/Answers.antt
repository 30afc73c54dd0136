use Rattle.std.proofs.Common.{ℕ, sym, ap, ◌∙◌}
use Rattle.cpu_rows.proofs.Failing.{product_of_set, product_of_clear}
use Rattle.cpu_rows.proofs.equations.when.Goals as goal
use Rattle.cpu_rows.proofs.equations.when.Goals.{then-flag, else-flag}

pub returns : goal.returns
returns c =
    elim c.if-flag.branch [
      | then-flag w ↦
          ap (λ (p : ℕ × Unit {0}). p.0) w.result-is ∙ sym (product_of_set c.args.flag c.args.number.number c.args.number.in_field w.if-flag.true)
      | else-flag w ↦
          ap (λ (p : ℕ × Unit {0}). p.0) w.result-is ∙ sym (product_of_clear c.args.flag c.args.number.number w.if-flag.false)
    ]
