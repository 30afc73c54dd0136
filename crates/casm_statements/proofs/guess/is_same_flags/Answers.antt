use Rattle.std.proofs.Common.{◌≡◌, Bool, true, false, refl, Decides}
use mathlib.Core.Bool.{beq}
use Rattle.std.proofs.lemmas.Slice.Eq.{slice_eq-Decides}
use Rattle.casm_statements.proofs.Guesses.{same_flags}
use Rattle.casm_statements.proofs.guess.is_same_flags.Goals as goal

beq_decides : (a b : Bool) → Decides (beq a b) (a ≡ b)
beq_decides true true = (λ _. refl, λ _. refl)
beq_decides true false = (λ e. cc, λ e. cc)
beq_decides false true = (λ e. cc, λ e. cc)
beq_decides false false = (λ _. refl, λ _. refl)

pub returns : goal.returns
returns c =
    let d = slice_eq-Decides beq_decides c.flag_list.result c.flag_list-2.result c.eq.result c.eq.ensures in
    let a = c.flag_list.ensures in let b = c.flag_list-2.ensures in
    (λ e. let h = d.0 e in same_flags c.args.a c.args.b (cc), λ e. d.1 (cc))
