-- The last eight equations exclude the eight shapes, one for one, and the first fifteen say that flags are 0 or 1.
use Rattle.std.proofs.Common.{◌≡◌, ◌↔◌, ℕ, ◌∙◌, Bool, true, false, not, List, [], ◌∷◌, take, drop, get_or, Some, refl, sym, ap}
use Rattle.std.specs.Bool.{if◌then◌else◌}
use Rattle.std.specs.List.{All}
use Rattle.std.specs.Option.{option_map}
use Rattle.std.specs.Prelude.{find}
use Rattle.casm_word.specs.declared.Flags.{Flags}
use Rattle.casm_word.specs.declared.Shape.{Shape}
use Rattle.casm_word.specs.declared.Shape.TheVariants.{Op1, Res, Pc, Opcode, ApBoth, JnzOpcode, JnzAp, CallAp}
use Rattle.casm_word.specs.Word.{breaks, shapes, first_broken}
use Rattle.casm_word.specs.Transition.{Registers}
use Rattle.cpu_rows.specs.Columns.{Columns}
use Rattle.cpu_rows.specs.Equations.{Equation, ◌≐◌, C, equations, EquationHolds, holds, failing_number}
use Rattle.cpu_rows.specs.Steps.{HasFlags, equation_of}
use Rattle.cpu_rows.proofs.Choices.{at_most_one, two_of_turned, not_both, not_with_either, not_with_any}
use Rattle.cpu_rows.proofs.EachEquation.{row_flags, HasFlags-row_flags, first_fifteen-HasFlags}

-- a shape and its equation, in front of others that agree
step : (f : Flags) (s : Shape) (ss : List Shape) (e : Equation) (es : List Equation) → holds e ≡ not (breaks s f) → e.number ≡ equation_of s → option_map equation_of (find (λ s. breaks s f) ss) ≡ failing_number es → option_map equation_of (find (λ s. breaks s f) (s ∷ ss)) ≡ failing_number (e ∷ es)
unfolding failing_number
step f s ss e es same name rest = by (breaks s f) (holds e) same
  where
    by : (b h : Bool) → h ≡ not b → option_map equation_of (if b then Some s else find (λ s. breaks s f) ss) ≡ option_map (λ e. e.number) (if not h then Some e else find (λ e. not (holds e)) es)
    by true h g = rw g (ap Some (sym name))
    by false h g = rw g rest

none : (f : Flags) → option_map equation_of (find (λ s. breaks s f) []) ≡ failing_number []
unfolding failing_number
none f = refl

-- the least of the last eight equations that fails is that of the first broken shape
pub first_broken-failing_number : (r : Columns) (after : Registers) (f : Flags) → HasFlags r f → option_map equation_of (first_broken f) ≡ failing_number (drop 31 (equations r after))
unfolding first_broken breaks equations holds
first_broken-failing_number r after f has =
    let es : List Equation = equations r after in
    let e : ℕ → Equation = λ k. get_or es k (C 0 (0 ≐ 0)) in
    step f Op1 (drop 1 shapes) (e 31) (drop 32 es) (rw (has.op1_imm, has.op1_ap, has.op1_fp) (at_most_one f.op1_imm f.op1_ap f.op1_fp ∙ ap not (two_of_turned f.op1_imm f.op1_ap f.op1_fp))) refl
    (step f Res (drop 2 shapes) (e 32) (drop 33 es) (rw (has.res_add, has.res_mul, has.pc_jnz) (at_most_one f.res_add f.res_mul f.pc_jnz)) refl
    (step f Pc (drop 3 shapes) (e 33) (drop 34 es) (rw (has.pc_abs, has.pc_rel, has.pc_jnz) (at_most_one f.pc_abs f.pc_rel f.pc_jnz)) refl
    (step f Opcode (drop 4 shapes) (e 34) (drop 35 es) (rw (has.op_call, has.op_ret, has.op_assert) (at_most_one f.op_call f.op_ret f.op_assert)) refl
    (step f ApBoth (drop 5 shapes) (e 35) (drop 36 es) (rw (has.ap_add, has.ap_add1) (not_both f.ap_add f.ap_add1)) refl
    (step f JnzOpcode (drop 6 shapes) (e 36) (drop 37 es) (rw (has.pc_jnz, has.op_call, has.op_ret, has.op_assert) (not_with_any f.pc_jnz f.op_call f.op_ret f.op_assert)) refl
    (step f JnzAp (drop 7 shapes) (e 37) (drop 38 es) (rw (has.pc_jnz, has.ap_add) (not_both f.pc_jnz f.ap_add)) refl
    (step f CallAp (drop 8 shapes) (e 38) (drop 39 es) (rw (has.op_call, has.ap_add, has.ap_add1) (not_with_either f.op_call f.ap_add f.ap_add1)) refl (none f))))))))

-- the first fifteen equations hold exactly where each flag is 0 or 1
pub flags-first_fifteen : (r : Columns) (after : Registers) → All EquationHolds (take 15 (equations r after)) ↔ ((f : Flags) × HasFlags r f)
flags-first_fifteen r after = (
  (λ h. (row_flags r, HasFlags-row_flags r after h)),
  (λ p. first_fifteen-HasFlags r after p.0 p.1),
)
