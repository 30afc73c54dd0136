-- The 39 equations of a row and the next state. They speak of numbers of the field alone. "The whitepaper" is Cairo's,
-- ePrint 2021/1063.
use Rattle.std.specs.Prelude.{◌≡◌, ◌<◌, ℕ, ◌+◌, ◌^◌, Bool, not, ◌==◌, List, [], ◌∷◌, All, Any, find, Option, option_map, slice_index}
use Rattle.goldilocks.specs.Field.{field_add, field_sub, field_mul}
use Rattle.casm_word.specs.Transition.{Registers}
use Rattle.cpu_rows.specs.Columns.{Columns}

infixl 7 ◌⊙◌
infixl 6 ◌⊕◌
infixl 6 ◌⊖◌
-- The field's sum, as an operator. Own.
abbrev pub ◌⊕◌ : ℕ → ℕ → ℕ
a ⊕ b = field_add a b

-- The field's difference, as an operator. Own.
abbrev pub ◌⊖◌ : ℕ → ℕ → ℕ
a ⊖ b = field_sub a b

-- The field's product, as an operator. Own.
abbrev pub ◌⊙◌ : ℕ → ℕ → ℕ
a ⊙ b = field_mul a b

-- An equation with the number of its name: C1 has 1. Own.
pub record Equation : Type 0 where
  pub number : ℕ
  pub left : ℕ
  pub right : ℕ

infix 4 ◌≐◌
-- The two sides of an equation. Own.
abbrev pub ◌≐◌ : ℕ → ℕ → ℕ × ℕ
a ≐ b = (a, b)

-- An equation by its name. Own.
abbrev pub C : ℕ → ℕ × ℕ → Equation
C k sides = record { number = k; left = sides.0; right = sides.1 }

-- Flag j of a row: a tilde value less twice the next one. The whitepaper's flags of an instruction.
unfoldable pub flag : Columns → ℕ → ℕ
flag r j = slice_index r.tilde j ⊖ 2 ⊙ slice_index r.tilde (j + 1)

-- The equations C1 to C39 of a row and the registers of the next state. C1 to C31 are after the whitepaper's
-- constraints of the Cairo machine; C32 to C39, which exclude flags that have no meaning together, are own.
unfoldable pub equations : Columns → Registers → List Equation
equations r next =
    let DST = flag r 0 in
    let OP0 = flag r 1 in
    let IMM = flag r 2 in
    let FP = flag r 3 in
    let AP = flag r 4 in
    let ADD = flag r 5 in
    let MUL = flag r 6 in
    let ABS = flag r 7 in
    let REL = flag r 8 in
    let JNZ = flag r 9 in
    let AP_ADD = flag r 10 in
    let AP_ADD1 = flag r 11 in
    let CALL = flag r 12 in
    let RET = flag r 13 in
    let ASSERT = flag r 14 in
    let size = 1 ⊕ IMM in
    C 1 (DST ⊙ (DST ⊖ 1) ≐ 0)
    ∷ C 2 (OP0 ⊙ (OP0 ⊖ 1) ≐ 0)
    ∷ C 3 (IMM ⊙ (IMM ⊖ 1) ≐ 0)
    ∷ C 4 (FP ⊙ (FP ⊖ 1) ≐ 0)
    ∷ C 5 (AP ⊙ (AP ⊖ 1) ≐ 0)
    ∷ C 6 (ADD ⊙ (ADD ⊖ 1) ≐ 0)
    ∷ C 7 (MUL ⊙ (MUL ⊖ 1) ≐ 0)
    ∷ C 8 (ABS ⊙ (ABS ⊖ 1) ≐ 0)
    ∷ C 9 (REL ⊙ (REL ⊖ 1) ≐ 0)
    ∷ C 10 (JNZ ⊙ (JNZ ⊖ 1) ≐ 0)
    ∷ C 11 (AP_ADD ⊙ (AP_ADD ⊖ 1) ≐ 0)
    ∷ C 12 (AP_ADD1 ⊙ (AP_ADD1 ⊖ 1) ≐ 0)
    ∷ C 13 (CALL ⊙ (CALL ⊖ 1) ≐ 0)
    ∷ C 14 (RET ⊙ (RET ⊖ 1) ≐ 0)
    ∷ C 15 (ASSERT ⊙ (ASSERT ⊖ 1) ≐ 0)
    ∷ C 16 (slice_index r.tilde 15 ≐ 0)
    ∷ C 17 (r.inst ≐ r.off_dst ⊕ 2 ^ 16 ⊙ r.off_op0 ⊕ 2 ^ 32 ⊙ r.off_op1 ⊕ 2 ^ 48 ⊙ slice_index r.tilde 0)
    ∷ C 18 (r.dst_addr ≐ DST ⊙ r.fp ⊕ (1 ⊖ DST) ⊙ r.ap ⊕ r.off_dst ⊖ 2 ^ 15)
    ∷ C 19 (r.op0_addr ≐ OP0 ⊙ r.fp ⊕ (1 ⊖ OP0) ⊙ r.ap ⊕ r.off_op0 ⊖ 2 ^ 15)
    ∷ C 20 (r.op1_addr ≐ IMM ⊙ r.pc ⊕ AP ⊙ r.ap ⊕ FP ⊙ r.fp ⊕ (1 ⊖ IMM ⊖ AP ⊖ FP) ⊙ r.op0 ⊕ r.off_op1 ⊖ 2 ^ 15)
    ∷ C 21 (r.mul ≐ r.op0 ⊙ r.op1)
    ∷ C 22 ((1 ⊖ JNZ) ⊙ r.res ≐ ADD ⊙ (r.op0 ⊕ r.op1) ⊕ MUL ⊙ r.mul ⊕ (1 ⊖ ADD ⊖ MUL ⊖ JNZ) ⊙ r.op1)
    ∷ C 23 (r.t0 ≐ JNZ ⊙ r.dst)
    ∷ C 24 (r.t1 ≐ r.t0 ⊙ r.res)
    ∷ C 25 ((r.t1 ⊖ JNZ) ⊙ (next.pc ⊖ r.pc ⊖ size) ≐ 0)
    ∷ C 26 (r.t0 ⊙ (next.pc ⊖ r.pc ⊖ r.op1) ⊕ (1 ⊖ JNZ) ⊙ next.pc
    ⊖ ((1 ⊖ ABS ⊖ REL ⊖ JNZ) ⊙ (r.pc ⊕ size) ⊕ ABS ⊙ r.res ⊕ REL ⊙ (r.pc ⊕ r.res)) ≐ 0)
    ∷ C 27 (next.ap ≐ r.ap ⊕ AP_ADD ⊙ r.res ⊕ AP_ADD1 ⊕ 2 ⊙ CALL)
    ∷ C 28 (next.fp ≐ RET ⊙ r.dst ⊕ CALL ⊙ (r.ap ⊕ 2) ⊕ (1 ⊖ RET ⊖ CALL) ⊙ r.fp)
    ∷ C 29 (CALL ⊙ (r.dst ⊖ r.fp) ≐ 0)
    ∷ C 30 (CALL ⊙ (r.op0 ⊖ r.pc ⊖ size) ≐ 0)
    ∷ C 31 (ASSERT ⊙ (r.dst ⊖ r.res) ≐ 0)
    ∷ C 32 ((1 ⊖ IMM ⊖ AP ⊖ FP) ⊙ ((1 ⊖ IMM ⊖ AP ⊖ FP) ⊖ 1) ≐ 0)
    ∷ C 33 ((1 ⊖ ADD ⊖ MUL ⊖ JNZ) ⊙ ((1 ⊖ ADD ⊖ MUL ⊖ JNZ) ⊖ 1) ≐ 0)
    ∷ C 34 ((1 ⊖ ABS ⊖ REL ⊖ JNZ) ⊙ ((1 ⊖ ABS ⊖ REL ⊖ JNZ) ⊖ 1) ≐ 0)
    ∷ C 35 ((1 ⊖ CALL ⊖ RET ⊖ ASSERT) ⊙ ((1 ⊖ CALL ⊖ RET ⊖ ASSERT) ⊖ 1) ≐ 0)
    ∷ C 36 (AP_ADD ⊙ AP_ADD1 ≐ 0)
    ∷ C 37 (JNZ ⊙ (CALL ⊕ RET ⊕ ASSERT) ≐ 0)
    ∷ C 38 (JNZ ⊙ AP_ADD ≐ 0)
    ∷ C 39 (CALL ⊙ (AP_ADD ⊕ AP_ADD1) ≐ 0)
    ∷ []

-- The equation holds. Own.
unfoldable pub EquationHolds : Equation → Type 0
EquationHolds e = e.left ≡ e.right

-- The test of that. Own.
unfoldable pub holds : Equation → Bool
holds e = e.left == e.right

-- The row and the next state meet each of the equations. The whitepaper's constraints of the Cairo machine.
unfoldable pub Meets : Columns → Registers → Type 0
Meets r next = All EquationHolds (equations r next)

-- The number of the first equation in a list that fails. Own.
unfoldable pub failing_number : List Equation → Option ℕ
failing_number es = option_map (λ e. e.number) (find (λ e. not (holds e)) es)

-- The least number of an equation that fails. Own.
unfoldable pub fault : Columns → Registers → Option ℕ
fault r next = failing_number (equations r next)

-- An equation of this number fails, and each of a lesser number holds. Own.
pub record IsLeastFailing (es : List Equation) (k : ℕ) : Type 0 where
  pub fails : Any (λ e. (e.number ≡ k) × (EquationHolds e → ⊥)) es
  pub lesser : All (λ e. e.number < k → EquationHolds e) es
