-- The cells that a step may find out, and their values: the table of operand deduction, a row for each. After the Cairo
-- Zero runner; the table is the project's own.
use Rattle.std.specs.Prelude.{Bool, true, false, not, ◌&&◌, ◌||◌, Option, Some, None, List, [], ◌∷◌, take, Result, Ok, if◌then◌else◌}
use Rattle.std.specs.Result.{result_ok}
use Rattle.casm_word.specs.declared.Flags.{Flags}
use Rattle.segments.specs.declared.RelState.{RelState}
use Rattle.segments.specs.declared.Value.{Value}
use Rattle.segments.specs.declared.Value.TheVariants.{Ptr}
use Rattle.segments.specs.Values.{value_difference, value_quotient}
use Rattle.run_steps.specs.declared.cause.Spot.{Spot}
use Rattle.run_steps.specs.declared.cause.Spot.TheVariants.{Dst, Op0, Op1}
use Rattle.run_steps.specs.declared.cause.StepCause.{StepCause}
use Rattle.run_steps.specs.Causes.{◌>>=◌, by_arithmetic}
use Rattle.run_steps.specs.Operands.{place_after}

-- What is known while operands are found out: the flags of the instruction, the state, the operands as far as they are
-- known, and what is computed of op0 and op1, once it is. Own.
pub record Known : Type 0 where
  pub flags : Flags
  pub state : RelState
  pub dst : Option Value
  pub op0 : Option Value
  pub op1 : Option Value
  pub res : Option Value

-- What is known once the cells are read. Own.
abbrev pub reads : Flags → RelState → Option Value → Option Value → Option Value → Known
reads f s dst op0 op1 = record { flags = f; state = s; dst = dst; op0 = op0; op1 = op1; res = None }

-- What is known once op0 and op1 are, and what is computed of them. Own.
abbrev pub computed : Flags → RelState → Option Value → Value → Value → Value → Known
computed f s dst op0 op1 res = record { flags = f; state = s; dst = dst; op0 = Some op0; op1 = Some op1; res = Some res }

-- One row of the table: a cell that may be found out, the instructions for which it may, and its value, as far as what
-- the value is made of is known. Own.
pub record Row : Type 0 where
  pub cell : Spot
  pub applies : Flags → Bool
  pub value : Known → Result (Option Value) StepCause

-- A row of the table, written in one line. Own.
abbrev pub row : Spot → (Flags → Bool) → (Known → Result (Option Value) StepCause) → Row
row cell applies value = record { cell = cell; applies = applies; value = value }

-- ---- for which instructions

-- A call. Own.
abbrev pub calls : Flags → Bool
calls f = f.op_call

-- An assertion. Own.
abbrev pub asserts : Flags → Bool
asserts f = f.op_assert

-- An assertion that adds. Own.
abbrev pub asserts_sum : Flags → Bool
asserts_sum f = f.op_assert && f.res_add

-- An assertion that multiplies. Own.
abbrev pub asserts_product : Flags → Bool
asserts_product f = f.op_assert && f.res_mul

-- An assertion that does neither. Own.
abbrev pub asserts_op1 : Flags → Bool
asserts_op1 f = f.op_assert && not (f.res_add || f.res_mul)

-- ---- with which value

-- The difference, where both values are known. The step is refused where they have none. Own.
unfoldable pub known_difference : Option Value → Option Value → Result (Option Value) StepCause
known_difference (Some a) (Some b) = by_arithmetic (value_difference a b) >>= λ v. Ok (Some v)
known_difference (Some a) None = Ok None
known_difference None b = Ok None

-- The quotient, where both values are known numbers and the second isn't 0. Own.
unfoldable pub known_quotient : Option Value → Option Value → Option Value
known_quotient (Some a) (Some b) = result_ok (value_quotient a b)
known_quotient (Some a) None = None
known_quotient None b = None

-- ---- the table

-- The table of deduction. A row is a cell, the instructions for which it may be found out, and its value. It is after
-- the Cairo Zero runner. Own.
abbrev pub deduction : List Row
deduction =
    row Op0 calls (λ k. Ok (Some (Ptr (place_after k.flags k.state))))
    ∷ row Op0 asserts_sum (λ k. known_difference k.dst k.op1)
    ∷ row Op0 asserts_product (λ k. Ok (known_quotient k.dst k.op1))
    ∷ row Op1 asserts_op1 (λ k. Ok k.dst)
    ∷ row Op1 asserts_sum (λ k. known_difference k.dst k.op0)
    ∷ row Op1 asserts_product (λ k. Ok (known_quotient k.dst k.op0))
    ∷ row Dst asserts (λ k. Ok k.res)
    ∷ row Dst calls (λ k. Ok (Some (Ptr k.state.fp)))
    ∷ []

-- The rows that are asked before op1 is read, since it may lie by op0: the first one. Own.
abbrev pub before_op1 : List Row
before_op1 = take 1 deduction

-- ---- how it is read

-- Whether two operands are one. Own.
abbrev pub same_spot : Spot → Spot → Bool
same_spot Dst Dst = true
same_spot Dst Op0 = false
same_spot Dst Op1 = false
same_spot Op0 Dst = false
same_spot Op0 Op0 = true
same_spot Op0 Op1 = false
same_spot Op1 Dst = false
same_spot Op1 Op0 = false
same_spot Op1 Op1 = true

-- The value of the first of these rows that has this cell and applies, or none where no row does. Own.
abbrev pub first_value : List Row → Spot → Known → Result (Option Value) StepCause
first_value [] spot k = Ok None
first_value (r ∷ rows) spot k =
    if same_spot r.cell spot && r.applies k.flags then r.value k else first_value rows spot k

-- What is known of an operand already. Own.
abbrev pub held : Spot → Known → Option Value
held Dst k = k.dst
held Op0 k = k.op0
held Op1 k = k.op1

-- What is known already, or else what these rows give. Own.
abbrev pub unless_held : Option Value → Result (Option Value) StepCause → Result (Option Value) StepCause
unless_held (Some v) found = Ok (Some v)
unless_held None found = found

-- What is known of an operand once these rows are asked for it: what was known stays. Own.
abbrev pub deduced : List Row → Spot → Known → Result (Option Value) StepCause
deduced rows spot k = unless_held (held spot k) (first_value rows spot k)
