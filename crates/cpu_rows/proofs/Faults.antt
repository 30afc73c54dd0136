-- What `row_fault` finds: the least equation that fails, and where none does the step.
use Rattle.std.proofs.Common.{◌≡◌, ◌↔◌, ℕ, ◌+◌, ◌<◌, ◌∙◌, List, [], ◌∷◌, length, get_or, take, drop, Option, Some, None, refl, sym, add_comm}
use Rattle.std.specs.Option.{IsNone, IfSome}
use Rattle.std.proofs.lemmas.List.Elements.{All-from_recursion, All-append, All-map}
use Rattle.std.proofs.lemmas.List.{length-map}
use Rattle.goldilocks.specs.declared.Felt.{Felt}
use Rattle.goldilocks.specs.Field.{prime}
use Rattle.casm_word.specs.declared.Flags.{Flags}
use Rattle.casm_word.specs.declared.State.{State}
use Rattle.casm_word.specs.Transition.{Registers, registers}
use Rattle.cpu_rows.specs.declared.Row.{Row}
use Rattle.cpu_rows.specs.Columns.{Columns, columns, values, IsRow}
use Rattle.goldilocks.specs.Felts.{numbers}
use Rattle.cpu_rows.specs.Equations.{Equation, equations, Meets, failing_number, fault, IsLeastFailing}
use Rattle.cpu_rows.specs.Steps.{HasFlags, HasSmallOffsets, IsStep}
use Rattle.cpu_rows.proofs.EachEquation.{first_fifteen-HasFlags}
use Rattle.cpu_rows.proofs.Failing.{joined, failing_number-None, IsNumberedFrom, IsLeastFailing-from_first, numbered-at}
use Rattle.cpu_rows.proofs.StepOfRow.{IsStep-from_meets}

-- the numbers of a row are numbers of the field
pub IsRow-columns : (r : Row) → length r.tilde ≡ 16 → IsRow (columns r)
unfolding columns values
IsRow-columns r sixteen =
    let P : ℕ → Type 0 = λ v. v < prime in
    let number : Felt → ℕ = λ x. x.number in
    let back : List ℕ = r.off_dst.number ∷ r.off_op0.number ∷ r.off_op1.number ∷ r.dst_addr.number ∷ r.op0_addr.number ∷ r.op1_addr.number ∷ r.dst.number ∷ r.op0.number ∷ r.op1.number ∷ r.mul.number ∷ r.res.number ∷ r.t0.number ∷ r.t1.number ∷ [] in
    record {
      sixteen = length-map r.tilde number ∙ sixteen;
      in_field =
          All-append P (r.pc.number ∷ r.ap.number ∷ r.fp.number ∷ r.inst.number ∷ numbers r.tilde) back
          (All-append P (r.pc.number ∷ r.ap.number ∷ r.fp.number ∷ r.inst.number ∷ []) (numbers r.tilde)
          (All-from_recursion P (r.pc.number ∷ r.ap.number ∷ r.fp.number ∷ r.inst.number ∷ []) (r.pc.in_field, (r.ap.in_field, (r.fp.in_field, (r.inst.in_field, tt)))))
          (All-map P number r.tilde (λ k d below. (get_or r.tilde k d).in_field)))
          (All-from_recursion P back
          (r.off_dst.in_field, (r.off_op0.in_field, (r.off_op1.in_field, (r.dst_addr.in_field, (r.op0_addr.in_field, (r.op1_addr.in_field, (r.dst.in_field, (r.op0.in_field, (r.op1.in_field, (r.mul.in_field, (r.res.in_field, (r.t0.in_field, (r.t1.in_field, tt))))))))))))));
    }

numbered : (r : Columns) (after : Registers) → IsNumberedFrom 1 (equations r after)
unfolding equations
numbered r after = (refl, (refl, (refl, (refl, (refl, (refl, (refl, (refl, (refl, (refl, (refl, (refl, (refl, (refl, (refl, (refl, (refl, (refl, (refl, (refl, (refl, (refl, (refl, (refl, (refl, (refl, (refl, (refl, (refl, (refl, (refl, (refl, (refl, (refl, (refl, (refl, (refl, (refl, (refl, tt)))))))))))))))))))))))))))))))))))))))

pub names : (r : Columns) (after : Registers) (d : Equation) → (length (equations r after) ≡ 39) × ((k : ℕ) → k < 39 → (get_or (equations r after) k d).number ≡ k + 1)
unfolding equations
names r after d = (refl, (λ k below. numbered-at 1 (equations r after) d (numbered r after) k below ∙ add_comm 1 k))

-- a flag that is no flag decides
pub fault-no_flags : (r : Columns) (after : Registers) (k : ℕ) → failing_number (take 15 (equations r after)) ≡ Some k → fault r after ≡ Some k
unfolding equations fault
fault-no_flags r after k e =
    let es : List Equation = equations r after in
    sym (joined (Some k) (Some k) (failing_number (drop 15 es)) (take 15 es) (drop 15 es) refl (sym e) refl)

-- where there are flags, the other equations decide
pub fault-flags : (r : Columns) (after : Registers) (f : Flags) → HasFlags r f → failing_number (drop 15 (equations r after)) ≡ fault r after
unfolding equations fault
fault-flags r after f has =
    let es : List Equation = equations r after in
    let none : failing_number (take 15 es) ≡ None = (failing_number-None (take 15 es)).1 (first_fifteen-HasFlags r after f has) in
    joined (failing_number (drop 15 es)) None (failing_number (drop 15 es)) (take 15 es) (drop 15 es) refl (sym none) refl

pub fault-None : (r : Columns) (after : Registers) → (fault r after ≡ None) ↔ Meets r after
unfolding fault Meets
fault-None r after = failing_number-None (equations r after)

-- ---- the clauses, of an answer that is the fault

pub none_where_met : (found : Option ℕ) (r : Columns) (after : Registers) → found ≡ fault r after → IsNone found ↔ Meets r after
none_where_met found r after e = ((λ n. (fault-None r after).0 (sym e ∙ is_none found n)), (λ m. none_is found (e ∙ (fault-None r after).1 m)))
  where
    is_none : (o : Option ℕ) → IsNone o → o ≡ None
    is_none None n = refl
    is_none (Some k) n = absurd (bad n)
      where
        bad : IsNone (Some k) → ⊥
        bad n = cc

    none_is : (o : Option ℕ) → o ≡ None → IsNone o
    none_is None e = refl
    none_is (Some k) e = cc

pub least_of_fault : (found : Option ℕ) (r : Columns) (after : Registers) → found ≡ fault r after → IfSome found (λ k. IsLeastFailing (equations r after) k)
unfolding fault
least_of_fault None r after e = tt
least_of_fault (Some k) r after e = IsLeastFailing-from_first 1 (equations r after) k (numbered r after) (sym e)

pub step_where_met : (row : Row) (after : State) → length row.tilde ≡ 16 → HasSmallOffsets (columns row) → Meets (columns row) (registers after) → IsStep (columns row) (registers after)
unfolding registers
step_where_met row after sixteen small meets =
    IsStep-from_meets (columns row) (registers after) (IsRow-columns row sixteen).in_field after.pc.in_field small meets
