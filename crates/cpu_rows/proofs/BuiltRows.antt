-- What the code that builds a row finds: the row of a step, or that there is no step.
use Rattle.std.proofs.Common.{◌≡◌, ℕ, ◌<◌, ◌∙◌, Bool, true, false, List, Option, Some, None, Result, Ok, Err, refl, sym, ap, subst, inl, inr}
use Rattle.std.specs.List.{All}
use Rattle.std.specs.Result.{result_ok}
use Rattle.std.specs.Prelude.{slice_range, ◌↔◌, unwrap_or, IsNone, IfSome, MatchBool}
use Rattle.goldilocks.specs.declared.Felt.{Felt}
use Rattle.goldilocks.specs.Field.{prime}
use Rattle.casm_word.specs.declared.Flags.{Flags}
use Rattle.casm_word.specs.declared.Word.{Word}
use Rattle.casm_word.specs.declared.WordFault.{WordFault}
use Rattle.casm_word.specs.Word.{decoding}
use Rattle.casm_word.specs.Transition.{Memory, Registers, dst_address, op0_address, op1_address, res, next}
use Rattle.cpu_rows.specs.Columns.{Columns, IsInField, IsRow}
use Rattle.cpu_rows.specs.Equations.{Equation, ◌⊙◌, equations, EquationHolds, Meets, fault, failing_number}
use Rattle.cpu_rows.specs.Steps.{HasFlags, IsStep, tilde_of, IsInverseOrZero, IsRes, row_of, IsRowOf}
use Rattle.cpu_rows.proofs.RowOfStep.{Meets-from_row_of, HasSmallOffsets-from_row_of, HasCells-from_row_of, state_of_row_of, decoded, made_of_word}
use Rattle.cpu_rows.proofs.StepOfRow.{IsStep-from_meets}
use Rattle.std.proofs.Common.{length, take, drop}
use Rattle.std.specs.Option.{is_some}
use Rattle.std.proofs.lemmas.List.{length-map}
use Rattle.cpu_rows.specs.declared.Row.{Row}
use Rattle.cpu_rows.specs.Columns.{columns}
use Rattle.cpu_rows.proofs.Faults.{fault-None, IsRow-columns}
use Rattle.cpu_rows.proofs.Failing.{joined, failing_number-None}
use Rattle.std.specs.Option.{option_or}

-- ---- where the transition function has no value

pub next-no_word : (m : Memory) (s : Registers) → m s.pc ≡ None → next m s ≡ None
unfolding next
next-no_word m s c0 = rw c0 refl

pub next-undecoded : (m : Memory) (s : Registers) (n : ℕ) → m s.pc ≡ Some n → result_ok (decoding n) ≡ None → next m s ≡ None
unfolding next
next-undecoded m s n c0 e = rw (c0, e) refl

-- what a decoding gives where it gives a word
pub Ok-from_ok : (r : Result Word WordFault) (w : Word) → Some w ≡ result_ok r → r ≡ Ok w
Ok-from_ok (Ok v) w e = cc
Ok-from_ok (Err fault) w e = cc

pub next-no_dst : (m : Memory) (s : Registers) (n : ℕ) (w : Word) → m s.pc ≡ Some n → decoding n ≡ Ok w → m (dst_address w s) ≡ None → next m s ≡ None
unfolding next
next-no_dst m s n w c0 e c1 = rw (c0, e, c1) refl

pub next-no_op0 : (m : Memory) (s : Registers) (n : ℕ) (w : Word) (d : ℕ) → m s.pc ≡ Some n → decoding n ≡ Ok w → m (dst_address w s) ≡ Some d → m (op0_address w s) ≡ None → next m s ≡ None
unfolding next
next-no_op0 m s n w d c0 e c1 c2 = rw (c0, e, c1, c2) refl

pub next-no_op1 : (m : Memory) (s : Registers) (n : ℕ) (w : Word) (d a : ℕ) → m s.pc ≡ Some n → decoding n ≡ Ok w → m (dst_address w s) ≡ Some d → m (op0_address w s) ≡ Some a → m (op1_address w s a) ≡ None → next m s ≡ None
unfolding next
next-no_op1 m s n w d a c0 e c1 c2 c3 = rw (c0, e, c1, c2, c3) refl

-- ---- the column res

pub IsRes-jump : (f : Flags) (d a b x : ℕ) → f.pc_jnz ≡ true → IsInverseOrZero d x → IsRes f d a b x
unfolding IsRes
IsRes-jump f d a b x j h = by f.pc_jnz j
  where
    by : (jnz : Bool) → jnz ≡ true → MatchBool jnz (IsInverseOrZero d x) (x ≡ res f a b)
    by true e = h
    by false e = cc

pub IsRes-other : (f : Flags) (d a b x : ℕ) → f.pc_jnz ≡ false → x ≡ res f a b → IsRes f d a b x
unfolding IsRes
IsRes-other f d a b x j h = by f.pc_jnz j
  where
    by : (jnz : Bool) → jnz ≡ false → MatchBool jnz (IsInverseOrZero d x) (x ≡ res f a b)
    by true e = cc
    by false e = h

pub IsInverseOrZero-from_option : (d : ℕ) (found : Option Felt) (y zero : Felt) → zero.number ≡ 0 → IsNone found ↔ (d ≡ 0) → IfSome found (λ y. d ⊙ y.number ≡ 1) → y ≡ unwrap_or found zero → IsInverseOrZero d y.number
unfolding IsInverseOrZero
IsInverseOrZero-from_option d None y zero z none some e = (y.in_field, inr (none.0 refl, ap (λ (v : Felt). v.number) e ∙ z))
IsInverseOrZero-from_option d (Some x) y zero z none some e =
    (y.in_field, inl (ap (λ (v : Felt). d ⊙ v.number) e ∙ some))

-- ---- what the code reads and answers

-- a cell that was read, at an address that is known in another form
pub cell_at : (m : Memory) (found : Option ℕ) (a b : ℕ) → a ≡ b → found ≡ m a → m b ≡ found
cell_at m found a b e h = sym (ap m e) ∙ sym h

-- no row where there is no step
pub no_row : {R : Type 0} (row : Option R) (found : Option Registers) (after : Registers) → row ≡ None → found ≡ None → (is_some row ≡ true → found ≡ Some after) × (found ≡ Some after → is_some row ≡ true)
no_row row found after none e = ((λ h. absurd (differ (sym (ap is_some none) ∙ h))), (λ h. absurd (none_some (sym e ∙ h))))
  where
    differ : false ≡ true → ⊥
    differ h = cc

    none_some : None ≡ Some after → ⊥
    none_some h = cc

pub IsRowOf-from_parts : (m : Memory) (s : Registers) (r : Columns) (n : ℕ) (w : Word) (d a b x : ℕ) → m s.pc ≡ Some n → decoding n ≡ Ok w → m (dst_address w s) ≡ Some d → m (op0_address w s) ≡ Some a → m (op1_address w s a) ≡ Some b → IsRes w.flags d a b x → r ≡ row_of s n w d a b x → IsRowOf m s r
unfolding row_of
IsRowOf-from_parts m s r n w d a b x c0 e c1 c2 c3 column same =
    let P : Columns → Type 0 = λ t. IsRowOf m s t in
    subst P (sym same) (record { word = w; inst = c0; decodes = e; dst = c1; op0 = c2; op1 = c3; res = column; columns = refl })

sixteen_tilde_values : (r : Row) (s : Registers) (n : ℕ) (w : Word) (d a b x : ℕ) → columns r ≡ row_of s n w d a b x → length r.tilde ≡ 16
unfolding columns row_of tilde_of
sixteen_tilde_values r s n w d a b x e =
    let number : Felt → ℕ = λ v. v.number in
    sym (length-map r.tilde number) ∙ ap (λ (t : Columns). length t.tilde) e

pub IsRow-from_row_of : (r : Row) (s : Registers) (n : ℕ) (w : Word) (d a b x : ℕ) → columns r ≡ row_of s n w d a b x → IsRow (columns r)
IsRow-from_row_of r s n w d a b x e = IsRow-columns r (sixteen_tilde_values r s n w d a b x e)

is_none : (o : Option ℕ) → is_some o ≡ false → o ≡ None
is_none None e = refl
is_none (Some k) e = cc

-- a row that has a fault is of no step to that state
pub refused : (m : Memory) (s after : Registers) (r : Columns) (found : Option ℕ) → IsRow r → IsRowOf m s r → found ≡ fault r after → is_some found ≡ true → (false ≡ true → next m s ≡ Some after) × (next m s ≡ Some after → false ≡ true)
refused m s after r found is row e some = (
  (λ h. absurd (differ h)),
  (λ step.
      let none : fault r after ≡ None = (fault-None r after).1 (Meets-from_row_of m s after r is.in_field row step) in
      sym (ap is_some (e ∙ none)) ∙ some),
)
  where
    differ : false ≡ true → ⊥
    differ h = cc

-- a row that has none is of a step to that state
pub accepted : (m : Memory) (s after : Registers) (r : Columns) (found : Option ℕ) → IsRow r → IsRowOf m s r → after.pc < prime → found ≡ fault r after → is_some found ≡ false → next m s ≡ Some after
accepted m s after r found is row below e none =
    let met : Meets r after = (fault-None r after).0 (sym e ∙ is_none found none) in
    let step : IsStep r after = IsStep-from_meets r after is.in_field below (HasSmallOffsets-from_row_of m s r row) met in
    let P : Registers → Type 0 = λ u. next m u ≡ Some after in
    subst P (state_of_row_of m s r row) (step.step m (HasCells-from_row_of m s r row))

-- ---- what is left to be tested of a row that was made

pub made_row : (s after : Registers) (r : Columns) (n : ℕ) (w : Word) (d a b x : ℕ) → decoding n ≡ Ok w → IsRow r → IsRes w.flags d a b x → r ≡ row_of s n w d a b x → All EquationHolds (take 24 (equations r after)) × All EquationHolds (drop 31 (equations r after)) × HasFlags r w.flags
made_row s after r n w d a b x e is column same =
    let k = decoded n w e in
    let P : Columns → Type 0 = λ t. All EquationHolds (take 24 (equations t after)) × All EquationHolds (drop 31 (equations t after)) × HasFlags t w.flags in
    subst P (sym same) (made_of_word s after n d a b x w k.0 k.1 k.2 (subst IsInField same is.in_field) column)

pub fault-made : (r : Columns) (after : Registers) (found : Option ℕ) → All EquationHolds (take 24 (equations r after)) → All EquationHolds (drop 31 (equations r after)) → found ≡ failing_number (slice_range (equations r after) 24 31) → found ≡ fault r after
unfolding equations fault
fault-made r after found first last e =
    let es : List Equation = equations r after in
    let none_first : None ≡ failing_number (take 24 es) = sym ((failing_number-None (take 24 es)).1 first) in
    let none_last : None ≡ failing_number (drop 31 es) = sym ((failing_number-None (drop 31 es)).1 last) in
    joined found None found (take 24 es) (drop 24 es) refl none_first
    (joined found found None (slice_range es 24 31) (drop 31 es) (sym (option_or-None found)) e none_last)
  where
    option_or-None : (o : Option ℕ) → option_or o None ≡ o
    option_or-None None = refl
    option_or-None (Some k) = refl
