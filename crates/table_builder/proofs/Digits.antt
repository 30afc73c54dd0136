-- The small values of a run are the digits of its words and of its range cells.
use Rattle.std.proofs.Common.{◌≡◌, ℕ, ◌-◌, ◌%◌, ◌^◌, ◌<◌, ◌∙◌, List, [], ◌∷◌, ◌++◌, length, take, map, Some, refl, sym, ap, ap₂, arith, append-nil}
use Rattle.std.specs.Prelude.{All, unwrap_or}
use Rattle.std.specs.List.{AllZip, flat_map, range_with_len}
use Rattle.std.proofs.Math.Nat.{mod-eq_of_lt}
use Rattle.std.proofs.lemmas.List.{map-append}
use Rattle.std.proofs.lemmas.List.Elements.{All-cons}
use Rattle.goldilocks.specs.Field.{prime}
use Rattle.goldilocks.specs.declared.Felt.{Felt}
use Rattle.goldilocks.specs.Felts.{numbers}
use Rattle.casm_word.specs.declared.State.{State}
use Rattle.casm_word.specs.Transition.{Memory, Registers, registers}
use Rattle.casm_word.specs.Run.{steps, LegalRun}
use Rattle.cpu_rows.specs.Columns.{Columns}
use Rattle.cpu_rows.specs.Steps.{row_of, IsRowOf}
use Rattle.range_columns.specs.Limbs.{limb_at}
use Rattle.public_input.specs.Statement.{Statement}
use Rattle.trace_files.specs.TraceFile.{IsState}
use Rattle.access_lists.specs.SmallValues.{row_offsets, limbs, small_values}
use Rattle.table_builder.specs.Rows.{as_row, rows_of, range_address, limb_row, range_rows_of}
use Rattle.table_builder.specs.Columns.{run_small_values}
use Rattle.table_builder.specs.PublicParts.{digits, all_digits, words_at}
use Rattle.table_builder.proofs.RowsOfRun.{IsTold, columns_of, run_told}

-- ---- one number

pub digit_small : (k n : ℕ) → limb_at k n < 2 ^ 16
unfolding limb_at
digit_small k n = omega arith

pub digit_kept : (k n : ℕ) → limb_at k n % prime ≡ limb_at k n
digit_kept k n = let low = digit_small k n in mod-eq_of_lt (omega (arith, low))

-- ---- the rows

-- the number of the word that a step reads
abbrev pub word_number : Memory → Registers × Registers → ℕ
word_number m step = unwrap_or (m step.0.pc) 0

module _ (m : Memory) where
  row_digits : (step : Registers × Registers) (c : Columns) → IsRowOf m step.0 c → numbers (row_offsets (as_row c)) ≡ digits (word_number m step)
  unfolding row_offsets as_row row_of limb_at
  row_digits step c is =
      let n : ℕ = c.inst in
      let word : word_number m step ≡ n = ap (λ o. unwrap_or o 0) is.inst in
      let dst : c.off_dst ≡ limb_at 0 n = ap (λ (r : Columns). r.off_dst) is.columns in
      let op0 : c.off_op0 ≡ limb_at 1 n = ap (λ (r : Columns). r.off_op0) is.columns in
      let op1 : c.off_op1 ≡ limb_at 2 n = ap (λ (r : Columns). r.off_op1) is.columns in
      let kept : (k d : ℕ) → d ≡ limb_at k n → d % prime ≡ limb_at k n = λ k d e. ap (λ x. x % prime) e ∙ digit_kept k n in
      ap₂ (λ x xs. x ∷ xs) (kept 0 c.off_dst dst) (ap₂ (λ x xs. x ∷ xs) (kept 1 c.off_op0 op0) (ap (λ x. x ∷ []) (kept 2 c.off_op1 op1)))
      ∙ ap digits (sym word)

  rows_digits : (pairs : List (Registers × Registers)) (cs : List Columns) → AllZip (IsTold m) pairs cs → numbers (flat_map row_offsets (map as_row cs)) ≡ all_digits (map (word_number m) pairs)
  rows_digits [] [] all = refl
  rows_digits [] (c ∷ cs) all = absurd all
  rows_digits (step ∷ pairs) [] all = absurd all
  rows_digits (step ∷ pairs) (c ∷ cs) all =
      map-append (λ (x : Felt). x.number) (row_offsets (as_row c)) (flat_map row_offsets (map as_row cs))
      ∙ ap₂ (λ xs ys. xs ++ ys) (row_digits step c all.0.of_step) (rows_digits pairs cs all.1)

-- ---- the range rows

limb_digits : (n : ℕ) → numbers (limbs (limb_row n)) ≡ digits n
unfolding limbs limb_row
limb_digits n = ap₂ (λ x xs. x ∷ xs) (digit_kept 0 n) (ap₂ (λ x xs. x ∷ xs) (digit_kept 1 n) (ap (λ x. x ∷ []) (digit_kept 2 n)))

-- ---- a run

-- the numbers of the range cells
abbrev pub range_numbers : Statement → Memory → List ℕ
range_numbers public m = map (λ i. unwrap_or (m (range_address public i)) 0) (range_with_len 0 public.range_count)

range_limbs : (public : Statement) (m : Memory) → numbers (flat_map limbs (range_rows_of public m)) ≡ all_digits (range_numbers public m)
unfolding range_rows_of
range_limbs public m = by (range_with_len 0 public.range_count)
  where
    number : ℕ → ℕ
    number i = unwrap_or (m (range_address public i)) 0

    by : (is : List ℕ) → numbers (flat_map limbs (map (λ i. limb_row (number i)) is)) ≡ all_digits (map number is)
    by [] = refl
    by (i ∷ is) =
        map-append (λ (x : Felt). x.number) (limbs (limb_row (number i))) (flat_map limbs (map (λ k. limb_row (number k)) is))
        ∙ ap₂ (λ xs ys. xs ++ ys) (limb_digits (number i)) (by is)

pub small_digits : (public : Statement) (m : Memory) (states : List Registers) → ((a v : ℕ) → m a ≡ Some v → v < prime) → All IsState states → LegalRun m states →
    numbers (run_small_values public m states) ≡ all_digits (map (word_number m) (steps states)) ++ all_digits (range_numbers public m)
unfolding run_small_values small_values rows_of
small_digits public m states low small run =
    let rows = map as_row (columns_of m (steps states)) in
    let offsets = flat_map row_offsets rows in
    let cells = flat_map limbs (range_rows_of public m) in
    ap numbers (append-nil (offsets ++ cells))
    ∙ (map-append (λ (x : Felt). x.number) offsets cells
    ∙ ap₂ (λ xs ys. xs ++ ys) (rows_digits m (steps states) (columns_of m (steps states)) (run_told m states low small run)) (range_limbs public m))

-- the words that the code reads: those at the states but the last
pub words_of_steps : (m : Memory) (s : State) (rest : List State) → map (word_number m) (steps (map registers (s ∷ rest))) ≡ words_at m (take (length rest) (s ∷ rest))
unfolding registers
words_of_steps m s [] = refl
words_of_steps m s (t ∷ rest) = ap (λ ns. unwrap_or (m s.pc.number) 0 ∷ ns) (words_of_steps m t rest)

-- ---- digits are small

pub all_digits_small : (ns : List ℕ) → All (λ d. d < 2 ^ 16) (all_digits ns)
all_digits_small [] = λ k d within. absurd (omega arith)
all_digits_small (n ∷ ns) =
    All-cons (λ d. d < 2 ^ 16) (limb_at 0 n) (limb_at 1 n ∷ limb_at 2 n ∷ all_digits ns) (digit_small 0 n)
    (All-cons (λ d. d < 2 ^ 16) (limb_at 1 n) (limb_at 2 n ∷ all_digits ns) (digit_small 1 n)
    (All-cons (λ d. d < 2 ^ 16) (limb_at 2 n) (all_digits ns) (digit_small 2 n) (all_digits_small ns)))

pub words_of_run : (m : Memory) (states : List State) → map (word_number m) (steps (map registers states)) ≡ words_at m (take (length states - 1) states)
words_of_run m [] = refl
words_of_run m (s ∷ rest) =
    let count : length rest ≡ length (s ∷ rest) - 1 = omega arith in
    words_of_steps m s rest ∙ ap (λ n. words_at m (take n (s ∷ rest))) count
