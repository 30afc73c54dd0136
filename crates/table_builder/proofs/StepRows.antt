-- The row that is read off the memory for a step is that of the step.
use Rattle.std.proofs.Common.{◌≡◌, ℕ, ◌<◌, ◌/◌, ◌%◌, ◌^◌, Bool, true, false, if◌then◌else◌, Option, Some, None, Ok, Err, Result, refl, ap, lt_of_le_of_lt, arith}
use Rattle.std.specs.Prelude.{MatchBool, option_and_then}
use Rattle.std.specs.Result.{result_ok}
use Rattle.std.proofs.Math.Nat.{div-le_self}
use Rattle.std.proofs.lemmas.List.Elements.{All-from_recursion}
use Rattle.goldilocks.specs.Field.{prime, field_add, field_mul, field_of_int}
use Rattle.goldilocks.proofs.FieldLaws.{field_add_below, field_mul_below, field_pow_below}
use Rattle.casm_word.specs.declared.Flags.{Flags}
use Rattle.casm_word.specs.declared.Word.{Word}
use Rattle.casm_word.specs.declared.WordFault.{WordFault}
use Rattle.casm_word.specs.Word.{decoding}
use Rattle.casm_word.specs.Transition.{Memory, Registers, dst_address, op0_address, op1_address, op1_base, res, next}
use Rattle.cpu_rows.specs.Columns.{Columns, values, IsRow}
use Rattle.cpu_rows.specs.Steps.{zero_or_one, tilde_of, IsInverseOrZero, IsRes, row_of, IsRowOf}
use Rattle.cpu_rows.proofs.BuiltRows.{IsRowOf-from_parts}
use Rattle.table_builder.specs.Rows.{inverse_or_zero, res_column, row_at}
use Rattle.table_builder.proofs.Inverses.{IsInverseOrZero-power}

-- ---- the column res

pub IsRes-res_column : (f : Flags) (d a b : ℕ) → d < prime → IsRes f d a b (res_column f d a b)
unfolding IsRes
IsRes-res_column f d a b low = by f.pc_jnz
  where
    by : (jump : Bool) → MatchBool jump (IsInverseOrZero d (if jump then inverse_or_zero d else res f a b)) ((if jump then inverse_or_zero d else res f a b) ≡ res f a b)
    by true = IsInverseOrZero-power d low
    by false = refl

pub res_column-below : (f : Flags) (d a b : ℕ) → b < prime → res_column f d a b < prime
unfolding inverse_or_zero
res_column-below f d a b low = choice f.pc_jnz f.res_add f.res_mul
  where
    choice : (jump add mul : Bool) → (if jump then inverse_or_zero d else (if add then field_add a b else (if mul then field_mul a b else b))) < prime
    choice true add mul = field_pow_below d 18446744069414584319
    choice false true mul = field_add_below a b
    choice false false true = field_mul_below a b
    choice false false false = low

-- ---- the row of a step

quotient_below : (n k : ℕ) → n < prime → n / k < prime
quotient_below n k low = lt_of_le_of_lt (div-le_self n k) low

digit_below : (n : ℕ) → n % 2 ^ 16 < prime
digit_below n = omega arith

pub IsRow-row_of : (s : Registers) (n : ℕ) (w : Word) (d a b x : ℕ) → s.pc < prime → s.ap < prime → s.fp < prime → n < prime → d < prime → a < prime → b < prime → x < prime → IsRow (row_of s n w d a b x)
unfolding row_of tilde_of values
IsRow-row_of s n w d a b x pc ap fp inst dst op0 op1 res =
    let f = w.flags in
    let t0 : ℕ = field_mul (zero_or_one f.pc_jnz) d in
    record {
      sixteen = refl;
      in_field =
          All-from_recursion (λ v. v < prime) (values (row_of s n w d a b x)) (
            pc,
            (
              ap,
              (
                fp,
                (
                  inst,
                  (
                    quotient_below n (2 ^ 48) inst,
                    (
                      quotient_below n (2 ^ 49) inst,
                      (
                        quotient_below n (2 ^ 50) inst,
                        (
                          quotient_below n (2 ^ 51) inst,
                          (
                            quotient_below n (2 ^ 52) inst,
                            (
                              quotient_below n (2 ^ 53) inst,
                              (
                                quotient_below n (2 ^ 54) inst,
                                (
                                  quotient_below n (2 ^ 55) inst,
                                  (
                                    quotient_below n (2 ^ 56) inst,
                                    (
                                      quotient_below n (2 ^ 57) inst,
                                      (
                                        quotient_below n (2 ^ 58) inst,
                                        (
                                          quotient_below n (2 ^ 59) inst,
                                          (
                                            quotient_below n (2 ^ 60) inst,
                                            (
                                              quotient_below n (2 ^ 61) inst,
                                              (
                                                quotient_below n (2 ^ 62) inst,
                                                (
                                                  quotient_below n (2 ^ 63) inst,
                                                  (
                                                    digit_below (n / 2 ^ 0),
                                                    (
                                                      digit_below (n / 2 ^ 16),
                                                      (
                                                        digit_below (n / 2 ^ 32),
                                                        (
                                                          field_add_below (if f.dst_fp then s.fp else s.ap) (field_of_int w.off_dst),
                                                          (
                                                            field_add_below (if f.op0_fp then s.fp else s.ap) (field_of_int w.off_op0),
                                                            (
                                                              field_add_below (op1_base f s a) (field_of_int w.off_op1),
                                                              (dst, (op0, (op1, (field_mul_below a b, (res, (field_mul_below (zero_or_one f.pc_jnz) d, (field_mul_below t0 x, tt))))))),
                                                            ),
                                                          ),
                                                        ),
                                                      ),
                                                    ),
                                                  ),
                                                ),
                                              ),
                                            ),
                                          ),
                                        ),
                                      ),
                                    ),
                                  ),
                                ),
                              ),
                            ),
                          ),
                        ),
                      ),
                    ),
                  ),
                ),
              ),
            ),
          );
    }

-- ---- the cells that a step reads

some_then : {A B : Type 0} (o : Option A) (f : A → Option B) (y : B) → option_and_then f o ≡ Some y → (v : A) × (o ≡ Some v) × (f v ≡ Some y)
some_then None f y e = cc
some_then (Some v) f y e = (v, refl, e)

decoded : (r : Result Word WordFault) (w : Word) → result_ok r ≡ Some w → r ≡ Ok w
decoded (Ok v) w e = cc
decoded (Err fault) w e = cc

-- the parts of a step
record StepParts (m : Memory) (s after : Registers) : Type 0 where
  number : ℕ
  word : Word
  dst : ℕ
  op0 : ℕ
  op1 : ℕ
  at_pc : m s.pc ≡ Some number
  decodes : decoding number ≡ Ok word
  at_dst : m (dst_address word s) ≡ Some dst
  at_op0 : m (op0_address word s) ≡ Some op0
  at_op1 : m (op1_address word s op0) ≡ Some op1

parts_of_step : (m : Memory) (s after : Registers) → next m s ≡ Some after → StepParts m s after
unfolding next
parts_of_step m s after step =
    let at_pc = some_then (m s.pc) _ after step in
    let word = some_then (result_ok (decoding at_pc.0)) _ after at_pc.2 in
    let dst = some_then (m (dst_address word.0 s)) _ after word.2 in
    let op0 = some_then (m (op0_address word.0 s)) _ after dst.2 in
    let op1 = some_then (m (op1_address word.0 s op0.0)) _ after op0.2 in
    record {
      number = at_pc.0;
      word = word.0;
      dst = dst.0;
      op0 = op0.0;
      op1 = op1.0;
      at_pc = at_pc.1;
      decodes = decoded (decoding at_pc.0) word.0 word.1;
      at_dst = dst.1;
      at_op0 = op0.1;
      at_op1 = op1.1;
    }

pub row_at-is : (m : Memory) (s : Registers) (n : ℕ) (w : Word) (d a b : ℕ) → m s.pc ≡ Some n → decoding n ≡ Ok w → m (dst_address w s) ≡ Some d → m (op0_address w s) ≡ Some a → m (op1_address w s a) ≡ Some b → row_at m s ≡ Some (row_of s n w d a b (res_column w.flags d a b))
unfolding row_at
row_at-is m s n w d a b c0 e c1 c2 c3 = rw (c0, e, c1, c2, c3) refl

pub row_at-Some : (m : Memory) (s after : Registers) → ((a v : ℕ) → m a ≡ Some v → v < prime) → s.pc < prime → s.ap < prime → s.fp < prime → next m s ≡ Some after → (c : Columns) × (row_at m s ≡ Some c) × IsRow c × IsRowOf m s c
row_at-Some m s after low pc ap fp step =
    let p = parts_of_step m s after step in
    let x : ℕ = res_column p.word.flags p.dst p.op0 p.op1 in
    let dst : p.dst < prime = low (dst_address p.word s) p.dst p.at_dst in
    let op0 : p.op0 < prime = low (op0_address p.word s) p.op0 p.at_op0 in
    let op1 : p.op1 < prime = low (op1_address p.word s p.op0) p.op1 p.at_op1 in (
      row_of s p.number p.word p.dst p.op0 p.op1 x,
      row_at-is m s p.number p.word p.dst p.op0 p.op1 p.at_pc p.decodes p.at_dst p.at_op0 p.at_op1,
      IsRow-row_of s p.number p.word p.dst p.op0 p.op1 x pc ap fp (low s.pc p.number p.at_pc) dst op0 op1 (res_column-below p.word.flags p.dst p.op0 p.op1 op1),
      IsRowOf-from_parts m s (row_of s p.number p.word p.dst p.op0 p.op1 x) p.number p.word p.dst p.op0 p.op1 x p.at_pc p.decodes p.at_dst p.at_op0 p.at_op1 (IsRes-res_column p.word.flags p.dst p.op0 p.op1 dst) refl,
    )
