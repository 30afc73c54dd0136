-- Values whose segments are there, through arithmetic and the parts of a step.
use Rattle.std.proofs.Common.{◌≡◌, ℕ, ◌^◌, ◌<◌, ◌≤◌, Bool, true, false, cond, not, ◌&&◌, nat_eq, nat_lt, length, Option, Some, None, Result, Ok, Err, IfOk, refl, ap, arith}
use Rattle.std.specs.Prelude.{IfSome, IsSome}
use Rattle.std.specs.Result.{result_ok}
use Rattle.std.proofs.lemmas.Bool.Decides.{nat_tests}
use Rattle.std.proofs.lemmas.Result.{IfOk-weaker}
use Rattle.segments.specs.declared.Place.{Place}
use Rattle.segments.specs.declared.RelState.{RelState}
use Rattle.segments.specs.declared.Value.{Value}
use Rattle.segments.specs.declared.Value.TheVariants.{Num, Ptr}
use Rattle.segments.specs.declared.arithmetic.ArithFault.{ArithFault}
use Rattle.segments.specs.declared.arithmetic.ArithFault.TheVariants.{OffsetRange, OtherSegment, DivByZero}
use Rattle.segments.specs.Values.{place, number, pointer, value_sum, value_difference, value_product, value_quotient, field_quotient}
use Rattle.goldilocks.specs.Field.{field_add, field_sub}
use Rattle.segments.specs.Memory.{RunMemory, IsMemory, cell, total_limit}
use Rattle.segments.specs.Columns.{HasOffset}
use Rattle.segments.proofs.Memories.{held_there, size_within}
use Rattle.casm_word.specs.declared.Flags.{Flags}
use Rattle.casm_word.specs.declared.Word.{Word}
use Rattle.run_steps.specs.declared.cause.StepCause.{StepCause}
use Rattle.run_steps.specs.declared.cause.StepCause.TheVariants.{NotPointer, PcNotPointer, FpNotPointer, Unknown}
use Rattle.run_steps.specs.Causes.{pointed, by_arithmetic}
use Rattle.run_steps.specs.Operands.{instruction_in, place_after, res_of, is_zero}
use Rattle.run_steps.specs.Next.{place_sum, next_pc, next_ap, next_fp}
use Rattle.run_steps.specs.Deduction.{known_difference, known_quotient}
use Rattle.run_steps.specs.Cases.{called_op0, sought_op0, sought_op1, found_dst}
use Rattle.run_steps.proofs.Chains.{IfOk-cond, then_ok, by_arithmetic-ok}

-- a pointer's segment is one of so many
abbrev pub Named : ℕ → Value → Type 0
Named count (Num x) = Unit {0}
Named count (Ptr p) = p.seg < count

-- a place's segment is one of so many, and its offset is below 2^32
abbrev pub Inside : ℕ → Place → Type 0
Inside count p = (p.seg < count) × (p.off < 2 ^ 32)

-- a pointer's place is such
abbrev pub Lies : ℕ → Value → Type 0
Lies count (Num x) = Unit {0}
Lies count (Ptr p) = Inside count p

pub lies-named : (count : ℕ) (v : Value) → Lies count v → Named count v
lies-named count (Num x) h = tt
lies-named count (Ptr p) h = h.0

pub lies-offset : (count : ℕ) (v : Value) → Lies count v → HasOffset v
lies-offset count (Num x) h = tt
lies-offset count (Ptr p) h = h.1

-- ---- held values

held-lies : (m : RunMemory) (p : Place) (o : Option Value) → IsMemory m → cell m p ≡ o → IfSome o (Lies (length m.sizes))
held-lies m p None is e = tt
held-lies m p (Some (Num x)) is e = tt
held-lies m p (Some (Ptr q)) is e = is.pointers p q e

pub cell-lies : (m : RunMemory) (p : Place) → IsMemory m → IfSome (cell m p) (Lies (length m.sizes))
cell-lies m p is = held-lies m p (cell m p) is refl

-- an instruction's cell is held
instruction-held : (o : Option Value) (w : Word) → instruction_in o ≡ Ok w → IsSome o
unfolding instruction_in
instruction-held (Some v) w e = refl
instruction-held None w e = absurd (cc)

pub instruction-inside : (m : RunMemory) (p : Place) (w : Word) → IsMemory m → instruction_in (cell m p) ≡ Ok w → Inside (length m.sizes) p × (p.off < total_limit)
instruction-inside m p w is e =
    let held : IsSome (cell m p) = instruction-held (cell m p) w e in
    let low : p.off < total_limit = omega (arith, is.inside p held, size_within m p.seg is) in
    ((held_there m p is held, omega arith), low)

-- ---- arithmetic

module _ (count : ℕ) where
  pointer-lies : (seg off : ℕ) → seg < count → IfOk (pointer seg off) (Lies count)
  unfolding pointer
  pointer-lies seg off inside =
      elim (nat_lt off (2 ^ 32)) as (λ b. nat_lt off (2 ^ 32) ≡ b → IfOk {E = ArithFault} (cond b (Ok (Ptr (place seg off))) (Err OffsetRange)) (Lies count)) [
        | true ↦ λ e. (inside, grind (arith, nat_tests))
        | false ↦ λ e. tt
      ] refl

  pub sum-lies : (a b : Value) → Named count a → Named count b → IfOk (value_sum a b) (Lies count)
  unfolding value_sum number
  sum-lies (Num x) (Num y) h k = tt
  sum-lies (Num x) (Ptr q) h k = pointer-lies q.seg (field_add q.off x.number) k
  sum-lies (Ptr p) (Num y) h k = pointer-lies p.seg (field_add p.off y.number) h
  sum-lies (Ptr p) (Ptr q) h k = tt

  difference-lies : (a b : Value) → Named count a → IfOk (value_difference a b) (Lies count)
  unfolding value_difference number
  difference-lies (Num x) (Num y) h = tt
  difference-lies (Num x) (Ptr q) h = tt
  difference-lies (Ptr p) (Num y) h = pointer-lies p.seg (field_sub p.off y.number) h
  difference-lies (Ptr p) (Ptr q) h = IfOk-cond (Lies count) (nat_eq p.seg q.seg) (Ok (number (field_sub p.off q.off))) (Err OtherSegment) tt tt

  product-lies : (a b : Value) → IfOk (value_product a b) (Lies count)
  unfolding value_product number
  product-lies (Num x) (Num y) = tt
  product-lies (Num x) (Ptr q) = tt
  product-lies (Ptr p) b = tt

  quotient-lies : (a b : Value) → IfSome (result_ok (value_quotient a b)) (Lies count)
  unfolding value_quotient number
  quotient-lies (Num x) (Num y) = some-cond (nat_eq y.number 0)
    where
      some-cond : (b : Bool) → IfSome (result_ok {E = ArithFault} (cond b (Err DivByZero) (Ok (number (field_quotient x.number y.number))))) (Lies count)
      some-cond true = tt
      some-cond false = tt
  quotient-lies (Num x) (Ptr q) = tt
  quotient-lies (Ptr p) b = tt

  pub res-lies : (f : Flags) (op0 op1 : Value) → Lies count op0 → Lies count op1 → IfOk (res_of f op0 op1) (Lies count)
  unfolding res_of
  res-lies f op0 op1 h k =
      IfOk-cond (Lies count) f.res_add (by_arithmetic (value_sum op0 op1)) _
      (by_arithmetic-ok (Lies count) (value_sum op0 op1) (sum-lies op0 op1 (lies-named count op0 h) (lies-named count op1 k)))
      (IfOk-cond (Lies count) f.res_mul (by_arithmetic (value_product op0 op1)) (Ok op1)
      (by_arithmetic-ok (Lies count) (value_product op0 op1) (product-lies op0 op1)) k)

  -- ---- registers

  pointed-inside : (cause : StepCause) (v : Value) → Lies count v → IfOk (pointed cause v) (Inside count)
  unfolding pointed
  pointed-inside cause (Num x) h = tt
  pointed-inside cause (Ptr p) h = h

  place_sum-inside : (p : Place) (v : Value) → p.seg < count → Lies count v → IfOk (place_sum p v) (Inside count)
  unfolding place_sum
  place_sum-inside p v h k =
      then_ok (Lies count) (Inside count) (by_arithmetic (value_sum (Ptr p) v)) (pointed NotPointer)
      (by_arithmetic-ok (Lies count) (value_sum (Ptr p) v) (sum-lies (Ptr p) v h (lies-named count v k)))
      (λ sum _ lies. pointed-inside NotPointer sum lies)

  number-lies : (n : ℕ) → Lies count (number n)
  unfolding number
  number-lies n = tt

  abbrev InSegment : Place → Type 0
  InSegment p = p.seg < count

  in_segment : (r : Result Place StepCause) → IfOk r (Inside count) → IfOk r InSegment
  in_segment r h = IfOk-weaker r (Inside count) InSegment (λ p inside. inside.0) h

  pub next_pc-inside : (f : Flags) (s : RelState) (dst op1 res : Value) → s.pc.seg < count → Lies count op1 → Lies count res → IfOk (next_pc f s dst op1 res) InSegment
  unfolding next_pc place_after
  next_pc-inside f s dst op1 res pc h k =
      IfOk-cond InSegment f.pc_abs (pointed PcNotPointer res) _ (in_segment (pointed PcNotPointer res) (pointed-inside PcNotPointer res k))
      (IfOk-cond InSegment f.pc_rel (place_sum s.pc res) _ (in_segment (place_sum s.pc res) (place_sum-inside s.pc res pc k))
      (IfOk-cond InSegment (f.pc_jnz && not (is_zero dst)) (place_sum s.pc op1) (Ok (place_after f s)) (in_segment (place_sum s.pc op1) (place_sum-inside s.pc op1 pc h)) pc))

  pub next_ap-inside : (f : Flags) (s : RelState) (res : Value) → s.ap.seg < count → Lies count res → IfOk (next_ap f s res) InSegment
  unfolding next_ap
  next_ap-inside f s res ap h =
      IfOk-cond InSegment f.op_call (place_sum s.ap (number 2)) _ (in_segment (place_sum s.ap (number 2)) (place_sum-inside s.ap (number 2) ap (number-lies 2)))
      (IfOk-cond InSegment f.ap_add (place_sum s.ap res) _ (in_segment (place_sum s.ap res) (place_sum-inside s.ap res ap h))
      (IfOk-cond InSegment f.ap_add1 (place_sum s.ap (number 1)) (Ok s.ap) (in_segment (place_sum s.ap (number 1)) (place_sum-inside s.ap (number 1) ap (number-lies 1))) ap))

  pub next_fp-inside : (f : Flags) (s : RelState) (dst : Value) → s.ap.seg < count → Inside count s.fp → Lies count dst → IfOk (next_fp f s dst) (Inside count)
  unfolding next_fp
  next_fp-inside f s dst ap fp h =
      IfOk-cond (Inside count) f.op_call (place_sum s.ap (number 2)) _ (place_sum-inside s.ap (number 2) ap (number-lies 2))
      (IfOk-cond (Inside count) f.op_ret (pointed FpNotPointer dst) (Ok s.fp) (pointed-inside FpNotPointer dst h) fp)

  -- the same of the segment alone
  pub next_fp-in_segment : (f : Flags) (s : RelState) (dst : Value) → s.ap.seg < count → s.fp.seg < count → Lies count dst → IfOk (next_fp f s dst) InSegment
  unfolding next_fp
  next_fp-in_segment f s dst ap fp h =
      IfOk-cond InSegment f.op_call (place_sum s.ap (number 2)) _ (in_segment (place_sum s.ap (number 2)) (place_sum-inside s.ap (number 2) ap (number-lies 2)))
      (IfOk-cond InSegment f.op_ret (pointed FpNotPointer dst) (Ok s.fp) (in_segment (pointed FpNotPointer dst) (pointed-inside FpNotPointer dst h)) fp)

  -- ---- values that are found out

  abbrev pub SomeLies : Option Value → Type 0
  SomeLies o = IfSome o (Lies count)

  size-low : (b : Bool) → cond b 2 1 ≤ 2
  size-low true = omega arith
  size-low false = omega arith

  behind-lies : (f : Flags) (s : RelState) (b : Bool) → s.pc.seg < count → s.pc.off < total_limit → SomeLies (cond b (Some (Ptr (place_after f s))) None)
  unfolding place_after
  behind-lies f s true seg off = (seg, omega (arith, off, size-low f.op1_imm))
  behind-lies f s false seg off = tt

  pub called_op0-lies : (f : Flags) (s : RelState) (o : Option Value) → s.pc.seg < count → s.pc.off < total_limit → SomeLies o → SomeLies (called_op0 f s o)
  unfolding called_op0
  called_op0-lies f s (Some v) seg off h = h
  called_op0-lies f s None seg off h = behind-lies f s f.op_call seg off

  known_difference-lies : (a b : Option Value) → SomeLies a → IfOk (known_difference a b) SomeLies
  unfolding known_difference
  known_difference-lies (Some a) (Some b) h =
      then_ok (Lies count) SomeLies (by_arithmetic (value_difference a b)) (λ v. Ok (Some v))
      (by_arithmetic-ok (Lies count) (value_difference a b) (difference-lies a b (lies-named count a h)))
      (λ v _ lies. lies)
  known_difference-lies (Some a) None h = tt
  known_difference-lies None b h = tt

  known_quotient-lies : (a b : Option Value) → SomeLies (known_quotient a b)
  unfolding known_quotient
  known_quotient-lies (Some a) (Some b) = quotient-lies a b
  known_quotient-lies (Some a) None = tt
  known_quotient-lies None b = tt

  pub sought_op0-lies : (f : Flags) (dst op0 op1 : Option Value) → SomeLies dst → SomeLies op0 → IfOk (sought_op0 f dst op0 op1) SomeLies
  unfolding sought_op0
  sought_op0-lies f dst (Some v) op1 d h = h
  sought_op0-lies f dst None op1 d h =
      IfOk-cond SomeLies (not f.op_assert) (Ok None) _ tt
      (IfOk-cond SomeLies f.res_add (known_difference dst op1) _ (known_difference-lies dst op1 d)
      (IfOk-cond SomeLies f.res_mul (Ok (known_quotient dst op1)) (Ok None) (known_quotient-lies dst op1) tt))

  pub sought_op1-lies : (f : Flags) (dst op0 op1 : Option Value) → SomeLies dst → SomeLies op1 → IfOk (sought_op1 f dst op0 op1) SomeLies
  unfolding sought_op1
  sought_op1-lies f dst op0 (Some v) d h = h
  sought_op1-lies f dst op0 None d h =
      IfOk-cond SomeLies (not f.op_assert) (Ok None) _ tt
      (IfOk-cond SomeLies f.res_add (known_difference dst op0) _ (known_difference-lies dst op0 d)
      (IfOk-cond SomeLies f.res_mul (Ok (known_quotient dst op0)) (Ok dst) (known_quotient-lies dst op0) d))

  pub found_dst-lies : (f : Flags) (s : RelState) (at : Place) (res : Value) (dst : Option Value) → Inside count s.fp → Lies count res → SomeLies dst → IfOk (found_dst f s at res dst) (Lies count)
  unfolding found_dst
  found_dst-lies f s at res (Some v) fp h d = d
  found_dst-lies f s at res None fp h d =
      IfOk-cond (Lies count) f.op_assert (Ok res) _ h
      (IfOk-cond (Lies count) f.op_call (Ok (Ptr s.fp)) (Err (Unknown at)) fp tt)
