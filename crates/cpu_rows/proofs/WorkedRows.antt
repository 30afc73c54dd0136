-- The definitions tried on rows of worked tables.
use Rattle.std.proofs.Common.{◌≡◌, ℕ, ◌-◌, ◌==◌, List, [], ◌∷◌, Some, None, refl, inl, lit<}
use Rattle.std.specs.Bool.{if◌then◌else◌}
use Rattle.std.specs.Prelude.{slice_get}
use Rattle.goldilocks.specs.Field.{field_add, field_sub, field_mul, field_of_int, field_neg}
use Rattle.casm_word.specs.Word.{flags_of, word_of, breaks, first_broken, decoding}
use Rattle.casm_word.specs.Transition.{Memory, Registers}
use Rattle.cpu_rows.specs.Columns.{Columns, values, state_of}
use Rattle.cpu_rows.specs.Equations.{flag, equations, holds, failing_number, fault}
use Rattle.cpu_rows.specs.Steps.{IsRowOf, row_of, tilde_of, IsRes, IsInverseOrZero}
use Rattle.cpu_rows.specs.Table.{faults}

abbrev state : ℕ → ℕ → ℕ → Registers
state pc ap fp = record { pc = pc; ap = ap; fp = fp }

-- `[ap] = 2; ap++` from pc 1, and `jmp rel 4 if [ap - 1] != 0` behind it
abbrev row_0 : Columns
row_0 = record {
  pc = 1;
  ap = 11;
  fp = 11;
  inst = 5189976364521848832;
  tilde = 18438 ∷ 9219 ∷ 4609 ∷ 2304 ∷ 1152 ∷ 576 ∷ 288 ∷ 144 ∷ 72 ∷ 36 ∷ 18 ∷ 9 ∷ 4 ∷ 2 ∷ 1 ∷ 0 ∷ [];
  off_dst = 32768;
  off_op0 = 32767;
  off_op1 = 32769;
  dst_addr = 11;
  op0_addr = 10;
  op1_addr = 2;
  dst = 2;
  op0 = 0;
  op1 = 2;
  mul = 0;
  res = 2;
  t0 = 0;
  t1 = 0;
}

abbrev row_1 : Columns
row_1 = record {
  pc = 3;
  ap = 12;
  fp = 11;
  inst = 145944781866893311;
  tilde = 518 ∷ 259 ∷ 129 ∷ 64 ∷ 32 ∷ 16 ∷ 8 ∷ 4 ∷ 2 ∷ 1 ∷ 0 ∷ 0 ∷ 0 ∷ 0 ∷ 0 ∷ 0 ∷ [];
  off_dst = 32767;
  off_op0 = 32767;
  off_op1 = 32769;
  dst_addr = 11;
  op0_addr = 10;
  op1_addr = 4;
  dst = 2;
  op0 = 0;
  op1 = 4;
  mul = 0;
  res = 9223372034707292161;
  t0 = 2;
  t1 = 1;
}

-- the 33 values in the order of the columns, as the worked table has them
in_order : values row_1 ≡ 3 ∷ 12 ∷ 11 ∷ 145944781866893311
    ∷ 518 ∷ 259 ∷ 129 ∷ 64 ∷ 32 ∷ 16 ∷ 8 ∷ 4 ∷ 2 ∷ 1 ∷ 0 ∷ 0 ∷ 0 ∷ 0 ∷ 0 ∷ 0
    ∷ 32767 ∷ 32767 ∷ 32769 ∷ 11 ∷ 10 ∷ 4 ∷ 2 ∷ 0 ∷ 4 ∷ 0 ∷ 9223372034707292161 ∷ 2 ∷ 1 ∷ []
unfolding values
in_order = refl

met : fault row_1 (state 7 12 11) ≡ None
unfolding flag equations holds failing_number fault field_add field_sub field_mul
met = refl

-- with t1 = 2, and with another next pc
wrong_t1 : fault (record row_1 { t1 = 2 }) (state 7 12 11) ≡ Some 24
unfolding flag equations holds failing_number fault field_add field_sub field_mul
wrong_t1 = refl

wrong_pc : fault row_1 (state 6 12 11) ≡ Some 26
unfolding flag equations holds failing_number fault field_add field_sub field_mul
wrong_pc = refl

first_wrong : faults (row_0 ∷ row_1 ∷ []) (state 6 12 11) ≡ None ∷ Some 26 ∷ []
unfolding flag equations holds failing_number fault faults state_of field_add field_sub field_mul
first_wrong = refl

-- the memory of the run, and the row of its second step
abbrev cells : List ℕ
cells =
    5189976364521848832 ∷ 2 ∷ 145944781866893311 ∷ 4 ∷ 0x10780017fff7fff ∷ 0 ∷ 0x10780017fff7fff ∷ 0
    ∷ 11 ∷ 0 ∷ 2 ∷ []

abbrev memory : Memory
memory a = if a == 0 then None else slice_get cells (a - 1)

row_of_step : IsRowOf memory (state 3 12 11) row_1
unfolding flags_of word_of breaks first_broken decoding field_add field_sub field_mul field_of_int field_neg row_of tilde_of IsRes IsInverseOrZero
row_of_step = record {
  word = word_of row_1.inst;
  inst = refl;
  decodes = refl;
  dst = refl;
  op0 = refl;
  op1 = refl;
  res = (lit< tt, inl refl);
  columns = refl;
}
