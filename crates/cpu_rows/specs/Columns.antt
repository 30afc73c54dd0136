-- The columns of the trace table: the numbers that stand in one row. "The whitepaper" is Cairo's, ePrint 2021/1063.
use Rattle.std.specs.Prelude.{◌≡◌, ℕ, ◌<◌, List, [], ◌∷◌, ◌++◌, length, All}
use Rattle.goldilocks.specs.Field.{prime}
use Rattle.goldilocks.specs.Felts.{numbers}
use Rattle.casm_word.specs.Transition.{Registers}
use Rattle.cpu_rows.specs.declared.Row.{Row}

-- The numbers of one row, column by column. `tilde` has sixteen. The whitepaper's columns of the trace.
pub record Columns : Type 0 where
  pub pc : ℕ
  pub ap : ℕ
  pub fp : ℕ
  pub inst : ℕ
  pub tilde : List ℕ
  pub off_dst : ℕ
  pub off_op0 : ℕ
  pub off_op1 : ℕ
  pub dst_addr : ℕ
  pub op0_addr : ℕ
  pub op1_addr : ℕ
  pub dst : ℕ
  pub op0 : ℕ
  pub op1 : ℕ
  pub mul : ℕ
  pub res : ℕ
  pub t0 : ℕ
  pub t1 : ℕ

-- The numbers of a row. Own.
unfoldable pub columns : Row → Columns
columns r = record {
  pc = r.pc.number;
  ap = r.ap.number;
  fp = r.fp.number;
  inst = r.inst.number;
  tilde = numbers r.tilde;
  off_dst = r.off_dst.number;
  off_op0 = r.off_op0.number;
  off_op1 = r.off_op1.number;
  dst_addr = r.dst_addr.number;
  op0_addr = r.op0_addr.number;
  op1_addr = r.op1_addr.number;
  dst = r.dst.number;
  op0 = r.op0.number;
  op1 = r.op1.number;
  mul = r.mul.number;
  res = r.res.number;
  t0 = r.t0.number;
  t1 = r.t1.number;
}

-- The values of a row in the order of its columns: 33 where `tilde` has sixteen. Own.
unfoldable pub values : Columns → List ℕ
values r =
    (r.pc ∷ r.ap ∷ r.fp ∷ r.inst ∷ r.tilde)
    ++ (r.off_dst ∷ r.off_op0 ∷ r.off_op1 ∷ r.dst_addr ∷ r.op0_addr ∷ r.op1_addr
    ∷ r.dst ∷ r.op0 ∷ r.op1 ∷ r.mul ∷ r.res ∷ r.t0 ∷ r.t1 ∷ [])

-- Each value of the row is a number of the field. Own.
abbrev pub IsInField : Columns → Type 0
IsInField r = All (λ v. v < prime) (values r)

-- These are the numbers of a row: 33 numbers of the field, of which `tilde` has sixteen. Own.
pub record IsRow (r : Columns) : Type 0 where
  pub sixteen : length r.tilde ≡ 16
  pub in_field : IsInField r

-- The registers that a row begins in. Own.
unfoldable pub state_of : Columns → Registers
state_of r = record { pc = r.pc; ap = r.ap; fp = r.fp }
