-- Values, rows and cells are those of their numbers.
use Rattle.std.proofs.Common.{◌≡◌, ℕ, List, [], ◌∷◌, map, refl, sym, ap, ap₂, ◌∙◌}
use Rattle.goldilocks.specs.declared.Felt.{Felt}
use Rattle.goldilocks.specs.declared.Pair.{Pair}
use Rattle.goldilocks.proofs.Pairs.{felt-number}
use Rattle.goldilocks.specs.Felts.{felt}
use Rattle.casm_word.specs.declared.State.{State}
use Rattle.casm_word.specs.Transition.{registers}
use Rattle.cpu_rows.specs.declared.Row.{Row}
use Rattle.cpu_rows.specs.Columns.{columns}
use Rattle.memory_columns.specs.Filling.{numbers_of}
use Rattle.range_columns.specs.declared.RangeRow.{RangeRow}
use Rattle.range_columns.specs.Limbs.{limb_limit, limb_at, limb_or_first, IsSplitOf}
use Rattle.goldilocks.specs.Cells.{cell}
use Rattle.table_builder.specs.Rows.{as_state, as_row, limb_row}

pub felts_kept : (xs : List Felt) → map felt (map (λ x. x.number) xs) ≡ xs
felts_kept [] = refl
felts_kept (x ∷ xs) = ap₂ (λ y ys. y ∷ ys) (felt-number x) (felts_kept xs)

-- a value whose number is known
pub felt_is : (x : Felt) (n : ℕ) → x.number ≡ n → x ≡ felt n
felt_is x n is = sym (felt-number x) ∙ ap felt is

pub row_kept : (r : Row) → as_row (columns r) ≡ r
unfolding as_row columns
row_kept r =
    let pc_same = felt-number r.pc in
    let ap_same = felt-number r.ap in
    let fp_same = felt-number r.fp in
    let inst_same = felt-number r.inst in
    let tilde_same = felts_kept r.tilde in
    let off_dst_same = felt-number r.off_dst in
    let off_op0_same = felt-number r.off_op0 in
    let off_op1_same = felt-number r.off_op1 in
    let dst_addr_same = felt-number r.dst_addr in
    let op0_addr_same = felt-number r.op0_addr in
    let op1_addr_same = felt-number r.op1_addr in
    let dst_same = felt-number r.dst in
    let op0_same = felt-number r.op0 in
    let op1_same = felt-number r.op1 in
    let mul_same = felt-number r.mul in
    let res_same = felt-number r.res in
    let t0_same = felt-number r.t0 in
    let t1_same = felt-number r.t1 in
    λ i. record {
      pc = pc_same i;
      ap = ap_same i;
      fp = fp_same i;
      inst = inst_same i;
      tilde = tilde_same i;
      off_dst = off_dst_same i;
      off_op0 = off_op0_same i;
      off_op1 = off_op1_same i;
      dst_addr = dst_addr_same i;
      op0_addr = op0_addr_same i;
      op1_addr = op1_addr_same i;
      dst = dst_same i;
      op0 = op0_same i;
      op1 = op1_same i;
      mul = mul_same i;
      res = res_same i;
      t0 = t0_same i;
      t1 = t1_same i;
    }

pub state_kept : (s : State) → as_state (registers s) ≡ s
unfolding registers
state_kept s =
    let pc_same = felt-number s.pc in
    let ap_same = felt-number s.ap in
    let fp_same = felt-number s.fp in
    λ i. record { pc = pc_same i; ap = ap_same i; fp = fp_same i }

-- a number's row of limbs is the one that it is cut to
pub limbs_kept : (number : ℕ) (r : RangeRow) → IsSplitOf limb_limit number r → r ≡ limb_row number
unfolding limb_row limb_or_first
limbs_kept number r split =
    let value_same = felt_is r.value number split.value in
    let l0_same = felt_is r.l0 (limb_at 0 number) split.l0 in
    let l1_same = felt_is r.l1 (limb_at 1 number) split.l1 in
    let l2_same = felt_is r.l2 (limb_at 2 number) split.l2 in
    λ i. record { value = value_same i; l0 = l0_same i; l1 = l1_same i; l2 = l2_same i }

-- cells are those of their numbers
pub cells_kept : (xs : List Pair) → map (λ (p : ℕ × ℕ). cell (felt p.0) (felt p.1)) (map numbers_of xs) ≡ xs
cells_kept [] = refl
cells_kept (x ∷ xs) = ap₂ (λ y ys. y ∷ ys) (ap₂ cell (felt-number x.addr) (felt-number x.value)) (cells_kept xs)
