-- Numbers of the field as values: their numbers are what they were made of.
use Rattle.std.proofs.Common.{◌≡◌, ℕ, ◌<◌, List, [], ◌∷◌, ◌++◌, map, length, refl, ap, ap₂, ◌∙◌}
use Rattle.std.specs.Prelude.{All}
use Rattle.std.proofs.Math.Nat.{mod-eq_of_lt}
use Rattle.std.proofs.lemmas.List.{length-map}
use Rattle.std.specs.List.{AllByRecursion}
use Rattle.std.proofs.lemmas.List.Elements.{All-head, All-tail, All-from_recursion, recursion_from_All}
use Rattle.goldilocks.specs.Field.{prime}
use Rattle.goldilocks.specs.Felts.{felt}
use Rattle.casm_word.specs.Transition.{Registers, registers}
use Rattle.cpu_rows.specs.Columns.{Columns, columns, values, IsInField, IsRow}
use Rattle.table_builder.specs.Rows.{as_row, as_state}

pub numbers-felt : (ns : List ℕ) → All (λ n. n < prime) ns → map (λ x. x.number) (map felt ns) ≡ ns
numbers-felt [] all = refl
numbers-felt (n ∷ ns) all =
    ap₂ (λ x xs. x ∷ xs) (mod-eq_of_lt (All-head (λ n. n < prime) n ns all)) (numbers-felt ns (All-tail (λ n. n < prime) n ns all))

-- the registers as a state
pub registers-as_state : (s : Registers) → s.pc < prime → s.ap < prime → s.fp < prime → registers (as_state s) ≡ s
unfolding registers
registers-as_state s pc ap fp =
    let pc_same = mod-eq_of_lt pc in
    let ap_same = mod-eq_of_lt ap in
    let fp_same = mod-eq_of_lt fp in
    λ i. record { pc = pc_same i; ap = ap_same i; fp = fp_same i }

-- ---- the numbers of a row as a row

all_split : (P : ℕ → Type 0) (xs ys : List ℕ) → AllByRecursion P (xs ++ ys) → AllByRecursion P xs × AllByRecursion P ys
all_split P [] ys all = (tt, all)
all_split P (x ∷ xs) ys all = let behind = all_split P xs ys all.1 in ((all.0, behind.0), behind.1)

pub columns-as_row : (c : Columns) → IsInField c → columns (as_row c) ≡ c
unfolding columns as_row values
columns-as_row c low =
    let P : ℕ → Type 0 = λ v. v < prime in
    let front = recursion_from_All P (values c) low in
    let back : List ℕ = c.off_dst ∷ c.off_op0 ∷ c.off_op1 ∷ c.dst_addr ∷ c.op0_addr ∷ c.op1_addr ∷ c.dst ∷ c.op0 ∷ c.op1 ∷ c.mul ∷ c.res ∷ c.t0 ∷ c.t1 ∷ [] in
    let parts = all_split P c.tilde back front.1.1.1.1 in
    let b = parts.1 in
    let tilde_same = numbers-felt c.tilde (All-from_recursion P c.tilde parts.0) in
    let pc_same = mod-eq_of_lt front.0 in
    let ap_same = mod-eq_of_lt front.1.0 in
    let fp_same = mod-eq_of_lt front.1.1.0 in
    let inst_same = mod-eq_of_lt front.1.1.1.0 in
    let off_dst_same = mod-eq_of_lt b.0 in
    let off_op0_same = mod-eq_of_lt b.1.0 in
    let off_op1_same = mod-eq_of_lt b.1.1.0 in
    let dst_addr_same = mod-eq_of_lt b.1.1.1.0 in
    let op0_addr_same = mod-eq_of_lt b.1.1.1.1.0 in
    let op1_addr_same = mod-eq_of_lt b.1.1.1.1.1.0 in
    let dst_same = mod-eq_of_lt b.1.1.1.1.1.1.0 in
    let op0_same = mod-eq_of_lt b.1.1.1.1.1.1.1.0 in
    let op1_same = mod-eq_of_lt b.1.1.1.1.1.1.1.1.0 in
    let mul_same = mod-eq_of_lt b.1.1.1.1.1.1.1.1.1.0 in
    let res_same = mod-eq_of_lt b.1.1.1.1.1.1.1.1.1.1.0 in
    let t0_same = mod-eq_of_lt b.1.1.1.1.1.1.1.1.1.1.1.0 in
    let t1_same = mod-eq_of_lt b.1.1.1.1.1.1.1.1.1.1.1.1.0 in
    λ i. record {
      pc = pc_same i;
      ap = ap_same i;
      fp = fp_same i;
      inst = inst_same i;
      tilde = tilde_same i;
      off_dst = off_dst_same i;
      off_op0 = off_op0_same i;
      off_op1 = off_op1_same i;
      dst_addr = dst_addr_same i;
      op0_addr = op0_addr_same i;
      op1_addr = op1_addr_same i;
      dst = dst_same i;
      op0 = op0_same i;
      op1 = op1_same i;
      mul = mul_same i;
      res = res_same i;
      t0 = t0_same i;
      t1 = t1_same i;
    }

pub sixteen-as_row : (c : Columns) → IsRow c → length (as_row c).tilde ≡ 16
unfolding as_row
sixteen-as_row c is = length-map c.tilde felt ∙ is.sixteen
