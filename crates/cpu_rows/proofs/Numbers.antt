-- The numbers of an array of values, read one after the other.
use Rattle.std.proofs.Common.{◌≡◌, ℕ, ◌+◌, ◌<◌, ◌∙◌, List, [], ◌∷◌, length, get_or, take, drop, ◌++◌, add-one, refl, sym, ap, arith, length-drop}
use Rattle.std.proofs.Math.Seq.{drop-cons, take-append_seam, drop-append_seam}
use Rattle.std.proofs.Math.ListN.{get_or-map}
use Rattle.std.proofs.lemmas.List.{get_or_default, length-map}
use Rattle.goldilocks.specs.declared.Felt.{Felt}
use Rattle.cpu_rows.specs.Columns.{Columns, values}
use Rattle.goldilocks.specs.Felts.{numbers}

-- the numbers of the values from place k on, each read with a default of its own
abbrev pub read_from : List Felt → ℕ → List Felt → List ℕ
read_from xs k [] = []
read_from xs k (d ∷ ds) = (get_or xs k d).number ∷ read_from xs (k + 1) ds

empty : (xs : List Felt) → length xs ≡ 0 → [] ≡ numbers xs
empty [] e = refl
empty (x ∷ xs) e = absurd (omega arith)

pub read_from-numbers : (xs : List Felt) (k : ℕ) (ds : List Felt) → length xs ≡ k + length ds → read_from xs k ds ≡ numbers (drop k xs)
read_from-numbers xs k [] e = empty (drop k xs) (omega (arith, length-drop k xs))
read_from-numbers xs k (d ∷ ds) e =
    let inside : k < length xs = omega arith in
    let rest : read_from xs (k + 1) ds ≡ numbers (drop (k + 1) xs) = read_from-numbers xs (k + 1) ds (omega arith) in
    let cons : drop k xs ≡ get_or xs k d ∷ drop (k + 1) xs = rw add-one (drop-cons xs k d inside) in
    ap (λ ts. (get_or xs k d).number ∷ ts) rest ∙ sym (ap numbers cons)

-- all of them
pub read_all : (xs : List Felt) (ds : List Felt) → length xs ≡ length ds → read_from xs 0 ds ≡ numbers xs
read_all xs ds e = read_from-numbers xs 0 ds (omega arith)

-- one of them
pub number_at : (xs : List Felt) (k : ℕ) (d : Felt) → k < length xs → get_or (numbers xs) k 0 ≡ (get_or xs k d).number
number_at xs k d h =
    let number : Felt → ℕ = λ x. x.number in
    get_or_default (numbers xs) k 0 d.number (omega (arith, length-map xs number, h)) ∙ get_or-map number xs k d

-- ---- the values of a row

rebuilt : ℕ → ℕ → ℕ → ℕ → List ℕ → List ℕ → Columns
rebuilt pc ap fp inst tilde rest = record {
  pc = pc;
  ap = ap;
  fp = fp;
  inst = inst;
  tilde = tilde;
  off_dst = get_or rest 0 0;
  off_op0 = get_or rest 1 0;
  off_op1 = get_or rest 2 0;
  dst_addr = get_or rest 3 0;
  op0_addr = get_or rest 4 0;
  op1_addr = get_or rest 5 0;
  dst = get_or rest 6 0;
  op0 = get_or rest 7 0;
  op1 = get_or rest 8 0;
  mul = get_or rest 9 0;
  res = get_or rest 10 0;
  t0 = get_or rest 11 0;
  t1 = get_or rest 12 0;
}

module _ (a b : Columns) (sa : length a.tilde ≡ 16) (sb : length b.tilde ≡ 16) (same : values a ≡ values b) where
  abbrev back : Columns → List ℕ
  back r = r.off_dst ∷ r.off_op0 ∷ r.off_op1 ∷ r.dst_addr ∷ r.op0_addr ∷ r.op1_addr ∷ r.dst ∷ r.op0 ∷ r.op1 ∷ r.mul ∷ r.res ∷ r.t0 ∷ r.t1 ∷ []

  front_of : (r : Columns) → length r.tilde ≡ 16 → take 16 (drop 4 (values r)) ≡ r.tilde
  unfolding values
  front_of r e = ap (λ n. take n (r.tilde ++ back r)) (sym e) ∙ take-append_seam r.tilde (back r)

  back_of : (r : Columns) → length r.tilde ≡ 16 → drop 16 (drop 4 (values r)) ≡ back r
  unfolding values
  back_of r e = ap (λ n. drop n (r.tilde ++ back r)) (sym e) ∙ drop-append_seam r.tilde (back r)

  tildes : a.tilde ≡ b.tilde
  tildes = sym (front_of a sa) ∙ (ap (λ vs. take 16 (drop 4 vs)) same ∙ front_of b sb)

  backs : back a ≡ back b
  backs = sym (back_of a sa) ∙ (ap (λ vs. drop 16 (drop 4 vs)) same ∙ back_of b sb)

  fronts : (k : ℕ) → get_or (values a) k 0 ≡ get_or (values b) k 0
  fronts k = ap (λ vs. get_or vs k 0) same

  remade : rebuilt a.pc a.ap a.fp a.inst a.tilde (back a) ≡ rebuilt b.pc b.ap b.fp b.inst b.tilde (back b)
  unfolding values
  remade =
      let e0 : a.pc ≡ b.pc = fronts 0 in
      let e1 : a.ap ≡ b.ap = fronts 1 in
      let e2 : a.fp ≡ b.fp = fronts 2 in
      let e3 : a.inst ≡ b.inst = fronts 3 in
      let t = tildes in
      let g = backs in
      cc

  pub same_columns : a ≡ b
  unfolding rebuilt
  same_columns = remade
