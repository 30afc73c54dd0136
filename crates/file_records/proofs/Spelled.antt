-- Rows, states, range rows and pairs: each is read of its bytes again, and good bytes spell what is read of them.
use Rattle.std.proofs.Common.{◌≡◌, ℕ, ◌+◌, ◌*◌, List, [], ◌∷◌, ◌++◌, length, take, get_or, refl, sym, ap, ◌∙◌, arith}
use Rattle.std.proofs.lemmas.List.{map-append, get_or-append-add, take_at, take_all, length-map, length-append, append-nil}
use Rattle.std.specs.List.{flat_map}
use Rattle.goldilocks.specs.declared.Felt.{Felt}
use Rattle.goldilocks.specs.declared.Pair.{Pair}
use Rattle.goldilocks.specs.Felts.{felt, numbers}
use Rattle.goldilocks.proofs.Pairs.{same_felt}
use Rattle.casm_word.specs.declared.State.{State}
use Rattle.cpu_rows.specs.declared.Row.{Row}
use Rattle.cpu_rows.specs.Columns.{columns, values}
use Rattle.range_columns.specs.declared.RangeRow.{RangeRow}
use Rattle.file_records.specs.Numbers.{numbers_bytes, number_bytes}
use Rattle.file_records.specs.Records.{records_in, values_of_bytes, value_of_bytes, row_of_values, state_of_values, range_row_of_values, pair_of_values, row_of_bytes, state_of_bytes, range_row_of_bytes, pair_of_bytes, row_values, state_values, range_row_values, pair_values}
use Rattle.file_records.proofs.RecordLists.{found_again, flat_map-map}
use Rattle.file_records.proofs.GoodBytes.{IsGood, IsGood-fewer, spelled_back, felt_finds, felt_reads}

-- equal numbers make equal values
same_numbers : (xs ys : List Felt) → numbers xs ≡ numbers ys → xs ≡ ys
same_numbers [] [] e = refl
same_numbers [] (y ∷ ys) e = absurd (cc)
same_numbers (x ∷ xs) [] e = absurd (cc)
same_numbers (x ∷ xs) (y ∷ ys) e =
    let here : x.number ≡ y.number = cc in
    let behind : numbers xs ≡ numbers ys = cc in
    let same_here = same_felt x y here in
    let same_behind = same_numbers xs ys behind in
    cc

-- the values that good bytes hold spell them, and values are read of their bytes again
values_read : (n : ℕ) (bytes : List ℕ) → length bytes ≡ 8 * n → IsGood n bytes → numbers_bytes (numbers (values_of_bytes n bytes)) ≡ bytes
values_read n bytes whole good =
    flat_map-map number_bytes (λ x. x.number) (values_of_bytes n bytes)
    ∙ (spelled_back 1 8 value_of_bytes (λ x. number_bytes x.number) refl felt_reads n bytes (omega arith) (IsGood-fewer n (1 * n) bytes (omega arith) good)
    ∙ take_all (8 * n) bytes (omega arith))

values_found : (xs : List Felt) (n : ℕ) → length xs ≡ n → values_of_bytes n (numbers_bytes (numbers xs)) ≡ xs
values_found xs n count =
    ap (λ k. values_of_bytes k (numbers_bytes (numbers xs))) (sym count)
    ∙ (ap (values_of_bytes (length xs)) (flat_map-map number_bytes (λ x. x.number) xs ∙ sym (append-nil (flat_map (λ (x : Felt). number_bytes x.number) xs)))
    ∙ found_again 8 value_of_bytes (λ x. number_bytes x.number) (λ _. Unit {0}) (λ x _. refl) (λ x _. felt_finds x) xs [] (λ k d inside. tt))

-- so many numbers have so many bytes
pub length-numbers_bytes : (ns : List ℕ) → length (numbers_bytes ns) ≡ 8 * length ns
length-numbers_bytes [] = omega arith
length-numbers_bytes (n ∷ ns) = omega (arith, length-append (number_bytes n) (numbers_bytes ns), length-numbers_bytes ns)

-- ---- rows

pub back_felts : Row → List Felt
back_felts r = r.off_dst ∷ r.off_op0 ∷ r.off_op1 ∷ r.dst_addr ∷ r.op0_addr ∷ r.op1_addr ∷ r.dst ∷ r.op0 ∷ r.op1 ∷ r.mul ∷ r.res ∷ r.t0 ∷ r.t1 ∷ []

-- the values of a row
pub row_felts : Row → List Felt
row_felts r = (r.pc ∷ r.ap ∷ r.fp ∷ r.inst ∷ r.tilde) ++ back_felts r

pub row_values-numbers : (r : Row) → row_values r ≡ numbers (row_felts r)
unfolding values columns row_felts back_felts
row_values-numbers r = rw map-append refl

behind : (tilde back : List Felt) (k j : ℕ) → length tilde ≡ 16 → 16 + k ≡ j → get_or (tilde ++ back) j (felt 0) ≡ get_or back k (felt 0)
behind tilde back k j sixteen at =
    ap (λ n. get_or (tilde ++ back) n (felt 0)) (sym at ∙ ap (λ n. n + k) (sym sixteen)) ∙ get_or-append-add tilde back k (felt 0)

-- a row is that of its values
row_of-row_felts : (r : Row) → length r.tilde ≡ 16 → row_of_values (row_felts r) ≡ r
unfolding row_of_values row_felts back_felts
row_of-row_felts r sixteen =
    let back = back_felts r in
    let tilde : take 16 (r.tilde ++ back) ≡ r.tilde = take_at r.tilde back 16 sixteen in
    let e0 : get_or (r.tilde ++ back) 16 (felt 0) ≡ r.off_dst = behind r.tilde back 0 16 sixteen refl in
    let e1 : get_or (r.tilde ++ back) 17 (felt 0) ≡ r.off_op0 = behind r.tilde back 1 17 sixteen refl in
    let e2 : get_or (r.tilde ++ back) 18 (felt 0) ≡ r.off_op1 = behind r.tilde back 2 18 sixteen refl in
    let e3 : get_or (r.tilde ++ back) 19 (felt 0) ≡ r.dst_addr = behind r.tilde back 3 19 sixteen refl in
    let e4 : get_or (r.tilde ++ back) 20 (felt 0) ≡ r.op0_addr = behind r.tilde back 4 20 sixteen refl in
    let e5 : get_or (r.tilde ++ back) 21 (felt 0) ≡ r.op1_addr = behind r.tilde back 5 21 sixteen refl in
    let e6 : get_or (r.tilde ++ back) 22 (felt 0) ≡ r.dst = behind r.tilde back 6 22 sixteen refl in
    let e7 : get_or (r.tilde ++ back) 23 (felt 0) ≡ r.op0 = behind r.tilde back 7 23 sixteen refl in
    let e8 : get_or (r.tilde ++ back) 24 (felt 0) ≡ r.op1 = behind r.tilde back 8 24 sixteen refl in
    let e9 : get_or (r.tilde ++ back) 25 (felt 0) ≡ r.mul = behind r.tilde back 9 25 sixteen refl in
    let e10 : get_or (r.tilde ++ back) 26 (felt 0) ≡ r.res = behind r.tilde back 10 26 sixteen refl in
    let e11 : get_or (r.tilde ++ back) 27 (felt 0) ≡ r.t0 = behind r.tilde back 11 27 sixteen refl in
    let e12 : get_or (r.tilde ++ back) 28 (felt 0) ≡ r.t1 = behind r.tilde back 12 28 sixteen refl in
    λ i. record {
      pc = r.pc;
      ap = r.ap;
      fp = r.fp;
      inst = r.inst;
      tilde = tilde i;
      off_dst = e0 i;
      off_op0 = e1 i;
      off_op1 = e2 i;
      dst_addr = e3 i;
      op0_addr = e4 i;
      op1_addr = e5 i;
      dst = e6 i;
      op0 = e7 i;
      op1 = e8 i;
      mul = e9 i;
      res = e10 i;
      t0 = e11 i;
      t1 = e12 i;
    }

-- the values of a row that is read are those of the bytes
row_felts-row_of_bytes : (bytes : List ℕ) → row_felts (row_of_bytes bytes) ≡ values_of_bytes 33 bytes
unfolding row_of_bytes row_of_values row_felts back_felts records_in
row_felts-row_of_bytes bytes = refl

pub sixteen_tilde : (bytes : List ℕ) → length (row_of_bytes bytes).tilde ≡ 16
unfolding row_of_bytes row_of_values records_in
sixteen_tilde bytes = refl

-- rows of the same values are the same
pub same_row : (a b : Row) → length a.tilde ≡ 16 → length b.tilde ≡ 16 → values (columns a) ≡ values (columns b) → a ≡ b
same_row a b sa sb e =
    let felts : row_felts a ≡ row_felts b = same_numbers (row_felts a) (row_felts b) (sym (row_values-numbers a) ∙ (e ∙ row_values-numbers b)) in
    sym (row_of-row_felts a sa) ∙ (ap row_of_values felts ∙ row_of-row_felts b sb)

-- a row whose values are those of the bytes is the one that is read of them
pub row_of_bytes-values : (r : Row) (bytes : List ℕ) → length r.tilde ≡ 16 → values (columns r) ≡ numbers (values_of_bytes 33 bytes) → r ≡ row_of_bytes bytes
row_of_bytes-values r bytes sixteen e =
    same_row r (row_of_bytes bytes) sixteen (sixteen_tilde bytes) (e ∙ (ap numbers (sym (row_felts-row_of_bytes bytes)) ∙ sym (row_values-numbers (row_of_bytes bytes))))

length-row_felts : (r : Row) → length r.tilde ≡ 16 → length (row_felts r) ≡ 33
unfolding row_felts back_felts
length-row_felts r sixteen = omega (arith, length-append r.tilde (back_felts r))

pub row_width : (r : Row) → length r.tilde ≡ 16 → length (numbers_bytes (row_values r)) ≡ 264
row_width r sixteen =
    omega (arith, length-numbers_bytes (row_values r), ap length (row_values-numbers r), length-map (row_felts r) (λ (x : Felt). x.number), length-row_felts r sixteen)

pub row_finds : (r : Row) → length r.tilde ≡ 16 → row_of_bytes (numbers_bytes (row_values r)) ≡ r
unfolding row_of_bytes
row_finds r sixteen =
    ap (λ ns. row_of_values (values_of_bytes 33 (numbers_bytes ns))) (row_values-numbers r)
    ∙ (ap row_of_values (values_found (row_felts r) 33 (length-row_felts r sixteen)) ∙ row_of-row_felts r sixteen)

pub row_reads : (bytes : List ℕ) → length bytes ≡ 264 → IsGood 33 bytes → numbers_bytes (row_values (row_of_bytes bytes)) ≡ bytes
row_reads bytes whole good =
    ap numbers_bytes (row_values-numbers (row_of_bytes bytes))
    ∙ (ap (λ xs. numbers_bytes (numbers xs)) (row_felts-row_of_bytes bytes) ∙ values_read 33 bytes whole good)

-- ---- states, range rows and pairs

pub state_finds : (s : State) → state_of_bytes (numbers_bytes (state_values s)) ≡ s
unfolding state_of_bytes state_of_values
state_finds s = ap state_of_values (values_found (s.pc ∷ s.ap ∷ s.fp ∷ []) 3 refl)

pub state_reads : (bytes : List ℕ) → length bytes ≡ 24 → IsGood 3 bytes → numbers_bytes (state_values (state_of_bytes bytes)) ≡ bytes
unfolding state_of_bytes state_of_values records_in
state_reads bytes whole good = values_read 3 bytes whole good

pub range_row_finds : (r : RangeRow) → range_row_of_bytes (numbers_bytes (range_row_values r)) ≡ r
unfolding range_row_of_bytes range_row_of_values
range_row_finds r = ap range_row_of_values (values_found (r.value ∷ r.l0 ∷ r.l1 ∷ r.l2 ∷ []) 4 refl)

pub range_row_reads : (bytes : List ℕ) → length bytes ≡ 32 → IsGood 4 bytes → numbers_bytes (range_row_values (range_row_of_bytes bytes)) ≡ bytes
unfolding range_row_of_bytes range_row_of_values records_in
range_row_reads bytes whole good = values_read 4 bytes whole good

pub pair_finds : (p : Pair) → pair_of_bytes (numbers_bytes (pair_values p)) ≡ p
unfolding pair_of_bytes pair_of_values
pair_finds p = ap pair_of_values (values_found (p.addr ∷ p.value ∷ []) 2 refl)

pub pair_reads : (bytes : List ℕ) → length bytes ≡ 16 → IsGood 2 bytes → numbers_bytes (pair_values (pair_of_bytes bytes)) ≡ bytes
unfolding pair_of_bytes pair_of_values records_in
pair_reads bytes whole good = values_read 2 bytes whole good

-- a row whose values are 33 has sixteen of tilde
pub sixteen_of_values : (r : Row) (xs : List Felt) → length xs ≡ 33 → numbers xs ≡ values (columns r) → length r.tilde ≡ 16
unfolding row_felts back_felts
sixteen_of_values r xs count e =
    let same = ap length (e ∙ row_values-numbers r) in
    omega (arith, length-map xs (λ (x : Felt). x.number), length-map (row_felts r) (λ (x : Felt). x.number), length-append r.tilde (back_felts r), same)
