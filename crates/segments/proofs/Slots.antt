-- Lists of slots, and the columns that they are.
use Rattle.std.proofs.Common.{◌≡◌, ℕ, zero, suc, ◌+◌, ◌-◌, ◌<◌, ◌≤◌, true, false, cond, nat_lt, List, [], ◌∷◌, ◌++◌, map, length, take, replicate, Option, Some, None, refl, sym, ◌∙◌, ap, arith, zero-add}
use Rattle.std.specs.Prelude.{slice_set}
use Rattle.std.proofs.lemmas.Bool.Decides.{nat_tests}
use Rattle.std.proofs.lemmas.List.{map-append, map-set, length-map, take_all}
use Rattle.goldilocks.specs.declared.Felt.{Felt}
use Rattle.segments.specs.declared.Value.{Value}
use Rattle.segments.specs.declared.column.Slot.{Slot}
use Rattle.segments.specs.declared.column.Slot.TheVariants.{Hole, Number}
use Rattle.segments.specs.Columns.{slot_value, word_value, written_at, with_value}

-- slots of numbers are the words
pub word_slots : (words : List Felt) → map slot_value (map (λ w. Number w) words) ≡ map word_value words
word_slots [] = refl
word_slots (x ∷ words) = ap (λ column. word_value x ∷ column) (word_slots words)

-- the last of some holes, filled
last_filled : (k : ℕ) (slot : Slot) → slice_set (replicate (suc k) Hole) k slot ≡ replicate k Hole ++ slot ∷ []
last_filled zero slot = refl
last_filled (suc k) slot = ap (λ slots. Hole ∷ slots) (last_filled k slot)

-- the last of the holes behind a list, filled
filled : (slots : List Slot) (k : ℕ) (slot : Slot) → slice_set (slots ++ replicate (suc k) Hole) (length slots + k) slot ≡ (slots ++ replicate k Hole) ++ slot ∷ []
filled [] k slot = ap (λ n. slice_set (replicate (suc k) Hole) n slot) (zero-add k) ∙ last_filled k slot
filled (x ∷ slots) k slot =
    let index : suc (length slots) + k ≡ suc (length slots + k) = omega arith in
    ap (λ n. slice_set (x ∷ (slots ++ replicate (suc k) Hole)) n slot) index ∙ ap (λ rest. x ∷ rest) (filled slots k slot)

-- a list that grows up to an index, where the slot goes
pub grown : (slots : List Slot) (off : ℕ) (slot : Slot) → length slots ≤ off → slice_set (take (off + 1) slots ++ replicate (off + 1 - length slots) Hole) off slot ≡ written_at slots off slot
unfolding written_at
grown slots off slot past =
    let n : ℕ = off - length slots in
    let test : false ≡ nat_lt off (length slots) = grind (arith, nat_tests) in
    let whole : take (off + 1) slots ≡ slots = take_all (off + 1) slots (omega arith) in
    let holes : off + 1 - length slots ≡ suc n = omega arith in
    let index : off ≡ length slots + n = omega arith in
    ap (λ xs. slice_set (xs ++ replicate (off + 1 - length slots) Hole) off slot) whole
    ∙ (ap (λ k. slice_set (slots ++ replicate k Hole) off slot) holes
    ∙ (ap (λ i. slice_set (slots ++ replicate (suc n) Hole) i slot) index
    ∙ (filled slots n slot
    ∙ ap (λ b. cond b (slice_set slots off slot) (slots ++ replicate n Hole ++ slot ∷ [])) test)))

pub replaced : (slots : List Slot) (off : ℕ) (slot : Slot) → off < length slots → slice_set slots off slot ≡ written_at slots off slot
unfolding written_at
replaced slots off slot inside =
    let test : true ≡ nat_lt off (length slots) = grind (arith, nat_tests) in
    ap (λ b. cond b (slice_set slots off slot) (slots ++ replicate (off - length slots) Hole ++ slot ∷ [])) test

map-replicate : (k : ℕ) → map slot_value (replicate k Hole) ≡ replicate k None
map-replicate zero = refl
map-replicate (suc k) = ap (λ column. None ∷ column) (map-replicate k)

-- to write a slot is to write its value
pub values-written_at : (slots : List Slot) (off : ℕ) (slot : Slot) (v : Value) → slot_value slot ≡ Some v → map slot_value (written_at slots off slot) ≡ with_value (map slot_value slots) off v
unfolding written_at with_value
values-written_at slots off slot v is =
    let column : List (Option Value) = map slot_value slots in
    let as_long : length column ≡ length slots = length-map slots slot_value in
    elim (nat_lt off (length slots)) as (λ b. nat_lt off (length slots) ≡ b → map slot_value (cond b (slice_set slots off slot) (slots ++ replicate (off - length slots) Hole ++ slot ∷ [])) ≡ cond (nat_lt off (length column)) (slice_set column off (Some v)) (column ++ replicate (off - length column) None ++ Some v ∷ [])) [
      | true ↦ λ e.
          let test : true ≡ nat_lt off (length column) = sym e ∙ ap (nat_lt off) (sym as_long) in
          map-set slot_value slots off slot
          ∙ (ap (λ o. slice_set column off o) is
          ∙ ap (λ b. cond b (slice_set column off (Some v)) (column ++ replicate (off - length column) None ++ Some v ∷ [])) test)
      | false ↦ λ e.
          let test : false ≡ nat_lt off (length column) = sym e ∙ ap (nat_lt off) (sym as_long) in
          map-append slot_value (slots ++ replicate (off - length slots) Hole) (slot ∷ [])
          ∙ (ap (λ xs. xs ++ slot_value slot ∷ []) (map-append slot_value slots (replicate (off - length slots) Hole) ∙ ap (λ xs. column ++ xs) (map-replicate (off - length slots)))
          ∙ (ap (λ o. column ++ replicate (off - length slots) None ++ o ∷ []) is
          ∙ (ap (λ n. column ++ replicate (off - n) None ++ Some v ∷ []) (sym as_long)
          ∙ ap (λ b. cond b (slice_set column off (Some v)) (column ++ replicate (off - length column) None ++ Some v ∷ [])) test)))
    ] refl
