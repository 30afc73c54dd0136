-- Lists that a loop builds piece by piece.
use Rattle.std.proofs.Common.{◌≡◌, ℕ, ◌+◌, ◌%◌, ◌<◌, ◌≤◌, ◌∙◌, List, [], ◌∷◌, ◌++◌, length, get_or, take, map, sym, ap, arith, append_assoc, add-zero}
use Rattle.std.proofs.Math.Nat.{mod-eq_of_lt}
use Rattle.std.specs.List.{flat_map}
use Rattle.std.proofs.lemmas.List.{take_more, take_all, map_more, flat_map_more, length-take-le, length-map}
use Rattle.goldilocks.specs.Field.{prime, field_add}
use Rattle.goldilocks.specs.declared.Felt.{Felt}
use Rattle.goldilocks.specs.declared.Pair.{Pair}
use Rattle.goldilocks.proofs.Pairs.{same_felt}
use Rattle.goldilocks.specs.Felts.{felt}
use Rattle.range_columns.specs.declared.RangeRow.{RangeRow}
use Rattle.goldilocks.specs.Cells.{cell, cells_from}

-- the pieces of one more item
pub pieces_more : {X A : Type 0} (piece : X → List A) (before now after : List A) (items : List X) (i : ℕ) (x : X) → i < length items → x ≡ get_or items i x → now ≡ before ++ flat_map piece (take i items) → after ≡ now ++ piece x → after ≡ before ++ flat_map piece (take (i + 1) items)
pieces_more piece before now after items i x lt at so_far e =
    e
    ∙ (ap (λ xs. xs ++ piece x) so_far
    ∙ (flat_map_more piece before (take i items) x
    ∙ ap (λ xs. before ++ flat_map piece xs) (ap (λ y. take i items ++ y ∷ []) at ∙ sym (take_more items i x lt))))

-- the pieces of all items
pub all_pieces : {X A : Type 0} (piece : X → List A) (before now : List A) (items : List X) (i : ℕ) → length items ≤ i → now ≡ before ++ flat_map piece (take i items) → now ≡ before ++ flat_map piece items
all_pieces piece before now items i le so_far = so_far ∙ ap (λ xs. before ++ flat_map piece xs) (take_all i items le)

-- cells one after another, and one more
pub cells_from-push : (address : ℕ) (values : List Felt) (v : Felt) → cells_from address (values ++ v ∷ []) ≡ cells_from address values ++ cell (felt (address + length values)) v ∷ []
unfolding cells_from
cells_from-push address [] v = ap (λ n. cell (felt n) v ∷ []) (sym (add-zero address))
cells_from-push address (x ∷ values) v =
    ap (λ cells. cell (felt address) x ∷ cells) (cells_from-push (address + 1) values v
    ∙ ap (λ n. cells_from (address + 1) values ++ cell (felt n) v ∷ []) (omega arith))

-- one more cell after the others
one_more : (before now after : List Pair) (address : ℕ) (values : List Felt) (addr v : Felt) → now ≡ before ++ cells_from address values → addr.number ≡ (address + length values) % prime → after ≡ now ++ cell addr v ∷ [] → after ≡ before ++ cells_from address (values ++ v ∷ [])
one_more before now after address values addr v so_far at e =
    let there : addr ≡ felt (address + length values) = same_felt addr (felt (address + length values)) at in
    e
    ∙ (ap (λ cells. cells ++ cell addr v ∷ []) so_far
    ∙ (ap (λ a. (before ++ cells_from address values) ++ cell a v ∷ []) there
    ∙ (append_assoc before (cells_from address values) (cell (felt (address + length values)) v ∷ [])
    ∙ ap (λ cells. before ++ cells) (sym (cells_from-push address values v)))))

-- the cell of one more value
pub cell_more : (before now after : List Pair) (address : ℕ) (values : List Felt) (i : ℕ) (addr v : Felt) → i < length values → v ≡ get_or values i v → now ≡ before ++ cells_from address (take i values) → addr.number ≡ (address + i) % prime → after ≡ now ++ cell addr v ∷ [] → after ≡ before ++ cells_from address (take (i + 1) values)
cell_more before now after address values i addr v lt is so_far at e =
    let short : length (take i values) ≡ i = length-take-le i values (omega arith) in
    let there : addr.number ≡ (address + length (take i values)) % prime = at ∙ ap (λ n. (address + n) % prime) (sym short) in
    one_more before now after address (take i values) addr v so_far there e
    ∙ ap (λ vs. before ++ cells_from address vs) (ap (λ y. take i values ++ y ∷ []) is ∙ sym (take_more values i v lt))

-- the cell of one more range row
pub range_cell_more : (before now after : List Pair) (address : ℕ) (rows : List RangeRow) (i : ℕ) (addr : Felt) (row : RangeRow) → i < length rows → row ≡ get_or rows i row → now ≡ before ++ cells_from address (map (λ r. r.value) (take i rows)) → addr.number ≡ (address + i) % prime → after ≡ now ++ cell addr row.value ∷ [] → after ≡ before ++ cells_from address (map (λ r. r.value) (take (i + 1) rows))
range_cell_more before now after address rows i addr row lt is so_far at e =
    let value : RangeRow → Felt = λ r. r.value in
    let short : length (map value (take i rows)) ≡ i = length-map (take i rows) value ∙ length-take-le i rows (omega arith) in
    let there : addr.number ≡ (address + length (map value (take i rows))) % prime = at ∙ ap (λ n. (address + n) % prime) (sym short) in
    one_more before now after address (map value (take i rows)) addr row.value so_far there e
    ∙ ap (λ vs. before ++ cells_from address vs) (ap (λ y. map value (take i rows) ++ value y ∷ []) is ∙ sym (map_more value rows i row lt))

-- the address after it
pub next_address : (base i n : ℕ) → n ≡ (base + i) % prime → field_add n 1 ≡ (base + (i + 1)) % prime
unfolding field_add
next_address base i n e = omega arith

-- the address of the first
pub first_address : (a : Felt) → a.number ≡ (a.number + 0) % prime
first_address a = sym (ap (λ n. n % prime) (add-zero a.number) ∙ mod-eq_of_lt a.in_field)
