-- The relocated cells, one place after another.
use Rattle.std.proofs.Common.{◌≡◌, ℕ, ◌+◌, ◌<◌, ◌≤◌, List, [], ◌∷◌, ◌++◌, map, take, length, get_or, Option, Some, None, refl, sym, ◌∙◌, ap, arith, zero-add}
use Rattle.std.specs.List.{range_with_len}
use Rattle.std.specs.FinMap.{entries, entries_sorted}
use Rattle.std.specs.FinMap.Entries.{find}
use Rattle.std.proofs.lemmas.List.{map_push, map_more, take_all, map-append}
use Rattle.std.proofs.lemmas.List.FromFn.{map-range_with_len_more}
use Rattle.goldilocks.specs.declared.Felt.{Felt}
use Rattle.goldilocks.specs.declared.Pair.{Pair}
use Rattle.goldilocks.specs.Felts.{felt, numbers}
use Rattle.goldilocks.specs.Cells as cells
use Rattle.goldilocks.proofs.Pairs.{felt-number}
use Rattle.casm_word.specs.declared.State.{State}
use Rattle.casm_word.specs.Transition.{Registers, registers}
use Rattle.segments.specs.declared.Place.{Place}
use Rattle.segments.specs.declared.RelState.{RelState}
use Rattle.segments.specs.declared.Value.{Value}
use Rattle.segments.specs.declared.Value.TheVariants.{Num, Ptr}
use Rattle.segments.specs.Values.{place_cmp, place}
use Rattle.segments.specs.Memory.{RunMemory, IsMemory, cell, size}
use Rattle.segments.specs.Relocation.{address, relocated, segment_bases}
use Rattle.program_file.specs.declared.Builtins.{Builtins}
use Rattle.builtin_segments.specs.Layout.{execution}
use Rattle.builtin_segments.specs.Start.{start_stack}
use Rattle.relocation.specs.Bases.{HasBase}
use Rattle.relocation.specs.Relocated.{relocated_cell, relocated_cells, shown_places}
use Rattle.relocation.specs.Walk.{held_before, cells_before}
use Rattle.relocation.proofs.Listed.{length-segment_bases}
use Rattle.relocation.proofs.Walk.{next_place, cell_there, held_before-first, held_before-more, held_before-segment, held_before-all, found_held}

-- a held value has a base where all segments have
pub held_based : (m : RunMemory) (bases : List ℕ) (p : Place) (v : Value) → IsMemory m → bases ≡ segment_bases m.sizes → cell m p ≡ Some v → HasBase bases v
held_based m bases p (Num x) is same held = tt
held_based m bases p (Ptr q) is same held =
    let there : q.seg < length m.sizes = (is.pointers p q held).0 in
    omega (arith, ap length same, length-segment_bases m.sizes)

-- a number of the field by what it is
felt_is : (x : Felt) (n : ℕ) → x.number ≡ n → x ≡ felt n
felt_is x n same = sym (felt-number x) ∙ ap felt same

-- the pair of an address and a relocated value
pair_is : (sizes : List ℕ) (p : Place) (v : Value) (addr value : Felt) → addr.number ≡ address sizes p → value.number ≡ relocated sizes v → cells.cell addr value ≡ relocated_cell sizes (p, v)
unfolding relocated_cell
pair_is sizes p v addr value at is =
    let same_addr : addr ≡ felt (address sizes p) = felt_is addr (address sizes p) at in
    let same_value : value ≡ felt (relocated sizes v) = felt_is value (relocated sizes v) is in
    λ i. cells.cell (same_addr i) (same_value i)

more_there : (m : RunMemory) (p : Place) (o : Option Value) → cell m p ≡ o → cells_before m (next_place p) ≡ cells_before m p ++ map (relocated_cell m.sizes) (cell_there p o)
unfolding cells_before
more_there m p o held =
    ap (map (relocated_cell m.sizes)) (held_before-more p (entries m.cells) (entries_sorted m.cells))
    ∙ (map-append (relocated_cell m.sizes) (held_before p (entries m.cells)) (cell_there p (find place_cmp p (entries m.cells)))
    ∙ ap (λ (found : Option Value). map (relocated_cell m.sizes) (held_before p (entries m.cells)) ++ map (relocated_cell m.sizes) (cell_there p found)) (found_held m p ∙ held))

-- a held cell is one more
pub cells-held : (m : RunMemory) (p : Place) (v : Value) (before after : List Pair) (addr value : Felt) → before ≡ cells_before m p → cell m p ≡ Some v → addr.number ≡ address m.sizes p → value.number ≡ relocated m.sizes v → after ≡ before ++ cells.cell addr value ∷ [] → after ≡ cells_before m (next_place p)
cells-held m p v before after addr value so_far held at is pushed =
    pushed
    ∙ (ap (λ front. front ++ cells.cell addr value ∷ []) so_far
    ∙ (ap (λ c. cells_before m p ++ c ∷ []) (pair_is m.sizes p v addr value at is)
    ∙ sym (more_there m p (Some v) held)))

append_none : {A : Type 0} (xs : List A) → xs ++ [] ≡ xs
append_none [] = refl
append_none (x ∷ xs) = ap (λ rest. x ∷ rest) (append_none xs)

-- a cell that isn't held adds nothing
pub cells-free : (m : RunMemory) (p : Place) (before : List Pair) → before ≡ cells_before m p → cell m p ≡ None → before ≡ cells_before m (next_place p)
cells-free m p before so_far free = so_far ∙ (sym (append_none (cells_before m p)) ∙ sym (more_there m p None free))

pub cells-first : (m : RunMemory) → [] ≡ cells_before m (place 0 0)
unfolding cells_before
cells-first m = ap (map (relocated_cell m.sizes)) (sym (held_before-first (entries m.cells)))

pub cells-segment : (m : RunMemory) (seg off : ℕ) (list : List Pair) → IsMemory m → off ≡ size m seg → list ≡ cells_before m (place seg off) → list ≡ cells_before m (place (seg + 1) 0)
unfolding cells_before
cells-segment m seg off list is end so_far =
    so_far
    ∙ (ap (λ n. map (relocated_cell m.sizes) (held_before (place seg n) (entries m.cells))) end
    ∙ ap (map (relocated_cell m.sizes)) (sym (held_before-segment m seg is)))

pub cells-all : (m : RunMemory) (count : ℕ) (list : List Pair) → IsMemory m → count ≡ length m.sizes → list ≡ cells_before m (place count 0) → list ≡ relocated_cells m
unfolding cells_before relocated_cells
cells-all m count list is whole so_far = so_far ∙ ap (map (relocated_cell m.sizes)) (held_before-all m count is whole)

-- ---- states and shown addresses

pub states_more : (at : RelState → Registers) (before after : List State) (states : List RelState) (i : ℕ) (x : RelState) (s : State) → i < length states → x ≡ get_or states i x → map registers before ≡ map at (take i states) → registers s ≡ at x → after ≡ before ++ s ∷ [] → map registers after ≡ map at (take (i + 1) states)
states_more at before after states i x s inside is so_far same pushed =
    ap (map registers) pushed
    ∙ (map_push registers before s
    ∙ (ap (λ list. list ++ registers s ∷ []) so_far
    ∙ (ap (λ r. map at (take i states) ++ r ∷ []) (same ∙ ap at is)
    ∙ sym (map_more at states i x inside))))

pub states_all : (at : RelState → Registers) (list : List State) (states : List RelState) (i : ℕ) → length states ≤ i → map registers list ≡ map at (take i states) → map registers list ≡ map at states
states_all at list states i whole so_far = so_far ∙ ap (map at) (take_all i states whole)

-- the addresses of the first cells of the execution segment, as many as there are
abbrev pub first_addresses : List ℕ → ℕ → List ℕ
first_addresses sizes count = map (address sizes) (map (place execution) (range_with_len 0 count))

pub more_shown : (sizes : List ℕ) (before after : List Felt) (off : ℕ) (a : Felt) → numbers before ≡ first_addresses sizes off → after ≡ before ++ a ∷ [] → a.number ≡ address sizes (place execution off) → numbers after ≡ first_addresses sizes (off + 1)
more_shown sizes before after off a so_far pushed at =
    ap numbers pushed
    ∙ (map_push (λ (x : Felt). x.number) before a
    ∙ (ap (λ front. front ++ a.number ∷ []) so_far
    ∙ (ap (λ n. first_addresses sizes off ++ n ∷ []) at
    ∙ (sym (map_push (address sizes) (map (place execution) (range_with_len 0 off)) (place execution off))
    ∙ ap (map (address sizes)) (sym (map-range_with_len_more (place execution) 0 off off (zero-add off)))))))

pub all_shown : (sizes : List ℕ) (b : Builtins) (list : List Felt) (off : ℕ) → off ≡ length (start_stack b) → numbers list ≡ first_addresses sizes off → numbers list ≡ map (address sizes) (shown_places b)
unfolding shown_places
all_shown sizes b list off whole so_far = so_far ∙ ap (first_addresses sizes) whole
