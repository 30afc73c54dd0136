-- The whole lists, part by part.
use Rattle.std.proofs.Common.{◌≡◌, ◌∙◌, List, [], ◌++◌, map, ap}
use Rattle.std.specs.List.{flat_map}
use Rattle.goldilocks.specs.declared.Felt.{Felt}
use Rattle.goldilocks.specs.declared.Pair.{Pair}
use Rattle.goldilocks.specs.Cells.{cells_from}
use Rattle.access_lists.specs.Accesses.{row_cells, range_cells, program_cells, AccessParts, accesses}
use Rattle.access_lists.specs.SmallValues.{row_offsets, limbs, SmallParts, small_values}

pub all_accesses : (p : AccessParts) (a0 a1 a2 a3 a4 a5 : List Pair) → a0 ≡ [] → a1 ≡ a0 ++ flat_map row_cells p.rows → a2 ≡ a1 ++ cells_from p.range_begin (map (λ r. r.value) p.range_rows) → a3 ≡ a2 ++ cells_from 1 p.words → a4 ≡ a3 ++ p.public_cells → a5 ≡ a4 ++ p.fillers → a5 ≡ accesses p
unfolding accesses range_cells program_cells
all_accesses p a0 a1 a2 a3 a4 a5 p0 p1 p2 p3 p4 p5 =
    p5
    ∙ ap (λ xs. xs ++ p.fillers) (p4
    ∙ ap (λ xs. xs ++ p.public_cells) (p3
    ∙ ap (λ xs. xs ++ cells_from 1 p.words) (p2
    ∙ ap (λ xs. xs ++ cells_from p.range_begin (map (λ r. r.value) p.range_rows)) (p1
    ∙ ap (λ xs. xs ++ flat_map row_cells p.rows) p0))))

pub all_small_values : (p : SmallParts) (a0 a1 a2 a3 : List Felt) → a0 ≡ [] → a1 ≡ a0 ++ flat_map row_offsets p.rows → a2 ≡ a1 ++ flat_map limbs p.range_rows → a3 ≡ a2 ++ p.fillers → a3 ≡ small_values p
unfolding small_values
all_small_values p a0 a1 a2 a3 p0 p1 p2 p3 =
    p3
    ∙ ap (λ xs. xs ++ p.fillers) (p2
    ∙ ap (λ xs. xs ++ flat_map limbs p.range_rows) (p1
    ∙ ap (λ xs. xs ++ flat_map row_offsets p.rows) p0))
