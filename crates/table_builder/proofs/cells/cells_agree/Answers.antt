use Rattle.std.proofs.Common.{map, Option, ◌∙◌, ap}
use Rattle.std.proofs.lemmas.List.{map-append}
use Rattle.goldilocks.specs.declared.Pair.{Pair}
use Rattle.program_file.specs.Listing.{listing}
use Rattle.public_input.specs.Statement.{statement}
use Rattle.access_lists.specs.Accesses.{program_cells}
use Rattle.table_builder.specs.Findings.{Finding, cell_finding, cell_findings, first_found}
use Rattle.table_builder.proofs.Told.{handed_on, then_told, found_sooner}
use Rattle.table_builder.proofs.cells.cells_agree.Goals as goal

pub returns-in_err-words_agree : goal.returns-in_err-words_agree
unfolding cell_findings program_cells
returns-in_err-words_agree g c =
    let f : Pair → Option Finding = λ x. cell_finding x (g.M.Reads.cells c.args.m.now x.addr.number) in
    let words = program_cells (listing c.args.program.now).words in
    let shown = (statement c.args.public.now).cells in
    handed_on (first_found (map f words)) _ _ c.from_residual.result c.in_err-words_agree.field-0.0 c.from_residual.ensures.1
    (λ told found. ap first_found (map-append f words shown) ∙ found_sooner (map f words) (map f shown) told found)
    (rw c.words.ensures at c.in_err-words_agree.ensures)

pub returns : goal.returns
unfolding cell_findings program_cells
returns g c =
    let f : Pair → Option Finding = λ x. cell_finding x (g.M.Reads.cells c.args.m.now x.addr.number) in
    let words = program_cells (listing c.args.program.now).words in
    let shown = (statement c.args.public.now).cells in
    then_told (map f words) (map f shown) _ _ c.public_agree.result (map-append f words shown) (rw c.words.ensures at c.in_ok-words_agree.ensures.0)
    (rw c.deref.ensures.value at c.public_agree.ensures)
