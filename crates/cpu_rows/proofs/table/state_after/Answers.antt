use Rattle.std.proofs.Common.{◌+◌, ◌<◌, length, map, sym, ap, ◌∙◌, arith}
use Rattle.std.proofs.lemmas.List.{length-map}
use Rattle.std.proofs.Math.ListN.{get_or-map}
use Rattle.casm_word.specs.Transition.{registers}
use Rattle.cpu_rows.specs.Columns.{columns, state_of}
use Rattle.cpu_rows.proofs.FaultsOfRows.{get_or-states_of}
use Rattle.cpu_rows.proofs.table.state_after.Goals as goal

pub returns-then-place-rows : goal.returns-then-place-rows
returns-then-place-rows c =
    let rows = c.args.rows.now in
    let d = c.index-rows-place.result in
    let inside : c.args.place + 1 < length (map columns rows) = omega (arith, length-map rows columns) in
    c.state.ensures
    ∙ (ap (λ r. state_of (columns r)) c.index-rows-place.is
    ∙ (ap state_of (sym (get_or-map columns rows (c.args.place + 1) d))
    ∙ sym (get_or-states_of (map columns rows) (registers c.args.last) (c.args.place + 1) (columns d) (registers c.args.last) inside)))
