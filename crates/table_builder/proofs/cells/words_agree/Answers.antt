use Rattle.std.proofs.Common.{◌<◌, ◌∙◌, length, Option, refl, arith}
use Rattle.goldilocks.specs.declared.Pair.{Pair}
use Rattle.goldilocks.specs.Cells.{cells_from}
use Rattle.access_lists.proofs.Pieces.{next_address}
use Rattle.table_builder.specs.Findings.{Finding, cell_finding}
use Rattle.table_builder.proofs.Told.{handed_on}
use Rattle.table_builder.proofs.Loops.{nothing_more, found_here, nothing_found}
use Rattle.table_builder.proofs.Counts.{length-cells_from}
use Rattle.table_builder.proofs.WordCells.{cells_from-at}
use Rattle.table_builder.proofs.cells.words_agree.Goals as goal

pub loop-word-init : goal.loop-word-init
loop-word-init g c = record { address = refl; nothing = refl }

pub returns-in_err-cell_agrees : goal.returns-in_err-cell_agrees
returns-in_err-cell_agrees g c =
    let f : Pair → Option Finding = λ x. cell_finding x (g.M.Reads.cells c.args.m.now x.addr.number) in
    let within : c.loop-word.word-index < length (cells_from 1 c.args.words.now) = omega (arith, length-cells_from 1 c.args.words.now, c.loop-word-test.true) in
    handed_on _ _ _ c.from_residual.result c.in_err-cell_agrees.field-0.0 c.from_residual.ensures.1
    (found_here f (cells_from 1 c.args.words.now) c.loop-word.word-index _ within (cells_from-at 1 c.args.words.now c.loop-word.word-index _ c.word-item.result c.loop-word-test.true c.word-item.is c.loop-word.invariant.address) c.loop-word.invariant.nothing)
    c.in_err-cell_agrees.ensures

pub loop-word-preserved : goal.loop-word-preserved
loop-word-preserved g c =
    let f : Pair → Option Finding = λ x. cell_finding x (g.M.Reads.cells c.args.m.now x.addr.number) in
    let within : c.loop-word.word-index < length (cells_from 1 c.args.words.now) = omega (arith, length-cells_from 1 c.args.words.now, c.loop-word-test.true) in
    record {
      address = c.add-addr.ensures ∙ next_address 1 c.loop-word.word-index c.loop-word.addr.0 c.loop-word.invariant.address;
      nothing = nothing_more f (cells_from 1 c.args.words.now) c.loop-word.word-index _ within (cells_from-at 1 c.args.words.now c.loop-word.word-index _ c.word-item.result c.loop-word-test.true c.word-item.is c.loop-word.invariant.address) c.loop-word.invariant.nothing c.in_ok-cell_agrees.ensures.0;
    }

pub returns : goal.returns
returns g c =
    let f : Pair → Option Finding = λ x. cell_finding x (g.M.Reads.cells c.args.m.now x.addr.number) in
    (nothing_found f (cells_from 1 c.args.words.now) c.loop-word.word-index (omega (arith, length-cells_from 1 c.args.words.now, c.loop-word-test.false)) c.loop-word.invariant.nothing, tt)
