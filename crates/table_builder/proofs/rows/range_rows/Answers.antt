use Rattle.std.proofs.Common.{◌≡◌, ◌≤◌, ◌∙◌, length, map, Some, None, refl, ap, subst, arith}
use Rattle.std.specs.Prelude.{IfSome, unwrap_or}
use Rattle.std.specs.List.{range_with_len}
use Rattle.std.proofs.lemmas.List.{take_all}
use Rattle.std.proofs.lemmas.List.FromFn.{length-range_with_len}
use Rattle.public_input.specs.Statement.{statement}
use Rattle.table_builder.specs.Rows.{limb_row, range_rows_of}
use Rattle.table_builder.specs.Findings.{finding_of, range_finding, range_findings}
use Rattle.table_builder.proofs.Told.{handed_on}
use Rattle.table_builder.proofs.Loops.{nothing_more, found_here, nothing_found}
use Rattle.table_builder.proofs.RangeLoop.{asked, made, first_place, next_place, within_range, at_range, one_more_row}
use Rattle.table_builder.proofs.rows.range_rows.Goals as goal

pub loop-i-init : goal.loop-i-init
loop-i-init g c = record { address = first_place (statement c.args.public.now); nothing = refl; rows = c.in_ok-rows.ensures.items }

pub returns-in_err-range_row : goal.returns-in_err-range_row
unfolding range_findings
returns-in_err-range_row g c =
    let public = statement c.args.public.now in
    let m = g.M.Reads.cells c.args.m.now in
    let i = c.loop-i.i in
    handed_on (asked public m i) _ _ c.from_residual-in_err-range_row.result c.in_err-range_row.field-0.0 c.from_residual-in_err-range_row.ensures.1
    (found_here (asked public m) (range_with_len 0 public.range_count) i i (within_range public.range_count i c.loop-i-test.true) (at_range public.range_count i c.loop-i-test.true) c.loop-i.invariant.nothing)
    (subst (λ a. IfSome (finding_of c.in_err-range_row.field-0.0) (λ told. range_finding i a (m a) ≡ Some told)) c.loop-i.invariant.address c.in_err-range_row.ensures)

pub loop-i-preserved : goal.loop-i-preserved
loop-i-preserved g c =
    let public = statement c.args.public.now in
    let m = g.M.Reads.cells c.args.m.now in
    let i = c.loop-i.i in
    record {
      address = c.add-addr.ensures ∙ next_place public i c.loop-i.addr.number c.loop-i.invariant.address;
      nothing =
          nothing_more (asked public m) (range_with_len 0 public.range_count) i i (within_range public.range_count i c.loop-i-test.true) (at_range public.range_count i c.loop-i-test.true) c.loop-i.invariant.nothing
          (subst (λ a. range_finding i a (m a) ≡ None) c.loop-i.invariant.address c.in_ok-range_row.ensures.0);
      rows =
          one_more_row public m i c.loop-i.rows.items c.push.new.self.items c.in_ok-range_row.field-0 c.loop-i-test.true c.loop-i.invariant.rows
          (subst (λ a. c.in_ok-range_row.field-0 ≡ limb_row (unwrap_or (m a) 0)) c.loop-i.invariant.address c.in_ok-range_row.ensures.1)
          c.in_ok-push.ensures.items;
    }

pub returns : goal.returns
unfolding range_findings range_rows_of
returns g c =
    let public = statement c.args.public.now in
    let m = g.M.Reads.cells c.args.m.now in
    let all = range_with_len 0 public.range_count in
    let past : length all ≤ c.loop-i.i = omega (arith, length-range_with_len 0 public.range_count, c.loop-i-test.false) in (
      nothing_found (asked public m) all c.loop-i.i past c.loop-i.invariant.nothing,
      c.loop-i.invariant.rows ∙ ap (map (made public m)) (take_all c.loop-i.i all past),
    )
