use Rattle.std.proofs.Common.{◌≡◌, List, length, drop, Some, sym, ◌∙◌, rules}
use Rattle.std.specs.Prelude.{slice_range}
use Rattle.casm_word.specs.declared.Flags.{Flags}
use Rattle.casm_word.specs.Transition.{Registers, registers}
use Rattle.cpu_rows.specs.Columns.{Columns, columns}
use Rattle.cpu_rows.specs.Equations.{Equation, equations, failing_number, fault}
use Rattle.cpu_rows.proofs.Excluded.{first_broken-failing_number}
use Rattle.cpu_rows.proofs.Failing.{joined}
use Rattle.cpu_rows.proofs.Faults.{fault-no_flags, fault-flags, none_where_met, least_of_fault, step_where_met}
use Rattle.cpu_rows.proofs.equations.row_fault.Goals as goal

pub returns-in-Err : goal.returns-in-Err
returns-in-Err c =
    let r : Columns = columns c.args.r.now in
    let after : Registers = registers c.args.next in
    let sixteen : length c.args.r.now.tilde ≡ 16 = search rules in
    let e : Some c.in-Err.number ≡ fault r after = sym (fault-no_flags r after c.in-Err.number (c.in-Err.ensures after)) in
    let none = none_where_met (Some c.in-Err.number) r after e in
    record {
      value = e;
      none = none;
      least = least_of_fault (Some c.in-Err.number) r after e;
      step = λ n small. step_where_met c.args.r.now c.args.next sixteen small (none.0 n);
    }

pub returns : goal.returns
unfolding equations
returns c =
    let r : Columns = columns c.args.r.now in
    let after : Registers = registers c.args.next in
    let f : Flags = c.in-Ok.flags in
    let has = c.in-Ok.ensures after in
    let sixteen : length c.args.r.now.tilde ≡ 16 = search rules in
    let es : List Equation = equations r after in
    let rest : c.or-4.result ≡ failing_number (drop 15 es) =
    joined c.or-4.result c.or-3.result c.shape_fault.result (slice_range es 15 31) (drop 31 es) c.or-4.ensures
    (joined c.or-3.result c.or-2.result c.step_fault.result (slice_range es 15 24) (slice_range es 24 31) c.or-3.ensures
    (joined c.or-2.result c.or.result c.operand_fault.result (slice_range es 15 20) (slice_range es 20 24) c.or-2.ensures
    (joined c.or.result c.word_fault.result c.address_fault.result (slice_range es 15 17) (slice_range es 17 20) c.or.ensures
    (c.word_fault.ensures after)
    (c.address_fault.ensures after))
    (c.operand_fault.ensures after))
    c.step_fault.ensures)
    (c.shape_fault.ensures ∙ first_broken-failing_number r after f has) in
    let e : c.or-4.result ≡ fault r after = rest ∙ fault-flags r after f has in
    let none = none_where_met c.or-4.result r after e in
    record {
      value = e;
      none = none;
      least = least_of_fault c.or-4.result r after e;
      step = λ n small. step_where_met c.args.r.now c.args.next sixteen small (none.0 n);
    }
