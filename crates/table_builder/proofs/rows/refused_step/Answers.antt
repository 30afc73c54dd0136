use Rattle.std.proofs.Common.{◌≡◌, map, Some, option_map, ap, sym, arith}
use Rattle.std.proofs.lemmas.List.{length-map}
use Rattle.casm_word.specs.Transition.{registers, outcome_of}
use Rattle.casm_word.specs.Run.{first_refused}
use Rattle.casm_word.proofs.RefusedRuns.{refused_within}
use Rattle.table_builder.specs.Rows.{no_state}
use Rattle.table_builder.specs.Findings.{Step, finding_of, step_finding}
use Rattle.table_builder.proofs.rows.refused_step.Goals as goal

pub overflow_cast-result : goal.overflow_cast-result
overflow_cast-result g c =
    let m = g.M.Reads.cells c.args.m.now in
    let states = map registers c.args.states.now in
    let told : first_refused m states ≡ Some (c.in-Some.refused.0, outcome_of c.in-Some.refused.1) = sym c.in-Some.ensures in
    omega (arith, refused_within m states c.in-Some.refused.0 (outcome_of c.in-Some.refused.1) no_state told, length-map c.args.states.now registers, c.requires.most)

pub returns : goal.returns
unfolding finding_of step_finding
returns g c = ap (option_map (λ refused. Step refused.0 refused.1)) c.in-Some.ensures
