use Rattle.std.proofs.Common.{◌<◌, arith, sym, refl, ◌∙◌, subst}
use Rattle.std.specs.Prelude.{Result, IfOk, IsSome, Ok, Err, Option}
use Rattle.segments.specs.declared.Value.{Value}
use Rattle.segments.specs.Memory.{total_limit}
use Rattle.segments.proofs.Memories.{size_within}
use Rattle.run_steps.proofs.operands.instruction.Goals as goal

-- what holds anyway holds of an answer
of_answer : {A C : Type 0} (r : Result A C) (P : Type 0) → P → IfOk r (λ x. P)
of_answer (Ok x) P holds = holds
of_answer (Err cause) P holds = tt

pub returns-in-Some-Num-clause-low : goal.returns-in-Some-Num-clause-low
returns-in-Some-Num-clause-low c =
    let m = c.args.memory.now in
    let p = c.args.state.pc in
    let held = subst (λ (o : Option Value). IsSome o) (sym c.in-Some-Num.is ∙ c.get.ensures.value) refl in
    of_answer c.word_or_fault.result (p.off < total_limit)
    (omega (arith, c.get.ensures.memory.inside p held, size_within m p.seg c.get.ensures.memory))
