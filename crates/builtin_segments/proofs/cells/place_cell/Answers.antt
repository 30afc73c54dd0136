use Rattle.std.proofs.Common.{◌≡◌, Err, Some, ap, ◌∙◌}
use Rattle.segments.specs.declared.Place.{Place}
use Rattle.segments.specs.declared.Value.{Value}
use Rattle.segments.specs.declared.memory.PutCause.{PutCause}
use Rattle.segments.specs.Memory.{RunMemory, put_cause, with_cell}
use Rattle.builtin_segments.specs.declared.cells.CellCause.TheVariants.{Put}
use Rattle.builtin_segments.specs.Rules.{Rules, unless_caused, adding}
use Rattle.builtin_segments.proofs.cells.place_cell.Goals as goal

-- what the memory refuses isn't added
adding-refused : (rules : Rules) (m : RunMemory) (p : Place) (v : Value) (cause : PutCause) → put_cause m p v ≡ Some cause → adding rules m p v ≡ Err (Put cause)
unfolding adding unless_caused
adding-refused rules m p v cause refused = ap (λ o. unless_caused o (with_cell m p v)) refused

pub returns-in-Err-Refused-clause-refused : goal.returns-in-Err-Refused-clause-refused
returns-in-Err-Refused-clause-refused c = λ rules cause e.
    let same : Put c.in-Err-Refused.cause ≡ cause = cc in
    adding-refused rules c.args.memory.now c.args.place c.args.value c.in-Err-Refused.cause ((c.in-Err-Refused.ensures.refused c.in-Err-Refused.cause).0 (cc))
    ∙ ap (λ x. Err x) same
