use Rattle.std.proofs.lemmas.Result.{on_ok_weaker}
use Rattle.public_input.proofs.Tokens.{WritesTokens-append}
use Rattle.public_input.proofs.writing.write_registers_and_cells.Goals as goal

pub returns : goal.returns
returns c =
    on_ok_weaker c.write_cells.result
    (λ cells. WritesTokens-append _ _ _ _ _ c.in_ok-write_felt_under.ensures
    (WritesTokens-append _ _ _ _ _ c.in_ok-write_felt_under-2.ensures
    (rw c.deref.ensures.value at cells)))
    c.write_cells.ensures
