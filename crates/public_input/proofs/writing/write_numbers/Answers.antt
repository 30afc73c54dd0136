use Rattle.std.proofs.lemmas.Result.{on_ok_weaker}
use Rattle.public_input.proofs.Tokens.{WritesTokens-append}
use Rattle.public_input.proofs.writing.write_numbers.Goals as goal

pub returns : goal.returns
returns c =
    on_ok_weaker c.write_whole_under-4.result
    (λ steps. WritesTokens-append _ _ _ _ _ c.in_ok-write_felt_under.ensures
    (WritesTokens-append _ _ _ _ _ c.in_ok-write_whole_under.ensures
    (WritesTokens-append _ _ _ _ _ c.in_ok-write_whole_under-2.ensures
    (WritesTokens-append _ _ _ _ _ c.in_ok-write_whole_under-3.ensures steps))))
    c.write_whole_under-4.ensures
