use Rattle.std.proofs.Common.{arith}
use Rattle.assembler.proofs.AssemblyLemmas.{pushed_at}
use Rattle.assembler.proofs.words.push_item.Goals as goal

pub returns-clause-words : goal.returns-clause-words
returns-clause-words c =
    pushed_at _ c.args.item.now.body _ _ _ _ c.in_ok-push_body.ensures.words c.in_ok-by.ensures.value (omega arith)
