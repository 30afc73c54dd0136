use Rattle.assembler.proofs.Begins.{encoded-below}
use Rattle.assembler.proofs.AssemblyLemmas.{one_pushed, two_pushed}
use Rattle.assembler.proofs.words.push_statement.Goals as goal

pub invariant_of-push : goal.invariant_of-push
invariant_of-push c = record { in_field = encoded-below c.args.stmt c.to_word-immediate.result c.encode.result c.to_word-immediate.ensures c.encode.ensures.decoded }

pub returns-in_ok-push-2-clause-words : goal.returns-in_ok-push-2-clause-words
returns-in_ok-push-2-clause-words c =
    two_pushed c.args.stmt c.to_word-immediate.result _ c.in-Some.value _ _ _ c.to_word-immediate.ensures c.encode.ensures.value c.in-Some.is c.in_ok-push.ensures.items c.in_ok-push-2.ensures.items

pub returns-in_default-clause-words : goal.returns-in_default-clause-words
returns-in_default-clause-words c =
    one_pushed c.args.stmt c.to_word-immediate.result _ _ _ c.to_word-immediate.ensures c.encode.ensures.value c.in_default.is c.in_ok-push.ensures.items
