use Rattle.json_fields.specs.Encoding.{pair_json}
use Rattle.json_fields.proofs.WrittenTokens.{IsWriting}
use Rattle.json_fields.proofs.writing.write_pairs.Given as goal

abbrev pub invariant-loop-pair : goal.invariant-loop-pair
invariant-loop-pair l = IsWriting pair_json l.pairs l.pair-index l.fn.out l.out
