use Rattle.json_fields.specs.Encoding.{felt_json}
use Rattle.json_fields.proofs.WrittenTokens.{IsWriting}
use Rattle.json_fields.proofs.writing.write_felts.Given as goal

abbrev pub invariant-loop-number : goal.invariant-loop-number
invariant-loop-number l = IsWriting felt_json l.numbers l.number-index l.fn.out l.out
