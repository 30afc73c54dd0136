use Rattle.std.proofs.Common.{sym, arith}
use Rattle.json_fields.specs.Encoding.{felt_json}
use Rattle.json_fields.proofs.WrittenTokens.{one_more, ended}
use Rattle.json_fields.proofs.writing.write_felts.Goals as goal

pub loop-number-preserved : goal.loop-number-preserved
loop-number-preserved c =
    one_more felt_json c.args.numbers.now c.args.out.now c.loop-number.number-index c.number-item.result c.loop-number.out c.write_felt.new.out (omega arith) (sym c.number-item.is)
    c.loop-number.invariant c.in_ok-write_felt.ensures

pub returns : goal.returns
returns c =
    ended felt_json c.args.numbers.now c.args.out.now c.loop-number.number-index c.loop-number.out c.end_array.new.self c.end_array.result (omega arith) c.loop-number.invariant c.end_array.ensures
