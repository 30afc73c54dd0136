use Rattle.std.proofs.Common.{sym, arith}
use Rattle.json_fields.specs.Encoding.{pair_json}
use Rattle.json_fields.proofs.WrittenTokens.{one_more, ended}
use Rattle.json_fields.proofs.writing.write_pairs.Goals as goal

pub loop-pair-preserved : goal.loop-pair-preserved
loop-pair-preserved c =
    one_more pair_json c.args.pairs.now c.args.out.now c.loop-pair.pair-index c.pair-item.result c.loop-pair.out c.write_felts.new.out (omega arith) (sym c.pair-item.is)
    c.loop-pair.invariant c.in_ok-write_felts.ensures

pub returns : goal.returns
returns c =
    ended pair_json c.args.pairs.now c.args.out.now c.loop-pair.pair-index c.loop-pair.out c.end_array.new.self c.end_array.result (omega arith) c.loop-pair.invariant c.end_array.ensures
