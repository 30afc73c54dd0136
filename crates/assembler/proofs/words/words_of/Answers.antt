use Rattle.assembler.proofs.AssemblyLemmas.{written_more, written_fits}
use Rattle.assembler.proofs.Statements.{offsets_more}
use Rattle.assembler.proofs.Unknowns.{found_in-more}
use Rattle.assembler.proofs.words.words_of.Goals as goal

pub push_item-requires : goal.push_item-requires
push_item-requires c = written_fits _ c.args.items.now c.loop-item.item-index _ c.loop-item.invariant.written c.requires

pub loop-item-preserved : goal.loop-item-preserved
loop-item-preserved c = record {
  written = written_more _ c.args.items.now c.loop-item.item-index c.item-item.result _ _ c.loop-item-test.true c.item-item.is c.loop-item.invariant.written c.in_ok-push_item.ensures.words;
  offsets = offsets_more c.args.items.now c.loop-item.item-index c.item-item.result c.loop-item-test.true c.item-item.is c.loop-item.invariant.offsets c.in_ok-push_item.ensures.offsets;
  known = found_in-more _ c.args.items.now c.loop-item.item-index c.item-item.result c.loop-item-test.true c.item-item.is c.in_ok-push_item.ensures.known c.loop-item.invariant.known;
}
