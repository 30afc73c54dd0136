use Rattle.access_lists.specs.SmallValues.{small_parts}
use Rattle.access_lists.proofs.Lists.{all_small_values}
use Rattle.access_lists.proofs.values.SmallValues.to_vec.Goals as goal

pub returns : goal.returns
returns c =
    all_small_values (small_parts c.args.self.now)
    c.in_ok-all.all.items c.push_offsets.new.all.items c.push_limbs.new.all.items c.extend_from_slice.new.self.items
    c.in_ok-all.ensures.items c.in_ok-push_offsets.ensures c.in_ok-push_limbs.ensures c.in_ok-extend_from_slice.ensures.items
