use Rattle.access_lists.specs.Accesses.{access_parts}
use Rattle.access_lists.proofs.Lists.{all_accesses}
use Rattle.access_lists.proofs.cells.Accesses.to_vec.Goals as goal

pub returns : goal.returns
returns c =
    all_accesses (access_parts c.args.self.now)
    c.in_ok-all.all.items c.push_row_cells.new.all.items c.push_range_cells.new.all.items c.push_cells_from.new.all.items c.extend_from_slice.new.self.items c.extend_from_slice-2.new.self.items
    c.in_ok-all.ensures.items c.in_ok-push_row_cells.ensures c.in_ok-push_range_cells.ensures c.in_ok-push_cells_from.ensures
    c.in_ok-extend_from_slice.ensures.items c.in_ok-extend_from_slice-2.ensures.items
