use Rattle.std.proofs.Common.{◌≡◌, ℕ, ◌<◌, take, get_or}
use Rattle.std.specs.Prelude.{string_bytes}
use Rattle.casm_statements.specs.declared.Item.{Item}
use Rattle.casm_text.specs.Canonical.{printed}
use Rattle.casm_text.specs.Bounds.{IsBody}
use Rattle.casm_text.proofs.printer.print.Given as goal

abbrev pub invariant-loop-item : goal.invariant-loop-item
invariant-loop-item l = record {
  text : string_bytes l.out ≡ printed (take l.item-index l.items);
  kept : (k : ℕ) (d : Item) → k < l.item-index → IsBody (get_or l.items k d).body;
}
