use Rattle.std.proofs.Common.{◌∙◌, ap, map}
use Rattle.segments.specs.Columns.{slot_value}
use Rattle.segments.proofs.Slots.{word_slots}
use Rattle.segments.proofs.column.Column.of_words.Goals as goal

pub returns : goal.returns
returns c = ap (map slot_value) c.in_ok-word_slots.ensures ∙ word_slots c.args.words.now
