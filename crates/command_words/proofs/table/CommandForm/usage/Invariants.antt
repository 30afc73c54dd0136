use Rattle.std.proofs.Common.{◌≡◌, ◌++◌, map, take, string_bytes}
use Rattle.std.specs.List.{flat_map}
use Rattle.command_words.specs.Forms.{part_of, after_blank}
use Rattle.command_words.proofs.table.CommandForm.usage.Given as goal

abbrev pub invariant-loop-part : goal.invariant-loop-part
invariant-loop-part l =
    string_bytes l.text ≡ l.self.word.now ++ flat_map after_blank (map part_of (take l.part-index l.self.parts.now))
