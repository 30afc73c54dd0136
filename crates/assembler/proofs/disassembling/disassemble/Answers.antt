use Rattle.std.proofs.Common.{rules, arith}
use Rattle.assembler.specs.Disassembly.{Disassembles}
use Rattle.assembler.proofs.Restored.{restored}
use Rattle.assembler.proofs.TextSizes.{text_fits}
use Rattle.assembler.proofs.disassembling.disassemble.Goals as goal

pub returns-clause-assembled : goal.returns-clause-assembled
returns-clause-assembled c =
    let d : Disassembles c.args.words.now c.args.start c.args.end c.args.output c.args.range c.push_shown.new.items.items = search rules in
    λ a b. restored _ _ _ _ _ _ c.requires a b d

pub returns-clause-text : goal.returns-clause-text
returns-clause-text c =
    let d : Disassembles c.args.words.now c.args.start c.args.end c.args.output c.args.range c.push_shown.new.items.items = search rules in
    let start_low = c.ranges.start.fits in
    let end_low = c.ranges.end.fits in
    text_fits _ _ _ _ _ _ c.requires (omega arith) (omega arith) d
