use Rattle.cairo_commands.proofs.AgainLaws.{asm-of_dis, dis-of_asm}
use Rattle.std.proofs.Common.{sym, subst, List}
use Rattle.casm_statements.specs.declared.Item.{Item}
use Rattle.assembler.specs.Disassembly.{Disassembles}
use Rattle.cairo_commands.proofs.ProgramReadings.{items_of-only, Disassembles-items_of}
use Rattle.cairo_commands.proofs.again.again_laws.Goals as goal

pub returns-clause-dis_then_asm : goal.returns-clause-dis_then_asm
returns-clause-dis_then_asm c = asm-of_dis

pub returns-clause-asm_then_dis : goal.returns-clause-asm_then_dis
returns-clause-asm_then_dis c = dis-of_asm

pub returns-clause-one_list : goal.returns-clause-one_list
returns-clause-one_list c = λ p items. (
  (λ is. items_of-only p items is),
  (λ same. subst (λ (shown : List Item). Disassembles p.words p.start p.end p.builtins.output p.builtins.range shown) (sym same) (Disassembles-items_of p)),
)
