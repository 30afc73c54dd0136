use Rattle.std.proofs.Common.{sym, ◌∙◌, subst, List, Contains}
use Rattle.std.proofs.lemmas.Bool.{eqb-true}
use Rattle.goldilocks.specs.declared.Pair.{Pair}
use Rattle.trace_files.proofs.MemoryLookup.{memory_of-member}
use Rattle.trace_files.proofs.cell_list.CellListReads.read.Goals as goal

pub returns-in-Some : goal.returns-in-Some
returns-in-Some c =
    let member = subst (λ (pairs : List Pair). Contains pairs c.in-Some.cell) c.deref.ensures.value c.in-Some.ensures in
    let same = eqb-true c.in-Some.cell.addr.number c.args.a.number (sym c.eq.ensures ∙ c.if-eq.true) in
    sym (memory_of-member c.args.self.now.cells.items c.args.self.now.ascending c.args.a.number c.in-Some.cell member same)
