use Rattle.std.proofs.Common.{sym, rules, ap, ◌∙◌, Some}
use Rattle.std.proofs.lemmas.List.Sorted.{answers_always}
use Rattle.std.proofs.lemmas.Result.{MatchResult-at_ok, MatchResult-at_err}
use Rattle.goldilocks.specs.declared.Pair.{Pair}
use Rattle.trace_files.proofs.MemoryLookup.{looked_up}
use Rattle.trace_files.proofs.cell_list.CellList.search.Goals as goal

pub returns-in-Err : goal.returns-in-Err
returns-in-Err c =
    let facts = c.binary_search_by_key.ensures in
    let by_key = facts.position (λ pair. pair.addr.number) (answers_always _ _ _ (λ f a r g called. search rules)) in
    let found = looked_up c.deref.result.now (rw c.deref.ensures.value c.args.self.now.ascending) c.get.result _ facts.bound by_key in
    rw (← c.deref.ensures.value, ← c.get.ensures) (sym (MatchResult-at_err _ _ _ c.in-Err.is found))

pub returns-in-Ok : goal.returns-in-Ok
returns-in-Ok c =
    let facts = c.binary_search_by_key.ensures in
    let by_key = facts.position (λ pair. pair.addr.number) (answers_always _ _ _ (λ f a r g called. search rules)) in
    let found = looked_up c.deref.result.now (rw c.deref.ensures.value c.args.self.now.ascending) c.get.result _ facts.bound by_key in
    let here = (MatchResult-at_ok _ _ _ c.in-Ok.is found) c.index.result.now in
    ap (λ (pair : Pair). Some pair.value.number) c.index.ensures
    ∙ rw (← c.deref.ensures.value, ← c.get.ensures) (sym here)
