use Rattle.std.proofs.Common.{◌≡◌, ◌<◌, ◌≤◌, ◌+◌, ◌-◌, ℕ, List, [], length, None, get_or, sym, ◌∙◌, ap, subst, refl, arith}
use Rattle.std.specs.Prelude.{sum, slice_set}
use Rattle.std.proofs.lemmas.List.{get_or_default}
use Rattle.segments.specs.declared.Place.{Place}
use Rattle.segments.specs.declared.Value.{Value}
use Rattle.segments.specs.Columns.{HasOffset, kept_memory, with_value}
use Rattle.segments.specs.Memory.{RunMemory, IsMemory, Grows, size, with_cell, put_cause, total_limit}
use Rattle.segments.proofs.Columns.{Cells, kept-with_cell, size-kept, count-kept}
use Rattle.segments.proofs.Memories.{MayPut, may_put, IsMemory-with_cell, Grows-with_cell, program_fixed, again_none, total-with_cell, offset_within, with_cell_again}
use Rattle.segments.proofs.memory.Segments.put.Goals as goal

-- the segment is one of the columns
there : (columns : List Cells) (m : RunMemory) (p : Place) (v : Value) → kept_memory columns ≡ m → put_cause m p v ≡ None → p.seg < length columns
there columns m p v kept none =
    let may : MayPut m p v = may_put m p v none in
    omega (arith, may.there, ap (λ (n : RunMemory). length n.sizes) kept, count-kept columns)

-- what the columns keep once one of them has the value
written : (columns : List Cells) (m : RunMemory) (p : Place) (v : Value) (column new : Cells) → kept_memory columns ≡ m → put_cause m p v ≡ None → column ≡ get_or columns p.seg column → new ≡ with_value column p.off v → kept_memory (slice_set columns p.seg new) ≡ with_cell m p v
written columns m p v column new kept none is put =
    let inside : p.seg < length columns = there columns m p v kept none in
    let at : column ≡ get_or columns p.seg [] = is ∙ get_or_default columns p.seg column [] inside in
    ap (λ (c : Cells). kept_memory (slice_set columns p.seg c)) (put ∙ ap (λ (c : Cells). with_value c p.off v) at)
    ∙ (kept-with_cell columns p v inside ∙ ap (λ (n : RunMemory). with_cell n p v) kept)

-- the new total
total : (columns : List Cells) (m : RunMemory) (p : Place) (v : Value) (column : Cells) (n growth : ℕ) → IsMemory m → kept_memory columns ≡ m → put_cause m p v ≡ None → column ≡ get_or columns p.seg column → n ≡ sum (kept_memory columns).sizes → growth ≡ (p.off + 1) - length column → n + growth ≡ sum (with_cell m p v).sizes
total columns m p v column n growth is kept none at old grows =
    let inside : p.seg < length columns = there columns m p v kept none in
    let column_is : column ≡ get_or columns p.seg [] = at ∙ get_or_default columns p.seg column [] inside in
    let size_is : size m p.seg ≡ length column = ap (λ (k : RunMemory). size k p.seg) (sym kept) ∙ (size-kept columns p.seg ∙ ap length (sym column_is)) in
    let sums : sum (kept_memory columns).sizes ≡ sum m.sizes = ap (λ (k : RunMemory). sum k.sizes) kept in
    let may : MayPut m p v = may_put m p v none in
    omega (arith, total-with_cell m p v may.there)

pub index_mut-column-requires : goal.index_mut-column-requires
index_mut-column-requires c =
    let none : put_cause c.args.self.now c.args.place c.args.value ≡ None = sym c.put_cause.ensures.cause ∙ c.in_default.is in
    omega (arith, there c.self.inside.columns.items c.args.self.now c.args.place c.args.value c.self.view_is none)

pub returns-clause-ok : goal.returns-clause-ok
returns-clause-ok c =
    let none : put_cause c.args.self.now c.args.place c.args.value ≡ None = sym c.put_cause.ensures.cause ∙ c.in_default.is in
    written c.self.inside.columns.items c.args.self.now c.args.place c.args.value c.index_mut-column.result.now c.put.new.self c.self.view_is none c.index_mut-column.ensures.value c.in_ok-put.ensures.ok

pub returns-clause-memory : goal.returns-clause-memory
returns-clause-memory c =
    let none : put_cause c.args.self.now c.args.place c.args.value ≡ None = sym c.put_cause.ensures.cause ∙ c.in_default.is in
    let is : IsMemory c.args.self.now = subst (λ (m : RunMemory). IsMemory m) c.self.view_is c.self.invariant.0 in
    let offset : HasOffset c.args.value = c.in_default.ensures.offset refl in
    subst (λ (m : RunMemory). IsMemory m) (sym (returns-clause-ok c)) (IsMemory-with_cell c.args.self.now c.args.place c.args.value is offset none)

pub returns-clause-again : goal.returns-clause-again
returns-clause-again c held =
    let is : IsMemory c.args.self.now = subst (λ (m : RunMemory). IsMemory m) c.self.view_is c.self.invariant.0 in
    returns-clause-ok c ∙ with_cell_again c.args.self.now c.args.place c.args.value is held

pub invariant_of-self-2 : goal.invariant_of-self-2
invariant_of-self-2 c =
    let none : put_cause c.args.self.now c.args.place c.args.value ≡ None = sym c.put_cause.ensures.cause ∙ c.in_default.is in
    let is : IsMemory c.args.self.now = subst (λ (m : RunMemory). IsMemory m) c.self.view_is c.self.invariant.0 in (
      returns-clause-memory c,
      total c.self.inside.columns.items c.args.self.now c.args.place c.args.value c.index_mut-column.result.now c.self.inside.total c.saturating_sub-growth.result is c.self.view_is none c.index_mut-column.ensures.value c.self.invariant.1 (omega arith)
          ∙ ap (λ (m : RunMemory). sum m.sizes) (sym (returns-clause-ok c)),
    )

pub returns-clause-grows : goal.returns-clause-grows
returns-clause-grows c =
    let none : put_cause c.args.self.now c.args.place c.args.value ≡ None = sym c.put_cause.ensures.cause ∙ c.in_default.is in
    subst (λ (m : RunMemory). Grows c.args.self.now m) (sym (returns-clause-ok c)) (Grows-with_cell c.args.self.now c.args.place c.args.value none)

pub returns-clause-fixed : goal.returns-clause-fixed
returns-clause-fixed c =
    let none : put_cause c.args.self.now c.args.place c.args.value ≡ None = sym c.put_cause.ensures.cause ∙ c.in_default.is in
    ap (λ (m : RunMemory). size m 0) (returns-clause-ok c) ∙ program_fixed c.args.self.now c.args.place c.args.value none

pub returns-in-Some-clause-again_ok : goal.returns-in-Some-clause-again_ok
returns-in-Some-clause-again_ok c held =
    let is : IsMemory c.args.self.now = subst (λ (m : RunMemory). IsMemory m) c.self.view_is c.self.invariant.0 in
    let none : put_cause c.args.self.now c.args.place c.args.value ≡ None = again_none c.args.self.now c.args.place c.args.value is held in
    let some = c.in-Some.ensures.cause in
    absurd (cc)

pub overflow_cast-self : goal.overflow_cast-self
overflow_cast-self c =
    let none : put_cause c.args.self.now c.args.place c.args.value ≡ None = sym c.put_cause.ensures.cause ∙ c.in_default.is in
    let is : IsMemory c.args.self.now = subst (λ (m : RunMemory). IsMemory m) c.self.view_is c.self.invariant.0 in
    let low : c.args.place.off < total_limit = offset_within c.args.self.now c.args.place c.args.value is none in
    omega arith

pub overflow_add-self : goal.overflow_add-self
overflow_add-self c =
    let none : put_cause c.args.self.now c.args.place c.args.value ≡ None = sym c.put_cause.ensures.cause ∙ c.in_default.is in
    let is : IsMemory c.args.self.now = subst (λ (m : RunMemory). IsMemory m) c.self.view_is c.self.invariant.0 in
    let sums : c.self.inside.total + c.saturating_sub-growth.result ≡ sum (with_cell c.args.self.now c.args.place c.args.value).sizes =
    total c.self.inside.columns.items c.args.self.now c.args.place c.args.value c.index_mut-column.result.now c.self.inside.total c.saturating_sub-growth.result is c.self.view_is none c.index_mut-column.ensures.value c.self.invariant.1 (omega arith) in
    let offset : HasOffset c.args.value = c.in_default.ensures.offset refl in
    let within : sum (with_cell c.args.self.now c.args.place c.args.value).sizes ≤ total_limit = (IsMemory-with_cell c.args.self.now c.args.place c.args.value is offset none).total in
    omega arith
