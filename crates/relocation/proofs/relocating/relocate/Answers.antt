use Rattle.std.proofs.Common.{◌≡◌, ℕ, List, All, length, sym, ◌∙◌, ap, subst, arith}
use Rattle.segments.specs.Relocation.{segment_bases}
use Rattle.builtin_segments.specs.Layout.{layout_of}
use Rattle.run_steps.specs.ValueRun.{InSegments}
use Rattle.relocation.specs.Relocated.{relocated_run}
use Rattle.relocation.proofs.Listed.{length-segment_bases}
use Rattle.relocation.proofs.relocating.relocate.Goals as goal

pub relocated_states-requires-clause-inside : goal.relocated_states-requires-clause-inside
relocated_states-requires-clause-inside c =
    let same : c.deref.result.now ≡ segment_bases c.args.memory.now.sizes = c.deref.ensures.value ∙ c.in_ok-bases.ensures.bases in
    let count : length c.deref.result.now ≡ length c.args.memory.now.sizes = ap length same ∙ length-segment_bases c.args.memory.now.sizes in
    subst (λ n. All (InSegments n) c.args.states.now) (sym count) c.requires.inside

pub shown_addresses-requires-clause-execution : goal.shown_addresses-requires-clause-execution
unfolding layout_of
shown_addresses-requires-clause-execution c =
    let same : c.deref-3.result.now ≡ segment_bases c.args.memory.now.sizes = c.deref-3.ensures.value ∙ c.in_ok-bases.ensures.bases in
    omega (arith, ap length same, length-segment_bases c.args.memory.now.sizes, c.requires.layout)

pub returns : goal.returns
unfolding relocated_run
returns c =
    let sizes : List ℕ = c.args.memory.now.sizes in
    let states = c.in_ok-relocated_states.ensures sizes (c.deref.ensures.value ∙ c.in_ok-bases.ensures.bases) in
    let cells = c.in_ok-relocated_cells.ensures in
    let shown = c.in_ok-shown_addresses.ensures sizes (c.deref-3.ensures.value ∙ c.in_ok-bases.ensures.bases) in
    record { run = λ i. record { states = states i; cells = cells i; shown = shown i; range_begin = 0; range_count = 0 } }
