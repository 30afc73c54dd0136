use Rattle.std.proofs.Common.{◌≡◌, ◌+◌, ℕ, List, length, sym, subst, ap, ◌∙◌, arith}
use Rattle.goldilocks.specs.declared.Felt.{Felt}
use Rattle.program_file.specs.declared.Builtins.{Builtins}
use Rattle.program_file.specs.Listing.{listing}
use Rattle.segments.specs.Memory.{RunMemory, program_memory}
use Rattle.builtin_segments.specs.Layout.{builtin_count}
use Rattle.builtin_segments.specs.Start.{start_stack, with_segments, with_stack}
use Rattle.builtin_segments.specs.Filling.{IsFilled}
use Rattle.builtin_segments.proofs.StartMemory.{room_at_start, start-ready, start-there, start-parts}
use Rattle.builtin_segments.proofs.start.start_segments.Goals as goal

pub add_segments-requires : goal.add_segments-requires
add_segments-requires c =
    let room = room_at_start c.words.result.now c.builtins-builtins.result c.args.extra c.requires in
    let first : length c.in_ok-memory.memory.sizes ≡ length (program_memory c.words.result.now).sizes = ap (λ (m : RunMemory). length m.sizes) c.in_ok-memory.ensures.program in
    omega (arith, c.builtin_count.ensures.count)

-- the memory once its segments are there
segments_there : (words : List Felt) (b : Builtins) (extra k : ℕ) {first m : RunMemory} →
    first ≡ program_memory words → k ≡ builtin_count b → m ≡ with_segments (1 + k + extra) first → m ≡ with_segments (1 + builtin_count b + extra) (program_memory words)
segments_there words b extra k {first} {m} program count more =
    more ∙ (ap (λ (n : ℕ). with_segments (1 + n + extra) first) count ∙ ap (λ (l : RunMemory). with_segments (1 + builtin_count b + extra) l) program)

pub fill_stack-requires-clause-filled : goal.fill_stack-requires-clause-filled
fill_stack-requires-clause-filled c =
    let there : c.add_segments.new.memory ≡ with_segments (1 + builtin_count (listing c.args.program.now).builtins + c.args.extra) (program_memory (listing c.args.program.now).words) =
    segments_there (listing c.args.program.now).words (listing c.args.program.now).builtins c.args.extra c.builtin_count.result (c.in_ok-memory.ensures.program ∙ ap program_memory c.words.ensures) (c.builtin_count.ensures.count ∙ ap builtin_count c.builtins-builtins.ensures) c.in_ok-add_segments.ensures in
    subst (λ (m : RunMemory). IsFilled m 0) (sym there) (start-ready (listing c.args.program.now) c.args.extra c.bound_laws.ensures c.requires)

pub fill_stack-requires-clause-there : goal.fill_stack-requires-clause-there
fill_stack-requires-clause-there c =
    let there : c.add_segments.new.memory ≡ with_segments (1 + builtin_count (listing c.args.program.now).builtins + c.args.extra) (program_memory (listing c.args.program.now).words) =
    segments_there (listing c.args.program.now).words (listing c.args.program.now).builtins c.args.extra c.builtin_count.result (c.in_ok-memory.ensures.program ∙ ap program_memory c.words.ensures) (c.builtin_count.ensures.count ∙ ap builtin_count c.builtins-builtins.ensures) c.in_ok-add_segments.ensures in
    let count = ap (λ (m : RunMemory). length m.sizes) there ∙ start-there (listing c.args.program.now) c.args.extra c.bound_laws.ensures c.requires in
    let same = ap builtin_count c.builtins-builtins.ensures in
    omega arith

pub returns-clause-memory : goal.returns-clause-memory
returns-clause-memory c =
    let there : c.add_segments.new.memory ≡ with_segments (1 + builtin_count (listing c.args.program.now).builtins + c.args.extra) (program_memory (listing c.args.program.now).words) =
    segments_there (listing c.args.program.now).words (listing c.args.program.now).builtins c.args.extra c.builtin_count.result (c.in_ok-memory.ensures.program ∙ ap program_memory c.words.ensures) (c.builtin_count.ensures.count ∙ ap builtin_count c.builtins-builtins.ensures) c.in_ok-add_segments.ensures in
    c.in_ok-fill_stack.ensures
    ∙ (ap (λ (b : Builtins). with_stack 0 (start_stack b) c.add_segments.new.memory) c.builtins-builtins.ensures
    ∙ (ap (λ (m : RunMemory). with_stack 0 (start_stack (listing c.args.program.now).builtins) m) there
    ∙ start-parts (listing c.args.program.now) c.args.extra))
