use Rattle.std.proofs.Common.{◌≡◌, ◌+◌, ◌-◌, ℕ, refl, sym, subst, ap, ◌∙◌, arith}
use Rattle.segments.specs.declared.Value.{Value}
use Rattle.segments.specs.declared.Value.TheVariants.{Num}
use Rattle.segments.proofs.Values.{num_is_number}
use Rattle.segments.specs.Values.{place, number}
use Rattle.segments.specs.Memory.{RunMemory, with_cell}
use Rattle.builtin_segments.specs.Layout.{execution, builtin_count}
use Rattle.builtin_segments.specs.Start.{with_stack}
use Rattle.builtin_segments.specs.Filling.{IsFilled, base_pointers}
use Rattle.builtin_segments.proofs.StartMemory.{first_two, next_place, next_base, last_base}
use Rattle.builtin_segments.proofs.start.fill_stack.Goals as goal

pub loop-index-init : goal.loop-index-init
loop-index-init c =
    let n : c.builtin_count-index-end.result - 0 ≡ builtin_count c.args.builtins = omega (arith, c.builtin_count-index-end.ensures.count) in
    let zero_value : Num (record { number = 0; in_field = c.push-arg-3-1.given.0 }) ≡ number 0 = num_is_number (record { number = 0; in_field = c.push-arg-3-1.given.0 }) 0 refl in
    record {
      filled = c.in_ok-push-2.ensures.filled;
      count = c.in_ok-push-2.ensures.count ∙ c.in_ok-push.ensures.count;
      rest =
          ap (λ (k : ℕ). with_stack 2 (base_pointers 2 k) c.push-2.new.memory) n
          ∙ first_two c.args.memory.now c.push.new.memory c.push-2.new.memory c.args.builtins c.in_ok-push.ensures.placed (c.in_ok-push-2.ensures.placed ∙ ap (λ (v : Value). with_cell c.push.new.memory (place execution 1) v) zero_value);
    }

pub loop-index-preserved : goal.loop-index-preserved
loop-index-preserved c = record {
  filled = subst (λ (k : ℕ). IsFilled c.push-in-loop-index.new.memory k) (next_place c.loop-index.index) c.in_ok-push-3.ensures.filled;
  count = c.in_ok-push-3.ensures.count ∙ c.loop-index.invariant.count;
  rest =
      ap (λ (m : RunMemory). with_stack (2 + (c.loop-index.index + 1)) (base_pointers (2 + (c.loop-index.index + 1)) (c.builtin_count-index-end.result - (c.loop-index.index + 1))) m) c.in_ok-push-3.ensures.placed
      ∙ (sym (next_base c.loop-index.memory c.builtin_count-index-end.result c.loop-index.index (omega arith)) ∙ c.loop-index.invariant.rest);
}

pub returns : goal.returns
returns c = sym (last_base c.loop-index.memory c.builtin_count-index-end.result c.loop-index.index (omega arith)) ∙ c.loop-index.invariant.rest
