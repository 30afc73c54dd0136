-- What the endings of `walk` mean.
use Rattle.std.proofs.Common.{◌≡◌, ℕ, ◌+◌, ◌-◌, List, length, take, Option, Some, None, Ok, refl, sym, ap, ◌∙◌, arith, subst}
use Rattle.std.specs.Io.KnownBytes.{Appends}
use Rattle.std.proofs.lemmas.List.Elements.{All-from_recursion, recursion_from_All}
use Rattle.file_port.specs.Files.{Name, Files}
use Rattle.file_port.specs.Seen.{Seen, SinkSeen}
use Rattle.casm_word.specs.Transition.{Registers, Outcome, outcome}
use Rattle.casm_word.specs.Run.{steps, refused_from, first_refused}
use Rattle.casm_word.proofs.RefusedRuns.{IsStep, AreNext-from_none, none-from_AreNext, IsFirstRefused-from, refused_from-first}
use Rattle.command_frame.specs.declared.status.Status.{Status}
use Rattle.command_frame.specs.declared.status.Status.TheVariants.{Done, Refused}
use Rattle.goldilocks.specs.Cells.{memory_of}
use Rattle.command_frame.specs.Answer.{Answer, says}
use Rattle.command_frame.specs.Formats.{◌>>=◌, read_as}
use Rattle.cairo_commands.specs.RunFiles.{trace_format, memory_format}
use Rattle.command_frame.specs.Evidence.{Replied}
use Rattle.cairo_commands.specs.Commands.Walk.{walked, walk_answer, steps_line, refused_line, SpellsWalk, WalksLegally, WalkIsRefused, WalkMeans}
use Rattle.command_frame.proofs.OwnStatus.{IsOwn, Done_is_own, Refused_is_own}
use Rattle.command_frame.proofs.Readings.{read_ended, then_read}
use Rattle.cairo_commands.proofs.HeldFiles.{trace_is_read, HoldsTrace-from_read, memory_is_read, HoldsMemory-from_read}

-- ---- what `walk` answers

walked_done : (states : List Registers) (refused : Option (ℕ × Outcome)) → (walked states refused).status ≡ Done → refused ≡ None
walked_done states None done = refl
walked_done states (Some refused) done = cc

walked_refused : (states : List Registers) (refused : Option (ℕ × Outcome)) → (walked states refused).status ≡ Refused → (found : ℕ × Outcome) × (refused ≡ Some found)
walked_refused states None ended = cc
walked_refused states (Some found) ended = (found, refl)

module _ (trace memory : Name) (files : Files) where
  -- both files are read where an ending of its own is answered
  reads_both : (status : Status) → IsOwn status → (walk_answer trace memory files).status ≡ status → (both : SpellsWalk trace memory files) × ((walked both.trace.value (first_refused (memory_of both.memory.value) both.trace.value)).status ≡ status)
  unfolding walk_answer
  reads_both status own ended =
      let states = read_ended status own trace_format 1 trace _ files ended in
      let cells = read_ended status own memory_format 2 memory _ files states.2 in (
        record {
          trace = HoldsTrace-from_read trace files states.0 states.1;
          memory = HoldsMemory-from_read memory files cells.0 cells.1;
        },
        cells.2,
      )

  module _ (both : SpellsWalk trace memory files) where
    -- what is answered where both files are read
    walk_answer-read : walk_answer trace memory files ≡ walked both.trace.value (first_refused (memory_of both.memory.value) both.trace.value)
    unfolding walk_answer
    walk_answer-read =
        then_read trace_format 1 trace files both.trace.value (trace_is_read trace files both.trace) (λ states. read_as memory_format 2 memory files >>= λ cells. Ok (walked states (first_refused (memory_of cells) states)))
        ∙ then_read memory_format 2 memory files both.memory.value (memory_is_read memory files both.memory) (λ cells. Ok (walked both.trace.value (first_refused (memory_of cells) both.trace.value)))

  pub walk_answer-legal : (walk : WalksLegally trace memory files) → walk_answer trace memory files ≡ says Done (steps_line (length walk.spelled.trace.value - 1))
  unfolding first_refused
  walk_answer-legal walk =
      let all = recursion_from_All (IsStep (memory_of walk.spelled.memory.value)) (steps walk.spelled.trace.value) walk.legal.each_next in
      walk_answer-read walk.spelled
      ∙ ap (walked walk.spelled.trace.value) (none-from_AreNext (memory_of walk.spelled.memory.value) 0 (steps walk.spelled.trace.value) all)

  walk_answer-refused : (walk : WalkIsRefused trace memory files) → walk_answer trace memory files ≡ says Refused (refused_line walk.step walk.found)
  unfolding first_refused
  walk_answer-refused walk =
      let m = memory_of walk.spelled.memory.value in
      let all = recursion_from_All (IsStep m) (take walk.step (steps walk.spelled.trace.value)) walk.legal_before in
      let place : 0 + walk.step ≡ walk.step = omega arith in
      let first : refused_from m 0 (steps walk.spelled.trace.value) ≡ Some (walk.step, walk.found) =
      refused_from-first m 0 (steps walk.spelled.trace.value) walk.step (walk.from, walk.to) walk.at all walk.not_next
      ∙ (ap (λ n. Some (n, outcome m walk.from)) place ∙ ap (λ o. Some (walk.step, o)) (sym walk.cause)) in
      walk_answer-read walk.spelled ∙ ap (walked walk.spelled.trace.value) first

  WalksLegally-from_done : (walk_answer trace memory files).status ≡ Done → WalksLegally trace memory files
  unfolding first_refused
  WalksLegally-from_done done =
      let both = reads_both Done Done_is_own done in
      let none = walked_done both.0.trace.value (first_refused (memory_of both.0.memory.value) both.0.trace.value) both.1 in
      record {
        spelled = both.0;
        legal = record {
          has_step = both.0.trace.spelled.least;
          each_next = All-from_recursion (IsStep (memory_of both.0.memory.value)) (steps both.0.trace.value) (AreNext-from_none (memory_of both.0.memory.value) 0 (steps both.0.trace.value) none);
        };
      }

  WalkIsRefused-from_refused : (walk_answer trace memory files).status ≡ Refused → WalkIsRefused trace memory files
  unfolding first_refused
  WalkIsRefused-from_refused ended =
      let both = reads_both Refused Refused_is_own ended in
      let m = memory_of both.0.memory.value in
      let found = walked_refused both.0.trace.value (first_refused m both.0.trace.value) both.1 in
      let first = IsFirstRefused-from m 0 (steps both.0.trace.value) found.0.0 found.0.1 found.1 in
      record {
        spelled = both.0;
        step = first.0;
        from = first.2.pair.0;
        to = first.2.pair.1;
        found = found.0.1;
        at = first.2.at;
        legal_before = All-from_recursion (IsStep m) (take first.0 (steps both.0.trace.value)) first.2.before;
        not_next = first.2.refused;
        cause = first.2.cause;
      }

  -- the reply means what is said of `walk`
  pub WalkMeans-from_reply : (status : Status) (after : Seen) (sink_before sink_after : SinkSeen) → Replied (walk_answer trace memory files) files status after sink_before sink_after → WalkMeans trace memory files status sink_before.written sink_after.written
  WalkMeans-from_reply status after sink_before sink_after replied = record {
    legal = (
      (λ done. WalksLegally-from_done (sym replied.answers ∙ done)),
      (λ walk. replied.answers ∙ ap (λ (a : Answer). a.status) (walk_answer-legal walk)),
    );
    legal_line = λ walk. subst (λ (a : Answer). Appends sink_before.written sink_after.written a.line) (walk_answer-legal walk) replied.prints;
    refused = (
      (λ ended. WalkIsRefused-from_refused (sym replied.answers ∙ ended)),
      (λ walk. replied.answers ∙ ap (λ (a : Answer). a.status) (walk_answer-refused walk)),
    );
    refused_line = λ walk. subst (λ (a : Answer). Appends sink_before.written sink_after.written a.line) (walk_answer-refused walk) replied.prints;
  }
