-- What the parts of a call say together: the evidence of its status, its reply, and what it leaves.
use Rattle.std.proofs.Common.{◌≡◌, ◌≢◌, ℕ, ◌+◌, ◌≤◌, List, [], ◌∷◌, Option, Some, None, Result, Ok, Err, IfSome, IfErr, ◌↔◌, refl, sym, ap, ◌∙◌, inl, inr, ◌⊎◌, subst, string_bytes, arith}
use Rattle.std.specs.Io.KnownBytes.{Appends, Keeps}
use Rattle.file_port.specs.Files.{Name, Files}
use Rattle.file_port.specs.Counts.{Counts}
use Rattle.file_port.specs.Ports.{AppendsPrefix}
use Rattle.file_port.specs.Seen.{Seen, SinkSeen}
use Rattle.command_frame.specs.declared.status.Status.{Status}
use Rattle.command_frame.specs.declared.status.Status.TheVariants as status_is
use Rattle.command_frame.specs.declared.ending.Refusal.{Refusal}
use Rattle.command_frame.specs.declared.ending.Refusal.TheVariants.{Usage, Unspelled, OverLimit, Missing, StoreFault, OutOfMemory}
use Rattle.command_frame.specs.declared.ending.Work.{Work}
use Rattle.command_frame.specs.Answer.{Answer, Input, Task, missing, over_limit, unspelled, store_fault_line, usage as usage_answer, reply_to, inputs_of, outputs_of}
use Rattle.command_frame.specs.Status.{IsDecided}
use Rattle.command_frame.specs.Finishes.{Finishes}
use Rattle.command_frame.specs.Evidence.{piece, OneOf, OneName, PassesLimit, TellsUnspelled, Evidence, Leaves, Replied, TellsStoreFault}
use Rattle.command_frame.proofs.OwnStatus.{IsOwn-status_of}
use Rattle.command_frame.specs.Parts.{ending_answer, IsStoreFault, IsMissing, Prints}
use Rattle.command_frame.proofs.Carried.{BlamesFile, CarriesOut, Carries}

-- ---- one of several

OneOf-map : (P Q : Input → ℕ → Type 0) → ((input : Input) (most : ℕ) → P input most → Q input most) → (inputs : List Input) (earlier : ℕ) → OneOf P earlier inputs → OneOf Q earlier inputs
OneOf-map P Q to [] earlier one = one
OneOf-map P Q to (input ∷ later) earlier (inl here) = inl (to input (earlier + (input.limit + piece)) here)
OneOf-map P Q to (input ∷ later) earlier (inr there) = inr (OneOf-map P Q to later (earlier + (input.limit + piece)) there)

OneName-map : (P Q : Name → Type 0) → ((name : Name) → P name → Q name) → (names : List Name) → OneName P names → OneName Q names
OneName-map P Q to [] one = one
OneName-map P Q to (name ∷ more) (inl here) = inl (to name here)
OneName-map P Q to (name ∷ more) (inr there) = inr (OneName-map P Q to more there)

-- ---- the status of an ending

abbrev Ending : Type 0
Ending = Result Work Refusal

stored : (ending : Ending) → (ending_answer ending).status ≡ status_is.Store → IsStoreFault ending
stored (Ok work) is = absurd ((IsOwn-status_of work.conclusion).not_store (sym is))
stored (Err Usage) is = cc
stored (Err (Unspelled position text)) is = cc
stored (Err (OverLimit position)) is = cc
stored (Err (Missing position)) is = cc
stored (Err (StoreFault name)) is = tt
stored (Err OutOfMemory) is = cc

decided : (ending : Ending) → IsDecided (ending_answer ending).status → IsStoreFault ending → ⊥
decided (Ok work) is fault = fault
decided (Err Usage) is fault = fault
decided (Err (Unspelled position text)) is fault = fault
decided (Err (OverLimit position)) is fault = fault
decided (Err (Missing position)) is fault = fault
decided (Err (StoreFault name)) is fault = is
decided (Err OutOfMemory) is fault = fault

missed : (ending : Ending) → (ending_answer ending).status ≡ status_is.Missing → IsMissing ending
missed (Ok work) is = absurd ((IsOwn-status_of work.conclusion).not_missing (sym is))
missed (Err Usage) is = cc
missed (Err (Unspelled position text)) is = cc
missed (Err (OverLimit position)) is = cc
missed (Err (Missing position)) is = tt
missed (Err (StoreFault name)) is = cc
missed (Err OutOfMemory) is = cc

is_missing : (ending : Ending) → IsMissing ending → (ending_answer ending).status ≡ status_is.Missing
is_missing (Ok work) is = absurd is
is_missing (Err Usage) is = absurd is
is_missing (Err (Unspelled position text)) is = absurd is
is_missing (Err (OverLimit position)) is = absurd is
is_missing (Err (Missing position)) is = refl
is_missing (Err (StoreFault name)) is = absurd is
is_missing (Err OutOfMemory) is = absurd is

settled : (ending : Ending) → (ending_answer ending).status ≢ status_is.Memory → IsDecided (ending_answer ending).status ⊎ ((ending_answer ending).status ≡ status_is.Store)
settled (Ok work) never = inl (IsOwn-status_of work.conclusion).decided
settled (Err Usage) never = inl tt
settled (Err (Unspelled position text)) never = inl tt
settled (Err (OverLimit position)) never = inl tt
settled (Err (Missing position)) never = inl tt
settled (Err (StoreFault name)) never = inr refl
settled (Err OutOfMemory) never = absurd (never refl)

-- a status is decided that is no fault and no want of memory
decided_status : (status : Status) → (status ≡ status_is.Store → ⊥) → (status ≡ status_is.Sink → ⊥) → (status ≡ status_is.Memory → ⊥) → IsDecided status
decided_status status_is.Done store sink memory = tt
decided_status status_is.Refused store sink memory = tt
decided_status status_is.Words store sink memory = tt
decided_status status_is.Input store sink memory = tt
decided_status status_is.Run store sink memory = tt
decided_status status_is.Store store sink memory = absurd (store refl)
decided_status status_is.Sink store sink memory = absurd (sink refl)
decided_status status_is.Memory store sink memory = absurd (memory refl)
decided_status status_is.Limit store sink memory = tt
decided_status status_is.Missing store sink memory = tt

-- what holds of a value with the equation that says so
IfSome-held : {X : Type 0} (o : Option X) (P : X → Type 0) → ((x : X) → o ≡ Some x → P x) → IfSome o P
IfSome-held None P known = tt
IfSome-held (Some x) P known = known x refl

-- what holds of a value that is there
IfSome-at : {X : Type 0} (o : Option X) (P : X → Type 0) (x : X) → o ≡ Some x → IfSome o P → P x
IfSome-at o P x is holds = subst (λ known. IfSome known P) is holds

-- a status that was printed is the one that was planned, with its line
printed : (status : Status) (answer : Answer) (before now : Option (List ℕ)) → Prints status answer before now → status ≢ status_is.Sink → status ≢ status_is.Memory → (status ≡ answer.status) × Appends before now answer.line
printed status_is.Done answer before now prints a b = prints
printed status_is.Refused answer before now prints a b = prints
printed status_is.Words answer before now prints a b = prints
printed status_is.Input answer before now prints a b = prints
printed status_is.Run answer before now prints a b = prints
printed status_is.Store answer before now prints a b = prints
printed status_is.Sink answer before now prints a b = absurd (a refl)
printed status_is.Memory answer before now prints a b = absurd (b refl)
printed status_is.Limit answer before now prints a b = prints
printed status_is.Missing answer before now prints a b = prints

printed_decided : (status : Status) (answer : Answer) (before now : Option (List ℕ)) → Prints status answer before now → IsDecided status → (status ≡ answer.status) × Appends before now answer.line
printed_decided status_is.Done answer before now prints is = prints
printed_decided status_is.Refused answer before now prints is = prints
printed_decided status_is.Words answer before now prints is = prints
printed_decided status_is.Input answer before now prints is = prints
printed_decided status_is.Run answer before now prints is = prints
printed_decided status_is.Store answer before now prints is = absurd is
printed_decided status_is.Sink answer before now prints is = absurd is
printed_decided status_is.Memory answer before now prints is = absurd is
printed_decided status_is.Limit answer before now prints is = prints
printed_decided status_is.Missing answer before now prints is = prints

printed_sink : (status : Status) (answer : Answer) (before now : Option (List ℕ)) → Prints status answer before now → status ≡ status_is.Sink → AppendsPrefix before now answer.line
printed_sink status answer before now prints is = subst (λ s. Prints s answer before now) is prints

printed_memory : (status : Status) (answer : Answer) (before now : Option (List ℕ)) → Prints status answer before now → status ≡ status_is.Memory → Keeps before now
printed_memory status answer before now prints is = subst (λ s. Prints s answer before now) is prints

-- a command never ends as an unknown one
not_words : (inputs : List Input) (outputs : List Name) (before after : Seen) (ending : Ending) → IfErr ending (BlamesFile inputs outputs before after) → (ending_answer ending).status ≡ status_is.Words → ⊥
not_words inputs outputs before after (Ok work) blames is = (IsOwn-status_of work.conclusion).not_words (sym is)
not_words inputs outputs before after (Err Usage) blames is = blames
not_words inputs outputs before after (Err (Unspelled position text)) blames is = cc
not_words inputs outputs before after (Err (OverLimit position)) blames is = cc
not_words inputs outputs before after (Err (Missing position)) blames is = cc
not_words inputs outputs before after (Err (StoreFault name)) blames is = cc
not_words inputs outputs before after (Err OutOfMemory) blames is = cc

-- ---- what a refusal blames, told by the line

module _ (Tells : List ℕ → Type 0) (inputs : List Input) (outputs : List Name) (before after : Seen) where
  tells_fault : (ending : Ending) → IfErr ending (BlamesFile inputs outputs before after) → (ending_answer ending).status ≡ status_is.Store → Tells (ending_answer ending).line → TellsStoreFault Tells inputs outputs before after
  tells_fault (Ok work) blames is tells = absurd ((IsOwn-status_of work.conclusion).not_store (sym is))
  tells_fault (Err Usage) blames is tells = cc
  tells_fault (Err (Unspelled position text)) blames is tells = cc
  tells_fault (Err (OverLimit position)) blames is tells = cc
  tells_fault (Err (Missing position)) blames is tells = cc
  tells_fault (Err OutOfMemory) blames is tells = cc
  tells_fault (Err (StoreFault name)) (inl input) is tells =
      inl (OneOf-map (λ input most. name.now ≡ input.name) _ (λ input most same. subst (λ n. Tells (store_fault_line n)) same tells) inputs 0 input)
  tells_fault (Err (StoreFault name)) (inr output) is tells =
      inr (output.0, OneName-map (λ output. name.now ≡ output) _ (λ output same. subst (λ n. Tells (store_fault_line n)) same tells) outputs output.1)

  tells_missing : (ending : Ending) → IfErr ending (BlamesFile inputs outputs before after) → (ending_answer ending).status ≡ status_is.Missing → Tells (ending_answer ending).line → OneOf (λ input most. Tells (missing input.position).line) 0 inputs
  tells_missing (Ok work) blames is tells = absurd ((IsOwn-status_of work.conclusion).not_missing (sym is))
  tells_missing (Err Usage) blames is tells = cc
  tells_missing (Err (Unspelled position text)) blames is tells = cc
  tells_missing (Err (OverLimit position)) blames is tells = cc
  tells_missing (Err (StoreFault name)) blames is tells = cc
  tells_missing (Err OutOfMemory) blames is tells = cc
  tells_missing (Err (Missing position)) blames is tells =
      OneOf-map (λ input most. position ≡ input.position) _ (λ input most same. subst (λ n. Tells (missing n).line) same tells) inputs 0 blames

  tells_unspelled : (ending : Ending) → IfErr ending (BlamesFile inputs outputs before after) → (ending_answer ending).status ≡ status_is.Input → Tells (ending_answer ending).line → OneOf (λ input most. TellsUnspelled Tells input.position) 0 inputs
  tells_unspelled (Ok work) blames is tells = absurd ((IsOwn-status_of work.conclusion).not_unspelled (sym is))
  tells_unspelled (Err Usage) blames is tells = cc
  tells_unspelled (Err (Missing position)) blames is tells = cc
  tells_unspelled (Err (OverLimit position)) blames is tells = cc
  tells_unspelled (Err (StoreFault name)) blames is tells = cc
  tells_unspelled (Err OutOfMemory) blames is tells = cc
  tells_unspelled (Err (Unspelled position text)) blames is tells =
      OneOf-map (λ input most. position ≡ input.position) (λ input most. TellsUnspelled Tells input.position)
      (λ input most same. (string_bytes text, subst (λ n. Tells (unspelled n (string_bytes text)).line) same tells)) inputs 0 blames

  tells_limit : (ending : Ending) → IfErr ending (BlamesFile inputs outputs before after) → (ending_answer ending).status ≡ status_is.Limit → Tells (ending_answer ending).line → OneOf (λ input most. PassesLimit input before.given after.given × (after.given ≤ before.given + most) × Tells (over_limit input.position).line) 0 inputs
  tells_limit (Ok work) blames is tells = absurd ((IsOwn-status_of work.conclusion).not_limit (sym is))
  tells_limit (Err Usage) blames is tells = cc
  tells_limit (Err (Unspelled position text)) blames is tells = cc
  tells_limit (Err (Missing position)) blames is tells = cc
  tells_limit (Err (StoreFault name)) blames is tells = cc
  tells_limit (Err OutOfMemory) blames is tells = cc
  tells_limit (Err (OverLimit position)) blames is tells =
      OneOf-map (λ input most. (position ≡ input.position) × PassesLimit input before.given after.given × (after.given ≤ before.given + most))
      (λ input most. PassesLimit input before.given after.given × (after.given ≤ before.given + most) × Tells (over_limit input.position).line)
      (λ input most here. (here.1, here.2, subst (λ n. Tells (over_limit n).line) here.0 tells)) inputs 0 blames

-- ---- the evidence

module _ (before after : Seen) (sink_before sink_after : SinkSeen) (status : Status) (ending : Ending) (prints : Prints status (ending_answer ending) sink_before.written sink_after.written) (counts : Counts sink_before.faults sink_after.faults (status ≡ status_is.Sink)) where
  of_status : status ≢ status_is.Sink → status ≢ status_is.Memory → (status ≡ (ending_answer ending).status) × Appends sink_before.written sink_after.written (ending_answer ending).line
  of_status = printed status (ending_answer ending) sink_before.written sink_after.written prints

  of_store : status ≡ status_is.Store → (status ≡ (ending_answer ending).status) × Appends sink_before.written sink_after.written (ending_answer ending).line
  of_store is = of_status (λ e. cc) (λ e. cc)

  of_missing : status ≡ status_is.Missing → (status ≡ (ending_answer ending).status) × Appends sink_before.written sink_after.written (ending_answer ending).line
  of_missing is = of_status (λ e. cc) (λ e. cc)

  of_input : status ≡ status_is.Input → (status ≡ (ending_answer ending).status) × Appends sink_before.written sink_after.written (ending_answer ending).line
  of_input is = of_status (λ e. cc) (λ e. cc)

  of_limit : status ≡ status_is.Limit → (status ≡ (ending_answer ending).status) × Appends sink_before.written sink_after.written (ending_answer ending).line
  of_limit is = of_status (λ e. cc) (λ e. cc)

  decided_ending : IsDecided status → IsDecided (ending_answer ending).status
  decided_ending is = subst IsDecided (printed_decided status (ending_answer ending) sink_before.written sink_after.written prints is).0 is

  Evidence-of_task : (task : Task) → CarriesOut task before after ending → Evidence task.inputs task.outputs before after sink_before sink_after status
  Evidence-of_task task carries = record {
    store_fault = λ is. carries.faults.rose (stored ending (sym (of_store is).0 ∙ is));
    no_store_fault = λ is. carries.faults.kept (decided ending (decided_ending is));
    no_torn_file = λ is. carries.torn (decided ending (decided_ending is));
    store_line = λ is. tells_fault (Appends sink_before.written sink_after.written) task.inputs task.outputs before after ending carries.blames (sym (of_store is).0 ∙ is) (of_store is).1;
    sink_faults = counts;
    missing_name = λ is. carries.absent.rose (missed ending (sym (of_missing is).0 ∙ is));
    none_missing = λ is other. carries.absent.kept (λ gone. other ((printed_decided status (ending_answer ending) sink_before.written sink_after.written prints is).0 ∙ is_missing ending gone));
    missing_line = λ is. tells_missing (Appends sink_before.written sink_after.written) task.inputs task.outputs before after ending carries.blames (sym (of_missing is).0 ∙ is) (of_missing is).1;
    none_missing_at_fault = λ is. carries.absent.kept (λ gone. let both : status_is.Store ≡ status_is.Missing = sym is ∙ ((of_store is).0 ∙ is_missing ending gone) in cc);
    input_line = λ is. tells_unspelled (Appends sink_before.written sink_after.written) task.inputs task.outputs before after ending carries.blames (sym (of_input is).0 ∙ is) (of_input is).1;
    limit = λ is. tells_limit (Appends sink_before.written sink_after.written) task.inputs task.outputs before after ending carries.blames (sym (of_limit is).0 ∙ is) (of_limit is).1;
    bounded = carries.bounded;
    memory_line = printed_memory status (ending_answer ending) sink_before.written sink_after.written prints;
  }

  Replied-of_task : (task : Task) (files : Files) → CarriesOut task before after ending → before.files ≡ Some files → IsDecided status → Replied (task.answer files) files status after sink_before sink_after
  Replied-of_task task files carries held is =
      let planned = printed_decided status (ending_answer ending) sink_before.written sink_after.written prints is in
      let ends = IfSome-at before.files _ files held carries.told (decided_ending is) in
      record {
        answers = planned.0 ∙ ends.answers;
        writes = ends.writes;
        prints = subst (Appends sink_before.written sink_after.written) ends.prints planned.1;
      }

  module _ (silent : (ending_answer ending).status ≡ status_is.Memory → status ≡ status_is.Memory) where
    fault_or_decided : status ≡ status_is.Sink → IsDecided (ending_answer ending).status ⊎ ((ending_answer ending).status ≡ status_is.Store)
    fault_or_decided is = settled ending (λ none. let both : status_is.Sink ≡ status_is.Memory = sym is ∙ silent none in cc)

    Leaves-of_task : (task : Task) (files : Files) → CarriesOut task before after ending → before.files ≡ Some files → Leaves (task.answer files) files task.inputs task.outputs before after sink_before sink_after status
    Leaves-of_task task files carries held =
        let ends = IfSome-at before.files _ files held carries.told in
        record {
          partly = IfSome-at before.files _ files held carries.left;
          sink_files = λ is. elim (fault_or_decided is) [
            | inl sure ↦ inr (ends sure).writes
            | inr fault ↦ inl (carries.faults.rose (stored ending fault))
          ];
          sink_line = λ is. let prefix = printed_sink status (ending_answer ending) sink_before.written sink_after.written prints is in
              elim (fault_or_decided is) [
                | inl sure ↦ inl (subst (AppendsPrefix sink_before.written sink_after.written) (ends sure).prints prefix)
                | inr fault ↦ inr (carries.faults.rose (stored ending fault), tells_fault (AppendsPrefix sink_before.written sink_after.written) task.inputs task.outputs before after ending carries.blames fault prefix)
              ];
        }

  -- words that are an unknown command
  module _ (usage : ending ≡ Err Usage) (same : after ≡ before) where
    unknown : (other : Status) → status ≡ other → other ≢ status_is.Sink → other ≢ status_is.Memory → other ≢ status_is.Words → ⊥
    unknown other is a b c =
        let words : status ≡ status_is.Words = (of_status (λ e. a (sym is ∙ e)) (λ e. b (sym is ∙ e))).0 ∙ ap (λ e. (ending_answer e).status) usage in
        c (sym is ∙ words)

    Evidence-of_usage : Evidence [] [] before after sink_before sink_after status
    Evidence-of_usage = record {
      store_fault = λ is. absurd (unknown status_is.Store is (λ e. cc) (λ e. cc) (λ e. cc));
      no_store_fault = λ is. ap (λ (s : Seen). s.faults) same;
      no_torn_file = λ is. ap (λ (s : Seen). s.torn) same;
      store_line = λ is. absurd (unknown status_is.Store is (λ e. cc) (λ e. cc) (λ e. cc));
      sink_faults = counts;
      missing_name = λ is. absurd (unknown status_is.Missing is (λ e. cc) (λ e. cc) (λ e. cc));
      none_missing = λ is other. ap (λ (s : Seen). s.absent) same;
      missing_line = λ is. absurd (unknown status_is.Missing is (λ e. cc) (λ e. cc) (λ e. cc));
      none_missing_at_fault = λ is. ap (λ (s : Seen). s.absent) same;
      input_line = λ is. absurd (unknown status_is.Input is (λ e. cc) (λ e. cc) (λ e. cc));
      limit = λ is. absurd (unknown status_is.Limit is (λ e. cc) (λ e. cc) (λ e. cc));
      bounded = omega (arith, ap (λ (s : Seen). s.given) same);
      memory_line = printed_memory status (ending_answer ending) sink_before.written sink_after.written prints;
    }

    Leaves-of_usage : (files : Files) → before.files ≡ Some files → Leaves usage_answer files [] [] before after sink_before sink_after status
    Leaves-of_usage files held =
        let kept : after.files ≡ Some files = ap (λ (s : Seen). s.files) same ∙ held in
        record {
          partly = inl kept;
          sink_files = λ is. inr kept;
          sink_line = λ is. inl (subst (λ e. AppendsPrefix sink_before.written sink_after.written (ending_answer e).line) usage (printed_sink status (ending_answer ending) sink_before.written sink_after.written prints is));
        }

    Replied-of_usage : (files : Files) → before.files ≡ Some files → IsDecided status → Replied usage_answer files status after sink_before sink_after
    Replied-of_usage files held is =
        let planned = printed_decided status (ending_answer ending) sink_before.written sink_after.written prints is in
        record {
          answers = planned.0 ∙ ap (λ e. (ending_answer e).status) usage;
          writes = ap (λ (s : Seen). s.files) same ∙ held;
          prints = subst (λ e. Appends sink_before.written sink_after.written (ending_answer e).line) usage planned.1;
        }

  -- ---- of a call

  Evidence-of_call : (task : Option Task) → Carries task before after ending → Evidence (inputs_of task) (outputs_of task) before after sink_before sink_after status
  Evidence-of_call None carries = Evidence-of_usage carries.0 carries.1
  Evidence-of_call (Some task) carries = Evidence-of_task task carries

  Replied-of_call : (task : Option Task) (files : Files) → Carries task before after ending → before.files ≡ Some files → IsDecided status → Replied (reply_to task files) files status after sink_before sink_after
  Replied-of_call None files carries = Replied-of_usage carries.0 carries.1 files
  Replied-of_call (Some task) files carries = Replied-of_task task files carries

  Leaves-of_call : ((ending_answer ending).status ≡ status_is.Memory → status ≡ status_is.Memory) → (task : Option Task) (files : Files) → Carries task before after ending → before.files ≡ Some files → Leaves (reply_to task files) files (inputs_of task) (outputs_of task) before after sink_before sink_after status
  Leaves-of_call silent None files carries = Leaves-of_usage carries.0 carries.1 files
  Leaves-of_call silent (Some task) files carries = Leaves-of_task silent task files carries

  Words-of_call : (task : Option Task) → Carries task before after ending → IsDecided status → (status ≡ status_is.Words) ↔ (task ≡ None)
  Words-of_call None carries is = (
    (λ words. refl),
    (λ none. (printed_decided status (ending_answer ending) sink_before.written sink_after.written prints is).0 ∙ ap (λ (e : Ending). (ending_answer e).status) carries.0),
  )
  Words-of_call (Some task) carries is = (
    (λ words. absurd (not_words task.inputs task.outputs before after ending carries.blames (sym (printed_decided status (ending_answer ending) sink_before.written sink_after.written prints is).0 ∙ words))),
    (λ none. cc),
  )

  Appends-usage : (task : Option Task) → Carries task before after ending → task ≡ None → IsDecided status → Appends sink_before.written sink_after.written usage_answer.line
  Appends-usage None carries none is =
      subst (λ (e : Ending). Appends sink_before.written sink_after.written (ending_answer e).line) carries.0
      (printed_decided status (ending_answer ending) sink_before.written sink_after.written prints is).1
  Appends-usage (Some task) carries none is = cc

  -- what was carried out and printed performs the call
  pub Finishes-carried : ((ending_answer ending).status ≡ status_is.Memory → status ≡ status_is.Memory) → (task : Option Task) → Carries task before after ending → Finishes task before after sink_before sink_after status
  Finishes-carried silent task carries =
      let evidence = Evidence-of_call task carries in
      record {
        replies = IfSome-held before.files _ (λ files held is. Replied-of_call task files carries held is);
        complete = λ none remembered. decided_status status (λ is. none.store (evidence.store_fault is)) (λ is. none.sink (counts.rose is)) remembered;
        words = Words-of_call task carries;
        usage_line = Appends-usage task carries;
        evidence = evidence;
        leaves = IfSome-held before.files _ (λ files held. Leaves-of_call silent task files carries held);
      }
