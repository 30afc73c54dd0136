-- What was planned and then written is carried out.
use Rattle.std.proofs.Common.{◌≡◌, ◌≤◌, ◌+◌, ℕ, List, [], ◌∷◌, map, Option, Some, None, Result, Ok, Err, IfSome, IfErr, IfOk, refl, sym, ap, ◌∙◌, inl, inr, ◌⊎◌, subst, arith}
use Rattle.std.specs.Option.{option_map}
use Rattle.file_port.specs.Files.{Name, Files}
use Rattle.file_port.specs.Counts.{Counts, Rose}
use Rattle.file_port.specs.Seen.{Seen}
use Rattle.command_frame.specs.declared.ending.Refusal.{Refusal}
use Rattle.command_frame.specs.declared.ending.Refusal.TheVariants.{Usage, Unspelled, OverLimit, Missing, StoreFault, OutOfMemory}
use Rattle.command_frame.specs.declared.ending.Work.{Work}
use Rattle.command_frame.specs.Answer.{Answer, Input, Task, written, reply_to}
use Rattle.command_frame.specs.Status.{IsDecided}
use Rattle.command_frame.specs.Evidence.{Partly, Torn, LeavesOutputs, OneOf, OneName, most_given}
use Rattle.command_frame.specs.Parts.{work_answer, refusal_answer, ending_answer, outputs_in, WorksOut, WritesAll, Uses, Plans, IsStoreFault, IsMissing, BlamesInput, BlamesOutput, WritesOutputs, WritesWork}

abbrev Ending : Type 0
Ending = Result Work Refusal

-- ---- what a call has come to before its line is printed

-- The call has come to what the answer says, with its files written. Own.
pub record EndsAs (answer : Answer) (files : Files) (after : Seen) (result : Result Work Refusal) : Type 0 where
  pub answers : (ending_answer result).status ≡ answer.status
  pub writes : after.files ≡ Some (written answer.writes files)
  pub prints : (ending_answer result).line ≡ answer.line

-- The refusal blames one of the inputs, or one of the outputs where a replace failed. Own.
abbrev pub BlamesFile : List Input → List Name → Seen → Seen → Refusal → Type 0
BlamesFile inputs outputs before after (StoreFault name) =
    OneOf (λ input most. name.now ≡ input.name) 0 inputs
    ⊎ (Rose before.torn after.torn × OneName (λ output. name.now ≡ output) outputs)
BlamesFile inputs outputs before after refusal = BlamesInput inputs before after refusal

-- What a command has come to before its line is printed, and what it leaves by then. Own.
pub record CarriesOut (task : Task) (before after : Seen) (result : Result Work Refusal) : Type 0 where
  pub told : IfSome before.files (λ files. IsDecided (ending_answer result).status → EndsAs (task.answer files) files after result)
  pub left : IfSome before.files (λ files. LeavesOutputs (task.answer files).writes files before after)
  pub faults : Counts before.faults after.faults (IsStoreFault result)
  pub torn : (IsStoreFault result → ⊥) → after.torn ≡ before.torn
  pub absent : Counts before.absent after.absent (IsMissing result)
  pub bounded : after.given ≤ before.given + most_given task.inputs
  pub blames : IfErr result (BlamesFile task.inputs task.outputs before after)

-- The same of a call: words that are an unknown command leave all as it was. Own.
abbrev pub Carries : Option Task → Seen → Seen → Result Work Refusal → Type 0
Carries None before after result = (result ≡ Err Usage) × (after ≡ before)
Carries (Some task) before after result = CarriesOut task before after result

-- what holds of a value with the equation that says so
IfSome-known : {X : Type 0} (o : Option X) (P Q : X → Type 0) → IfSome o P → ((x : X) → o ≡ Some x → P x → Q x) → IfSome o Q
IfSome-known None P Q holds known = tt
IfSome-known (Some x) P Q holds known = known x refl holds

-- what holds of a value that is there
IfSome-at : {X : Type 0} (o : Option X) (P : X → Type 0) (x : X) → o ≡ Some x → IfSome o P → P x
IfSome-at o P x is holds = subst (λ known. IfSome known P) is holds

-- a count that stayed, and then changed
Counts-later : (P : Type 0) (before between after : ℕ) → between ≡ before → Counts between after P → Counts before after P
Counts-later P before between after same counts = subst (λ n. Counts n after P) same counts

-- ---- a refusal of the plan

blames_file : (inputs : List Input) (outputs : List Name) (before after : Seen) (refusal : Refusal) → BlamesInput inputs before after refusal → BlamesFile inputs outputs before after refusal
blames_file inputs outputs before after Usage blames = blames
blames_file inputs outputs before after (Unspelled position text) blames = blames
blames_file inputs outputs before after (OverLimit position) blames = blames
blames_file inputs outputs before after (Missing position) blames = blames
blames_file inputs outputs before after (StoreFault name) blames = inl blames
blames_file inputs outputs before after OutOfMemory blames = blames

writes_nothing : (refusal : Refusal) → (refusal_answer refusal).writes ≡ []
writes_nothing Usage = refl
writes_nothing (Unspelled position text) = refl
writes_nothing (OverLimit position) = refl
writes_nothing (Missing position) = refl
writes_nothing (StoreFault name) = refl
writes_nothing OutOfMemory = refl

none_written : (writes : List (Name × List ℕ)) (files : Files) (left : Option Files) → left ≡ Some files → Partly writes files left
none_written [] files left same = same
none_written (output ∷ more) files left same = inl same

refused_as : (answer : Answer) (files : Files) (before after : Seen) (refusal : Refusal) → before.files ≡ Some files → after.files ≡ before.files → WorksOut (Err refusal) answer → IsDecided (refusal_answer refusal).status → EndsAs answer files after (Err refusal)
refused_as answer files before after refusal held kept told decided =
    let same : answer ≡ refusal_answer refusal = told decided in
    let writes : answer.writes ≡ [] = ap (λ (a : Answer). a.writes) same ∙ writes_nothing refusal in
    record {
      answers = sym (ap (λ (a : Answer). a.status) same);
      writes = kept ∙ (held ∙ ap (λ ws. Some (written ws files)) (sym writes));
      prints = sym (ap (λ (a : Answer). a.line) same);
    }

CarriesOut-refused : (task : Task) (before after : Seen) (refusal : Refusal) → IfSome before.files (λ files. WorksOut (Err refusal) (task.answer files)) → Uses task before after (Err refusal) → CarriesOut task before after (Err refusal)
CarriesOut-refused task before after refusal told uses =
    let reads = uses.reads in
    record {
      told = IfSome-known before.files (λ files. WorksOut (Err refusal) (task.answer files)) _ told (λ files held worked decided.
          refused_as (task.answer files) files before after refusal held reads.files worked decided);
      left = IfSome-known before.files (λ files. WorksOut (Err refusal) (task.answer files)) _ told (λ files held worked.
          inl (none_written (task.answer files).writes files after.files (reads.files ∙ held)));
      faults = reads.faults;
      torn = λ never. reads.torn;
      absent = reads.absent;
      bounded = reads.bounded;
      blames = blames_file task.inputs task.outputs before after refusal reads.blames;
    }

-- ---- work, with its outputs written

not_missing : (outputs : List (Name × List ℕ)) (ending : Ending) → IfErr ending (BlamesOutput outputs) → IsMissing ending → ⊥
not_missing outputs (Ok work) blames is = is
not_missing outputs (Err (Missing position)) blames is = blames
not_missing outputs (Err Usage) blames is = is
not_missing outputs (Err (Unspelled position text)) blames is = is
not_missing outputs (Err (OverLimit position)) blames is = is
not_missing outputs (Err (StoreFault name)) blames is = is
not_missing outputs (Err OutOfMemory) blames is = is

none_named : (outputs : List (Name × List ℕ)) (name : Name) → outputs ≡ [] → OneName (λ output. name ≡ output) (map (λ output. output.0) outputs) → ⊥
none_named outputs name none one =
    subst (λ (ws : List (Name × List ℕ)). OneName (λ output. name ≡ output) (map (λ output. output.0) ws)) none one

one_named : (names : List Name) (answer : Answer) (name : Name) → WritesAll names answer → OneName (λ output. name ≡ output) (map (λ output. output.0) answer.writes) → OneName (λ output. name ≡ output) names
one_named names answer name (inl same) one = subst (OneName (λ output. name ≡ output)) same one
one_named names answer name (inr none) one = absurd (none_named answer.writes name none.0 one)

module _ (task : Task) (before between after : Seen) (work : Work) (uses : Uses task before between (Ok work)) where
  abbrev outputs : List (Name × List ℕ)
  outputs = outputs_in work.outputs.items

  blames_output : (ending : Ending) → WritesOutputs outputs between after ending → IfErr ending (BlamesOutput outputs) → IfErr ending (BlamesFile task.inputs task.outputs before after)
  blames_output (Ok done) writes blames = tt
  blames_output (Err (StoreFault name)) writes blames =
      inr (subst (λ n. Rose n after.torn) uses.reads.torn (writes.torn.rose tt), one_named task.outputs (work_answer work) name.now uses.names blames)
  blames_output (Err OutOfMemory) writes blames = tt
  blames_output (Err Usage) writes blames = absurd blames
  blames_output (Err (Unspelled position text)) writes blames = absurd blames
  blames_output (Err (OverLimit position)) writes blames = absurd blames
  blames_output (Err (Missing position)) writes blames = absurd blames

  ends_as : (files : Files) (ending : Ending) → before.files ≡ Some files → task.answer files ≡ work_answer work → WritesOutputs outputs between after ending → IfOk ending (λ same. same ≡ work) → IfErr ending (BlamesOutput outputs) → IsDecided (ending_answer ending).status → EndsAs (task.answer files) files after ending
  ends_as files (Ok done) held worked writes same blames decided = record {
    answers = ap (λ (w : Work). (work_answer w).status) same ∙ sym (ap (λ (a : Answer). a.status) worked);
    writes = writes.done ∙ ap (option_map (written outputs)) (uses.reads.files ∙ held) ∙ sym (ap (λ (a : Answer). Some (written a.writes files)) worked);
    prints = ap (λ (w : Work). (work_answer w).line) same ∙ sym (ap (λ (a : Answer). a.line) worked);
  }
  ends_as files (Err (StoreFault name)) held worked writes same blames decided = absurd decided
  ends_as files (Err OutOfMemory) held worked writes same blames decided = absurd decided
  ends_as files (Err Usage) held worked writes same blames decided = absurd blames
  ends_as files (Err (Unspelled position text)) held worked writes same blames decided = absurd blames
  ends_as files (Err (OverLimit position)) held worked writes same blames decided = absurd blames
  ends_as files (Err (Missing position)) held worked writes same blames decided = absurd blames

  leaves_outputs : (files : Files) (ending : Ending) → before.files ≡ Some files → task.answer files ≡ work_answer work → WritesOutputs outputs between after ending → LeavesOutputs (task.answer files).writes files before after
  leaves_outputs files ending held worked writes =
      subst (λ n. Partly (task.answer files).writes files after.files ⊎ (Rose n after.torn × Torn (task.answer files).writes files after.files)) uses.reads.torn
      (subst (λ (a : Answer). LeavesOutputs a.writes files between after) (sym worked)
      (IfSome-at between.files (λ known. LeavesOutputs outputs known between after) files (uses.reads.files ∙ held) writes.left))

  CarriesOut-written : IfSome before.files (λ files. WorksOut (Ok work) (task.answer files)) → (ending : Ending) → WritesOutputs outputs between after ending × IfOk ending (λ same. same ≡ work) → CarriesOut task before after ending
  CarriesOut-written told ending written_so =
      let writes = written_so.0 in
      record {
        told = IfSome-known before.files (λ files. WorksOut (Ok work) (task.answer files)) _ told (λ files held worked decided.
            ends_as files ending held worked writes written_so.1 writes.blames decided);
        left = IfSome-known before.files (λ files. WorksOut (Ok work) (task.answer files)) _ told (λ files held worked.
            leaves_outputs files ending held worked writes);
        faults = Counts-later (IsStoreFault ending) before.faults between.faults after.faults (uses.reads.faults.kept (λ is. is)) writes.faults;
        torn = λ never. writes.torn.kept never ∙ uses.reads.torn;
        absent = record {
          later = omega (arith, ap (λ (s : Seen). s.absent) writes.nothing_else, uses.reads.absent.kept (λ is. is));
          rose = λ is. absurd (not_missing outputs ending writes.blames is);
          kept = λ never. ap (λ (s : Seen). s.absent) writes.nothing_else ∙ uses.reads.absent.kept (λ is. is);
        };
        bounded = omega (arith, ap (λ (s : Seen). s.given) writes.nothing_else, uses.reads.bounded);
        blames = blames_output ending writes writes.blames;
      }

-- ---- the parts together

Carries-task : (task : Task) (before between after : Seen) (planned ending : Ending) → IfSome before.files (λ files. WorksOut planned (task.answer files)) → Uses task before between planned → WritesWork planned between after ending → CarriesOut task before after ending
Carries-task task before between after (Ok work) ending told uses writes =
    CarriesOut-written task before between after work uses told ending writes
Carries-task task before between after (Err refusal) ending told uses writes =
    subst (λ (s : Seen). CarriesOut task before s ending) (sym writes.1)
    (subst (CarriesOut task before between) (sym writes.0) (CarriesOut-refused task before between refusal told uses))

Carries-usage : (before between after : Seen) (planned ending : Ending) → planned ≡ Err Usage → between ≡ before → WritesWork planned between after ending → (ending ≡ Err Usage) × (after ≡ before)
Carries-usage before between after planned ending usage same writes =
    let kept = subst (λ (p : Ending). WritesWork p between after ending) usage writes in
    (kept.0, kept.1 ∙ same)

pub Carries-written : (task : Option Task) (before between after : Seen) (planned ending : Ending) → Plans task before between planned → IfSome before.files (λ files. WorksOut planned (reply_to task files)) → WritesWork planned between after ending → Carries task before after ending
Carries-written None before between after planned ending plans told writes =
    Carries-usage before between after planned ending plans.0 plans.1 writes
Carries-written (Some task) before between after planned ending plans told writes =
    Carries-task task before between after planned ending told plans writes
