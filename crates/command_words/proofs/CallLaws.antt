-- What words ask for is what they keep the form of.
use Rattle.std.proofs.Common.{◌≡◌, ◌≢◌, ℕ, ◌<◌, ◌≤◌, ◌^◌, nat_le, Bool, true, false, cond, ◌&&◌, List, [], ◌∷◌, ◌++◌, length, take, drop, Option, Some, None, option_map, refl, sym, ap, ◌∙◌, arith, subst}
use Rattle.std.specs.Prelude.{codes}
use Rattle.std.specs.Prelude.{slice_index_or}
use Rattle.std.specs.List.{find}
use Rattle.std.specs.Option.{option_and_then}
use Rattle.std.specs.Str.{bytes_eq}
use Rattle.std.proofs.Common.{lit<, zero, suc}
use Rattle.std.proofs.Math.Seq.{take-append_seam, drop-append_seam}
use Rattle.std.proofs.lemmas.List.{length-append, length-take-le, take-append-drop, append-nil}
use Rattle.std.proofs.lemmas.Bool.{and_parts, leb-true, le-leb}
use Rattle.std.proofs.lemmas.Slice.Eq.{bytes_eq-Decides}
use Rattle.file_port.specs.Files.{Name}
use Rattle.command_words.specs.Forms.{Part, Input, Output, Number, CommandForm, forms}
use Rattle.command_words.specs.Numbers.{IsNumber, number_in, worker_limit}
use Rattle.command_words.specs.Calls.{Call, inputs_among, outputs_among, AreNumbers, numbers_among, NameWorkers, workers_named, split_workers, call_made, call_with, call_after, KeepsForm, form_named, call_in, asked, AskFor}
use Rattle.command_words.specs.Names.{are_names}
use Rattle.command_words.proofs.NumberWords.{IsNumber-from_some, some-from_IsNumber, none-from_never}

-- ---- what comes of a test and of a step that may fail

-- what passed a test
pub passed : {X : Type 0} (b : Bool) (kept : Option X) (x : X) → cond b kept None ≡ Some x → (b ≡ true) × (kept ≡ Some x)
passed true kept x some = (refl, some)
passed false kept x some = cc

-- what was mapped
pub mapped : {X Y : Type 0} (f : X → Y) (found : Option X) (y : Y) → option_map f found ≡ Some y → (x : X) × (found ≡ Some x) × (f x ≡ y)
mapped f None y some = cc
mapped f (Some x) y some = (x, refl, cc)

-- what was found first, and then
pub stepped : {X Y : Type 0} (f : X → Option Y) (found : Option X) (y : Y) → option_and_then f found ≡ Some y → (x : X) × (found ≡ Some x) × (f x ≡ Some y)
stepped f None y some = cc
stepped f (Some x) y some = (x, refl, some)

-- ---- the numbers among the words

-- the bounds of the numbers are below 2^64
abbrev pub FitBounds : List Part → Type 0
FitBounds [] = Unit {0}
FitBounds (Input shown ∷ parts) = FitBounds parts
FitBounds (Output shown ∷ parts) = FitBounds parts
FitBounds (Number shown least most ∷ parts) = (most < 2 ^ 64) × FitBounds parts

numbers-kept : (shown : List ℕ) (least most : ℕ) (parts : List Part) (word : Name) (words : List Name) (numbers : List ℕ) → numbers_among (Number shown least most ∷ parts) (word ∷ words) ≡ Some numbers → ((later : List ℕ) → numbers_among parts words ≡ Some later → AreNumbers parts words later) → AreNumbers (Number shown least most ∷ parts) (word ∷ words) numbers
numbers-kept shown least most parts word words numbers some later_are =
    let first = stepped (λ number. option_map (λ later. number ∷ later) (numbers_among parts words)) (number_in least most word) numbers some in
    let later = mapped (λ later. first.0 ∷ later) (numbers_among parts words) numbers first.2 in
    let are : AreNumbers (Number shown least most ∷ parts) (word ∷ words) (first.0 ∷ later.0) =
    (IsNumber-from_some least most word first.0 first.1, later_are later.0 later.1) in
    subst (AreNumbers (Number shown least most ∷ parts) (word ∷ words)) later.2 are

-- numbers that are told stand there
pub AreNumbers-told : (parts : List Part) (words : List Name) (numbers : List ℕ) → numbers_among parts words ≡ Some numbers → AreNumbers parts words numbers
AreNumbers-told [] words numbers some = cc
AreNumbers-told (part ∷ parts) [] numbers some = cc
AreNumbers-told (Input shown ∷ parts) (word ∷ words) numbers some = AreNumbers-told parts words numbers some
AreNumbers-told (Output shown ∷ parts) (word ∷ words) numbers some = AreNumbers-told parts words numbers some
AreNumbers-told (Number shown least most ∷ parts) (word ∷ words) numbers some =
    numbers-kept shown least most parts word words numbers some (λ later told. AreNumbers-told parts words later told)

-- numbers that stand there are told
pub told-AreNumbers : (parts : List Part) (words : List Name) (numbers : List ℕ) → FitBounds parts → AreNumbers parts words numbers → numbers_among parts words ≡ Some numbers
told-AreNumbers [] words numbers fit are = ap Some (sym are)
told-AreNumbers (part ∷ parts) [] numbers fit are = ap Some (sym are)
told-AreNumbers (Input shown ∷ parts) (word ∷ words) numbers fit are = told-AreNumbers parts words numbers fit are
told-AreNumbers (Output shown ∷ parts) (word ∷ words) numbers fit are = told-AreNumbers parts words numbers fit are
told-AreNumbers (Number shown least most ∷ parts) (word ∷ words) [] fit are = absurd are
told-AreNumbers (Number shown least most ∷ parts) (word ∷ words) (number ∷ numbers) fit are =
    rw (some-from_IsNumber least most word number fit.0 are.0, told-AreNumbers parts words numbers fit.1 are.1) refl

-- ---- the words that may stand last

not_true : (b : Bool) → (b ≡ true → ⊥) → b ≡ false
not_true true never = absurd (never refl)
not_true false never = refl

bytes_eq-other : (text other : List ℕ) → text ≢ other → bytes_eq text other ≡ false
bytes_eq-other text other differs =
    not_true (bytes_eq text other) (λ same. differs ((bytes_eq-Decides text other).0 same))

is_option : (option : Name) → option ≡ codes "--workers" → bytes_eq option (codes "--workers") ≡ true
is_option option same = (bytes_eq-Decides option (codes "--workers")).1 same

-- workers that are told are named there
pub NameWorkers-told : (form : CommandForm) (last : List Name) (workers : ℕ) → workers_named form.takes_workers last ≡ Some workers → NameWorkers form last workers
NameWorkers-told form [] workers some = cc
NameWorkers-told form (option ∷ []) workers some = cc
NameWorkers-told form (option ∷ number ∷ []) workers some =
    let kept = passed (form.takes_workers && bytes_eq option (codes "--workers")) (number_in 1 worker_limit number) workers some in
    let parts = and_parts _ _ kept.0 in
    (parts.0, (bytes_eq-Decides option (codes "--workers")).0 parts.1, IsNumber-from_some 1 worker_limit number workers kept.1)
NameWorkers-told form (option ∷ number ∷ other ∷ more) workers some = cc

-- and those that are named are told
pub told-NameWorkers : (form : CommandForm) (last : List Name) (workers : ℕ) → NameWorkers form last workers → workers_named form.takes_workers last ≡ Some workers
told-NameWorkers form [] workers named = ap Some (sym named)
told-NameWorkers form (option ∷ []) workers named = absurd named
told-NameWorkers form (option ∷ number ∷ []) workers named =
    rw (named.0, is_option option named.1, some-from_IsNumber 1 worker_limit number workers (lit< tt) named.2) refl
told-NameWorkers form (option ∷ number ∷ other ∷ more) workers named = absurd named

-- ---- the arguments before them

-- the words that stand last, and the arguments before them
pub record Split (form : CommandForm) (words arguments : List Name) (workers : ℕ) : Type 0 where
  pub last : List Name
  pub written : words ≡ arguments ++ last
  pub count : length arguments ≡ length form.parts
  pub named : NameWorkers form last workers

pub Split-told : (form : CommandForm) (words arguments : List Name) (workers : ℕ) → split_workers form words ≡ Some (arguments, workers) → Split form words arguments workers
unfolding split_workers
Split-told form words arguments workers some =
    let n : ℕ = length form.parts in
    let fits = passed (nat_le n (length words)) (option_map (λ named. (take n words, named)) (workers_named form.takes_workers (drop n words))) (arguments, workers) some in
    let told = mapped (λ named. (take n words, named)) (workers_named form.takes_workers (drop n words)) (arguments, workers) fits.1 in
    let front : take n words ≡ arguments = ap (λ (split : List Name × ℕ). split.0) told.2 in
    let count : told.0 ≡ workers = ap (λ (split : List Name × ℕ). split.1) told.2 in
    record {
      last = drop n words;
      written = sym (take-append-drop n words) ∙ ap (λ first. first ++ drop n words) front;
      count = ap length (sym front) ∙ length-take-le n words (leb-true n (length words) fits.0);
      named = NameWorkers-told form (drop n words) workers (told.1 ∙ ap Some count);
    }

-- how words split whose arguments are these
pub split_at : (form : CommandForm) (arguments last : List Name) → length arguments ≡ length form.parts → split_workers form (arguments ++ last) ≡ option_map (λ named. (arguments, named)) (workers_named form.takes_workers last)
unfolding split_workers
split_at form arguments last count =
    let enough : length arguments ≤ length (arguments ++ last) = omega (arith, length-append arguments last) in
    rw (← count, le-leb (length arguments) (length (arguments ++ last)) enough, take-append_seam arguments last, drop-append_seam arguments last) refl

pub told-Split : (form : CommandForm) (words arguments : List Name) (workers : ℕ) → Split form words arguments workers → split_workers form words ≡ Some (arguments, workers)
told-Split form words arguments workers split =
    ap (split_workers form) split.written ∙ split_at form arguments split.last split.count ∙ rw (told-NameWorkers form split.last workers split.named) refl

-- ---- words with an option and a number after the arguments

module _ (form : CommandForm) (arguments : List Name) (count : length arguments ≡ length form.parts) where
  pub workers_told : (number : Name) (workers : ℕ) → form.takes_workers ≡ true → IsNumber 1 worker_limit number workers → split_workers form (arguments ++ codes "--workers" ∷ number ∷ []) ≡ Some (arguments, workers)
  workers_told number workers takes is =
      split_at form arguments (codes "--workers" ∷ number ∷ []) count
      ∙ ap (option_map _) (told-NameWorkers form (codes "--workers" ∷ number ∷ []) workers (takes, refl, is))

  pub workers_untold : (number : Name) → ((workers : ℕ) → IsNumber 1 worker_limit number workers → ⊥) → split_workers form (arguments ++ codes "--workers" ∷ number ∷ []) ≡ None
  workers_untold number never =
      split_at form arguments (codes "--workers" ∷ number ∷ []) count
      ∙ ap (option_map _) (either form.takes_workers)
    where
      either : (takes : Bool) → workers_named takes (codes "--workers" ∷ number ∷ []) ≡ None
      either true = none-from_never 1 worker_limit number never
      either false = refl

  pub no_option : (word number : Name) → word ≢ codes "--workers" → split_workers form (arguments ++ word ∷ number ∷ []) ≡ None
  no_option word number other =
      split_at form arguments (word ∷ number ∷ []) count
      ∙ ap (option_map _) (either form.takes_workers)
    where
      either : (takes : Bool) → workers_named takes (word ∷ number ∷ []) ≡ None
      either true = rw (bytes_eq-other word (codes "--workers") other) refl
      either false = refl

  pub takes_none : (word number : Name) → form.takes_workers ≡ false → split_workers form (arguments ++ word ∷ number ∷ []) ≡ None
  takes_none word number none =
      split_at form arguments (word ∷ number ∷ []) count ∙ rw none refl

  pub one_worker : split_workers form arguments ≡ Some (arguments, 1)
  one_worker = ap (split_workers form) (sym (append-nil arguments)) ∙ split_at form arguments [] count

-- ---- what words ask for

pub KeepsForm-told : (form : CommandForm) (words : List Name) (call : Call) → call_after form words ≡ Some call → KeepsForm form (form.word ∷ words) call
unfolding call_after
KeepsForm-told form words call some =
    let split = stepped (call_with form) (split_workers form words) call some in
    let arguments : List Name = split.0.0 in
    let workers : ℕ = split.0.1 in
    let kept = passed (are_names (inputs_among form.parts arguments) (outputs_among form.parts arguments)) (option_map (call_made form arguments workers) (numbers_among form.parts arguments)) call split.2 in
    let found = mapped (call_made form arguments workers) (numbers_among form.parts arguments) call kept.1 in
    let splits : Split form words arguments workers = Split-told form words arguments workers split.1 in
    record {
      arguments = arguments;
      last = splits.last;
      numbers = found.0;
      workers = workers;
      written = ap (λ rest. form.word ∷ rest) splits.written;
      count = splits.count;
      names = kept.0;
      are_numbers = AreNumbers-told form.parts arguments found.0 found.1;
      are_workers = splits.named;
      asks = sym found.2;
    }

pub told-KeepsForm : (form : CommandForm) (words : List Name) (call : Call) → FitBounds form.parts → (kept : KeepsForm form words call) → call_after form (kept.arguments ++ kept.last) ≡ Some call
unfolding call_after
told-KeepsForm form words call fit kept =
    let split : split_workers form (kept.arguments ++ kept.last) ≡ Some (kept.arguments, kept.workers) =
    told-Split form (kept.arguments ++ kept.last) kept.arguments kept.workers (record { last = kept.last; written = refl; count = kept.count; named = kept.are_workers }) in
    rw (split, kept.names, told-AreNumbers form.parts kept.arguments kept.numbers fit kept.are_numbers, ← kept.asks) refl

-- ---- the table

-- an element stands in a list, and passes
abbrev pub Passes : {X : Type 0} → (X → Bool) → List X → X → Type 0
Passes test xs x = (k : ℕ) × (k < length xs) × (slice_index_or xs k x ≡ x) × (test x ≡ true)

found_or : {X : Type 0} (test : X → Bool) (first : X) (xs : List X) (x : X) (b : Bool) → test first ≡ b → cond b (Some first) (find test xs) ≡ Some x → (find test xs ≡ Some x → Passes test xs x) → Passes test (first ∷ xs) x
found_or test first xs x true passes is later = let same : first ≡ x = cc in (0, omega arith, same, ap test (sym same) ∙ passes)
found_or test first xs x false passes is later =
    let there : Passes test xs x = later is in (suc there.0, omega (arith, there.1), there.2, there.3)

-- what is found of a list stands in it, and passes
found_in : {X : Type 0} (test : X → Bool) (xs : List X) (x : X) → find test xs ≡ Some x → Passes test xs x
found_in test [] x some = cc
found_in test (first ∷ xs) x some = found_or test first xs x (test first) refl some (λ is. found_in test xs x is)

-- a form is found by its word, and its bounds are below 2^64
abbrev pub StandsAlone : CommandForm → Type 0
StandsAlone form = (form_named forms form.word ≡ Some form) × FitBounds form.parts

alone : (k : ℕ) (form : CommandForm) → k < length forms → slice_index_or forms k form ≡ form → StandsAlone form
unfolding forms
alone zero form few is = subst StandsAlone is (refl, tt)
alone (suc zero) form few is = subst StandsAlone is (refl, tt)
alone (suc (suc zero)) form few is = subst StandsAlone is (refl, tt)
alone (suc (suc (suc zero))) form few is = subst StandsAlone is (refl, tt)
alone (suc (suc (suc (suc zero)))) form few is = subst StandsAlone is (refl, tt)
alone (suc (suc (suc (suc (suc zero))))) form few is = subst StandsAlone is (refl, tt)
alone (suc (suc (suc (suc (suc (suc more)))))) form few is = absurd (omega arith)

pub AskFor-told : (words : List Name) (call : Call) → asked words ≡ Some call → AskFor words call
unfolding call_in
AskFor-told [] call some = cc
AskFor-told (command ∷ words) call some =
    let named = stepped (λ form. call_after form words) (form_named forms command) call some in
    let form : CommandForm = named.0 in
    let found = found_in (λ form. bytes_eq form.word command) forms form named.1 in
    let same : form.word ≡ command = (bytes_eq-Decides form.word command).0 found.3 in
    (found.0, form, found.1, found.2, subst (λ (word : Name). KeepsForm form (word ∷ words) call) same (KeepsForm-told form words call named.2))

pub told-AskFor : (words : List Name) (call : Call) → AskFor words call → asked words ≡ Some call
unfolding call_in
told-AskFor words call asks =
    let form : CommandForm = asks.1 in
    let kept : KeepsForm form words call = asks.4 in
    let stands : StandsAlone form = alone asks.0 form asks.2 asks.3 in
    ap asked kept.written ∙ rw stands.0 (told-KeepsForm form words call stands.1 kept)
