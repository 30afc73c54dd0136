-- The reading and the relation say the same.
use Rattle.std.proofs.Common.{◌≡◌, ◌≢◌, ℕ, ◌≤◌, Bool, true, false, List, [], length, map, Some, None, Result, Ok, Err, IfOk, IfErr, refl, sym, ap, ◌∙◌, subst, arith, lt-ltb, ltb-true, le-leb}
use Rattle.std.specs.Prelude.{⊤}
use Rattle.std.proofs.lemmas.Bool.{leb-true}
use Rattle.std.proofs.lemmas.List.{length-map}
use Rattle.std.proofs.lemmas.Slice.Eq.{bytes_eq-Decides}
use Rattle.serde_json.specs.Data.{Data}
use Rattle.goldilocks.specs.declared.Felt.{Felt}
use Rattle.casm_word.specs.Length.{program_word_limit}
use Rattle.json_fields.specs.Values.{json_of, felt_in}
use Rattle.json_fields.specs.Faults.{needed, demand, in_turn}
use Rattle.json_fields.proofs.Steps.{needed_ok, needed_then, demand_then, ok_then, in_turn_ok, in_turn_back}
use Rattle.program_file.specs.declared.faults.ProgramKey.TheVariants as key
use Rattle.program_file.specs.declared.faults.ProgramFault.{ProgramFault}
use Rattle.program_file.specs.declared.faults.ProgramFault.TheVariants as fault
use Rattle.program_file.specs.declared.Program.{Program}
use Rattle.program_file.specs.Listing.{Listing, listing}
use Rattle.program_file.specs.Format.{SpellsProgram, prime_text}
use Rattle.program_file.specs.Reading.{reading, program_in, prime_in, words_in, whole_under, builtins_under, bounded, word_in}
use Rattle.program_file.proofs.BuiltinLists.{builtins_in-names, names-builtins_in}

alone : (before : List Felt) (d : Data) → word_in before d ≡ needed (fault.Felt (length before)) (felt_in d)
unfolding word_in
alone before d = refl

same_length : (texts : List Data) (words : List Felt) → map felt_in texts ≡ map Some words → length texts ≡ length words
same_length texts words e = sym (length-map texts felt_in) ∙ ap length e ∙ length-map words Some

few_words : (texts : List Data) (words : List Felt) → map felt_in texts ≡ map Some words → length texts ≤ program_word_limit → length words ≤ program_word_limit
few_words texts words e h = omega (arith, same_length texts words e)

pub reading-SpellsProgram : (bytes : List ℕ) (p : Listing) → SpellsProgram bytes p → reading bytes ≡ Ok p
unfolding reading program_in prime_in words_in whole_under builtins_under bounded
reading-SpellsProgram bytes p h =
    let few : length h.texts ≤ program_word_limit = omega (arith, same_length h.texts p.words h.words_are, h.program.few_words) in
    let words : in_turn word_in [] h.texts ≡ Ok p.words = in_turn_back word_in fault.Felt felt_in alone [] h.texts p.words h.words_are in
    rw (
      h.is_json,
      h.prime_is,
      h.data_is,
      le-leb (length h.texts) program_word_limit few,
      words,
      h.start_is,
      h.end_is,
      h.builtins_are,
      builtins_in-names p.builtins,
      lt-ltb p.start (length p.words) h.program.start_inside,
      lt-ltb p.end (length p.words) h.program.end_inside,
    )

ok_value : {A F : Type 0} (a b : A) → ◌≡◌ {A = Result A F} (Ok a) (Ok b) → a ≡ b
ok_value a b e = cc

passed : {F : Type 0} (f : F) (b : Bool) (u : ⊤) → demand f b ≡ Ok u → b ≡ true
passed f true u e = refl
passed f false u e = absurd (cc)

pub SpellsProgram-reading : (bytes : List ℕ) (p : Listing) → reading bytes ≡ Ok p → SpellsProgram bytes p
unfolding reading program_in prime_in words_in whole_under builtins_under bounded
SpellsProgram-reading bytes p e =
    let top = needed_then _ _ _ _ e in
    let prime_line = ok_then (prime_in top.0) _ _ top.2 in
    let prime = needed_then _ _ _ _ prime_line.1 in
    let words_line = ok_then (words_in top.0) _ _ prime_line.2 in
    let texts = needed_then _ _ _ _ words_line.1 in
    let few = demand_then _ _ _ _ texts.2 in
    let start = ok_then (whole_under key.Start top.0) _ _ words_line.2 in
    let end = ok_then (whole_under key.End top.0) _ _ start.2 in
    let builtins_line = ok_then (builtins_under top.0) _ _ end.2 in
    let names = needed_then _ _ _ _ builtins_line.1 in
    let start_low = demand_then _ _ _ _ builtins_line.2 in
    let end_low = demand_then _ _ _ _ start_low.1 in
    let read = in_turn_ok word_in fault.Felt felt_in alone [] texts.0 words_line.0 few.1 in
    let these : words_line.0 ≡ read.0 = read.1 in
    let words_are : map felt_in texts.0 ≡ map Some words_line.0 = read.2 ∙ ap (map Some) (sym these) in
    let small : length texts.0 ≤ program_word_limit = leb-true _ _ few.0 in
    let found : Listing = record { words = words_line.0; start = start.0; end = end.0; builtins = builtins_line.0 } in
    let spelled : SpellsProgram bytes found = record {
      top = top.0;
      is_json = top.1;
      prime_is = prime.1 ∙ ap Some ((bytes_eq-Decides prime.0 prime_text).0 (passed _ _ _ prime.2));
      texts = texts.0;
      data_is = texts.1;
      words_are = words_are;
      start_is = needed_ok _ _ _ start.1;
      end_is = needed_ok _ _ _ end.1;
      builtins_are = names.1 ∙ ap Some (names-builtins_in names.0 builtins_line.0 (needed_ok _ _ _ names.2));
      program = record {
        few_words = few_words texts.0 words_line.0 words_are small;
        start_inside = ltb-true _ _ start_low.0;
        end_inside = ltb-true _ _ end_low.0;
      };
    } in
    subst (SpellsProgram bytes) (ok_value found p end_low.1) spelled

pub one_program : (bytes : List ℕ) (p q : Listing) → SpellsProgram bytes p → SpellsProgram bytes q → p ≡ q
one_program bytes p q h k = ok_value p q (sym (reading-SpellsProgram bytes p h) ∙ reading-SpellsProgram bytes q k)

-- ---- what reading answers

pub reading-no_json : (bytes : List ℕ) → None ≡ json_of bytes → reading bytes ≡ Err fault.Json
unfolding reading
reading-no_json bytes e = rw (← e) refl

reading-program_in : (bytes : List ℕ) (top : Data) → Some top ≡ json_of bytes → reading bytes ≡ program_in top
unfolding reading
reading-program_in bytes top e = rw (← e) refl

pub told : (bytes : List ℕ) (top : Data) (r : Result Program ProgramFault) → Some top ≡ json_of bytes → IfOk r (λ p. program_in top ≡ Ok (listing p)) → IfOk r (λ p. reading bytes ≡ Ok (listing p))
told bytes top (Ok p) e h = reading-program_in bytes top e ∙ h
told bytes top (Err f) e h = tt

pub refused : (bytes : List ℕ) (top : Data) (r : Result Program ProgramFault) → Some top ≡ json_of bytes → IfErr r (λ f. f ≢ fault.Memory → program_in top ≡ Err f) → IfErr r (λ f. f ≢ fault.Memory → reading bytes ≡ Err f)
refused bytes top (Ok p) e h = tt
refused bytes top (Err f) e h = λ known. reading-program_in bytes top e ∙ h known

pub answer_spells : (bytes : List ℕ) (r : Result Program ProgramFault) → IfOk r (λ p. reading bytes ≡ Ok (listing p)) → IfOk r (λ p. SpellsProgram bytes (listing p))
answer_spells bytes (Ok p) h = SpellsProgram-reading bytes (listing p) h
answer_spells bytes (Err f) h = tt

differ : {A F : Type 0} (a : A) (f : F) → ◌≡◌ {A = Result A F} (Ok a) (Err f) → ⊥
differ a f e = cc

pub fault_spells_nothing : (bytes : List ℕ) (f : ProgramFault) → reading bytes ≡ Err f → (p : Listing) → SpellsProgram bytes p → ⊥
fault_spells_nothing bytes f e p h = differ p f (sym (reading-SpellsProgram bytes p h) ∙ e)

pub answer_spells_nothing : (bytes : List ℕ) (r : Result Program ProgramFault) → IfErr r (λ f. f ≢ fault.Memory → reading bytes ≡ Err f) → IfErr r (λ f. f ≢ fault.Memory → (p : Listing) → SpellsProgram bytes p → ⊥)
answer_spells_nothing bytes (Ok p) h = tt
answer_spells_nothing bytes (Err f) h = λ known. fault_spells_nothing bytes f (h known)
