-- What a program is disassembled into is assembled to the program again.
use Rattle.std.proofs.Common.{◌≡◌, ℕ, zero, suc, ◌+◌, ◌<◌, ◌≤◌, Bool, true, false, ◌||◌, List, [], ◌∷◌, ◌++◌, length, take, find, slice_get, Option, Some, None, unwrap_or, refl, sym, ◌∙◌, ap, subst, arith, cond}
use Rattle.std.specs.Bool.{if◌then◌else◌}
use Rattle.std.specs.List.{AllByRecursion}
use Rattle.std.specs.Option.{option_or, option_map}
use Rattle.std.proofs.lemmas.Bool.{false≢true}
use Rattle.std.proofs.lemmas.Option.{slice_get-map, none-some}
use Rattle.goldilocks.specs.declared.Felt.{Felt}
use Rattle.casm_word.specs.Length.{program_word_limit}
use Rattle.casm_statements.specs.declared.Target.TheVariants.{Number}
use Rattle.casm_statements.specs.declared.Body.{Body}
use Rattle.casm_statements.specs.declared.Body.TheVariants as body
use Rattle.casm_statements.specs.declared.Item.{Item}
use Rattle.casm_text.specs.Meaning.{item_on, bodies}
use Rattle.assembler.specs.StatementWords.{statement_words}
use Rattle.assembler.specs.Shown.{Shown}
use Rattle.assembler.specs.Assembly.{word_count, labels_from, labels_of, label_named, words_from, words_of, first_given, start_in, end_in, builtins_in, target_place, start_place, end_place, builtins_of}
use Rattle.assembler.specs.Faults.{is_given_again, RepeatsAt}
use Rattle.assembler.specs.Disassembly.{on_lines, Disassembles, AssemblesTo}
use Rattle.assembler.proofs.AssemblyLemmas.{words_from-length}
use Rattle.assembler.proofs.Unknowns.{names_unknown}
use Rattle.assembler.proofs.FirstFaults.{sound_has_none}

-- statements without names, and numbers
abbrev IsShown : Body → Type 0
IsShown (body.Builtins o r) = ⊥
IsShown (body.Start t) = ⊥
IsShown (body.End t) = ⊥
IsShown (body.Label n) = ⊥
IsShown (body.Stmt s) = Unit {0}
IsShown (body.JumpTo n inc) = ⊥
IsShown (body.BranchTo c n inc) = ⊥
IsShown (body.CallTo n) = ⊥
IsShown (body.Dw v) = Unit {0}

all_shown : (words : List Felt) (bs : List Body) → Shown words bs → AllByRecursion IsShown bs
all_shown words [] h = tt
all_shown words (body.Stmt s ∷ bs) h = (tt, all_shown h.0 bs h.2)
all_shown words (body.Dw v ∷ bs) h = (tt, all_shown h.0 bs h.3)
all_shown words (body.Builtins o r ∷ bs) h = absurd h
all_shown words (body.Start t ∷ bs) h = absurd h
all_shown words (body.End t ∷ bs) h = absurd h
all_shown words (body.Label n ∷ bs) h = absurd h
all_shown words (body.JumpTo n inc ∷ bs) h = absurd h
all_shown words (body.BranchTo c n inc ∷ bs) h = absurd h
all_shown words (body.CallTo n ∷ bs) h = absurd h

-- what is shown of words has exactly these words
words_again : (words : List Felt) (labels : List (List ℕ × ℕ)) (place : ℕ) (bs : List Body) → Shown words bs → words_from labels place bs ≡ words
words_again words labels place [] h = sym h
words_again words labels place (body.Stmt s ∷ bs) h =
    ap (λ (ws : List Felt). statement_words s ++ ws) (words_again h.0 labels (place + length (statement_words s)) bs h.2) ∙ sym h.1.parts
words_again words labels place (body.Dw v ∷ bs) h =
    ap (λ (ws : List Felt). v ∷ ws) (words_again h.0 labels (place + 1) bs h.3) ∙ sym h.1
words_again words labels place (body.Builtins o r ∷ bs) h = absurd h
words_again words labels place (body.Start t ∷ bs) h = absurd h
words_again words labels place (body.End t ∷ bs) h = absurd h
words_again words labels place (body.Label n ∷ bs) h = absurd h
words_again words labels place (body.JumpTo n inc ∷ bs) h = absurd h
words_again words labels place (body.BranchTo c n inc ∷ bs) h = absurd h
words_again words labels place (body.CallTo n ∷ bs) h = absurd h

-- it gives no label and no directive, and names no label
labels_none : (place : ℕ) (bs : List Body) → AllByRecursion IsShown bs → labels_from place bs ≡ []
labels_none place [] h = refl
labels_none place (body.Stmt s ∷ bs) h = labels_none (place + length (statement_words s)) bs h.1
labels_none place (body.Dw v ∷ bs) h = labels_none (place + 1) bs h.1
labels_none place (body.Builtins o r ∷ bs) h = absurd h.0
labels_none place (body.Start t ∷ bs) h = absurd h.0
labels_none place (body.End t ∷ bs) h = absurd h.0
labels_none place (body.Label n ∷ bs) h = absurd h.0
labels_none place (body.JumpTo n inc ∷ bs) h = absurd h.0
labels_none place (body.BranchTo c n inc ∷ bs) h = absurd h.0
labels_none place (body.CallTo n ∷ bs) h = absurd h.0

-- a body that is neither a directive nor a label, and names none
record IsQuiet (b : Body) : Type 0 where
  no_start : start_in b ≡ None
  no_end : end_in b ≡ None
  no_builtins : builtins_in b ≡ None
  no_name : label_named b ≡ None
  not_again : (before : List Body) → is_given_again before b ≡ false

quiet : (b : Body) → IsShown b → IsQuiet b
quiet (body.Stmt s) h = record { no_start = refl; no_end = refl; no_builtins = refl; no_name = refl; not_again = λ before. refl }
quiet (body.Dw v) h = record { no_start = refl; no_end = refl; no_builtins = refl; no_name = refl; not_again = λ before. refl }
quiet (body.Builtins o r) h = absurd h
quiet (body.Start t) h = absurd h
quiet (body.End t) h = absurd h
quiet (body.Label n) h = absurd h
quiet (body.JumpTo n inc) h = absurd h
quiet (body.BranchTo c n inc) h = absurd h
quiet (body.CallTo n) h = absurd h

first_none : {A : Type 0} (f : Body → Option A) (bs : List Body) → ((b : Body) → IsShown b → f b ≡ None) → AllByRecursion IsShown bs → first_given f bs ≡ None
first_none f [] none h = refl
first_none {A = A} f (b ∷ bs) none h = ap (λ (o : Option A). option_or o (first_given f bs)) (none b h.0) ∙ first_none f bs none h.1

at_shown : (bs : List Body) (k : ℕ) (b : Body) → AllByRecursion IsShown bs → slice_get bs k ≡ Some b → IsShown b
at_shown [] k b h e = absurd (none-some b e)
at_shown (x ∷ bs) zero b h e = let s : x ≡ b = cc in subst (λ (y : Body). IsShown y) s h.0
at_shown (x ∷ bs) (suc k) b h e = at_shown bs k b h.1 e

names_none : (labels : List (List ℕ × ℕ)) (n : ℕ) (bs : List Body) → AllByRecursion (λ b. label_named b ≡ None) bs → find (names_unknown labels) (on_lines n bs) ≡ None
names_none labels n [] h = refl
names_none labels n (b ∷ bs) h =
    let e : names_unknown labels (item_on n b) ≡ false = rw h.0 refl in
    ap (λ (x : Bool). cond x (Some (item_on n b)) (find (names_unknown labels) (on_lines (n + 1) bs))) e ∙ names_none labels (n + 1) bs h.1

names_shown : (bs : List Body) → AllByRecursion IsShown bs → AllByRecursion (λ b. label_named b ≡ None) bs
names_shown [] h = tt
names_shown (b ∷ bs) h = ((quiet b h.0).no_name, names_shown bs h.1)

pub bodies-on_lines : (n : ℕ) (bs : List Body) → bodies (on_lines n bs) ≡ bs
bodies-on_lines n [] = refl
bodies-on_lines n (b ∷ bs) = ap (λ (cs : List Body). b ∷ cs) (bodies-on_lines (n + 1) bs)

-- the directives and what is shown behind them
module _ (words : List Felt) (s e : ℕ) (o r : Bool) (bs : List Body) (shown : Shown words bs) where
  whole : Bool → List Body
  whole b = ((if b then body.Builtins o r ∷ [] else []) ++ body.Start (Number s) ∷ body.End (Number e) ∷ []) ++ bs

  all : AllByRecursion IsShown bs
  all = all_shown words bs shown

  no_start : first_given start_in bs ≡ None
  no_start = first_none start_in bs (λ b h. (quiet b h).no_start) all

  no_end : first_given end_in bs ≡ None
  no_end = first_none end_in bs (λ b h. (quiet b h).no_end) all

  no_builtins : first_given builtins_in bs ≡ None
  no_builtins = first_none builtins_in bs (λ b h. (quiet b h).no_builtins) all

  whole_words : (labels : List (List ℕ × ℕ)) (b : Bool) → words_from labels 0 (whole b) ≡ words
  unfolding whole
  whole_words labels true = words_again words labels 0 bs shown
  whole_words labels false = words_again words labels 0 bs shown

  whole_labels : (b : Bool) → labels_of (whole b) ≡ []
  unfolding whole
  whole_labels true = labels_none 0 bs all
  whole_labels false = labels_none 0 bs all

  whole_start : (b : Bool) → first_given start_in (whole b) ≡ Some (Number s)
  unfolding whole
  whole_start true = refl
  whole_start false = refl

  whole_end : (b : Bool) → first_given end_in (whole b) ≡ Some (Number e)
  unfolding whole
  whole_end true = refl
  whole_end false = refl

  whole_builtins : (b : Bool) → b ≡ (o || r) → ◌≡◌ {A = Bool × Bool} (builtins_of (whole b)) (o, r)
  unfolding whole
  whole_builtins true h = refl
  whole_builtins false h = ap (λ (x : Option (Bool × Bool)). unwrap_or x (false, false)) no_builtins ∙ neither o r h
    where
      neither : (x y : Bool) → false ≡ (x || y) → ◌≡◌ {A = Bool × Bool} (false, false) (x, y)
      neither false false h = refl
      neither false true h = absurd (false≢true h)
      neither true y h = absurd (false≢true h)

  whole_new : (b : Bool) (k : ℕ) (x : Body) → slice_get (whole b) k ≡ Some x → is_given_again (take k (whole b)) x ≡ false
  unfolding whole
  whole_new true zero x h = let t : body.Builtins o r ≡ x = cc in subst (λ (y : Body). is_given_again [] y ≡ false) t refl
  whole_new true (suc zero) x h = let t : body.Start (Number s) ≡ x = cc in subst (λ (y : Body). is_given_again (body.Builtins o r ∷ []) y ≡ false) t refl
  whole_new true (suc (suc zero)) x h = let t : body.End (Number e) ≡ x = cc in subst (λ (y : Body). is_given_again (body.Builtins o r ∷ body.Start (Number s) ∷ []) y ≡ false) t refl
  whole_new true (suc (suc (suc k))) x h = (quiet x (at_shown bs k x all h)).not_again (body.Builtins o r ∷ body.Start (Number s) ∷ body.End (Number e) ∷ take k bs)
  whole_new false zero x h = let t : body.Start (Number s) ≡ x = cc in subst (λ (y : Body). is_given_again [] y ≡ false) t refl
  whole_new false (suc zero) x h = let t : body.End (Number e) ≡ x = cc in subst (λ (y : Body). is_given_again (body.Start (Number s) ∷ []) y ≡ false) t refl
  whole_new false (suc (suc k)) x h = (quiet x (at_shown bs k x all h)).not_again (body.Start (Number s) ∷ body.End (Number e) ∷ take k bs)

  whole_names : (labels : List (List ℕ × ℕ)) (b : Bool) → find (names_unknown labels) (on_lines 1 (whole b)) ≡ None
  unfolding whole
  whole_names labels true = names_none labels 1 (whole true) (refl, (refl, (refl, names_shown bs all)))
  whole_names labels false = names_none labels 1 (whole false) (refl, (refl, names_shown bs all))

-- no item repeats what was given before it
none_repeats : (items : List Item) (bs : List Body) → bodies items ≡ bs → ((k : ℕ) (x : Body) → slice_get bs k ≡ Some x → is_given_again (take k bs) x ≡ false) → (k : ℕ) (i : Item) → RepeatsAt items k i → ⊥
none_repeats items bs e new k i r =
    let there : slice_get bs k ≡ Some i.body =
    ap (λ (cs : List Body). slice_get cs k) (sym e) ∙ (slice_get-map (λ (x : Item). x.body) items k ∙ ap (option_map (λ (x : Item). x.body)) r.there) in
    let again : is_given_again (take k bs) i.body ≡ true = subst (λ (cs : List Body). is_given_again (take k cs) i.body ≡ true) e r.again in
    false≢true (sym (new k i.body there) ∙ again)

pub restored : (words : List Felt) (s e : ℕ) (o r : Bool) (items : List Item) → length words ≤ program_word_limit → s < length words → e < length words → Disassembles words s e o r items → AssemblesTo words s e o r items
unfolding whole
restored words s e o r items most start_low end_low d =
    let bs = d.statements in
    let b = o || r in
    let all_bodies = whole words s e o r bs d.shown b in
    let same : bodies items ≡ all_bodies = ap bodies d.lines_are ∙ bodies-on_lines 1 all_bodies in
    let labels : labels_of (bodies items) ≡ [] = ap labels_of same ∙ whole_labels words s e o r bs d.shown b in
    let again : words_of (bodies items) ≡ words = ap words_of same ∙ whole_words words s e o r bs d.shown (labels_of all_bodies) b in
    let count : word_count (bodies items) ≡ length words = sym (words_from-length (labels_of (bodies items)) 0 (bodies items)) ∙ ap length again in
    let start : first_given start_in (bodies items) ≡ Some (Number s) = ap (first_given start_in) same ∙ whole_start words s e o r bs d.shown b in
    let end : first_given end_in (bodies items) ≡ Some (Number e) = ap (first_given end_in) same ∙ whole_end words s e o r bs d.shown b in
    let start_is : start_place (bodies items) ≡ s = ap (target_place (labels_of (bodies items))) start in
    let end_is : end_place (bodies items) ≡ e = ap (target_place (labels_of (bodies items))) end in
    record {
      accepted = sound_has_none items (record {
        new = none_repeats items all_bodies same (whole_new words s e o r bs d.shown b);
        short = omega arith;
        known = ap (find (names_unknown (labels_of (bodies items)))) d.lines_are ∙ whole_names words s e o r bs d.shown (labels_of (bodies items)) b;
        has_end = λ none. none-some (Number e) (sym none ∙ end);
        start_inside = omega arith;
        end_inside = omega arith;
      });
      words_are = again;
      labels_are = labels;
      start_is = start_is;
      end_is = end_is;
      builtins_are = ap builtins_of same ∙ whole_builtins words s e o r bs d.shown b refl;
    }
