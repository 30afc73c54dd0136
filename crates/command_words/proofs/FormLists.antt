-- Forms by their words, and the words before and after a place.
use Rattle.std.proofs.Common.{◌≡◌, ℕ, ◌≤◌, nat_le, Bool, true, false, cond, List, [], ◌∷◌, length, map, take, drop, Option, Some, option_map, String, Global, string_bytes, refl, sym, ap, ◌∙◌, arith}
use Rattle.std.specs.Option.{option_and_then}
use Rattle.std.specs.Str.{bytes_eq}
use Rattle.std.proofs.lemmas.List.{take-map, drop-map, length-map}
use Rattle.std.proofs.lemmas.Bool.{le-leb}
use Rattle.file_port.specs.Files.{Name}
use Rattle.command_words.specs.declared.table.CommandForm.{CommandForm as CodeForm}
use Rattle.command_words.specs.Names.{texts}
use Rattle.command_words.specs.Forms.{Part, CommandForm, form_of}
use Rattle.command_words.specs.Calls.{numbers_among, workers_named, split_workers, call_after, call_in}
use Rattle.std.specs.List.{find, IsSplitAt}

option_map-cond : {X Y : Type 0} (f : X → Y) (b : Bool) (x : X) (rest : Option X) (there : Option Y) → there ≡ option_map f rest → cond b (Some (f x)) there ≡ option_map f (cond b (Some x) rest)
option_map-cond f true x rest there same = refl
option_map-cond f false x rest there same = same

-- the first of a mapped list that passes
pub find-map : {X Y : Type 0} (test : Y → Bool) (f : X → Y) (xs : List X) → find test (map f xs) ≡ option_map f (find (λ x. test (f x)) xs)
find-map test f [] = refl
find-map test f (x ∷ xs) = option_map-cond f (test (f x)) x (find (λ x. test (f x)) xs) (find test (map f xs)) (find-map test f xs)

pub ruleset found_mapped = (find-map)

-- the call of a command whose form was found, or not
pub call-found : (rows : List CodeForm) (command : Name) (words : List Name) (found : Option CodeForm) → found ≡ find (λ form. bytes_eq form.word.now command) rows → call_in (map form_of rows) (command ∷ words) ≡ option_and_then (λ form. call_after form words) (option_map form_of found)
unfolding call_in
call-found rows command words found is =
    ap (option_and_then (λ form. call_after form words)) (find-map (λ form. bytes_eq form.word command) form_of rows ∙ ap (option_map form_of) (sym is))

-- the words before and after so many are the arguments and those that may name workers
pub split-told : (form : CommandForm) (n : ℕ) (words front back : List (String Global)) (workers : Option ℕ) → n ≡ length form.parts → IsSplitAt words n front back → workers ≡ workers_named form.takes_workers (texts back) → split_workers form (texts words) ≡ option_map (λ named. (texts front, named)) workers
unfolding split_workers
split-told form n words front back workers parts at told =
    let enough : n ≤ length (texts words) = rw (length-map words string_bytes) at.0 in
    let fits : nat_le n (length (texts words)) ≡ true = le-leb n (length (texts words)) enough in
    let front_is : take n (texts words) ≡ texts front = take-map string_bytes n words ∙ ap texts (sym at.1) in
    let back_is : drop n (texts words) ≡ texts back = drop-map string_bytes n words ∙ ap texts (sym at.2) in
    rw (← parts, fits, front_is, back_is, ← told) refl

-- no words are left
pub no_words-left : (parts : List Part) (words : List Name) → length words ≡ 0 → numbers_among parts words ≡ Some []
no_words-left [] words none = refl
no_words-left (part ∷ parts) [] none = refl
no_words-left (part ∷ parts) (word ∷ words) none = absurd (omega arith)
