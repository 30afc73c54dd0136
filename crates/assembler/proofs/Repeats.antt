-- The first item that repeats what was given, one item after another.
use Rattle.std.proofs.Common.{◌≡◌, ℕ, ◌+◌, ◌<◌, ◌≤◌, Bool, true, false, ◌||◌, List, [], ◌∷◌, ◌++◌, length, map, get_or, take, Option, Some, None, is_some, refl, sym, ◌∙◌, ap, subst, arith, inl, inr, slice_get}
use Rattle.std.proofs.lemmas.Bool.{cases_lt, false≢true}
use Rattle.std.proofs.lemmas.List.{take-map, map-append}
use Rattle.std.proofs.lemmas.Option.{slice_get_within, slice_get_read, same_Some}
use Rattle.casm_statements.specs.declared.Body.{Body}
use Rattle.casm_statements.specs.declared.Body.TheVariants as body
use Rattle.casm_statements.specs.declared.Item.{Item}
use Rattle.casm_text.specs.Meaning.{bodies}
use Rattle.assembler.specs.declared.survey.Survey.{Survey}
use Rattle.assembler.specs.declared.fault.AsmFault.{AsmFault}
use Rattle.assembler.specs.declared.fault.AsmFault.TheVariants.{Duplicate, TooLong, Unknown, NoEnd, StartOutside, EndOutside, Memory}
use Rattle.assembler.specs.Assembly.{word_count, label_in, label_at, labels_of, value_in, start_in, end_in, builtins_in}
use Rattle.assembler.specs.Faults.{is_given_again, RepeatsAt}
use Rattle.assembler.specs.Views.{capped, capped_label, Surveys, has_given, TakesUp, TellsRepeat, TellsFirstRepeat}
use Rattle.assembler.proofs.AssemblyLemmas.{word_count-more, labels_of-more, is_given-more, value_in-capped, bodies-more}

-- what is known of the bodies before tells whether a body repeats one
pub has_given-surveyed : (before : List Body) (s : Survey) (b : Body) → Surveys before s → has_given s b ≡ is_given_again before b
has_given-surveyed before s (body.Builtins o r) h = h.builtins_are
has_given-surveyed before s (body.Start t) h = h.start_is
has_given-surveyed before s (body.End t) h = h.end_is
has_given-surveyed before s (body.Label n) h =
    ap (λ (ls : List (List ℕ × ℕ)). is_some (value_in ls n)) h.labels_are ∙ value_in-capped n (labels_of before)
has_given-surveyed before s (body.Stmt t) h = refl
has_given-surveyed before s (body.JumpTo n inc) h = refl
has_given-surveyed before s (body.BranchTo c n inc) h = refl
has_given-surveyed before s (body.CallTo n) h = refl
has_given-surveyed before s (body.Dw v) h = refl

label_at-capped : (place : ℕ) (o : Option (List ℕ)) → label_at (capped place) o ≡ map capped_label (label_at place o)
label_at-capped place None = refl
label_at-capped place (Some n) = refl

-- one body more is known
pub surveys_more : (before : List Body) (s t : Survey) (b : Body) → Surveys before s → TakesUp s b t → Surveys (before ++ b ∷ []) t
surveys_more before s t b h u = record {
  labels_are =
      u.labels_are
      ∙ (ap (λ (ls : List (List ℕ × ℕ)). ls ++ label_at s.words (label_in b)) h.labels_are
      ∙ (ap (λ (n : ℕ). map capped_label (labels_of before) ++ label_at n (label_in b)) h.words_are
      ∙ (ap (λ (ls : List (List ℕ × ℕ)). map capped_label (labels_of before) ++ ls) (label_at-capped (word_count before) (label_in b))
      ∙ (sym (map-append capped_label (labels_of before) (label_at (word_count before) (label_in b)))
      ∙ ap (map capped_label) (sym (labels_of-more before b))))));
  words_are =
      let e = u.words_are in
      let f = h.words_are in
      let g = word_count-more before b in
      omega arith;
  builtins_are = u.builtins_are ∙ (ap (λ (x : Bool). x || is_some (builtins_in b)) h.builtins_are ∙ sym (is_given-more builtins_in before b));
  start_is = u.start_is ∙ (ap (λ (x : Bool). x || is_some (start_in b)) h.start_is ∙ sym (is_given-more start_in before b));
  end_is = u.end_is ∙ (ap (λ (x : Bool). x || is_some (end_in b)) h.end_is ∙ sym (is_given-more end_in before b));
}

-- no item before this one repeats
abbrev pub NoneBefore : List Item → ℕ → Type 0
NoneBefore items n = (k : ℕ) (i : Item) → k < n → RepeatsAt items k i → ⊥

pub none_before-more : (items : List Item) (n : ℕ) (i : Item) → slice_get items n ≡ Some i → is_given_again (take n (bodies items)) i.body ≡ false → NoneBefore items n → NoneBefore items (n + 1)
none_before-more items n i there new none k j h r = elim (cases_lt k n) [
  | inl below ↦ none k j below r
  | inr above ↦
      let e : k ≡ n = omega arith in
      let at : slice_get items n ≡ Some j = subst (λ (m : ℕ). slice_get items m ≡ Some j) e r.there in
      let same : j ≡ i = same_Some j i (sym at ∙ there) in
      let again : is_given_again (take n (bodies items)) j.body ≡ true = subst (λ (m : ℕ). is_given_again (take m (bodies items)) j.body ≡ true) e r.again in
      false≢true (sym new ∙ (ap (λ (x : Item). is_given_again (take n (bodies items)) x.body) (sym same) ∙ again))
]

pub none_at_all : (items : List Item) (n : ℕ) → length items ≤ n → NoneBefore items n → (k : ℕ) (i : Item) → RepeatsAt items k i → ⊥
none_at_all items n h none k i r = let w = slice_get_within items k i r.there in none k i (omega arith) r

-- the first item that isn't taken up tells its line
pub first_repeat : (items : List Item) (n : ℕ) (i : Item) (s : Survey) (f : AsmFault) → slice_get items n ≡ Some i → Surveys (bodies (take n items)) s → NoneBefore items n → TellsRepeat s i f → TellsFirstRepeat items f
first_repeat items n i s (Duplicate line) there h none tells = record {
  at = n;
  item = i;
  repeats = record {
    there = there;
    again = ap (λ (bs : List Body). is_given_again bs i.body) (take-map (λ (x : Item). x.body) n items) ∙ (sym (has_given-surveyed (bodies (take n items)) s i.body h) ∙ tells.0);
  };
  line_is = tells.1;
  first = none;
}
first_repeat items n i s TooLong there h none tells = absurd tells
first_repeat items n i s (Unknown name line) there h none tells = absurd tells
first_repeat items n i s NoEnd there h none tells = absurd tells
first_repeat items n i s StartOutside there h none tells = absurd tells
first_repeat items n i s EndOutside there h none tells = absurd tells
first_repeat items n i s Memory there h none tells = tt

-- one item more, in a loop
pub surveyed_more : (items : List Item) (n : ℕ) (i : Item) (s t : Survey) → n < length items → i ≡ get_or items n i → Surveys (bodies (take n items)) s → TakesUp s i.body t → Surveys (bodies (take (n + 1) items)) t
surveyed_more items n i s t h at so u =
    subst (λ (bs : List Body). Surveys bs t) (sym (bodies-more items n i h at)) (surveys_more (bodies (take n items)) s t i.body so u)

pub none_before-surveyed : (items : List Item) (n : ℕ) (i : Item) (s t : Survey) → n < length items → i ≡ get_or items n i → Surveys (bodies (take n items)) s → TakesUp s i.body t → NoneBefore items n → NoneBefore items (n + 1)
none_before-surveyed items n i s t h at so u none =
    none_before-more items n i (slice_get_read items (length items) n i refl h at)
    (ap (λ (bs : List Body). is_given_again bs i.body) (take-map (λ (x : Item). x.body) n items) ∙ (sym (has_given-surveyed (bodies (take n items)) s i.body so) ∙ u.new)) none
