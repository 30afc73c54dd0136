-- The first fault of items, and items that have none.
use Rattle.std.proofs.Common.{◌≡◌, ℕ, ◌<◌, ◌≤◌, List, find, Some, None, sym, ◌∙◌, subst, arith}
use Rattle.std.proofs.lemmas.Option.{none-some}
use Rattle.casm_word.specs.Length.{program_word_limit}
use Rattle.casm_statements.specs.declared.Item.{Item}
use Rattle.casm_text.specs.Meaning.{bodies}
use Rattle.assembler.specs.declared.fault.AsmFault.{AsmFault}
use Rattle.assembler.specs.declared.fault.AsmFault.TheVariants.{Duplicate, TooLong, Unknown, NoEnd, StartOutside, EndOutside, Memory}
use Rattle.assembler.specs.Assembly.{word_count, labels_of, first_given, start_in, end_in, target_place, start_place, end_place}
use Rattle.assembler.specs.Faults.{RepeatsAt, unknown_in, HasAsmFault, rank, HasNoFault, IsFirstFault, TellsFault}
use Rattle.assembler.specs.Views.{TellsFirstRepeat, TellsFirstUnknown, TellsPlace}
use Rattle.assembler.proofs.Unknowns.{names_unknown}

-- items without a fault, by what has to be shown of each
pub record Sound (items : List Item) : Type 0 where
  pub new : (k : ℕ) (i : Item) → RepeatsAt items k i → ⊥
  pub short : word_count (bodies items) ≤ program_word_limit
  pub known : find (names_unknown (labels_of (bodies items))) items ≡ None
  pub has_end : first_given end_in (bodies items) ≡ None → ⊥
  pub start_inside : start_place (bodies items) < word_count (bodies items)
  pub end_inside : end_place (bodies items) < word_count (bodies items)

-- none of the faults below a rank is there
pub none_before : (items : List Item) (n : ℕ) → (0 < n → (k : ℕ) (i : Item) → RepeatsAt items k i → ⊥) → (1 < n → word_count (bodies items) ≤ program_word_limit) → (2 < n → find (names_unknown (labels_of (bodies items))) items ≡ None) → (3 < n → first_given end_in (bodies items) ≡ None → ⊥) → (4 < n → start_place (bodies items) < word_count (bodies items)) → (5 < n → end_place (bodies items) < word_count (bodies items)) → (f : AsmFault) → rank f < n → HasAsmFault items f → ⊥
none_before items n new short known has_end start_inside end_inside (Duplicate line) low h = new low h.at h.item h.repeats
none_before items n new short known has_end start_inside end_inside TooLong low h = let m = short low in omega arith
none_before items n new short known has_end start_inside end_inside (Unknown name line) low h = none-some h.item (sym (known low) ∙ h.found)
none_before items n new short known has_end start_inside end_inside NoEnd low h = has_end low h
none_before items n new short known has_end start_inside end_inside StartOutside low h = let m = start_inside low in omega arith
none_before items n new short known has_end start_inside end_inside EndOutside low h = let m = end_inside low in omega arith
none_before items n new short known has_end start_inside end_inside Memory low h = absurd h

rank-low : (f : AsmFault) → rank f < 7
rank-low (Duplicate line) = omega arith
rank-low TooLong = omega arith
rank-low (Unknown name line) = omega arith
rank-low NoEnd = omega arith
rank-low StartOutside = omega arith
rank-low EndOutside = omega arith
rank-low Memory = omega arith

pub sound_has_none : (items : List Item) → Sound items → HasNoFault items
sound_has_none items s f h =
    none_before items 7 (λ low. s.new) (λ low. s.short) (λ low. s.known) (λ low. s.has_end) (λ low. s.start_inside) (λ low. s.end_inside) f (rank-low f) h

-- what a refusal of each part tells of the whole
pub repeat_told : (items : List Item) (f : AsmFault) → TellsFirstRepeat items f → TellsFault items f
repeat_told items (Duplicate line) h = record { holds = h; first = λ g low. absurd (omega arith) }
repeat_told items TooLong h = absurd h
repeat_told items (Unknown name line) h = absurd h
repeat_told items NoEnd h = absurd h
repeat_told items StartOutside h = absurd h
repeat_told items EndOutside h = absurd h
repeat_told items Memory h = tt

pub length_told : (items : List Item) → ((k : ℕ) (i : Item) → RepeatsAt items k i → ⊥) → program_word_limit < word_count (bodies items) → IsFirstFault items TooLong
length_told items new h = record {
  holds = h;
  first = none_before items 1 (λ low. new) (λ low. absurd (omega arith)) (λ low. absurd (omega arith)) (λ low. absurd (omega arith)) (λ low. absurd (omega arith)) (λ low. absurd (omega arith));
}

pub unknown_told : (items : List Item) (labels : List (List ℕ × ℕ)) (f : AsmFault) → labels ≡ labels_of (bodies items) → ((k : ℕ) (i : Item) → RepeatsAt items k i → ⊥) → word_count (bodies items) ≤ program_word_limit → TellsFirstUnknown labels items f → TellsFault items f
unknown_told items labels (Duplicate line) e new short h = absurd h
unknown_told items labels TooLong e new short h = absurd h
unknown_told items labels (Unknown name line) e new short h = record {
  holds = record {
    item = h.0;
    found = subst (λ (ls : List (List ℕ × ℕ)). find (names_unknown ls) items ≡ Some h.0) e h.1;
    name_is = subst (λ (ls : List (List ℕ × ℕ)). unknown_in ls h.0.body ≡ Some name) e h.2;
    line_is = h.3;
  };
  first = none_before items 2 (λ low. new) (λ low. short) (λ low. absurd (omega arith)) (λ low. absurd (omega arith)) (λ low. absurd (omega arith)) (λ low. absurd (omega arith));
}
unknown_told items labels NoEnd e new short h = absurd h
unknown_told items labels StartOutside e new short h = absurd h
unknown_told items labels EndOutside e new short h = absurd h
unknown_told items labels Memory e new short h = tt

pub place_told : (items : List Item) (labels : List (List ℕ × ℕ)) (count : ℕ) (f : AsmFault) → labels ≡ labels_of (bodies items) → count ≡ word_count (bodies items) → ((k : ℕ) (i : Item) → RepeatsAt items k i → ⊥) → word_count (bodies items) ≤ program_word_limit → find (names_unknown labels) items ≡ None → TellsPlace labels items count f → TellsFault items f
place_told items labels count (Duplicate line) e c new short known h = absurd h
place_told items labels count TooLong e c new short known h = absurd h
place_told items labels count (Unknown name line) e c new short known h = absurd h
place_told items labels count NoEnd e c new short known h = record {
  holds = h;
  first = none_before items 3 (λ low. new) (λ low. short) (λ low. subst (λ (ls : List (List ℕ × ℕ)). find (names_unknown ls) items ≡ None) e known) (λ low. absurd (omega arith)) (λ low. absurd (omega arith)) (λ low. absurd (omega arith));
}
place_told items labels count StartOutside e c new short known h =
    let place = subst (λ (ls : List (List ℕ × ℕ)). count ≤ target_place ls (first_given start_in (bodies items))) e h.1 in
    record {
      holds = omega arith;
      first = none_before items 4 (λ low. new) (λ low. short) (λ low. subst (λ (ls : List (List ℕ × ℕ)). find (names_unknown ls) items ≡ None) e known) (λ low. h.0) (λ low. absurd (omega arith)) (λ low. absurd (omega arith));
    }
place_told items labels count EndOutside e c new short known h =
    let start = subst (λ (ls : List (List ℕ × ℕ)). target_place ls (first_given start_in (bodies items)) < count) e h.1 in
    let place = subst (λ (ls : List (List ℕ × ℕ)). count ≤ target_place ls (first_given end_in (bodies items))) e h.2 in
    record {
      holds = omega arith;
      first = none_before items 5 (λ low. new) (λ low. short) (λ low. subst (λ (ls : List (List ℕ × ℕ)). find (names_unknown ls) items ≡ None) e known) (λ low. h.0) (λ low. omega arith) (λ low. absurd (omega arith));
    }
place_told items labels count Memory e c new short known h = absurd h
