-- What items are assembled to follows from their first fault.
use Rattle.std.proofs.Common.{◌≡◌, ℕ, zero, suc, ◌<◌, ◌≤◌, ◌⊎◌, inl, inr, Bool, true, false, cond, List, [], ◌∷◌, ◌++◌, take, find, slice_get, Option, Some, None, is_some, is_none, Ok, Err, nat_lt, nat_le, refl, sym, ◌∙◌, ap, subst, arith, append_assoc, append-nil}
use Rattle.std.specs.Bool.{then_some}
use Rattle.std.specs.Option.{option_or, option_map, option_and_then}
use Rattle.std.proofs.lemmas.Bool.{cases_lt, false≢true, ltb-true, ltb-false, leb-true, leb-false}
use Rattle.std.proofs.lemmas.Option.{none-some, same_Some}
use Rattle.goldilocks.specs.declared.Felt.{Felt}
use Rattle.casm_word.specs.Length.{program_word_limit}
use Rattle.casm_statements.specs.declared.Body.{Body}
use Rattle.casm_statements.specs.declared.Item.{Item}
use Rattle.casm_text.specs.Meaning.{bodies}
use Rattle.assembler.specs.declared.Assembled.{Assembled}
use Rattle.assembler.specs.declared.fault.AsmFault.{AsmFault}
use Rattle.assembler.specs.declared.fault.AsmFault.TheVariants.{Duplicate, TooLong, Unknown, NoEnd, StartOutside, EndOutside, Memory}
use Rattle.assembler.specs.Assembly.{word_count, labels_of, words_of, first_given, end_in, start_place, end_place, builtins_of}
use Rattle.assembler.specs.Faults.{is_given_again, RepeatsAt, IsFirstRepeat, unknown_in, IsFirstUnknown, HasAsmFault, rank, HasNoFault, IsFirstFault, TellsFault}
use Rattle.assembler.specs.Assembling.{Assembly, assembly_of, seen_assembly, first_repeat, unknown_fault, first_unknown, first_fault, unless_fault, assembling}
use Rattle.assembler.proofs.Unknowns.{names_unknown}
use Rattle.assembler.proofs.FirstFaults.{none_before, sound_has_none, length_told}

-- no item repeats what is given before it
else_none : {A : Type 0} (b : Bool) (x : A) (o : Option A) → cond b (Some x) o ≡ None → (b ≡ false) × (o ≡ None)
else_none true x o h = absurd (none-some x (sym h))
else_none false x o h = (refl, h)

given_later : (before : List Body) (j i : Item) (others : List Item) (k : ℕ) → is_given_again (before ++ j.body ∷ take k (bodies others)) i.body ≡ true → is_given_again ((before ++ j.body ∷ []) ++ take k (bodies others)) i.body ≡ true
given_later before j i others k again =
    ap (λ (bs : List Body). is_given_again bs i.body) (append_assoc before (j.body ∷ []) (take k (bodies others))) ∙ again

given_now : (before : List Body) (j i : Item) → Some j ≡ Some i → is_given_again (before ++ []) i.body ≡ true → is_given_again before j.body ≡ true
given_now before j i there again =
    ap (λ (x : Item). is_given_again before x.body) (same_Some j i there) ∙ (ap (λ (bs : List Body). is_given_again bs i.body) (sym (append-nil before)) ∙ again)

no_repeat : (before : List Body) (items : List Item) → first_repeat before items ≡ None → (k : ℕ) (i : Item) → slice_get items k ≡ Some i → is_given_again (before ++ take k (bodies items)) i.body ≡ true → ⊥
no_repeat before [] none k i there again = none-some i there
no_repeat before (j ∷ others) none zero i there again =
    let new = else_none (is_given_again before j.body) j.line (first_repeat (before ++ j.body ∷ []) others) none in
    false≢true (sym new.0 ∙ given_now before j i there again)
no_repeat before (j ∷ others) none (suc k) i there again =
    let new = else_none (is_given_again before j.body) j.line (first_repeat (before ++ j.body ∷ []) others) none in
    no_repeat (before ++ j.body ∷ []) others new.1 k i there (given_later before j i others k again)

no_repeats : (items : List Item) → first_repeat [] items ≡ None → (k : ℕ) (i : Item) → RepeatsAt items k i → ⊥
no_repeats items none k i r = no_repeat [] items none k i r.there r.again

-- the first item that repeats what these bodies, or an item before it, give
record RepeatsBehind (before : List Body) (items : List Item) (number : ℕ) : Type 0 where
  at : ℕ
  item : Item
  there : slice_get items at ≡ Some item
  again : is_given_again (before ++ take at (bodies items)) item.body ≡ true
  line_is : item.line ≡ number
  first : (k : ℕ) (i : Item) → k < at → slice_get items k ≡ Some i → is_given_again (before ++ take k (bodies items)) i.body ≡ true → ⊥

none_earlier : (before : List Body) (j : Item) (others : List Item) (at : ℕ) → is_given_again before j.body ≡ false → ((k : ℕ) (i : Item) → k < at → slice_get others k ≡ Some i → is_given_again ((before ++ j.body ∷ []) ++ take k (bodies others)) i.body ≡ true → ⊥) → (k : ℕ) (i : Item) → k < suc at → slice_get (j ∷ others) k ≡ Some i → is_given_again (before ++ take k (bodies (j ∷ others))) i.body ≡ true → ⊥
none_earlier before j others at new first zero i low there again = false≢true (sym new ∙ given_now before j i there again)
none_earlier before j others at new first (suc k) i low there again = first k i (omega arith) there (given_later before j i others k again)

repeat_by : (before : List Body) (j : Item) (others : List Item) (line : ℕ) (b : Bool) → is_given_again before j.body ≡ b → (first_repeat (before ++ j.body ∷ []) others ≡ Some line → RepeatsBehind (before ++ j.body ∷ []) others line) → cond b (Some j.line) (first_repeat (before ++ j.body ∷ []) others) ≡ Some line → RepeatsBehind before (j ∷ others) line
repeat_by before j others line true e next h = record {
  at = 0;
  item = j;
  there = refl;
  again = ap (λ (bs : List Body). is_given_again bs j.body) (append-nil before) ∙ e;
  line_is = same_Some j.line line h;
  first = λ k i low there again. absurd (omega arith);
}
repeat_by before j others line false e next h =
    let r = next h in
    record {
      at = suc r.at;
      item = r.item;
      there = r.there;
      again = ap (λ (bs : List Body). is_given_again bs r.item.body) (sym (append_assoc before (j.body ∷ []) (take r.at (bodies others)))) ∙ r.again;
      line_is = r.line_is;
      first = none_earlier before j others r.at e r.first;
    }

repeat_behind : (before : List Body) (items : List Item) (line : ℕ) → first_repeat before items ≡ Some line → RepeatsBehind before items line
repeat_behind before [] line h = absurd (none-some line h)
repeat_behind before (j ∷ others) line h =
    repeat_by before j others line (is_given_again before j.body) refl (repeat_behind (before ++ j.body ∷ []) others line) h

repeat_found : (items : List Item) (line : ℕ) → first_repeat [] items ≡ Some line → IsFirstRepeat items line
repeat_found items line h =
    let r = repeat_behind [] items line h in
    record {
      at = r.at;
      item = r.item;
      repeats = record { there = r.there; again = r.again };
      line_is = r.line_is;
      first = λ k i low s. r.first k i low s.there s.again;
    }

-- an item that is found passes the test
passes_by : (test : Item → Bool) (j i : Item) (o : Option Item) (b : Bool) → test j ≡ b → (o ≡ Some i → test i ≡ true) → cond b (Some j) o ≡ Some i → test i ≡ true
passes_by test j i o true e next h = ap test (sym (same_Some j i h)) ∙ e
passes_by test j i o false e next h = next h

found_passes : (test : Item → Bool) (items : List Item) (i : Item) → find test items ≡ Some i → test i ≡ true
found_passes test [] i h = absurd (none-some i h)
found_passes test (j ∷ others) i h = passes_by test j i (find test others) (test j) refl (found_passes test others i) h

-- no item names a label that isn't there
map_none : (f : List ℕ → AsmFault) (o : Option (List ℕ)) → is_some o ≡ true → option_map f o ≡ None → ⊥
map_none f None some h = false≢true some
map_none f (Some n) some h = none-some (f n) (sym h)

none_unknown : (labels : List (List ℕ × ℕ)) (o : Option Item) → ((i : Item) → o ≡ Some i → names_unknown labels i ≡ true) → option_and_then (unknown_fault labels) o ≡ None → o ≡ None
none_unknown labels None passes h = refl
none_unknown labels (Some i) passes h = absurd (map_none (λ n. Unknown n i.line) (unknown_in labels i.body) (passes i refl) h)

all_known : (labels : List (List ℕ × ℕ)) (items : List Item) → first_unknown labels items ≡ None → find (names_unknown labels) items ≡ None
all_known labels items h = none_unknown labels (find (names_unknown labels) items) (found_passes (names_unknown labels) items) h

-- the first item that does
record NamesUnknown (labels : List (List ℕ × ℕ)) (o : Option Item) (f : AsmFault) : Type 0 where
  item : Item
  name : List ℕ
  found : o ≡ Some item
  name_is : unknown_in labels item.body ≡ Some name
  same : Unknown name item.line ≡ f

unknown_by : (labels : List (List ℕ × ℕ)) (i : Item) (f : AsmFault) (u : Option (List ℕ)) → unknown_in labels i.body ≡ u → option_map (λ n. Unknown n i.line) u ≡ Some f → NamesUnknown labels (Some i) f
unknown_by labels i f None e h = absurd (none-some f h)
unknown_by labels i f (Some n) e h = record { item = i; name = n; found = refl; name_is = e; same = same_Some (Unknown n i.line) f h }

some_unknown : (labels : List (List ℕ × ℕ)) (o : Option Item) (f : AsmFault) → option_and_then (unknown_fault labels) o ≡ Some f → NamesUnknown labels o f
some_unknown labels None f h = absurd (none-some f h)
some_unknown labels (Some i) f h = unknown_by labels i f (unknown_in labels i.body) refl h

-- a fault that is told where its test passes
then_told : (b : Bool) (f g : AsmFault) → then_some b f ≡ Some g → (b ≡ true) × (f ≡ g)
then_told true f g h = (refl, same_Some f g h)
then_told false f g h = absurd (none-some g h)

then_none : (b : Bool) (f : AsmFault) → then_some b f ≡ None → b ≡ false
then_none true f h = absurd (none-some f (sym h))
then_none false f h = refl

no_target : {A : Type 0} (o : Option A) → is_none o ≡ true → o ≡ None
no_target None h = refl
no_target (Some x) h = absurd (false≢true h)

some_target : {A : Type 0} (o : Option A) → is_none o ≡ false → o ≡ None → ⊥
some_target None h e = false≢true (sym h)
some_target (Some x) h e = none-some x (sym e)

-- what is told of items: their first fault, or that they have none
abbrev IsAnswer : List Item → Option AsmFault → Type 0
IsAnswer items None = HasNoFault items
IsAnswer items (Some f) = IsFirstFault items f

or_answer : (items : List Item) (o rest : Option AsmFault) → ((f : AsmFault) → o ≡ Some f → IsFirstFault items f) → (o ≡ None → IsAnswer items rest) → IsAnswer items (option_or o rest)
or_answer items None rest told none = none refl
or_answer items (Some f) rest told none = told f refl

-- each fault where it is told, as none before it is there
repeat_told : (items : List Item) (r : Option ℕ) → ((line : ℕ) → r ≡ Some line → IsFirstRepeat items line) → (f : AsmFault) → option_map (λ line. Duplicate line) r ≡ Some f → IsFirstFault items f
repeat_told items None found f h = absurd (none-some f h)
repeat_told items (Some line) found f h =
    subst (λ (g : AsmFault). IsFirstFault items g) (same_Some (Duplicate line) f h) (record { holds = found line refl; first = λ g low. absurd (omega arith) })

repeat_none : (r : Option ℕ) → option_map (λ line. Duplicate line) r ≡ None → r ≡ None
repeat_none None h = refl
repeat_none (Some line) h = absurd (none-some (Duplicate line) (sym h))

long_told : (items : List Item) → ((k : ℕ) (i : Item) → RepeatsAt items k i → ⊥) → (f : AsmFault) → then_some (nat_lt program_word_limit (word_count (bodies items))) TooLong ≡ Some f → IsFirstFault items f
long_told items new f h =
    let t = then_told (nat_lt program_word_limit (word_count (bodies items))) TooLong f h in
    subst (λ (g : AsmFault). IsFirstFault items g) t.1 (length_told items new (ltb-true program_word_limit (word_count (bodies items)) t.0))

-- what is known of items where the faults before one are not there
record IsShort (items : List Item) : Type 0 where
  new : (k : ℕ) (i : Item) → RepeatsAt items k i → ⊥
  short : word_count (bodies items) ≤ program_word_limit

record IsKnown (items : List Item) : Type 0 where
  so_far : IsShort items
  known : find (names_unknown (labels_of (bodies items))) items ≡ None

record HasEnd (items : List Item) : Type 0 where
  so_far : IsKnown items
  has_end : first_given end_in (bodies items) ≡ None → ⊥

record StartsInside (items : List Item) : Type 0 where
  so_far : HasEnd items
  inside : start_place (bodies items) < word_count (bodies items)

unknown_told : (items : List Item) → IsShort items → (f : AsmFault) → first_unknown (labels_of (bodies items)) items ≡ Some f → IsFirstFault items f
unknown_told items s f h =
    let u = some_unknown (labels_of (bodies items)) (find (names_unknown (labels_of (bodies items))) items) f h in
    subst (λ (g : AsmFault). IsFirstFault items g) u.same (record {
      holds = record { item = u.item; found = u.found; name_is = u.name_is; line_is = refl };
      first = none_before items 2 (λ low. s.new) (λ low. s.short) (λ low. absurd (omega arith)) (λ low. absurd (omega arith)) (λ low. absurd (omega arith)) (λ low. absurd (omega arith));
    })

no_end_told : (items : List Item) → IsKnown items → (f : AsmFault) → then_some (is_none (first_given end_in (bodies items))) NoEnd ≡ Some f → IsFirstFault items f
no_end_told items s f h =
    let t = then_told (is_none (first_given end_in (bodies items))) NoEnd f h in
    subst (λ (g : AsmFault). IsFirstFault items g) t.1 (record {
      holds = no_target (first_given end_in (bodies items)) t.0;
      first = none_before items 3 (λ low. s.so_far.new) (λ low. s.so_far.short) (λ low. s.known) (λ low. absurd (omega arith)) (λ low. absurd (omega arith)) (λ low. absurd (omega arith));
    })

start_told : (items : List Item) → HasEnd items → (f : AsmFault) → then_some (nat_le (word_count (bodies items)) (start_place (bodies items))) StartOutside ≡ Some f → IsFirstFault items f
start_told items s f h =
    let t = then_told (nat_le (word_count (bodies items)) (start_place (bodies items))) StartOutside f h in
    subst (λ (g : AsmFault). IsFirstFault items g) t.1 (record {
      holds = leb-true (word_count (bodies items)) (start_place (bodies items)) t.0;
      first = none_before items 4 (λ low. s.so_far.so_far.new) (λ low. s.so_far.so_far.short) (λ low. s.so_far.known) (λ low. s.has_end) (λ low. absurd (omega arith)) (λ low. absurd (omega arith));
    })

end_told : (items : List Item) → StartsInside items → (f : AsmFault) → then_some (nat_le (word_count (bodies items)) (end_place (bodies items))) EndOutside ≡ Some f → IsFirstFault items f
end_told items s f h =
    let t = then_told (nat_le (word_count (bodies items)) (end_place (bodies items))) EndOutside f h in
    subst (λ (g : AsmFault). IsFirstFault items g) t.1 (record {
      holds = leb-true (word_count (bodies items)) (end_place (bodies items)) t.0;
      first = none_before items 5 (λ low. s.so_far.so_far.so_far.new) (λ low. s.so_far.so_far.so_far.short) (λ low. s.so_far.so_far.known) (λ low. s.so_far.has_end) (λ low. s.inside) (λ low. absurd (omega arith));
    })

end_answer : (items : List Item) → StartsInside items → (b : Bool) → nat_le (word_count (bodies items)) (end_place (bodies items)) ≡ b → IsAnswer items (then_some b EndOutside)
end_answer items s true e = end_told items s EndOutside (ap (λ (b : Bool). then_some b EndOutside) e)
end_answer items s false e = sound_has_none items (record {
  new = s.so_far.so_far.so_far.new;
  short = s.so_far.so_far.so_far.short;
  known = s.so_far.so_far.known;
  has_end = s.so_far.has_end;
  start_inside = s.inside;
  end_inside = leb-false (word_count (bodies items)) (end_place (bodies items)) e;
})

-- so the fault that is found is the first, and where none is found, none is there
answer : (items : List Item) → IsAnswer items (first_fault items)
unfolding first_fault
answer items =
    or_answer items _ _ (repeat_told items (first_repeat [] items) (repeat_found items)) (λ e.
    let new = no_repeats items (repeat_none (first_repeat [] items) e) in
    or_answer items _ _ (long_told items new) (λ e.
    let short : IsShort items = record { new = new; short = ltb-false program_word_limit (word_count (bodies items)) (then_none (nat_lt program_word_limit (word_count (bodies items))) TooLong e) } in
    or_answer items _ _ (unknown_told items short) (λ e.
    let known : IsKnown items = record { so_far = short; known = all_known (labels_of (bodies items)) items e } in
    or_answer items _ _ (no_end_told items known) (λ e.
    let has_end : HasEnd items = record { so_far = known; has_end = some_target (first_given end_in (bodies items)) (then_none (is_none (first_given end_in (bodies items))) NoEnd e) } in
    or_answer items _ _ (start_told items has_end) (λ e.
    let inside : StartsInside items = record { so_far = has_end; inside = leb-false (word_count (bodies items)) (start_place (bodies items)) (then_none (nat_le (word_count (bodies items)) (start_place (bodies items))) StartOutside e) } in
    end_answer items inside (nat_le (word_count (bodies items)) (end_place (bodies items))) refl)))))

-- items have one first fault at most
one_repeat : (items : List Item) (a b : ℕ) → IsFirstRepeat items a → IsFirstRepeat items b → a ≡ b
one_repeat items a b h g = elim (cases_lt h.at g.at) [
  | inl low ↦ absurd (g.first h.at h.item low h.repeats)
  | inr above ↦ elim (cases_lt g.at h.at) [
    | inl low ↦ absurd (h.first g.at g.item low g.repeats)
    | inr below ↦
        let e : h.at ≡ g.at = omega arith in
        let there : slice_get items g.at ≡ Some h.item = subst (λ (k : ℕ). slice_get items k ≡ Some h.item) e h.repeats.there in
        sym h.line_is ∙ (ap (λ (i : Item). i.line) (same_Some h.item g.item (sym there ∙ g.repeats.there)) ∙ g.line_is)
  ]
]

one_unknown : (items : List Item) (n m : List ℕ) (a b : ℕ) → IsFirstUnknown items n a → IsFirstUnknown items m b → Unknown n a ≡ Unknown m b
one_unknown items n m a b h g =
    let same = same_Some h.item g.item (sym h.found ∙ g.found) in
    let names = same_Some n m (sym h.name_is ∙ (ap (λ (i : Item). unknown_in (labels_of (bodies items)) i.body) same ∙ g.name_is)) in
    let lines = sym h.line_is ∙ (ap (λ (i : Item). i.line) same ∙ g.line_is) in
    ap (λ (x : List ℕ). Unknown x a) names ∙ ap (λ (x : ℕ). Unknown m x) lines

same_fault : (items : List Item) (f g : AsmFault) → rank f ≡ rank g → HasAsmFault items f → HasAsmFault items g → f ≡ g
same_fault items (Duplicate a) (Duplicate b) e h k = ap (λ (x : ℕ). Duplicate x) (one_repeat items a b h k)
same_fault items (Duplicate a) g e h k = absurd (omega arith)
same_fault items TooLong TooLong e h k = refl
same_fault items TooLong g e h k = absurd (omega arith)
same_fault items (Unknown n a) (Unknown m b) e h k = one_unknown items n m a b h k
same_fault items (Unknown n a) g e h k = absurd (omega arith)
same_fault items NoEnd NoEnd e h k = refl
same_fault items NoEnd g e h k = absurd (omega arith)
same_fault items StartOutside StartOutside e h k = refl
same_fault items StartOutside g e h k = absurd (omega arith)
same_fault items EndOutside EndOutside e h k = refl
same_fault items EndOutside g e h k = absurd (omega arith)
same_fault items Memory g e h k = absurd h

pub one_fault : (items : List Item) (f g : AsmFault) → IsFirstFault items f → IsFirstFault items g → f ≡ g
one_fault items f g h k = elim (cases_lt (rank f) (rank g)) [
  | inl low ↦ absurd (k.first f low h.holds)
  | inr above ↦ elim (cases_lt (rank g) (rank f)) [
    | inl low ↦ absurd (h.first g low k.holds)
    | inr below ↦ same_fault items f g (omega arith) h.holds k.holds
  ]
]

-- what is found is told by the relations
found_none : (items : List Item) → HasNoFault items → (o : Option AsmFault) → IsAnswer items o → o ≡ None
found_none items h None a = refl
found_none items h (Some f) a = absurd (h f a.holds)

found_some : (items : List Item) (f : AsmFault) → IsFirstFault items f → (o : Option AsmFault) → IsAnswer items o → o ≡ Some f
found_some items f h None a = absurd (a f h.holds)
found_some items f h (Some g) a = ap (λ (x : AsmFault). Some x) (one_fault items g f a h)

-- items without a fault are assembled to their program
pub assembling-accepted : (items : List Item) → HasNoFault items → assembling items ≡ Ok (assembly_of items)
unfolding assembling
assembling-accepted items h = ap (λ (o : Option AsmFault). unless_fault o (assembly_of items)) (found_none items h (first_fault items) (answer items))

-- and others are refused with the first fault
pub assembling-refused : (items : List Item) (f : AsmFault) → IsFirstFault items f → assembling items ≡ Err f
unfolding assembling
assembling-refused items f h = ap (λ (o : Option AsmFault). unless_fault o (assembly_of items)) (found_some items f h (first_fault items) (answer items))

-- what is assembled has no fault
accepted_by : (items : List Item) (a p : Assembly) (o : Option AsmFault) → IsAnswer items o → unless_fault o p ≡ Ok a → HasNoFault items
accepted_by items a p None answered h = answered
accepted_by items a p (Some f) answered h = cc

pub HasNoFault-from_assembling : (items : List Item) (a : Assembly) → assembling items ≡ Ok a → HasNoFault items
unfolding assembling
HasNoFault-from_assembling items a h = accepted_by items a (assembly_of items) (first_fault items) (answer items) h

-- a refusal is with the first fault
refused_by : (items : List Item) (f : AsmFault) (p : Assembly) (o : Option AsmFault) → IsAnswer items o → unless_fault o p ≡ Err f → IsFirstFault items f
refused_by items f p None answered h = cc
refused_by items f p (Some g) answered h =
    let same : g ≡ f = cc in
    subst (λ (x : AsmFault). IsFirstFault items x) same answered

pub IsFirstFault-from_assembling : (items : List Item) (f : AsmFault) → assembling items ≡ Err f → IsFirstFault items f
unfolding assembling
IsFirstFault-from_assembling items f h = refused_by items f (assembly_of items) (first_fault items) (answer items) h

-- what the assembler refuses with is the fault, unless there was no memory
pub assembling-told : (items : List Item) (f : AsmFault) → TellsFault items f → (f ≡ Memory) ⊎ (assembling items ≡ Err f)
assembling-told items (Duplicate line) h = inr (assembling-refused items (Duplicate line) h)
assembling-told items TooLong h = inr (assembling-refused items TooLong h)
assembling-told items (Unknown name line) h = inr (assembling-refused items (Unknown name line) h)
assembling-told items NoEnd h = inr (assembling-refused items NoEnd h)
assembling-told items StartOutside h = inr (assembling-refused items StartOutside h)
assembling-told items EndOutside h = inr (assembling-refused items EndOutside h)
assembling-told items Memory h = inl refl

-- and what it answers is the program
pub seen_assembly-is : (items : List Item) (a : Assembled) → a.words.items ≡ words_of (bodies items) → a.labels.entries ≡ labels_of (bodies items) → a.start ≡ start_place (bodies items) → a.end ≡ end_place (bodies items) → (a.output, a.range) ≡ builtins_of (bodies items) → seen_assembly a ≡ assembly_of items
unfolding seen_assembly assembly_of
seen_assembly-is items a words labels start end builtins =
    let bs : List Body = bodies items in
    ap (λ (x : List Felt). let r : Assembly = record { words = x; labels = a.labels.entries; start = a.start; end = a.end; output = a.output; range = a.range } in r) words
    ∙ (ap (λ (x : List (List ℕ × ℕ)). let r : Assembly = record { words = words_of bs; labels = x; start = a.start; end = a.end; output = a.output; range = a.range } in r) labels
    ∙ (ap (λ (x : ℕ). let r : Assembly = record { words = words_of bs; labels = labels_of bs; start = x; end = a.end; output = a.output; range = a.range } in r) start
    ∙ (ap (λ (x : ℕ). let r : Assembly = record { words = words_of bs; labels = labels_of bs; start = start_place bs; end = x; output = a.output; range = a.range } in r) end
    ∙ ap (λ (x : Bool × Bool). let r : Assembly = record { words = words_of bs; labels = labels_of bs; start = start_place bs; end = end_place bs; output = x.0; range = x.1 } in r) builtins)))

pub assembling-seen : (items : List Item) (a : Assembled) → HasNoFault items → a.words.items ≡ words_of (bodies items) → a.labels.entries ≡ labels_of (bodies items) → a.start ≡ start_place (bodies items) → a.end ≡ end_place (bodies items) → (a.output, a.range) ≡ builtins_of (bodies items) → assembling items ≡ Ok (seen_assembly a)
assembling-seen items a none words labels start end builtins =
    assembling-accepted items none ∙ ap (λ (p : Assembly). Ok p) (sym (seen_assembly-is items a words labels start end builtins))
