-- What items assemble to, and whether they can be, doesn't depend on their lines.
use Rattle.std.proofs.Common.{◌≡◌, ℕ, ◌<◌, ◌≤◌, Bool, true, false, List, [], ◌∷◌, take, find, slice_get, Option, Some, None, is_some, refl, sym, ◌∙◌, ap, subst, cond}
use Rattle.std.specs.Option.{option_map}
use Rattle.std.proofs.lemmas.Option.{slice_get-map, none-some, same_Some}
use Rattle.goldilocks.specs.declared.Felt.{Felt}
use Rattle.casm_word.specs.Length.{program_word_limit}
use Rattle.casm_statements.specs.declared.Body.{Body}
use Rattle.casm_statements.specs.declared.Item.{Item}
use Rattle.casm_text.specs.Meaning.{bodies}
use Rattle.assembler.specs.declared.fault.AsmFault.TheVariants.{Duplicate, TooLong, Unknown, NoEnd, StartOutside, EndOutside, Memory}
use Rattle.assembler.specs.Assembly.{word_count, labels_of, words_of, first_given, end_in, start_place, end_place, builtins_of}
use Rattle.assembler.specs.Faults.{is_given_again, RepeatsAt, unknown_in, HasNoFault}
use Rattle.assembler.specs.Disassembly.{AssemblesTo}
use Rattle.assembler.proofs.Unknowns.{names_unknown}

-- the item at a place of another list with the same bodies
at_place : (xs : List Item) (k : ℕ) (b : Body) → slice_get (bodies xs) k ≡ Some b → (i : Item) × (slice_get xs k ≡ Some i) × (i.body ≡ b)
at_place xs k b h = by (slice_get xs k) refl
  where
    by : (o : Option Item) → slice_get xs k ≡ o → (i : Item) × (slice_get xs k ≡ Some i) × (i.body ≡ b)
    by None e = absurd (none-some b (ap (option_map (λ (x : Item). x.body)) (sym e) ∙ (sym (slice_get-map (λ (x : Item). x.body) xs k) ∙ h)))
    by (Some i) e = (i, e, same_Some i.body b (ap (option_map (λ (x : Item). x.body)) (sym e) ∙ (sym (slice_get-map (λ (x : Item). x.body) xs k) ∙ h)))

repeats_too : (xs ys : List Item) → bodies xs ≡ bodies ys → (k : ℕ) (i : Item) → RepeatsAt ys k i → (j : Item) × RepeatsAt xs k j
repeats_too xs ys e k i r =
    let there : slice_get (bodies xs) k ≡ Some i.body =
    ap (λ (bs : List Body). slice_get bs k) e ∙ (slice_get-map (λ (x : Item). x.body) ys k ∙ ap (option_map (λ (x : Item). x.body)) r.there) in
    let p = at_place xs k i.body there in (
      p.0,
      record {
        there = p.1;
        again = subst (λ (b : Body). is_given_again (take k (bodies xs)) b ≡ true) (sym p.2) (subst (λ (bs : List Body). is_given_again (take k bs) i.body ≡ true) (sym e) r.again);
      },
    )

-- the bodies alone tell whether an item names an unknown label
unknown_too : (labels : List (List ℕ × ℕ)) (xs ys : List Item) → bodies xs ≡ bodies ys → find (names_unknown labels) xs ≡ None → find (names_unknown labels) ys ≡ None
unknown_too labels [] [] e h = refl
unknown_too labels [] (y ∷ ys) e h = absurd cc
unknown_too labels (x ∷ xs) [] e h = absurd cc
unknown_too labels (x ∷ xs) (y ∷ ys) e h =
    let same : x.body ≡ y.body = cc in
    let rest : bodies xs ≡ bodies ys = cc in
    by (names_unknown labels x) refl (ap (λ (b : Body). is_some (unknown_in labels b)) same) (unknown_too labels xs ys rest)
  where
    by : (b : Bool) → names_unknown labels x ≡ b → names_unknown labels x ≡ names_unknown labels y → (find (names_unknown labels) xs ≡ None → find (names_unknown labels) ys ≡ None) → find (names_unknown labels) (y ∷ ys) ≡ None
    by true e f more = absurd (none-some x (sym h ∙ ap (λ (b : Bool). cond b (Some x) (find (names_unknown labels) xs)) e))
    by false e f more =
        ap (λ (b : Bool). cond b (Some y) (find (names_unknown labels) ys)) (sym f ∙ e)
        ∙ more (ap (λ (b : Bool). cond b (Some x) (find (names_unknown labels) xs)) (sym e) ∙ h)

-- an item that is found names a label, and that is unknown
found_names : (labels : List (List ℕ × ℕ)) (xs : List Item) (i : Item) → find (names_unknown labels) xs ≡ Some i → (n : List ℕ) × (unknown_in labels i.body ≡ Some n)
found_names labels [] i h = absurd (none-some i h)
found_names labels (x ∷ xs) i h = by (unknown_in labels x.body) refl (found_names labels xs i)
  where
    by : (o : Option (List ℕ)) → unknown_in labels x.body ≡ o → (find (names_unknown labels) xs ≡ Some i → (n : List ℕ) × (unknown_in labels i.body ≡ Some n)) → (n : List ℕ) × (unknown_in labels i.body ≡ Some n)
    by None e more = more (ap (λ (u : Option (List ℕ)). cond (is_some u) (Some x) (find (names_unknown labels) xs)) (sym e) ∙ h)
    by (Some n) e more =
        let same : x ≡ i = same_Some x i (ap (λ (u : Option (List ℕ)). cond (is_some u) (Some x) (find (names_unknown labels) xs)) (sym e) ∙ h) in
        (n, ap (λ (y : Item). unknown_in labels y.body) (sym same) ∙ e)

none_found : (labels : List (List ℕ × ℕ)) (xs : List Item) → ((i : Item) (n : List ℕ) → find (names_unknown labels) xs ≡ Some i → unknown_in labels i.body ≡ Some n → ⊥) → find (names_unknown labels) xs ≡ None
none_found labels xs none = by (find (names_unknown labels) xs) refl
  where
    by : (o : Option Item) → find (names_unknown labels) xs ≡ o → find (names_unknown labels) xs ≡ None
    by None e = e
    by (Some i) e = let p = found_names labels xs i e in absurd (none i p.0 e p.1)

pub fault_free : (xs ys : List Item) → bodies xs ≡ bodies ys → HasNoFault xs → HasNoFault ys
fault_free xs ys e none (Duplicate line) h =
    let p = repeats_too xs ys e h.at h.item h.repeats in
    none (Duplicate p.0.line) (record {
      at = h.at;
      item = p.0;
      repeats = p.1;
      line_is = refl;
      first = λ k i low r. let q = repeats_too ys xs (sym e) k i r in h.first k q.0 low q.1;
    })
fault_free xs ys e none TooLong h = none TooLong (subst (λ (bs : List Body). program_word_limit < word_count bs) (sym e) h)
fault_free xs ys e none (Unknown name line) h =
    let labels = labels_of (bodies ys) in
    let same : labels_of (bodies xs) ≡ labels = ap labels_of e in
    let found : find (names_unknown labels) xs ≡ None =
    none_found labels xs (λ i n at is.
    none (Unknown n i.line) (record {
      item = i;
      found = subst (λ (ls : List (List ℕ × ℕ)). find (names_unknown ls) xs ≡ Some i) (sym same) at;
      name_is = subst (λ (ls : List (List ℕ × ℕ)). unknown_in ls i.body ≡ Some n) (sym same) is;
      line_is = refl;
    })) in
    none-some h.item (sym (unknown_too labels xs ys e found) ∙ h.found)
fault_free xs ys e none NoEnd h = none NoEnd (ap (first_given end_in) e ∙ h)
fault_free xs ys e none StartOutside h = none StartOutside (subst (λ (bs : List Body). word_count bs ≤ start_place bs) (sym e) h)
fault_free xs ys e none EndOutside h = none EndOutside (subst (λ (bs : List Body). word_count bs ≤ end_place bs) (sym e) h)
fault_free xs ys e none Memory h = absurd h

pub assembles_too : (words : List Felt) (start end : ℕ) (output range : Bool) (xs ys : List Item) → bodies xs ≡ bodies ys → AssemblesTo words start end output range xs → AssemblesTo words start end output range ys
assembles_too words start end output range xs ys e h = record {
  accepted = fault_free xs ys e h.accepted;
  words_are = ap words_of (sym e) ∙ h.words_are;
  labels_are = ap labels_of (sym e) ∙ h.labels_are;
  start_is = ap start_place (sym e) ∙ h.start_is;
  end_is = ap end_place (sym e) ∙ h.end_is;
  builtins_are = ap builtins_of (sym e) ∙ h.builtins_are;
}
