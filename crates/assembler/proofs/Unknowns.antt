-- The first item that names a label which isn't there, one item after another.
use Rattle.std.proofs.Common.{◌≡◌, ℕ, ◌+◌, ◌<◌, ◌≤◌, Bool, true, false, List, ◌∷◌, length, get_or, drop, find, Some, None, is_some, sym, ◌∙◌, ap, cond}
use Rattle.std.proofs.lemmas.List.{drop_more, drop_all}
use Rattle.casm_statements.specs.declared.Item.{Item}
use Rattle.assembler.specs.declared.fault.AsmFault.{AsmFault}
use Rattle.assembler.specs.declared.fault.AsmFault.TheVariants.{Duplicate, TooLong, Unknown, NoEnd, StartOutside, EndOutside, Memory}
use Rattle.assembler.specs.Faults.{unknown_in}
use Rattle.assembler.specs.Views.{TellsUnknown, TellsFirstUnknown}

-- an item that names a label which isn't one of these
abbrev pub names_unknown : List (List ℕ × ℕ) → Item → Bool
names_unknown labels i = is_some (unknown_in labels i.body)

-- the items before one name no such label: the first that does is among the others
abbrev pub FoundIn : List (List ℕ × ℕ) → List Item → ℕ → Type 0
FoundIn labels items n = find (names_unknown labels) items ≡ find (names_unknown labels) (drop n items)

find-cons : (test : Item → Bool) (i : Item) (is : List Item) → test i ≡ false → find test (i ∷ is) ≡ find test is
find-cons test i is e = ap (λ (b : Bool). cond b (Some i) (find test is)) e

find-first : (test : Item → Bool) (i : Item) (is : List Item) → test i ≡ true → find test (i ∷ is) ≡ Some i
find-first test i is e = ap (λ (b : Bool). cond b (Some i) (find test is)) e

pub found_in-more : (labels : List (List ℕ × ℕ)) (items : List Item) (n : ℕ) (i : Item) → n < length items → i ≡ get_or items n i → unknown_in labels i.body ≡ None → FoundIn labels items n → FoundIn labels items (n + 1)
found_in-more labels items n i h at none so =
    so
    ∙ (ap (find (names_unknown labels)) (drop_more items n i h)
    ∙ find-cons (names_unknown labels) (get_or items n i) (drop (n + 1) items) (ap (names_unknown labels) (sym at) ∙ ap is_some none))

pub found_in-all : (labels : List (List ℕ × ℕ)) (items : List Item) (n : ℕ) → length items ≤ n → FoundIn labels items n → find (names_unknown labels) items ≡ None
found_in-all labels items n h so = so ∙ ap (find (names_unknown labels)) (drop_all n items h)

-- the first item that names such a label tells it
pub first_unknown : (labels : List (List ℕ × ℕ)) (items : List Item) (n : ℕ) (i : Item) (f : AsmFault) → n < length items → i ≡ get_or items n i → FoundIn labels items n → TellsUnknown labels i f → TellsFirstUnknown labels items f
first_unknown labels items n i (Duplicate line) h at so tells = absurd tells
first_unknown labels items n i TooLong h at so tells = absurd tells
first_unknown labels items n i (Unknown name line) h at so tells = (
  i,
  so
      ∙ (ap (find (names_unknown labels)) (drop_more items n i h)
      ∙ (find-first (names_unknown labels) (get_or items n i) (drop (n + 1) items) (ap (names_unknown labels) (sym at) ∙ ap is_some tells.0) ∙ ap Some (sym at))),
  tells.0,
  tells.1,
)
first_unknown labels items n i NoEnd h at so tells = absurd tells
first_unknown labels items n i StartOutside h at so tells = absurd tells
first_unknown labels items n i EndOutside h at so tells = absurd tells
first_unknown labels items n i Memory h at so tells = tt
