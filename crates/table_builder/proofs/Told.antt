-- What a part of the builder tells where it hands on the fault of another.
use Rattle.std.proofs.Common.{◌≡◌, ◌++◌, List, Option, Some, None, Result, Ok, Err, sym, ap, subst, ◌∙◌}
use Rattle.std.specs.Prelude.{IfSome}
use Rattle.std.specs.Option.{option_or}
use Rattle.std.specs.Result.{IsErrAnd}
use Rattle.std.proofs.lemmas.Option.{IfSome_then}
use Rattle.table_builder.specs.declared.faults.BuildFault.{BuildFault}
use Rattle.table_builder.specs.Findings.{Finding, finding_of, first_found}
use Rattle.table_builder.specs.Parts.{FindsOrGives}
use Rattle.table_builder.proofs.Findings.{first_found-append, first_found-none_append}

-- the fault of a part says what is found first of all, where it says what is found first in the part
pub handed_on : {X : Type 0} (part whole : Option Finding) (Good : X → Type 0) (result : Result X BuildFault) (fault : BuildFault) → IsErrAnd result (λ e. e ≡ fault) → ((told : Finding) → part ≡ Some told → whole ≡ Some told) → IfSome (finding_of fault) (λ told. part ≡ Some told) → FindsOrGives whole Good result
handed_on part whole Good (Ok x) fault ended goes told = absurd ended
handed_on part whole Good (Err e) fault ended goes told =
    let P : BuildFault → Type 0 = λ f. IfSome (finding_of f) (λ found. whole ≡ Some found) in
    subst P (sym ended) (IfSome_then (finding_of fault) told goes)

-- the first in a later list, where nothing is found in an earlier one
pub found_later : (xs ys : List (Option Finding)) (told : Finding) → first_found xs ≡ None → first_found ys ≡ Some told → first_found (xs ++ ys) ≡ Some told
found_later xs ys told none found = first_found-append xs ys ∙ (ap (λ o. option_or o (first_found ys)) none ∙ found)

pub found_sooner : (xs ys : List (Option Finding)) (told : Finding) → first_found xs ≡ Some told → first_found (xs ++ ys) ≡ Some told
found_sooner xs ys told found = first_found-append xs ys ∙ ap (λ o. option_or o (first_found ys)) found

-- a second part tells all, where nothing is found in the first
pub then_told : {X : Type 0} (xs ys all : List (Option Finding)) (Good : X → Type 0) (result : Result X BuildFault) → all ≡ xs ++ ys → first_found xs ≡ None → FindsOrGives (first_found ys) Good result → FindsOrGives (first_found all) Good result
then_told xs ys all Good (Ok x) whole none told = (ap first_found whole ∙ first_found-none_append xs ys none told.0, told.1)
then_told xs ys all Good (Err e) whole none told =
    IfSome_then (finding_of e) told (λ found here. ap first_found whole ∙ found_later xs ys found none here)

-- the same of another finding that is equal
pub told_as : {X : Type 0} (whole part : Option Finding) (Good : X → Type 0) (result : Result X BuildFault) → whole ≡ part → FindsOrGives part Good result → FindsOrGives whole Good result
told_as whole part Good result same told = subst (λ o. FindsOrGives o Good result) (sym same) told
