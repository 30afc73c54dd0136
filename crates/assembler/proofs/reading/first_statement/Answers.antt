use Rattle.std.proofs.Common.{◌≡◌, Option, Some, None, Ok, refl, sym, ap, subst, ◌∙◌, rules}
use Rattle.std.specs.Option.{MatchOption, IsSomeAnd}
use Rattle.std.specs.Result.{result_ok}
use Rattle.std.proofs.lemmas.List.{nil_from_length}
use Rattle.std.proofs.lemmas.Option.{none-some}
use Rattle.casm_word.specs.Word.{decoding}
use Rattle.assembler.specs.StatementWords.{BeginsWith, BeginsWithNone}
use Rattle.assembler.proofs.Begins.{begins_with_none-empty, begins_with_none-undecoded, begins_with_none-short, begins_with_none-unwritten, begins_with_statement, decoding-Ok}
use Rattle.assembler.proofs.reading.first_statement.Goals as goal

pub returns-in_err-first : goal.returns-in_err-first
returns-in_err-first c =
    rw c.from_residual.ensures
    (begins_with_none-empty c.args.words.now (nil_from_length c.args.words.now c.in_err-first.ensures.cases))

pub returns-in_err-word : goal.returns-in_err-word
returns-in_err-word c =
    rw c.from_residual-in_err-word.ensures
    (begins_with_none-undecoded c.args.words.now c.in_ok-first.first.now c.in_ok-first.rest.now c.in_ok-first.ensures.cases.0
    (ap result_ok (sym c.decode.ensures.value) ∙ (sym c.ok.ensures.value ∙ c.in_err-word.was)))

pub returns-in_err-immediate : goal.returns-in_err-immediate
returns-in_err-immediate c =
    let decodes : decoding c.in_ok-first.first.now.number ≡ Ok c.in_ok-word.word = sym c.decode.ensures.value ∙ decoding-Ok c.decode.result c.in_ok-word.word (sym c.ok.ensures.value ∙ c.in_ok-word.was) in
    rw c.from_residual-in_err-immediate.ensures
    (begins_with_none-short c.args.words.now c.in_ok-first.first.now c.in_ok-first.rest.now c.in_ok-word.word c.in_ok-first.ensures.cases.0 decodes c.in_err-immediate.ensures.0 c.in_err-immediate.ensures.1)

-- what is handed on by `map`
mapped : {S T : Type 0} (found : Option S) (gives : S → T → Type 0) (result : Option T) (N : Type 0) (P : T → Type 0) → MatchOption found (result ≡ None) (λ s. IsSomeAnd result (gives s)) → (found ≡ None → N) → ((s : S) (t : T) → found ≡ Some s → gives s t → P t) → MatchOption result N P
mapped None gives result N P is none some = subst (λ r. MatchOption r N P) (sym is) (none refl)
mapped (Some s) gives None N P is none some = absurd is
mapped (Some s) gives (Some t) N P is none some = some s t refl is

pub returns : goal.returns
returns c =
    let words = c.args.words.now in
    let first = c.in_ok-first.first.now in
    let rest = c.in_ok-first.rest.now in
    let word = c.in_ok-word.word in
    let immediate = c.in_ok-immediate.immediate in
    let others = c.in_ok-immediate.others.now in
    let decodes : decoding first.number ≡ Ok word = sym c.decode.ensures.value ∙ decoding-Ok c.decode.result word (sym c.ok.ensures.value ∙ c.in_ok-word.was) in
    mapped c.of_word.result _ c.map.result (BeginsWithNone words) (λ p. BeginsWith words p.0 p.1.now) c.map.ensures.cases
    (λ none. begins_with_none-unwritten words first rest word immediate others c.in_ok-first.ensures.cases.0 decodes c.in_ok-immediate.ensures.0 c.in_ok-immediate.ensures.1 (λ s e. none-some s (sym none ∙ (c.of_word.ensures s).1 e)))
    (λ s p some k.
    let begins = begins_with_statement words first rest word immediate others s c.in_ok-first.ensures.cases.0 decodes c.in_ok-immediate.ensures.1 ((c.of_word.ensures s).0 some) in
    let same : p.0 ≡ s = search rules in
    let behind : p.1.now ≡ others = search rules in
    rw (same, behind) begins)
