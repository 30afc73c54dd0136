use Rattle.std.proofs.Common.{◌≡◌, ℕ, List, map, length, find, None, sym, ◌∙◌, ap, subst, arith}
use Rattle.goldilocks.specs.declared.Felt.{Felt}
use Rattle.casm_statements.specs.declared.Body.TheVariants as body
use Rattle.casm_text.specs.Meaning.{bodies}
use Rattle.assembler.specs.Shown.{Shown}
use Rattle.assembler.specs.Assembly.{first_given, start_in, end_in, target_place}
use Rattle.assembler.specs.Faults.{TellsFault}
use Rattle.assembler.proofs.Unknowns.{names_unknown}
use Rattle.assembler.proofs.FirstFaults.{sound_has_none, place_told}
use Rattle.assembler.proofs.Handed.{handed_on}
use Rattle.assembler.proofs.AssemblyLemmas.{words_from-length}
use Rattle.assembler.proofs.Statements.{words_shown}
use Rattle.assembler.proofs.assembling.assemble.Goals as goal

-- a refusal of the places is the first fault
pub returns-in_err-start-clause-fault : goal.returns-in_err-start-clause-fault
returns-in_err-start-clause-fault c =
    handed_on (TellsFault c.args.items.now) c.from_residual-in_err-start.result c.in_err-start.field-0.0 c.from_residual-in_err-start.ensures.1
    (place_told c.args.items.now c.in_ok-labels.labels.entries c.in_ok-labels.count c.in_err-start.field-0.0 c.in_ok-labels.ensures.labels c.in_ok-labels.ensures.count c.in_ok-labels.ensures.new c.in_ok-labels.ensures.short c.in_ok-words.ensures.known c.in_err-start.ensures.fault)

-- none of the faults is there
pub returns-clause-accepted : goal.returns-clause-accepted
returns-clause-accepted c =
    let items = c.args.items.now in
    let labels = c.in_ok-labels.ensures.labels in
    let count = c.in_ok-labels.ensures.count in
    let start = subst (λ (ls : List (List ℕ × ℕ)). c.in_ok-start.start ≡ target_place ls (first_given start_in (bodies items))) labels c.in_ok-start.ensures.start in
    let end = subst (λ (ls : List (List ℕ × ℕ)). c.in_ok-start.end ≡ target_place ls (first_given end_in (bodies items))) labels c.in_ok-start.ensures.end in
    let inside = c.in_ok-start.ensures.inside in
    sound_has_none items (record {
      new = c.in_ok-labels.ensures.new;
      short = c.in_ok-labels.ensures.short;
      known = subst (λ (ls : List (List ℕ × ℕ)). find (names_unknown ls) items ≡ None) labels c.in_ok-words.ensures.known;
      has_end = c.in_ok-start.ensures.has_end;
      start_inside = omega arith;
      end_inside = omega arith;
    })

pub returns-clause-size : goal.returns-clause-size
returns-clause-size c =
    let count = ap length c.in_ok-words.ensures.words ∙ words_from-length _ 0 (bodies c.args.items.now) in
    omega (arith, c.in_ok-labels.ensures.short)

pub returns-clause-inside : goal.returns-clause-inside
returns-clause-inside c =
    let count = ap length c.in_ok-words.ensures.words ∙ words_from-length _ 0 (bodies c.args.items.now) in
    let total = c.in_ok-labels.ensures.count in
    let places = c.in_ok-start.ensures.inside in
    (omega arith, omega arith)

pub returns-clause-shown : goal.returns-clause-shown
returns-clause-shown c = λ stmts e.
    subst (λ (ws : List Felt). Shown ws (map body.Stmt stmts)) (sym c.in_ok-words.ensures.words) (words_shown _ 0 (bodies c.args.items.now) stmts c.in_ok-words.ensures.offsets e)
