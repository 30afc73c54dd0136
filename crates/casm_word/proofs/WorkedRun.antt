-- The definitions tried on a program of five instructions: `ap += 0`, `call rel 4`, `jmp rel 0`, `[ap] = 25; ap++` and
-- `ret`. Its run has four steps.
use Rattle.std.proofs.Common.{◌≡◌, ℕ, ◌-◌, ◌==◌, List, [], ◌∷◌, Some, None, refl, lit≤, lit<, arith, ap}
use Rattle.std.specs.Bool.{if◌then◌else◌}
use Rattle.std.specs.Prelude.{slice_get}
use Rattle.std.proofs.lemmas.List.Elements.{All-from_recursion}
use Rattle.goldilocks.specs.Field.{field_add, field_mul, field_of_int, field_neg}
use Rattle.casm_word.specs.Word.{flags_of, word_of, breaks, first_broken, decoding}
use Rattle.casm_word.specs.Transition.{Memory, Registers, next}
use Rattle.casm_word.specs.Run.{steps, LegalRun}
use Rattle.casm_word.proofs.Runs.{legal_run-step}

abbrev state : ℕ → ℕ → ℕ → Registers
state pc ap fp = record { pc = pc; ap = ap; fp = fp }

-- cells 1 to 9 are the program, 10 to 14 what the run wrote
abbrev cells : List ℕ
cells =
    0x40780017fff7fff ∷ 0x0 ∷ 0x1104800180018000 ∷ 0x4
    ∷ 0x10780017fff7fff ∷ 0x0 ∷ 0x480680017fff8000 ∷ 0x19 ∷ 0x208b7fff7fff7ffe
    ∷ 12 ∷ 0 ∷ 12 ∷ 5 ∷ 25 ∷ []

abbrev memory : Memory
memory a = if a == 0 then None else slice_get cells (a - 1)

abbrev states : List Registers
states = state 1 12 12 ∷ state 3 12 12 ∷ state 7 14 14 ∷ state 9 15 14 ∷ state 5 15 12 ∷ []

pub worked_run : LegalRun memory states
unfolding field_add field_mul field_of_int field_neg flags_of word_of breaks first_broken decoding next
worked_run = record {
  has_step = lit≤ tt;
  each_next = All-from_recursion (λ step. next memory step.0 ≡ Some step.1) (steps states) (refl, (refl, (refl, (refl, tt))));
}

-- with the last pc 6 they are no run
abbrev other_states : List Registers
other_states = state 1 12 12 ∷ state 3 12 12 ∷ state 7 14 14 ∷ state 9 15 14 ∷ state 6 15 12 ∷ []

last_step : next memory (state 9 15 14) ≡ Some (state 5 15 12)
unfolding field_add field_mul field_of_int field_neg flags_of word_of breaks first_broken decoding next
last_step = refl

pub no_run : LegalRun memory other_states → ⊥
no_run run =
    let step : next memory (state 9 15 14) ≡ Some (state 6 15 12) = legal_run-step memory other_states (state 0 0 0) 3 run (lit< tt) in
    let same : state 5 15 12 ≡ state 6 15 12 = cc (last_step, step) in
    let pcs : (state 5 15 12).pc ≡ (state 6 15 12).pc = ap (λ (s : Registers). s.pc) same in
    omega (arith, pcs)

-- and in an empty memory there is no step
pub no_step : next (λ _. None) (state 1 12 12) ≡ None
unfolding next
no_step = refl
