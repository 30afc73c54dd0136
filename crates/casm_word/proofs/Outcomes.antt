-- What a step comes to, cell by cell, and that it goes on exactly where the transition function has a value.
use Rattle.std.proofs.Common.{◌≡◌, ◌↔◌, ℕ, Bool, true, false, not, ◌&&◌, Option, Some, None, Result, Ok, Err, refl, sym, ◌∙◌, ap}
use Rattle.std.specs.Bool.{if◌then◌else◌}
use Rattle.std.specs.Bool.{then_some}
use Rattle.std.specs.Option.{option_and_then}
use Rattle.std.specs.Result.{result_ok}
use Rattle.casm_word.specs.declared.Word.{Word}
use Rattle.casm_word.specs.declared.Flags.{Flags}
use Rattle.casm_word.specs.declared.WordFault.{WordFault}
use Rattle.casm_word.specs.declared.StepResult.{StepResult}
use Rattle.casm_word.specs.declared.StepResult.TheVariants as answer
use Rattle.casm_word.specs.Word.{decoding}
use Rattle.casm_word.specs.Transition.{Memory, Registers, dst_address, op0_address, op1_address, next_registers, has_return_pc, has_caller_fp, meets_assertion, next_by, next, Outcome, Next, NoCell, BadWord, CallPc, CallFp, NotEqual, with_cell, with_word, outcome_by, outcome, outcome_of, reached}

-- the registers that an outcome goes on to, where it does
abbrev pub gone_on : Outcome → Option Registers
gone_on (Next t) = Some t
gone_on (NoCell _) = None
gone_on (BadWord _) = None
gone_on CallPc = None
gone_on CallFp = None
gone_on NotEqual = None

-- both go by the same cell
by_cell : (a : ℕ) (o : Option ℕ) (k : ℕ → Option Registers) (l : ℕ → Outcome) → ((v : ℕ) → k v ≡ gone_on (l v)) → option_and_then k o ≡ gone_on (with_cell a o l)
by_cell a None k l h = refl
by_cell a (Some v) k l h = h v

-- both go by the same word
by_word : (d : Result Word WordFault) (k : Word → Option Registers) (l : Word → Outcome) → ((w : Word) → k w ≡ gone_on (l w)) → option_and_then k (result_ok d) ≡ gone_on (with_word d l)
by_word (Err fault) k l h = refl
by_word (Ok w) k l h = h w

-- both go by the same three tests
by_tests : (a b c : Bool) (t : Registers) → then_some (a && b && c) t ≡ gone_on (if not a then CallPc else (if not b then CallFp else (if not c then NotEqual else Next t)))
by_tests false b c t = refl
by_tests true false c t = refl
by_tests true true false t = refl
by_tests true true true t = refl

pub next_by-outcome_by : (f : Flags) (r : Registers) (dst op0 op1 : ℕ) → next_by f r dst op0 op1 ≡ gone_on (outcome_by f r dst op0 op1)
next_by-outcome_by f r dst op0 op1 = by_tests (has_return_pc f r op0) (has_caller_fp f r dst) (meets_assertion f dst op0 op1) (next_registers f r dst op0 op1)

pub next-outcome : (m : Memory) (r : Registers) → next m r ≡ gone_on (outcome m r)
unfolding next outcome
next-outcome m r =
    by_cell r.pc (m r.pc) _ _ (λ number.
    by_word (decoding number) _ _ (λ w.
    by_cell (dst_address w r) (m (dst_address w r)) _ _ (λ dst.
    by_cell (op0_address w r) (m (op0_address w r)) _ _ (λ op0.
    by_cell (op1_address w r op0) (m (op1_address w r op0)) _ _ (λ op1.
    next_by-outcome_by w.flags r dst op0 op1)))))

pub reached-outcome_of : (x : StepResult) → reached x ≡ gone_on (outcome_of x)
unfolding outcome_of
reached-outcome_of (answer.Next s) = refl
reached-outcome_of (answer.NoCell _) = refl
reached-outcome_of (answer.BadWord _) = refl
reached-outcome_of answer.CallPc = refl
reached-outcome_of answer.CallFp = refl
reached-outcome_of answer.NotEqual = refl

-- an answer that says the outcome reaches what the transition function gives
pub reached-next : (x : StepResult) (m : Memory) (r : Registers) → outcome_of x ≡ outcome m r → reached x ≡ next m r
reached-next x m r h = reached-outcome_of x ∙ (ap gone_on h ∙ sym (next-outcome m r))

-- an outcome that goes on goes on to what is read off it
gone_on-Some : (o : Outcome) (t : Registers) → gone_on o ≡ Some t → o ≡ Next t
gone_on-Some (Next u) t h = cc
gone_on-Some (NoCell _) t h = cc
gone_on-Some (BadWord _) t h = cc
gone_on-Some CallPc t h = cc
gone_on-Some CallFp t h = cc
gone_on-Some NotEqual t h = cc

-- a step goes on exactly where the transition function has that value
pub outcome-next : (m : Memory) (r t : Registers) → (outcome m r ≡ Next t) ↔ (next m r ≡ Some t)
outcome-next m r t = (
  (λ h. next-outcome m r ∙ ap gone_on h),
  (λ h. gone_on-Some (outcome m r) t (sym (next-outcome m r) ∙ h)),
)

-- ---- the outcome, cell by cell

-- what is left once op0 is read
abbrev pub after_op0 : Memory → Registers → Word → ℕ → ℕ → Outcome
after_op0 m r w dst op0 = with_cell (op1_address w r op0) (m (op1_address w r op0)) (λ op1. outcome_by w.flags r dst op0 op1)

-- what is left once dst is read
abbrev pub after_dst : Memory → Registers → Word → ℕ → Outcome
after_dst m r w dst = with_cell (op0_address w r) (m (op0_address w r)) (λ op0. after_op0 m r w dst op0)

-- what is left once the word is read
abbrev pub after_word : Memory → Registers → Word → Outcome
after_word m r w = with_cell (dst_address w r) (m (dst_address w r)) (λ dst. after_dst m r w dst)

-- what is left once the cell at pc is read
abbrev pub after_pc : Memory → Registers → ℕ → Outcome
after_pc m r number = with_word (decoding number) (λ w. after_word m r w)

-- a cell that is there, at an address that is known in another form
pub with_cell-there : (m : Memory) (k : ℕ → Outcome) (a b v : ℕ) → a ≡ b → Some v ≡ m a → with_cell b (m b) k ≡ k v
with_cell-there m k a b v e h = let there : m b ≡ Some v = sym (ap m e) ∙ sym h in ap (λ o. with_cell b o k) there

-- a cell that is missing
pub with_cell-missing : (m : Memory) (k : ℕ → Outcome) (a b : ℕ) → a ≡ b → None ≡ m a → with_cell b (m b) k ≡ NoCell a
with_cell-missing m k a b e h =
    let missing : m b ≡ None = sym (ap m e) ∙ sym h in ap (λ o. with_cell b o k) missing ∙ ap NoCell (sym e)

pub outcome-first : (m : Memory) (r : Registers) → outcome m r ≡ with_cell r.pc (m r.pc) (λ number. after_pc m r number)
unfolding outcome
outcome-first m r = refl

-- the word is there
pub outcome-word : (m : Memory) (r : Registers) (number : ℕ) (w : Word) → Some number ≡ m r.pc → Ok w ≡ decoding number → outcome m r ≡ after_word m r w
outcome-word m r number w h d =
    outcome-first m r ∙ (with_cell-there m (λ v. after_pc m r v) r.pc r.pc number refl h ∙ ap (λ x. with_word x (λ v. after_word m r v)) (sym d))

-- the cell at pc is no word
pub outcome-fault : (m : Memory) (r : Registers) (number : ℕ) (fault : WordFault) → Some number ≡ m r.pc → Err fault ≡ decoding number → outcome m r ≡ BadWord fault
outcome-fault m r number fault h d =
    outcome-first m r ∙ (with_cell-there m (λ v. after_pc m r v) r.pc r.pc number refl h ∙ ap (λ x. with_word x (λ v. after_word m r v)) (sym d))

-- the cell at pc is missing
pub outcome-no_word : (m : Memory) (r : Registers) → None ≡ m r.pc → outcome m r ≡ NoCell r.pc
outcome-no_word m r h = outcome-first m r ∙ with_cell-missing m (λ v. after_pc m r v) r.pc r.pc refl h

-- dst is there, or missing, at its address a
pub outcome-dst : (m : Memory) (r : Registers) (w : Word) (a dst : ℕ) → outcome m r ≡ after_word m r w → a ≡ dst_address w r → Some dst ≡ m a → outcome m r ≡ after_dst m r w dst
outcome-dst m r w a dst o e h = o ∙ with_cell-there m (λ v. after_dst m r w v) a (dst_address w r) dst e h

pub outcome-no_dst : (m : Memory) (r : Registers) (w : Word) (a : ℕ) → outcome m r ≡ after_word m r w → a ≡ dst_address w r → None ≡ m a → outcome m r ≡ NoCell a
outcome-no_dst m r w a o e h = o ∙ with_cell-missing m (λ v. after_dst m r w v) a (dst_address w r) e h

-- op0 is there, or missing, at its address a
pub outcome-op0 : (m : Memory) (r : Registers) (w : Word) (dst a op0 : ℕ) → outcome m r ≡ after_dst m r w dst → a ≡ op0_address w r → Some op0 ≡ m a → outcome m r ≡ after_op0 m r w dst op0
outcome-op0 m r w dst a op0 o e h = o ∙ with_cell-there m (λ v. after_op0 m r w dst v) a (op0_address w r) op0 e h

pub outcome-no_op0 : (m : Memory) (r : Registers) (w : Word) (dst a : ℕ) → outcome m r ≡ after_dst m r w dst → a ≡ op0_address w r → None ≡ m a → outcome m r ≡ NoCell a
outcome-no_op0 m r w dst a o e h = o ∙ with_cell-missing m (λ v. after_op0 m r w dst v) a (op0_address w r) e h

-- op1 is there, or missing, at its address a
pub outcome-op1 : (m : Memory) (r : Registers) (w : Word) (dst op0 a op1 : ℕ) → outcome m r ≡ after_op0 m r w dst op0 → a ≡ op1_address w r op0 → Some op1 ≡ m a → outcome m r ≡ outcome_by w.flags r dst op0 op1
outcome-op1 m r w dst op0 a op1 o e h = o ∙ with_cell-there m (λ v. outcome_by w.flags r dst op0 v) a (op1_address w r op0) op1 e h

pub outcome-no_op1 : (m : Memory) (r : Registers) (w : Word) (dst op0 a : ℕ) → outcome m r ≡ after_op0 m r w dst op0 → a ≡ op1_address w r op0 → None ≡ m a → outcome m r ≡ NoCell a
outcome-no_op1 m r w dst op0 a o e h = o ∙ with_cell-missing m (λ v. outcome_by w.flags r dst op0 v) a (op1_address w r op0) e h
