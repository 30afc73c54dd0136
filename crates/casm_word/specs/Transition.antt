-- The transition function: what one step of the machine does to its three registers, in a memory that is only read.
-- "The whitepaper" is Cairo's, ePrint 2021/1063. All sums are those of the field.
use Rattle.std.specs.Prelude.{ℕ, ℤ, Bool, not, ◌&&◌, ◌||◌, ◌==◌, if◌then◌else◌, Option, Some, None, option_and_then, Result, Ok, Err}
use Rattle.std.specs.Bool.{then_some}
use Rattle.std.specs.Result.{result_ok}
use Rattle.goldilocks.specs.Field.{field_add, field_mul, field_of_int}
use Rattle.casm_word.specs.declared.Flags.{Flags}
use Rattle.casm_word.specs.declared.Word.{Word}
use Rattle.casm_word.specs.declared.WordFault.{WordFault}
use Rattle.casm_word.specs.declared.State.{State}
use Rattle.casm_word.specs.declared.StepResult.{StepResult}
use Rattle.casm_word.specs.declared.StepResult.TheVariants as answer
use Rattle.casm_word.specs.Word.{decoding}

-- A memory: the value at each address that has one. The whitepaper's read-only memory.
abbrev pub Memory : Type 0
Memory = ℕ → Option ℕ

-- The three registers as numbers. The whitepaper's registers.
pub record Registers : Type 0 where
  pub pc : ℕ
  pub ap : ℕ
  pub fp : ℕ

-- The numbers of a state. Own.
unfoldable pub registers : State → Registers
registers s = record { pc = s.pc.number; ap = s.ap.number; fp = s.fp.number }

-- How many cells an instruction takes: a second one holds its immediate. The whitepaper's instruction structure.
abbrev pub size : Flags → ℕ
size f = if f.op1_imm then 2 else 1

-- An address moved by an offset. Own.
abbrev pub moved : ℕ → ℤ → ℕ
moved base offset = field_add base (field_of_int offset)

-- Where dst lies. The whitepaper's state transition function.
abbrev pub dst_address : Word → Registers → ℕ
dst_address w r = moved (if w.flags.dst_fp then r.fp else r.ap) w.off_dst

-- Where op0 lies. The whitepaper's state transition function.
abbrev pub op0_address : Word → Registers → ℕ
op0_address w r = moved (if w.flags.op0_fp then r.fp else r.ap) w.off_op0

-- What the address of op1 is counted from, given op0. The whitepaper's state transition function.
abbrev pub op1_base : Flags → Registers → ℕ → ℕ
op1_base f r op0 = if f.op1_imm then r.pc else (if f.op1_fp then r.fp else (if f.op1_ap then r.ap else op0))

-- Where op1 lies, given op0. The whitepaper's state transition function.
abbrev pub op1_address : Word → Registers → ℕ → ℕ
op1_address w r op0 = moved (op1_base w.flags r op0) w.off_op1

-- What the instruction computes of its operands. A conditional jump makes no use of it. The whitepaper's state
-- transition function.
abbrev pub res : Flags → ℕ → ℕ → ℕ
res f op0 op1 = if f.res_add then field_add op0 op1 else (if f.res_mul then field_mul op0 op1 else op1)

-- The pc of the instruction that lies after this one. The whitepaper's state transition function.
abbrev pub following_pc : Flags → Registers → ℕ
following_pc f r = field_add r.pc (size f)

-- The next pc. The whitepaper's state transition function.
abbrev pub next_pc : Flags → Registers → ℕ → ℕ → ℕ → ℕ
next_pc f r dst op0 op1 =
    if f.pc_abs then res f op0 op1
    else (if f.pc_rel then field_add r.pc (res f op0 op1)
    else (if f.pc_jnz && not (dst == 0) then field_add r.pc op1
    else following_pc f r))

-- The next ap. The whitepaper's state transition function.
abbrev pub next_ap : Flags → Registers → ℕ → ℕ → ℕ
next_ap f r op0 op1 =
    if f.op_call then field_add r.ap 2
    else (if f.ap_add then field_add r.ap (res f op0 op1)
    else (if f.ap_add1 then field_add r.ap 1
    else r.ap))

-- The next fp. The whitepaper's state transition function.
abbrev pub next_fp : Flags → Registers → ℕ → ℕ
next_fp f r dst = if f.op_call then field_add r.ap 2 else (if f.op_ret then dst else r.fp)

-- The registers after the step. The whitepaper's state transition function.
abbrev pub next_registers : Flags → Registers → ℕ → ℕ → ℕ → Registers
next_registers f r dst op0 op1 =
    record { pc = next_pc f r dst op0 op1; ap = next_ap f r op0 op1; fp = next_fp f r dst }

-- A call demands that op0 is the pc to return to. The whitepaper's state transition function.
abbrev pub has_return_pc : Flags → Registers → ℕ → Bool
has_return_pc f r op0 = not f.op_call || (op0 == following_pc f r)

-- A call demands that dst is the caller's fp. The whitepaper's state transition function.
abbrev pub has_caller_fp : Flags → Registers → ℕ → Bool
has_caller_fp f r dst = not f.op_call || (dst == r.fp)

-- An assertion has dst equal to what is computed. The whitepaper's state transition function.
abbrev pub meets_assertion : Flags → ℕ → ℕ → ℕ → Bool
meets_assertion f dst op0 op1 = not f.op_assert || (dst == res f op0 op1)

-- A partial function goes on where there is a value; `do` reads its steps one after another. Own.
infixl 10 ◌>>=◌
abbrev pub ◌>>=◌ : {A B : Type 0} → Option A → (A → Option B) → Option B
found >>= go_on = option_and_then go_on found

-- The registers after a step with these flags and operands, where the opcode allows it. The whitepaper's
-- state transition function.
abbrev pub next_by : Flags → Registers → ℕ → ℕ → ℕ → Option Registers
next_by f r dst op0 op1 =
    then_some (has_return_pc f r op0 && has_caller_fp f r dst && meets_assertion f dst op0 op1)
    (next_registers f r dst op0 op1)

-- The transition function. A next state is there exactly where the step's four cells are held, the word at pc is
-- defined, and the demands of its opcode are met. The whitepaper's state transition function.
unfoldable pub next : Memory → Registers → Option Registers
next m r = do
  number ← m r.pc
  w ← result_ok (decoding number)
  dst ← m (dst_address w r)
  op0 ← m (op0_address w r)
  op1 ← m (op1_address w r op0)
  next_by w.flags r dst op0 op1

-- What a step comes to: the next registers, or why there are none. The names are those of the answers of `step`. Own.
pub data Outcome : Type 0 where
  Next : Registers → Outcome
  -- no cell at this address
  NoCell : ℕ → Outcome
  -- the cell at pc is no defined word
  BadWord : WordFault → Outcome
  -- a call with another op0 than the pc to return to
  CallPc : Outcome
  -- a call with another dst than the caller's fp
  CallFp : Outcome
  -- an assertion whose dst isn't what is computed
  NotEqual : Outcome

-- What follows from the cell at an address, which may be missing. Own.
abbrev pub with_cell : ℕ → Option ℕ → (ℕ → Outcome) → Outcome
with_cell a None k = NoCell a
with_cell a (Some v) k = k v

-- What follows from a word, which may be faulty. Own.
abbrev pub with_word : Result Word WordFault → (Word → Outcome) → Outcome
with_word (Err fault) k = BadWord fault
with_word (Ok w) k = k w

-- What a step with these flags and operands comes to: the opcode's demands in their order. Own.
abbrev pub outcome_by : Flags → Registers → ℕ → ℕ → ℕ → Outcome
outcome_by f r dst op0 op1 =
    if not (has_return_pc f r op0) then CallPc
    else (if not (has_caller_fp f r dst) then CallFp
    else (if not (meets_assertion f dst op0 op1) then NotEqual
    else Next (next_registers f r dst op0 op1)))

-- What a step comes to, the first cause deciding: the cell at pc, its word, the cells of dst, op0 and op1, and then
-- the opcode's demands. Own.
unfoldable pub outcome : Memory → Registers → Outcome
outcome m r =
    with_cell r.pc (m r.pc) (λ number.
    with_word (decoding number) (λ w.
    with_cell (dst_address w r) (m (dst_address w r)) (λ dst.
    with_cell (op0_address w r) (m (op0_address w r)) (λ op0.
    with_cell (op1_address w r op0) (m (op1_address w r op0)) (λ op1.
    outcome_by w.flags r dst op0 op1)))))

-- The registers that a step's answer goes on to, where it does. Own.
abbrev pub reached : StepResult → Option Registers
reached (answer.Next s) = Some (registers s)
reached (answer.NoCell _) = None
reached (answer.BadWord _) = None
reached answer.CallPc = None
reached answer.CallFp = None
reached answer.NotEqual = None

-- What a step's answer says, in numbers. Own.
unfoldable pub outcome_of : StepResult → Outcome
outcome_of (answer.Next s) = Next (registers s)
outcome_of (answer.NoCell a) = NoCell a.number
outcome_of (answer.BadWord fault) = BadWord fault
outcome_of answer.CallPc = CallPc
outcome_of answer.CallFp = CallFp
outcome_of answer.NotEqual = NotEqual
