-- What a row says of its instruction and of the memory, the step that it stands for, and the row of a step. "The
-- whitepaper" is Cairo's, ePrint 2021/1063.
use Rattle.std.specs.Prelude.{◌≡◌, ℕ, ◌<◌, ◌/◌, ◌%◌, ◌^◌, ◌⊎◌, pos, ◌-ℤ◌, Bool, if◌then◌else◌, List, [], ◌∷◌, map, All, Some, Ok, IsOkAnd, MatchBool}
use Rattle.goldilocks.specs.Field.{prime, field_mul}
use Rattle.casm_word.specs.declared.Flags.{Flags}
use Rattle.casm_word.specs.declared.Word.{Word}
use Rattle.casm_word.specs.declared.Shape.{Shape}
use Rattle.casm_word.specs.declared.Shape.TheVariants.{Op1, Res, Pc, Opcode, ApBoth, JnzOpcode, JnzAp, CallAp}
use Rattle.casm_word.specs.Word.{decoding}
use Rattle.casm_word.specs.Transition.{Memory, Registers, dst_address, op0_address, op1_address, res, next}
use Rattle.cpu_rows.specs.Columns.{Columns, state_of, IsRow}
use Rattle.cpu_rows.specs.Equations.{◌⊕◌, ◌⊙◌, flag, Meets}

-- ---- what a row says

-- A flag as a number. Own.
abbrev pub zero_or_one : Bool → ℕ
zero_or_one b = if b then 1 else 0

-- The flags of the row are these. The whitepaper's flags of an instruction.
pub record HasFlags (r : Columns) (f : Flags) : Type 0 where
  pub dst_fp : flag r 0 ≡ zero_or_one f.dst_fp
  pub op0_fp : flag r 1 ≡ zero_or_one f.op0_fp
  pub op1_imm : flag r 2 ≡ zero_or_one f.op1_imm
  pub op1_fp : flag r 3 ≡ zero_or_one f.op1_fp
  pub op1_ap : flag r 4 ≡ zero_or_one f.op1_ap
  pub res_add : flag r 5 ≡ zero_or_one f.res_add
  pub res_mul : flag r 6 ≡ zero_or_one f.res_mul
  pub pc_abs : flag r 7 ≡ zero_or_one f.pc_abs
  pub pc_rel : flag r 8 ≡ zero_or_one f.pc_rel
  pub pc_jnz : flag r 9 ≡ zero_or_one f.pc_jnz
  pub ap_add : flag r 10 ≡ zero_or_one f.ap_add
  pub ap_add1 : flag r 11 ≡ zero_or_one f.ap_add1
  pub op_call : flag r 12 ≡ zero_or_one f.op_call
  pub op_ret : flag r 13 ≡ zero_or_one f.op_ret
  pub op_assert : flag r 14 ≡ zero_or_one f.op_assert

-- The flags and the offsets of the row are those of this word. The whitepaper's instruction structure.
pub record HasWord (r : Columns) (w : Word) : Type 0 where
  pub flags : HasFlags r w.flags
  pub off_dst : w.off_dst ≡ pos r.off_dst -ℤ pos (2 ^ 15)
  pub off_op0 : w.off_op0 ≡ pos r.off_op0 -ℤ pos (2 ^ 15)
  pub off_op1 : w.off_op1 ≡ pos r.off_op1 -ℤ pos (2 ^ 15)

-- The cells that the row says were read, each an address and a value. The whitepaper's memory accesses of a step.
unfoldable pub row_accesses : Columns → List (ℕ × ℕ)
row_accesses r = (r.pc, r.inst) ∷ (r.dst_addr, r.dst) ∷ (r.op0_addr, r.op0) ∷ (r.op1_addr, r.op1) ∷ []

-- The memory has each of these cells. Own.
abbrev pub HasCells : Memory → List (ℕ × ℕ) → Type 0
HasCells m cells = All (λ cell. m cell.0 ≡ Some cell.1) cells

-- The offsets of the row, which are to be range checked. The whitepaper's range-checked offsets.
unfoldable pub offsets : Columns → List ℕ
offsets r = r.off_dst ∷ r.off_op0 ∷ r.off_op1 ∷ []

-- Each offset of the row has sixteen bits. The whitepaper's range check of the offsets.
abbrev pub HasSmallOffsets : Columns → Type 0
HasSmallOffsets r = All (λ offset. offset < 2 ^ 16) (offsets r)

-- The row is one step to the next state. Its word is an instruction with the row's flags and offsets. In every memory
-- that has the row's cells the transition function goes from the row's state to the next one. Own.
pub record IsStep (r : Columns) (after : Registers) : Type 0 where
  pub below : r.inst < 2 ^ 63
  pub word : IsOkAnd (decoding r.inst) (λ w. HasWord r w)
  pub step : (m : Memory) → HasCells m (row_accesses r) → next m (state_of r) ≡ Some after

-- ---- the row of a step

-- What is left of a word above its bit k. Own.
abbrev pub bits_from : ℕ → ℕ → ℕ
bits_from number k = number / 2 ^ k

-- The tilde values of a word: its flags as a number, and what is left of it as one flag after the other is taken off.
-- The whitepaper's bit-unpacking of the flags.
unfoldable pub tilde_of : ℕ → List ℕ
tilde_of number =
    map (bits_from number)
    (48 ∷ 49 ∷ 50 ∷ 51 ∷ 52 ∷ 53 ∷ 54 ∷ 55 ∷ 56 ∷ 57 ∷ 58 ∷ 59 ∷ 60 ∷ 61 ∷ 62 ∷ 63 ∷ [])

-- The inverse of a number, or 0 for 0. Own.
unfoldable pub IsInverseOrZero : ℕ → ℕ → Type 0
IsInverseOrZero x y = (y < prime) × ((field_mul x y ≡ 1) ⊎ ((x ≡ 0) × (y ≡ 0)))

-- What stands in the column res: what the instruction computes, and under a conditional jump the inverse of dst.
-- The whitepaper's res, with a witness that dst isn't 0.
unfoldable pub IsRes : Flags → ℕ → ℕ → ℕ → ℕ → Type 0
IsRes f dst op0 op1 x = MatchBool f.pc_jnz (IsInverseOrZero dst x) (x ≡ res f op0 op1)

-- The row of a step from a state, for its word and operands and what stands in the column res. The whitepaper's
-- columns of the trace.
unfoldable pub row_of : Registers → ℕ → Word → ℕ → ℕ → ℕ → ℕ → Columns
row_of s number w dst op0 op1 res =
    let t0 = field_mul (zero_or_one w.flags.pc_jnz) dst in
    record {
      pc = s.pc;
      ap = s.ap;
      fp = s.fp;
      inst = number;
      tilde = tilde_of number;
      off_dst = bits_from number 0 % 2 ^ 16;
      off_op0 = bits_from number 16 % 2 ^ 16;
      off_op1 = bits_from number 32 % 2 ^ 16;
      dst_addr = dst_address w s;
      op0_addr = op0_address w s;
      op1_addr = op1_address w s op0;
      dst = dst;
      op0 = op0;
      op1 = op1;
      mul = field_mul op0 op1;
      res = res;
      t0 = t0;
      t1 = field_mul t0 res;
    }

-- The row is that of the step from the state in the memory. Its word and operands are the cells that the transition
-- function reads, and the rest follows from them. Own.
pub record IsRowOf (m : Memory) (s : Registers) (r : Columns) : Type 0 where
  pub word : Word
  pub inst : m s.pc ≡ Some r.inst
  pub decodes : decoding r.inst ≡ Ok word
  pub dst : m (dst_address word s) ≡ Some r.dst
  pub op0 : m (op0_address word s) ≡ Some r.op0
  pub op1 : m (op1_address word s r.op0) ≡ Some r.op1
  pub res : IsRes word.flags r.dst r.op0 r.op1 r.res
  pub columns : r ≡ row_of s r.inst word r.dst r.op0 r.op1 r.res

-- ---- how many rows a step has

-- The row tells the step between two states in the memory. It begins in the first, its cells are in the memory, and its
-- offsets have sixteen bits. With the second it meets the equations. Own.
pub record Tells (m : Memory) (s after : Registers) (r : Columns) : Type 0 where
  pub row : IsRow r
  pub next_pc : after.pc < prime
  pub state : state_of r ≡ s
  pub cells : HasCells m (row_accesses r)
  pub offsets : HasSmallOffsets r
  pub meets : Meets r after

-- The row is that of a conditional jump, whose flag JNZ is the tenth, and the next instruction is the one that lies
-- after it. Own.
unfoldable pub GoesOnBehind : Columns → Registers → Type 0
GoesOnBehind r after = (flag r 9 ≡ 1) × (after.pc ≡ r.pc ⊕ (1 ⊕ flag r 2))

-- The row with another number in the column res, and t1 as it follows from that. Own.
unfoldable pub with_res : Columns → ℕ → Columns
with_res r x = record r { res = x; t1 = r.t0 ⊙ x }

-- ---- flags that have no meaning together

-- The equation that excludes a shape. Own.
abbrev pub equation_of : Shape → ℕ
equation_of Op1 = 32
equation_of Res = 33
equation_of Pc = 34
equation_of Opcode = 35
equation_of ApBoth = 36
equation_of JnzOpcode = 37
equation_of JnzAp = 38
equation_of CallAp = 39
