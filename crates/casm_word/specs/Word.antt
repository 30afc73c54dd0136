-- The instruction word as a number: three offsets and fifteen flags, read by division and remainder. "The whitepaper"
-- is Cairo's, ePrint 2021/1063.
use Rattle.std.specs.Prelude.{ℕ, ◌+◌, ◌-◌, ◌*◌, ◌/◌, ◌%◌, ◌^◌, ℤ, pos, negsuc, ◌-ℤ◌, Bool, ◌&&◌, ◌||◌, ◌==◌, nat_lt, if◌then◌else◌, List, [], ◌∷◌, find, Option, Some, None, Result, Ok, Err}
use Rattle.casm_word.specs.declared.Flags.{Flags}
use Rattle.casm_word.specs.declared.Word.{Word}
use Rattle.casm_word.specs.declared.Shape.{Shape}
use Rattle.casm_word.specs.declared.Shape.TheVariants.{Op1, Res, Pc, Opcode, ApBoth, JnzOpcode, JnzAp, CallAp}
use Rattle.casm_word.specs.declared.WordFault.{WordFault}
use Rattle.casm_word.specs.declared.WordFault.TheVariants.{HighBit, Undefined}

-- Words are numbers below this one: they have 63 bits. The whitepaper's instruction structure.
abbrev pub word_bound : ℕ
word_bound = 2 ^ 63

-- What is added to an offset in a word. The whitepaper's instruction structure.
abbrev pub offset_bias : ℕ
offset_bias = 2 ^ 15

-- Bit k of a number is 1. Own.
abbrev pub bit : ℕ → ℕ → Bool
bit n k = (n / 2 ^ k) % 2 == 1

-- The offset whose sixteen bits begin at bit k: they hold it with the bias added. The whitepaper's instruction structure.
abbrev pub offset : ℕ → ℕ → ℤ
offset n k = pos ((n / 2 ^ k) % 2 ^ 16) -ℤ pos offset_bias

-- The flags of a word: bits 48 to 62, in their order. The whitepaper's instruction structure.
unfoldable pub flags_of : ℕ → Flags
flags_of n = record {
  dst_fp = bit n 48;
  op0_fp = bit n 49;
  op1_imm = bit n 50;
  op1_fp = bit n 51;
  op1_ap = bit n 52;
  res_add = bit n 53;
  res_mul = bit n 54;
  pc_abs = bit n 55;
  pc_rel = bit n 56;
  pc_jnz = bit n 57;
  ap_add = bit n 58;
  ap_add1 = bit n 59;
  op_call = bit n 60;
  op_ret = bit n 61;
  op_assert = bit n 62;
}

-- What a number says as an instruction word. Bit 63 isn't looked at. The whitepaper's instruction structure.
unfoldable pub word_of : ℕ → Word
word_of n = record { off_dst = offset n 0; off_op0 = offset n 16; off_op1 = offset n 32; flags = flags_of n }

-- At least two of three flags are set. Own.
abbrev pub two_of : Bool → Bool → Bool → Bool
two_of a b c = (a && b) || (a && c) || (b && c)

-- The flags break this shape: two flags that exclude each other are set. After the whitepaper's state transition
-- function, where such words have no meaning; the list of shapes is own.
unfoldable pub breaks : Shape → Flags → Bool
breaks Op1 f = two_of f.op1_imm f.op1_fp f.op1_ap
breaks Res f = two_of f.res_add f.res_mul f.pc_jnz
breaks Pc f = two_of f.pc_abs f.pc_rel f.pc_jnz
breaks Opcode f = two_of f.op_call f.op_ret f.op_assert
breaks ApBoth f = f.ap_add && f.ap_add1
breaks JnzOpcode f = f.pc_jnz && (f.op_call || f.op_ret || f.op_assert)
breaks JnzAp f = f.pc_jnz && f.ap_add
breaks CallAp f = f.op_call && (f.ap_add || f.ap_add1)

-- The shapes in the order in which they are reported. Own.
abbrev pub shapes : List Shape
shapes = Op1 ∷ Res ∷ Pc ∷ Opcode ∷ ApBoth ∷ JnzOpcode ∷ JnzAp ∷ CallAp ∷ []

-- The first shape that the flags break; there is none where they are defined. Own.
unfoldable pub first_broken : Flags → Option Shape
first_broken f = find (λ s. breaks s f) shapes

-- The word, or that its flags are undefined by this shape. Own.
abbrev pub unless_broken : Option Shape → Word → Result Word WordFault
unless_broken None w = Ok w
unless_broken (Some s) w = Err (Undefined s)

-- What a number is as an instruction: a word with defined flags, below the limit; or the first fault. Own.
unfoldable pub decoding : ℕ → Result Word WordFault
decoding n = if nat_lt n word_bound then unless_broken (first_broken (flags_of n)) (word_of n) else Err HighBit

-- What sixteen bits hold of an offset: it with the bias added. The whitepaper's instruction structure.
abbrev pub biased : ℤ → ℕ
biased (pos n) = offset_bias + n
biased (negsuc n) = offset_bias - (n + 1)

-- What a flag adds to the number of a word: bit k where it is set. Own.
abbrev pub flag_at : ℕ → Bool → ℕ
flag_at k flag = if flag then 2 ^ k else 0

-- What the flags add to the number of a word: bits 48 to 62, in their order. The whitepaper's instruction structure.
unfoldable pub flags_number : Flags → ℕ
flags_number f =
    flag_at 48 f.dst_fp
    + flag_at 49 f.op0_fp
    + flag_at 50 f.op1_imm
    + flag_at 51 f.op1_fp
    + flag_at 52 f.op1_ap
    + flag_at 53 f.res_add
    + flag_at 54 f.res_mul
    + flag_at 55 f.pc_abs
    + flag_at 56 f.pc_rel
    + flag_at 57 f.pc_jnz
    + flag_at 58 f.ap_add
    + flag_at 59 f.ap_add1
    + flag_at 60 f.op_call
    + flag_at 61 f.op_ret
    + flag_at 62 f.op_assert

-- The number of a word: the sum of its offsets and its flags, each at its place. The whitepaper's instruction
-- structure.
unfoldable pub word_number : Word → ℕ
word_number w =
    biased w.off_dst + biased w.off_op0 * 2 ^ 16 + biased w.off_op1 * 2 ^ 32 + flags_number w.flags
