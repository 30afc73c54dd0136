-- What items are assembled to, as a function: the program, or the first fault. That it says the same as `HasNoFault` and
-- `IsFirstFault` is a law (`assembling_laws`), so these two are what need be believed.
use Rattle.std.specs.Prelude.{ℕ, Bool, List, [], ◌∷◌, ◌++◌, find, Option, Some, None, option_map, option_and_then, is_some, is_none, Result, Ok, Err, nat_lt, nat_le, if◌then◌else◌}
use Rattle.std.specs.Bool.{then_some}
use Rattle.std.specs.Option.{option_or}
use Rattle.goldilocks.specs.declared.Felt.{Felt}
use Rattle.casm_word.specs.Length.{program_word_limit}
use Rattle.casm_statements.specs.declared.Body.{Body}
use Rattle.casm_statements.specs.declared.Item.{Item}
use Rattle.casm_text.specs.Meaning.{bodies}
use Rattle.assembler.specs.declared.Assembled.{Assembled}
use Rattle.assembler.specs.declared.fault.AsmFault.{AsmFault}
use Rattle.assembler.specs.declared.fault.AsmFault.TheVariants.{Duplicate, TooLong, Unknown, NoEnd, StartOutside, EndOutside}
use Rattle.assembler.specs.Assembly.{word_count, labels_of, words_of, first_given, end_in, start_place, end_place, builtins_of}
use Rattle.assembler.specs.Faults.{is_given_again, unknown_in}

-- A program with the labels of its text. It has the words, and the labels with the number of words before each. It says
-- where the program starts and ends, and whether it has output cells and range-checked ones. Own.
pub record Assembly : Type 0 where
  pub words : List Felt
  pub labels : List (List ℕ × ℕ)
  pub start : ℕ
  pub end : ℕ
  pub output : Bool
  pub range : Bool

-- The program that bodies of items make, where none of the faults is there. Own.
unfoldable pub assembly_of : List Item → Assembly
assembly_of items = record {
  words = words_of (bodies items);
  labels = labels_of (bodies items);
  start = start_place (bodies items);
  end = end_place (bodies items);
  output = (builtins_of (bodies items)).0;
  range = (builtins_of (bodies items)).1;
}

-- A program of the code, as it is seen. Own.
unfoldable pub seen_assembly : Assembled → Assembly
seen_assembly a = record {
  words = a.words.items;
  labels = a.labels.entries;
  start = a.start;
  end = a.end;
  output = a.output;
  range = a.range;
}

-- The line of the first item that is a label or a directive which these bodies or an item before it give. Own.
abbrev pub first_repeat : List Body → List Item → Option ℕ
first_repeat before [] = None
first_repeat before (i ∷ others) =
    if is_given_again before i.body then Some i.line else first_repeat (before ++ i.body ∷ []) others

-- The fault of an item that names a label which isn't one of these. Own.
abbrev pub unknown_fault : List (List ℕ × ℕ) → Item → Option AsmFault
unknown_fault labels i = option_map (λ n. Unknown n i.line) (unknown_in labels i.body)

-- The fault of the first item that names such a label. Own.
abbrev pub first_unknown : List (List ℕ × ℕ) → List Item → Option AsmFault
first_unknown labels items = option_and_then (unknown_fault labels) (find (λ i. is_some (unknown_in labels i.body)) items)

-- The first fault of items, in the order in which faults are reported. Own.
unfoldable pub first_fault : List Item → Option AsmFault
first_fault items =
    option_or (option_map (λ line. Duplicate line) (first_repeat [] items))
    (option_or (then_some (nat_lt program_word_limit (word_count (bodies items))) TooLong)
    (option_or (first_unknown (labels_of (bodies items)) items)
    (option_or (then_some (is_none (first_given end_in (bodies items))) NoEnd)
    (option_or (then_some (nat_le (word_count (bodies items)) (start_place (bodies items))) StartOutside)
    (then_some (nat_le (word_count (bodies items)) (end_place (bodies items))) EndOutside)))))

-- The fault, if there is one, or else the program. Own.
abbrev pub unless_fault : Option AsmFault → Assembly → Result Assembly AsmFault
unless_fault None program = Ok program
unless_fault (Some f) program = Err f

-- What items are assembled to: the program, or the first fault. Own.
unfoldable pub assembling : List Item → Result Assembly AsmFault
assembling items = unless_fault (first_fault items) (assembly_of items)
