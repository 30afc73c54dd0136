-- The program file that is written for a program has at most 21 bytes a word, and some 150 more, so it is within its
-- limit.
use Rattle.std.proofs.Common.{◌+◌, ◌*◌, ◌^◌, ◌<◌, ◌≤◌, Bool, true, false, List, [], ◌∷◌, ◌++◌, map, length, codes, arith}
use Rattle.json.specs.Print.{escape_byte, quoted}
use Rattle.serde_json.specs.Data.{string, Members, member, no_members}
use Rattle.serde_json.specs.View.{items_of}
use Rattle.serde_json.specs.Written.{comma_if, compact_text, items_text, members_text}
use Rattle.json_fields.specs.FieldTexts.{hex_text}
use Rattle.json_fields.specs.Encoding.{list_json, whole_json, felt_json}
use Rattle.goldilocks.specs.declared.Felt.{Felt}
use Rattle.program_file.specs.Listing.{Listing, IsProgram}
use Rattle.program_file.specs.Format.{prime_text, builtin_names, program_json, written}
use Rattle.casm_tokens.specs.Limits.{text_limit}
use Rattle.cairo_commands.proofs.TextSizes.{text_le, word_le, comma_le, place_le, member_le}

-- ---- a list of words

words_le : (later : Bool) (words : List Felt) → length (items_text later (items_of (map felt_json words))) ≤ 21 * length words + 1
words_le later [] = omega arith
words_le later (x ∷ words) =
    let others = items_text true (items_of (map felt_json words)) in
    let k = text_le (comma_if later) (quoted (hex_text x) ++ others) 1 (20 + (21 * length words + 1)) (comma_le later)
    (text_le (quoted (hex_text x)) others 20 (21 * length words + 1) (word_le x) (words_le true words)) in
    omega arith

-- ---- the other parts

names_le : (output range : Bool) → length (compact_text (list_json (map string (builtin_names (record { output = output; range = range }))))) ≤ 24
unfolding escape_byte
names_le true true = omega arith
names_le true false = omega arith
names_le false true = omega arith
names_le false false = omega arith

-- ---- the whole file

module _ (p : Listing) where
  abbrev from_start : Members
  from_start = member (codes "start") (whole_json p.start) no_members

  abbrev from_prime : Members
  from_prime = member (codes "prime") (string prime_text) from_start

  abbrev from_end : Members
  from_end = member (codes "end") (whole_json p.end) from_prime

  abbrev from_data : Members
  from_data = member (codes "data") (list_json (map felt_json p.words)) from_end

  members_le : IsProgram p → length (members_text false (member (codes "builtins") (list_json (map string (builtin_names p.builtins))) from_data)) ≤ 21 * length p.words + 140
  unfolding escape_byte
  members_le is =
      let start : p.start < 2 ^ 32 = omega (arith, is.start_inside, is.few_words) in
      let end : p.end < 2 ^ 32 = omega (arith, is.end_inside, is.few_words) in
      let words = words_le false p.words in
      let every = member_le false (codes "builtins") (list_json (map string (builtin_names p.builtins))) from_data 10 24 (21 * length p.words + 86) (omega arith) (names_le p.builtins.output p.builtins.range)
      (let behind = member_le true (codes "data") (list_json (map felt_json p.words)) from_end 6 (21 * length p.words + 2) 66 (omega arith) (omega arith)
      (member_le true (codes "end") (whole_json p.end) from_prime 5 10 49 (omega arith) (place_le p.end end)
      (member_le true (codes "prime") (string prime_text) from_start 7 20 20 (omega arith) (omega arith)
      (member_le true (codes "start") (whole_json p.start) no_members 7 10 1 (omega arith) (place_le p.start start) (omega arith)))) in omega arith) in
      omega arith

  -- what is written for a program is within the limit of a program file
  pub written_fits : IsProgram p → length (written p) ≤ text_limit
  unfolding written program_json
  written_fits is =
      let few = is.few_words in
      let k = members_le is in
      omega arith
