-- A plain value that was written is read back.
use Rattle.std.proofs.Common.{◌≡◌, ℕ, ◌≤◌, List, [], ◌∷◌, ◌++◌, Option, Some, option_map, option_and_then, Bool, true, false, refl, sym, ap, ◌∙◌, subst, arith, append-nil}
use Rattle.std.proofs.lemmas.Str.{IsUtf8-append, IsUtf8-from_ascii}
use Rattle.std.proofs.lemmas.Fmt.{IsAscii-decimal}
use Rattle.std.specs.Str.{IsUtf8}
use Rattle.json.specs.Token.{Token}
use Rattle.json.specs.Lex.{tokens}
use Rattle.json.specs.Json as json
use Rattle.json.specs.Tree as tree
use Rattle.json.proofs.Printed.Decimals.{IsNumber-decimal}
use Rattle.json.proofs.Printed.Tokens.{tokens-print}
use Rattle.json.proofs.Printed.Trees.{value-json_tokens, ArePrintable-json_tokens}
use Rattle.json.proofs.Printed.Utf8.{IsUtf8-quoted, IsUtf8-boolean, IsUtf8-are_ascii}
use Rattle.serde_json.specs.Data.{unsigned, negative, float, Data, null, boolean, number, string, array, object, Items, no_items, item, Members, no_members, member, put, depth, items_depth, members_depth}
use Rattle.serde_json.specs.Read.{of_json, of_items, of_members, read, max_depth}
use Rattle.serde_json.specs.Written.{outline, items_outline, members_outline, comma_if, compact_text, items_text, members_text}
use Rattle.serde_json.proofs.Numbers.{number_of-decimal}
use Rattle.serde_json.proofs.Texts.{print-outline}
use Rattle.json_fields.specs.Values.{json_of}
use Rattle.json_fields.specs.Plain.{IsAfter, IsPlain, ArePlain, HasPlainMembers}
use Rattle.json_fields.proofs.ReadValues.{json_of-text}

-- ---- the text is UTF-8

comma_utf8 : (later : Bool) → IsUtf8 (comma_if later)
comma_utf8 true = IsUtf8-are_ascii (44 ∷ []) refl
comma_utf8 false = IsUtf8-are_ascii [] refl

mutual
  text_utf8 : (d : Data) → IsPlain d → IsUtf8 (compact_text d)
  text_utf8 null h = IsUtf8-are_ascii _ refl
  text_utf8 (boolean b) h = IsUtf8-boolean b
  text_utf8 (number (unsigned n)) h = IsUtf8-from_ascii _ (IsAscii-decimal n h)
  text_utf8 (number (negative z)) h = absurd h
  text_utf8 (number (float x)) h = absurd h
  text_utf8 (string s) h = IsUtf8-quoted s h
  text_utf8 (array ds) h = IsUtf8-append (91 ∷ []) _ (IsUtf8-are_ascii (91 ∷ []) refl) (items_utf8 false ds h)
  text_utf8 (object ms) h = IsUtf8-append (123 ∷ []) _ (IsUtf8-are_ascii (123 ∷ []) refl) (members_utf8 false [] ms h)

  items_utf8 : (later : Bool) (ds : Items) → ArePlain ds → IsUtf8 (items_text later ds)
  items_utf8 later no_items h = IsUtf8-are_ascii (93 ∷ []) refl
  items_utf8 later (item d ds) h = IsUtf8-append _ _ (comma_utf8 later) (IsUtf8-append _ _ (text_utf8 d h.0) (items_utf8 true ds h.1))

  members_utf8 : (later : Bool) (before : List (List ℕ)) (ms : Members) → HasPlainMembers before ms → IsUtf8 (members_text later ms)
  members_utf8 later before no_members h = IsUtf8-are_ascii (125 ∷ []) refl
  members_utf8 later before (member k d ms) h =
      IsUtf8-append _ _ (comma_utf8 later) (IsUtf8-append _ _ (IsUtf8-quoted k h.1)
      (IsUtf8-append (58 ∷ []) _ (IsUtf8-are_ascii (58 ∷ []) refl) (IsUtf8-append _ _ (text_utf8 d h.2) (members_utf8 true (before ++ k ∷ []) ms h.3))))

-- ---- its numbers are numbers

mutual
  has_numbers : (d : Data) → IsPlain d → tree.HasNumbers (outline d)
  has_numbers null h = tt
  has_numbers (boolean b) h = tt
  has_numbers (number (unsigned n)) h = IsNumber-decimal n h
  has_numbers (number (negative z)) h = absurd h
  has_numbers (number (float x)) h = absurd h
  has_numbers (string s) h = tt
  has_numbers (array ds) h = items_have_numbers ds h
  has_numbers (object ms) h = members_have_numbers [] ms h

  items_have_numbers : (ds : Items) → ArePlain ds → tree.ItemsHaveNumbers (items_outline ds)
  items_have_numbers no_items h = tt
  items_have_numbers (item d ds) h = (has_numbers d h.0, items_have_numbers ds h.1)

  members_have_numbers : (before : List (List ℕ)) (ms : Members) → HasPlainMembers before ms → tree.MembersHaveNumbers (members_outline ms)
  members_have_numbers before no_members h = tt
  members_have_numbers before (member k d ms) h = (has_numbers d h.2, members_have_numbers (before ++ k ∷ []) ms h.3)

-- ---- the JSON is as deep as the value

mutual
  depth-outline : (d : Data) → tree.depth (outline d) ≡ depth d
  depth-outline null = refl
  depth-outline (boolean b) = refl
  depth-outline (number n) = refl
  depth-outline (string s) = refl
  depth-outline (array ds) = rw (items_depth-outline ds)
  depth-outline (object ms) = rw (members_depth-outline ms)

  items_depth-outline : (ds : Items) → tree.items_depth (items_outline ds) ≡ items_depth ds
  items_depth-outline no_items = refl
  items_depth-outline (item d ds) = rw (depth-outline d, items_depth-outline ds)

  members_depth-outline : (ms : Members) → tree.members_depth (members_outline ms) ≡ members_depth ms
  members_depth-outline no_members = refl
  members_depth-outline (member k d ms) = rw (depth-outline d, members_depth-outline ms)

-- ---- the JSON is converted to the value

abbrev joined : Members → Members → Members
joined no_members ms = ms
joined (member k d ms) more = member k d (joined ms more)

abbrev keys : Members → List (List ℕ)
keys no_members = []
keys (member k d ms) = k ∷ keys ms

keys-joined : (ms more : Members) → keys (joined ms more) ≡ keys ms ++ keys more
keys-joined no_members more = refl
keys-joined (member k d ms) more = ap (λ ks. k ∷ ks) (keys-joined ms more)

joined_assoc : (a b c : Members) → joined (joined a b) c ≡ joined a (joined b c)
joined_assoc no_members b c = refl
joined_assoc (member k d a) b c = ap (member k d) (joined_assoc a b c)

joined-none : (ms : Members) → joined ms no_members ≡ ms
joined-none no_members = refl
joined-none (member k d ms) = ap (member k d) (joined-none ms)

-- a key after all others goes last
put-last : (k : List ℕ) (d : Data) (ms : Members) → IsAfter k (keys ms) → put k d ms ≡ joined ms (member k d no_members)
put-last k d no_members h = refl
put-last k d (member l e ms) h = rw (h.0) (ap (member l e) (put-last k d ms h.1))

mutual
  of_json-outline : (d : Data) → IsPlain d → of_json (outline d) ≡ Some d
  of_json-outline null h = refl
  of_json-outline (boolean b) h = refl
  of_json-outline (number (unsigned n)) h = ap (option_map number) (number_of-decimal n h)
  of_json-outline (number (negative z)) h = absurd h
  of_json-outline (number (float x)) h = absurd h
  of_json-outline (string s) h = refl
  of_json-outline (array ds) h = ap (option_map array) (of_items-outline ds h)
  of_json-outline (object ms) h = ap (option_map object) (of_members-outline no_members ms h)

  of_items-outline : (ds : Items) → ArePlain ds → of_items (items_outline ds) ≡ Some ds
  of_items-outline no_items h = refl
  of_items-outline (item d ds) h = rw (of_json-outline d h.0, of_items-outline ds h.1)

  of_members-outline : (found ms : Members) → HasPlainMembers (keys found) ms → of_members (members_outline ms) found ≡ Some (joined found ms)
  of_members-outline found no_members h = ap Some (sym (joined-none found))
  of_members-outline found (member k d ms) h =
      let next = joined found (member k d no_members) in
      let plain : HasPlainMembers (keys next) ms = subst (λ ks. HasPlainMembers ks ms) (sym (keys-joined found (member k d no_members))) h.3 in
      rw (of_json-outline d h.2, put-last k d found h.0) (of_members-outline next ms plain ∙ ap Some (joined_assoc found (member k d no_members) ms))

-- ---- all together

abbrev whole : Option (json.Json × List Token) → Option Data
whole o = option_and_then of_json (option_and_then (λ p. json.if_last p.0 p.1) o)

read-compact_text : (d : Data) → IsPlain d → depth d ≤ max_depth → read (compact_text d) ≡ Some d
read-compact_text d plain shallow =
    let ts = tree.json_tokens (outline d) in
    let same : tokens (compact_text d) ≡ ts = ap tokens (sym (print-outline d)) ∙ tokens-print ts (ArePrintable-json_tokens (outline d) (has_numbers d plain)) in
    let fits : tree.depth (outline d) ≤ max_depth = omega (arith, depth-outline d) in
    ap whole (ap (json.value max_depth) (same ∙ sym (append-nil ts)) ∙ value-json_tokens (outline d) max_depth [] fits) ∙ of_json-outline d plain

pub json_of-compact_text : (d : Data) → IsPlain d → depth d ≤ max_depth → json_of (compact_text d) ≡ Some d
json_of-compact_text d plain shallow = json_of-text (compact_text d) (text_utf8 d plain) ∙ read-compact_text d plain shallow
