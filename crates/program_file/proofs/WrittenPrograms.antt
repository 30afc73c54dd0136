-- What is written for a program is that program.
use Rattle.std.proofs.Common.{◌≡◌, ℕ, ◌^◌, ◌<◌, ◌≤◌, List, [], ◌∷◌, ◌++◌, map, Ok, Err, OnOk, Result, Bool, cond, codes, refl, subst, arith, append_assoc, decimal}
use Rattle.json.specs.Token as token
use Rattle.json.specs.Token.{Token}
use Rattle.json.specs.Tree.{json_tokens}
use Rattle.json.specs.Written.{Written, Writes}
use Rattle.json.proofs.Printed.Utf8.{IsUtf8-are_ascii}
use Rattle.serde_json.specs.Data.{Data, string, depth}
use Rattle.serde_json.specs.Read.{max_depth}
use Rattle.serde_json.specs.Written.{outline}
use Rattle.json_fields.specs.Values.{text_at, list_at, whole_at, felt_in}
use Rattle.json_fields.specs.Plain.{IsPlain}
use Rattle.json_fields.specs.Encoding.{list_json, felt_json, WritesValue}
use Rattle.json_fields.proofs.ReadBack.{json_of-compact_text}
use Rattle.json_fields.proofs.Parts.{ArePlain-items_of, items_depth-items_of, map-entries, list_in-list_json, whole_in-whole_json, felt_in-felt_json, IsPlain-felt_json}
use Rattle.json_fields.proofs.WrittenTokens.{Adds, and_then, value_written}
use Rattle.program_file.specs.Listing.{Listing, IsProgram}
use Rattle.program_file.specs.Parts.{WritesName}
use Rattle.program_file.specs.Format.{SpellsProgram, prime_text, builtin_names, program_json, written}
use Rattle.program_file.proofs.BuiltinLists.{ArePlain-names}

module _ (p : Listing) where
  plain : IsProgram p → IsPlain (program_json p)
  unfolding program_json
  plain h =
      let start : p.start < 2 ^ 64 = omega (arith, h.start_inside, h.few_words) in
      let end : p.end < 2 ^ 64 = omega (arith, h.end_inside, h.few_words) in (
        tt,
        IsUtf8-are_ascii (codes "builtins") refl,
        ArePlain-names p.builtins,
        (
          (refl, tt),
          IsUtf8-are_ascii (codes "data") refl,
          ArePlain-items_of felt_json IsPlain-felt_json p.words,
          (
            (refl, (refl, tt)),
            IsUtf8-are_ascii (codes "end") refl,
            end,
            (
              (refl, (refl, (refl, tt))),
              IsUtf8-are_ascii (codes "prime") refl,
              IsUtf8-are_ascii prime_text refl,
              ((refl, (refl, (refl, (refl, tt)))), IsUtf8-are_ascii (codes "start") refl, start, tt),
            ),
          ),
        ),
      )

  shallow : depth (program_json p) ≤ max_depth
  unfolding program_json
  shallow =
      omega (arith, items_depth-items_of string 0 (λ s. omega arith) (builtin_names p.builtins), items_depth-items_of felt_json 0 (λ x. omega arith) p.words)

  pub SpellsProgram-written : IsProgram p → SpellsProgram (written p) p
  unfolding program_json written text_at list_at whole_at
  SpellsProgram-written h = record {
    top = program_json p;
    is_json = json_of-compact_text (program_json p) (plain h) shallow;
    prime_is = refl;
    texts = map felt_json p.words;
    data_is = list_in-list_json (map felt_json p.words);
    words_are = map-entries felt_json felt_in felt_in-felt_json p.words;
    start_is = whole_in-whole_json p.start;
    end_is = whole_in-whole_json p.end;
    builtins_are = list_in-list_json (map string (builtin_names p.builtins));
    program = h;
  }

  abbrev builtins_json : Data
  builtins_json = list_json (map string (builtin_names p.builtins))

  abbrev words_json : Data
  words_json = list_json (map felt_json p.words)

  abbrev number_tokens : ℕ → List Token
  number_tokens n = token.number (decimal n) ∷ []

  -- the tokens in the order in which they are written
  pub program_tokens : (((((((((((token.begin_object ∷ [] ++ token.key (codes "builtins") ∷ []) ++ json_tokens (outline builtins_json)) ++ token.key (codes "data") ∷ []) ++ json_tokens (outline words_json))
      ++ token.key (codes "end") ∷ []) ++ number_tokens p.end) ++ token.key (codes "prime") ∷ []) ++ token.string prime_text ∷ []) ++ token.key (codes "start") ∷ []) ++ number_tokens p.start) ++ token.end_object ∷ [])
      ≡ json_tokens (outline (program_json p))
  unfolding program_json
  program_tokens = simp append_assoc

-- what a writer has written where its last step succeeded
pub when_ended : {E : Type 0} (r : Result (Unit {0}) E) (a b c : Written) (ts : List Token) (t : Token) (d : Data) → Adds a b ts → Writes r b c t → ts ++ t ∷ [] ≡ json_tokens (outline d) → OnOk r (WritesValue a c d)
when_ended (Ok u) a b c ts t d before w e = value_written a c d (ts ++ t ∷ []) (and_then before (record { tokens = w.ok; rest = w.room.0 })) e
when_ended (Err x) a b c ts t d before w e = tt

pub name_added : (a b : Written) (used : Bool) (name : List ℕ) → WritesName a b used name → Adds a b (cond used (token.string name ∷ []) [])
name_added a b used name w = record { tokens = w.text; rest = w.rest }

pub same_value : {a b : Written} {d e : Data} → d ≡ e → WritesValue a b d → WritesValue a b e
same_value {a = a} {b = b} same w = subst (WritesValue a b) same w

pub same_added : {a b : Written} {ts us : List Token} → ts ≡ us → Adds a b ts → Adds a b us
same_added {a = a} {b = b} same w = subst (Adds a b) same w
