-- What the private parts of reading and writing speak of. No public contract cites it.
use Rattle.std.specs.Prelude.{◌≡◌, ◌≢◌, List, ◌∷◌, ◌++◌, map, Result, Ok, Err, MatchResult}
use Rattle.json.specs.Token.{Token}
use Rattle.json.specs.Tree.{json_tokens}
use Rattle.json.specs.Written.{Written}
use Rattle.serde_json.specs.Data.{Data}
use Rattle.serde_json.specs.Written.{outline}
use Rattle.json_fields.specs.Encoding.{felt_json, whole_json, list_json, pair_json}
use Rattle.public_input.specs.declared.fault.PublicKey.{PublicKey}
use Rattle.public_input.specs.declared.fault.PublicKey.TheVariants.{Steps, ApFirst, ApLast, RcMin, RcMax, RangeBegin, RangeCount, Cells}
use Rattle.public_input.specs.declared.fault.PublicFault.{PublicFault}
use Rattle.public_input.specs.declared.fault.PublicFault.TheVariants.{Memory}
use Rattle.public_input.specs.Shown.{key_name}
use Rattle.public_input.specs.Statement.{Statement}

-- The answer shows what the lines give: their value, or their fault unless memory ran out. Own.
abbrev pub Gives : {A B : Type 0} → (A → B) → Result B PublicFault → Result A PublicFault → Type 0
Gives shown lines answer = MatchResult answer (λ a. lines ≡ Ok (shown a)) (λ fault. fault ≢ Memory → lines ≡ Err fault)

-- The tokens of a key with its value. Own.
abbrev pub member_tokens : PublicKey → Data → List Token
member_tokens key d = Token.key (key_name key) ∷ json_tokens (outline d)

-- The tokens of the members from `ap_first` to `cells`. Own.
abbrev pub register_tokens : Statement → List Token
register_tokens s = member_tokens ApFirst (felt_json s.ap_first) ++ (member_tokens ApLast (felt_json s.ap_last) ++ member_tokens Cells (list_json (map pair_json s.cells)))

-- The tokens of the members from `range_begin` to `steps`. Own.
abbrev pub number_tokens : Statement → List Token
number_tokens s = member_tokens RangeBegin (felt_json s.range_begin) ++ (member_tokens RangeCount (whole_json s.range_count)
    ++ (member_tokens RcMax (whole_json s.rc_max) ++ (member_tokens RcMin (whole_json s.rc_min) ++ member_tokens Steps (whole_json s.steps))))

-- The writer, which wrote the old text before, has written these tokens after it. Own.
pub record WritesTokens (old new : Written) (ts : List Token) : Type 0 where
  pub tokens : new.tokens ≡ old.tokens ++ ts
  pub rest : new.before ≡ old.before

-- It has written a key with its value. Own.
abbrev pub WritesMember : Written → Written → PublicKey → Data → Type 0
WritesMember old new key d = WritesTokens old new (member_tokens key d)
