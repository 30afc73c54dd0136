-- The JSON values that files are written as.
use Rattle.std.specs.Prelude.{ℕ, ◌≡◌, ◌<◌, ◌^◌, List, [], ◌∷◌, ◌++◌, ⊤}
use Rattle.std.specs.Cmp.Lexicographic.{slice_cmp}
use Rattle.std.specs.Ordering.{nat_cmp}
use Rattle.std.specs.Str.{IsUtf8}
use Rattle.std.specs.declared.cmp.Ordering.TheVariants.{Greater}
use Rattle.serde_json.specs.Data.{Num, unsigned, negative, float, Data, null, boolean, number, string, array, object, Items, no_items, item, Members, no_members, member}

-- The number is a whole one below 2^64. Own.
abbrev pub IsWhole : Num → Type 0
IsWhole (unsigned n) = n < 2 ^ 64
IsWhole (negative z) = ⊥
IsWhole (float x) = ⊥

-- The key comes after all these. Own.
abbrev pub IsAfter : List ℕ → List (List ℕ) → Type 0
IsAfter key [] = ⊤
IsAfter key (k ∷ ks) = (slice_cmp nat_cmp key k ≡ Greater) × IsAfter key ks

-- Its numbers are whole ones below 2^64, its texts are UTF-8, and the keys of each object ascend. Own.
abbrev mutual
  pub IsPlain : Data → Type 0
  IsPlain null = ⊤
  IsPlain (boolean b) = ⊤
  IsPlain (number n) = IsWhole n
  IsPlain (string s) = IsUtf8 s
  IsPlain (array ds) = ArePlain ds
  IsPlain (object ms) = HasPlainMembers [] ms

  -- The same of each entry. Own.
  pub ArePlain : Items → Type 0
  ArePlain no_items = ⊤
  ArePlain (item d ds) = IsPlain d × ArePlain ds

  -- The same of each member, and the keys ascend after those before. Own.
  pub HasPlainMembers : List (List ℕ) → Members → Type 0
  HasPlainMembers before no_members = ⊤
  HasPlainMembers before (member key d ms) = IsAfter key before × IsUtf8 key × IsPlain d × HasPlainMembers (before ++ key ∷ []) ms
