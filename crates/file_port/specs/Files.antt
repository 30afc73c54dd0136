-- What a store holds: a map from names to bytes. The whitepaper speaks of no files; all of this is the
-- project's own.
use Rattle.std.specs.Prelude.{ℕ, List, map, fold, String, string_bytes}
use Rattle.std.specs.declared.vec.Vec.{Vec}
use Rattle.std.specs.declared.alloc.Global.{Global}
use Rattle.std.specs.Prelude.{Option}
use Rattle.std.specs.Ordering.{nat_cmp}
use Rattle.std.specs.Cmp.Lexicographic.{slice_cmp}
use Rattle.std.specs.FinMap.{FinMap, empty, get, insert}

-- A file's name: the bytes of its text. Own.
abbrev pub Name : Type 0
Name = List ℕ

-- Files by their names, each with its bytes. Own.
abbrev pub Files : Type 0
Files = FinMap (slice_cmp nat_cmp) (List ℕ)

-- The bytes of the file of this name, if the files hold it. Own.
abbrev pub file_at : Files → Name → Option (List ℕ)
file_at files name = get files name

-- The files of a list of names and bytes. Of equal names the last counts. Own.
abbrev pub files_of : List (Name × List ℕ) → Files
files_of entries = fold (λ files entry. insert files entry.0 entry.1) empty entries

-- The names and bytes of a program's list of texts and vectors. Own.
abbrev pub named_bytes : List (String Global × Vec ℕ Global) → List (Name × List ℕ)
named_bytes entries = map (λ entry. (string_bytes entry.0, entry.1.items)) entries
