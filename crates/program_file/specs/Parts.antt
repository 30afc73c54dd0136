-- What the private parts of writing speak of. No public contract cites it.
use Rattle.std.specs.Prelude.{ℕ, ◌≡◌, ◌++◌, ◌∷◌, Bool, if◌then◌else◌, List, []}
use Rattle.json.specs.Token as token
use Rattle.json.specs.Written.{Written}

-- The writer has written the name after the old text, if the builtin is used, and nothing else. Own.
pub record WritesName (old new : Written) (used : Bool) (name : List ℕ) : Type 0 where
  pub text : new.tokens ≡ old.tokens ++ (if used then token.string name ∷ [] else [])
  pub rest : new.before ≡ old.before
