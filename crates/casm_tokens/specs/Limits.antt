-- How long a text may be.
use Rattle.std.specs.Prelude.{ℕ}

-- The most bytes of a text. Own.
abbrev pub text_limit : ℕ
text_limit = 16777216
