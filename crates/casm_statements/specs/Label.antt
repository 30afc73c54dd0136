-- Words and labels of the assembly text.
use Rattle.std.specs.Prelude.{ℕ, Bool, false, ◌&&◌, ◌||◌, ◌==◌, if◌then◌else◌, List, [], ◌∷◌, Option, Some, None, is_none, codes}
use Rattle.std.specs.List.{list_all}
use Rattle.std.specs.Char.{is_ascii_alphabetic, is_ascii_digit}
use Rattle.std.specs.Str.{bytes_eq}
use Rattle.casm_statements.specs.declared.name.Reserved.{Reserved}
use Rattle.casm_statements.specs.declared.name.Reserved.TheVariants.{Ap, Fp, Jmp, Call, Ret, If, Rel, Abs, Dw}

-- A letter or `_`: a byte that a word may begin with. Own.
abbrev pub is_word_head : ℕ → Bool
is_word_head b = is_ascii_alphabetic b || (b == 95)

-- A letter, a digit or `_`: a byte that words and numbers go on with. Own.
abbrev pub is_word_byte : ℕ → Bool
is_word_byte b = is_word_head b || is_ascii_digit b

-- A word: a letter or `_`, and then letters, digits or `_`. Own.
abbrev pub is_word : List ℕ → Bool
is_word [] = false
is_word (b ∷ bs) = is_word_head b && list_all is_word_byte bs

-- The reserved word that a text is, if it is one. Own.
unfoldable pub reserved_word : List ℕ → Option Reserved
reserved_word text =
    if bytes_eq text (codes "ap") then Some Ap
    else (if bytes_eq text (codes "fp") then Some Fp
    else (if bytes_eq text (codes "jmp") then Some Jmp
    else (if bytes_eq text (codes "call") then Some Call
    else (if bytes_eq text (codes "ret") then Some Ret
    else (if bytes_eq text (codes "if") then Some If
    else (if bytes_eq text (codes "rel") then Some Rel
    else (if bytes_eq text (codes "abs") then Some Abs
    else (if bytes_eq text (codes "dw") then Some Dw
    else None))))))))

-- A label: a word that isn't reserved. Own.
unfoldable pub is_label : List ℕ → Bool
is_label text = is_word text && is_none (reserved_word text)
