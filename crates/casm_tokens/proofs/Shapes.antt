-- Bytes of the shape of a token, and what the scan finds where they stand.
use Rattle.std.proofs.Common.{◌≡◌, ℕ, ◌<◌, ◌≤◌, ◌⊎◌, inl, inr, Bool, true, false, not, ◌&&◌, ◌||◌, cond, nat_eq, List, [], ◌∷◌, ◌++◌, length, refl, ap, sym, ◌∙◌, subst, arith, eqb-true, Option, Some, None, length-append, append_assoc}
use Rattle.std.proofs.lemmas.List.Folds.{list_all-append}
use Rattle.std.specs.List.{list_all, starts_with}
use Rattle.std.specs.Char.{is_ascii_digit}
use Rattle.casm_statements.specs.Label.{is_word_head, is_word_byte, is_word}
use Rattle.casm_tokens.specs.declared.marks.Symbol.{Symbol}
use Rattle.casm_tokens.specs.declared.marks.Symbol.TheVariants.{Increment, AddTo, NotEqual, Open, Close, Plus, Minus, Times, Equal, Semicolon, Comma, Colon, Percent}
use Rattle.casm_tokens.specs.Tokens.{sign_text, is_numeral, HasShape, IsLongest}
use Rattle.casm_tokens.specs.Pieces.{sign_at, sign_len}

pub both : (x y : Bool) → (x && y) ≡ true → (x ≡ true) × (y ≡ true)
both true true h = (refl, refl)
both true false h = cc
both false y h = cc

-- the first byte, or 0
abbrev pub head_or : List ℕ → ℕ
head_or [] = 0
head_or (b ∷ bs) = b

or_true : (x : Bool) → (x || true) ≡ true
or_true true = refl
or_true false = refl

digit_byte : (b : ℕ) → is_ascii_digit b ≡ true → is_word_byte b ≡ true
digit_byte b h = rw h (or_true (is_word_head b))

head_byte : (b : ℕ) → is_word_head b ≡ true → is_word_byte b ≡ true
head_byte b h = rw h refl

pub head_of_byte : (b : ℕ) → is_word_byte b ≡ true → is_ascii_digit b ≡ false → is_word_head b ≡ true
head_of_byte b h d = one (is_word_head b) (is_ascii_digit b) h d
  where
    one : (x y : Bool) → (x || y) ≡ true → y ≡ false → x ≡ true
    one true y h d = refl
    one false true h d = cc
    one false false h d = cc

-- words and numbers are runs
word_run : (bs : List ℕ) → is_word bs ≡ true → (0 < length bs) × (list_all is_word_byte bs ≡ true)
word_run [] h = cc
word_run (b ∷ bs) h = let p = both (is_word_head b) (list_all is_word_byte bs) h in (omega arith, rw (head_byte b p.0, p.1) refl)

numeral_run : (bs : List ℕ) → is_numeral bs ≡ true → (0 < length bs) × (list_all is_word_byte bs ≡ true)
numeral_run [] h = cc
numeral_run (b ∷ bs) h = let p = both (is_ascii_digit b) (list_all is_word_byte bs) h in (omega arith, rw (digit_byte b p.0, p.1) refl)

pub record IsRun (bs : List ℕ) : Type 0 where
  pub some : 0 < length bs
  pub bytes : list_all is_word_byte bs ≡ true

pub run_of : (bs : List ℕ) → (is_word bs ≡ true) ⊎ (is_numeral bs ≡ true) → IsRun bs
run_of bs (inl h) = let r = word_run bs h in record { some = r.0; bytes = r.1 }
run_of bs (inr h) = let r = numeral_run bs h in record { some = r.0; bytes = r.1 }

pub shape_of : (bs : List ℕ) → IsRun bs → (is_word bs ≡ true) ⊎ (is_numeral bs ≡ true)
shape_of [] r = absurd (let h = r.some in omega arith)
shape_of (b ∷ bs) r =
    let p = both (is_word_byte b) (list_all is_word_byte bs) r.bytes in
    elim (is_ascii_digit b) as (λ t. is_ascii_digit b ≡ t → (is_word (b ∷ bs) ≡ true) ⊎ (is_numeral (b ∷ bs) ≡ true)) [
      | true ↦ λ d. inr (rw (d, p.1) refl)
      | false ↦ λ d. inl (rw (head_of_byte b p.0 d, p.1) refl)
    ] refl

-- signs
sign_head : (s : Symbol) → is_word_byte (head_or (sign_text s)) ≡ false
sign_head Increment = refl
sign_head AddTo = refl
sign_head NotEqual = refl
sign_head Open = refl
sign_head Close = refl
sign_head Plus = refl
sign_head Minus = refl
sign_head Times = refl
sign_head Equal = refl
sign_head Semicolon = refl
sign_head Comma = refl
sign_head Colon = refl
sign_head Percent = refl

pub sign_some : (s : Symbol) → 0 < length (sign_text s)
sign_some Increment = omega arith
sign_some AddTo = omega arith
sign_some NotEqual = omega arith
sign_some Open = omega arith
sign_some Close = omega arith
sign_some Plus = omega arith
sign_some Minus = omega arith
sign_some Times = omega arith
sign_some Equal = omega arith
sign_some Semicolon = omega arith
sign_some Comma = omega arith
sign_some Colon = omega arith
sign_some Percent = omega arith

pub sign_length : (s : Symbol) → sign_len s ≡ length (sign_text s)
unfolding sign_len
sign_length Increment = refl
sign_length AddTo = refl
sign_length NotEqual = refl
sign_length Open = refl
sign_length Close = refl
sign_length Plus = refl
sign_length Minus = refl
sign_length Times = refl
sign_length Equal = refl
sign_length Semicolon = refl
sign_length Comma = refl
sign_length Colon = refl
sign_length Percent = refl

first_of_run : (w t : List ℕ) → 0 < length w → list_all is_word_byte (w ++ t) ≡ true → is_word_byte (head_or w) ≡ true
first_of_run [] t p h = absurd (omega arith)
first_of_run (b ∷ bs) t p h = (both (is_word_byte b) (list_all is_word_byte (bs ++ t)) h).0

-- no run begins with a sign, and no sign with a run
pub sign_no_run : (s : Symbol) (t : List ℕ) → IsRun (sign_text s ++ t) → ⊥
sign_no_run s t r = let a = first_of_run (sign_text s) t (sign_some s) r.bytes in let b = sign_head s in cc

pub run_no_sign : (w t : List ℕ) (s : Symbol) → IsRun w → w ++ t ≡ sign_text s → ⊥
run_no_sign [] t s r e = absurd (let h = r.some in omega arith)
run_no_sign (b ∷ bs) t s r e =
    let a = (both (is_word_byte b) (list_all is_word_byte bs) r.bytes).0 in
    let c : is_word_byte b ≡ false = ap (λ x. is_word_byte (head_or x)) e ∙ sign_head s in
    cc

-- the text goes on with no word byte
abbrev pub ends_run : List ℕ → Bool
ends_run [] = true
ends_run (b ∷ bs) = not (is_word_byte b)

-- a run is the longest where no word byte follows
pub longest_run : (w t : List ℕ) → IsRun w → ends_run t ≡ true → IsLongest w t
longest_run w t r e = record { shape = inr (shape_of w r); longest = λ more others is h. longest more others is h }
  where
    no_more : (c : ℕ) (cs others : List ℕ) → t ≡ (c ∷ cs) ++ others → is_word_byte c ≡ true → ⊥
    no_more c cs others is b = let f : ends_run t ≡ not (is_word_byte c) = ap ends_run is in let g : not (is_word_byte c) ≡ false = ap not b in cc

    byte_in : (c : ℕ) (cs : List ℕ) → IsRun (w ++ c ∷ cs) → is_word_byte c ≡ true
    byte_in c cs q =
        let s = both (list_all is_word_byte w) (list_all is_word_byte (c ∷ cs)) (sym (list_all-append is_word_byte w (c ∷ cs)) ∙ q.bytes) in
        (both (is_word_byte c) (list_all is_word_byte cs) s.1).0

    longest : (more others : List ℕ) → t ≡ more ++ others → HasShape (w ++ more) → more ≡ []
    longest [] others is h = refl
    longest (c ∷ cs) others is (inl (s, f)) = absurd (run_no_sign w (c ∷ cs) s r f)
    longest (c ∷ cs) others is (inr h) = absurd (no_more c cs others is (byte_in c cs (run_of (w ++ c ∷ cs) h)))

-- and only there
pub ends_of_longest : (w t : List ℕ) → IsRun w → IsLongest w t → ends_run t ≡ true
ends_of_longest w [] r l = refl
ends_of_longest w (c ∷ cs) r l =
    elim (is_word_byte c) as (λ x. is_word_byte c ≡ x → not x ≡ true) [
      | true ↦ λ b. absurd (let n = l.longest (c ∷ []) cs refl (inr (shape_of (w ++ c ∷ []) (more b))) in cc)
      | false ↦ λ b. refl
    ] refl
  where
    more : is_word_byte c ≡ true → IsRun (w ++ c ∷ [])
    more b = record {
      some = let a = length-append w (c ∷ []) in omega arith;
      bytes = list_all-append is_word_byte w (c ∷ []) ∙ rw (r.bytes, b) refl;
    }

-- what the signs' test finds
step : {t : Bool} {rest : Option Symbol} (P : Symbol → Type 0) (x s : Symbol) → cond t (Some x) rest ≡ Some s → (t ≡ true → P x) → (rest ≡ Some s → P s) → P s
step {t} {rest} P x s e hit miss =
    elim t as (λ b. t ≡ b → cond b (Some x) rest ≡ Some s → P s) [
      | true ↦ λ is e. let same : x ≡ s = cc in subst P same (hit is)
      | false ↦ λ is e. miss e
    ] refl e

pub sign_begins : (bs : List ℕ) (s : Symbol) → sign_at bs ≡ Some s → starts_with nat_eq bs (sign_text s) ≡ true
unfolding sign_at
sign_begins bs s e =
    let P : Symbol → Type 0 = λ s. starts_with nat_eq bs (sign_text s) ≡ true in step P Increment s e (λ h. h) (λ e. step P AddTo s e (λ h. h) (λ e. step P NotEqual s e (λ h. h) (λ e. step P Open s e (λ h. h) (λ e. step P Close s e (λ h. h) (λ e. step P Plus s e (λ h. h) (λ e. step P Minus s e (λ h. h) (λ e. step P Times s e (λ h. h) (λ e. step P Equal s e (λ h. h) (λ e. step P Semicolon s e (λ h. h) (λ e. step P Comma s e (λ h. h) (λ e. step P Colon s e (λ h. h) (λ e. step P Percent s e (λ h. h) (λ e. cc)))))))))))))

starts_is : (w bs : List ℕ) → starts_with nat_eq bs w ≡ true → (rest : List ℕ) × (bs ≡ w ++ rest)
starts_is [] bs h = (bs, refl)
starts_is (c ∷ cs) [] h = cc
starts_is (c ∷ cs) (b ∷ bs) h =
    let p = both (nat_eq c b) (starts_with nat_eq bs cs) h in
    let r = starts_is cs bs p.1 in
    let same : b ≡ c = sym (eqb-true c b p.0) in
    (r.0, ap (λ x. x ∷ bs) same ∙ ap (λ x. c ∷ x) r.1)

pub sign_is : (bs : List ℕ) (s : Symbol) → sign_at bs ≡ Some s → (rest : List ℕ) × (bs ≡ sign_text s ++ rest)
sign_is bs s e = starts_is (sign_text s) bs (sign_begins bs s e)

-- a sign is found where one begins
plus_at : (x y : Bool) → cond x (Some Increment) (cond y (Some AddTo) (Some Plus)) ≡ None → ⊥
plus_at true y e = cc
plus_at false true e = cc
plus_at false false e = cc

pub sign_found : (s : Symbol) (others : List ℕ) → sign_at (sign_text s ++ others) ≡ None → ⊥
unfolding sign_at
sign_found Plus [] e = cc
sign_found Plus (b ∷ bs) e = plus_at (nat_eq 43 b && true) (nat_eq 61 b && true) e
sign_found Increment others e = cc
sign_found AddTo others e = cc
sign_found NotEqual others e = cc
sign_found Open others e = cc
sign_found Close others e = cc
sign_found Minus others e = cc
sign_found Times others e = cc
sign_found Equal others e = cc
sign_found Semicolon others e = cc
sign_found Comma others e = cc
sign_found Colon others e = cc
sign_found Percent others e = cc

-- and the longest one
sign_longer : (t s : Symbol) (others : List ℕ) → sign_at (sign_text t ++ others) ≡ Some s → length (sign_text t) ≤ length (sign_text s)
unfolding sign_at
sign_longer Increment s others e = let same : Increment ≡ s = cc in subst (λ (x : Symbol). 2 ≤ length (sign_text x)) same (omega arith)
sign_longer AddTo s others e = let same : AddTo ≡ s = cc in subst (λ (x : Symbol). 2 ≤ length (sign_text x)) same (omega arith)
sign_longer NotEqual s others e = let same : NotEqual ≡ s = cc in subst (λ (x : Symbol). 2 ≤ length (sign_text x)) same (omega arith)
sign_longer _ s others e = let p = sign_some s in omega arith

nil_of_length : (xs : List ℕ) → length xs ≤ 0 → xs ≡ []
nil_of_length [] h = refl
nil_of_length (x ∷ xs) h = absurd (omega arith)

pub longest_sign : (s : Symbol) (rest : List ℕ) → sign_at (sign_text s ++ rest) ≡ Some s → IsLongest (sign_text s) rest
longest_sign s rest e = record { shape = inl (s, refl); longest = λ more others is h. longest more others is h }
  where
    longest : (more others : List ℕ) → rest ≡ more ++ others → HasShape (sign_text s ++ more) → more ≡ []
    longest more others is (inl (t, f)) =
        let whole : sign_text s ++ rest ≡ sign_text t ++ others = ap (λ x. sign_text s ++ x) is ∙ sym (append_assoc (sign_text s) more others) ∙ ap (λ x. x ++ others) f in
        let g : sign_at (sign_text t ++ others) ≡ Some s = sym (ap sign_at whole) ∙ e in
        let a = sign_longer t s others g in
        let b = length-append (sign_text s) more in
        let c : length (sign_text s ++ more) ≡ length (sign_text t) = ap length f in
        nil_of_length more (omega arith)
    longest more others is (inr h) = absurd (sign_no_run s more (run_of (sign_text s ++ more) h))

no_more : (w after : List ℕ) (b : ℕ) (bs : List ℕ) (s : Symbol) → IsLongest w (b ∷ bs) → w ++ b ∷ [] ≡ sign_text s → ⊥
no_more w after b bs s l e = let n = l.longest (b ∷ []) bs refl (inl (s, e)) in cc

plus_next : (x y : Bool) → x ≡ false → y ≡ false → cond x (Some Increment) (cond y (Some AddTo) (Some Plus)) ≡ Some Plus
plus_next x y e f = rw (e, f) refl

not_next : (n b : ℕ) (bs : List ℕ) (s : Symbol) → (43 ∷ n ∷ []) ≡ sign_text s → IsLongest (43 ∷ []) (b ∷ bs) → (nat_eq n b && true) ≡ false
not_next n b bs s is l =
    elim (nat_eq n b) as (λ t. nat_eq n b ≡ t → (t && true) ≡ false) [
      | true ↦ λ e. absurd (let same : n ≡ b = eqb-true n b e in no_more (43 ∷ []) [] b bs s l (ap (λ x. 43 ∷ x ∷ []) (sym same) ∙ is))
      | false ↦ λ e. refl
    ] refl

pub sign_of_longest : (s : Symbol) (after : List ℕ) → IsLongest (sign_text s) after → sign_at (sign_text s ++ after) ≡ Some s
unfolding sign_at
sign_of_longest Plus [] l = refl
sign_of_longest Plus (b ∷ bs) l = plus_next (nat_eq 43 b && true) (nat_eq 61 b && true) (not_next 43 b bs Increment refl l) (not_next 61 b bs AddTo refl l)
sign_of_longest Increment after l = refl
sign_of_longest AddTo after l = refl
sign_of_longest NotEqual after l = refl
sign_of_longest Open after l = refl
sign_of_longest Close after l = refl
sign_of_longest Minus after l = refl
sign_of_longest Times after l = refl
sign_of_longest Equal after l = refl
sign_of_longest Semicolon after l = refl
sign_of_longest Comma after l = refl
sign_of_longest Colon after l = refl
sign_of_longest Percent after l = refl

-- a token has a byte
pub shape_some : (w : List ℕ) → HasShape w → 0 < length w
shape_some w (inl (s, e)) = let p = sign_some s in let l : length w ≡ length (sign_text s) = ap length e in omega arith
shape_some w (inr h) = (run_of w h).some
