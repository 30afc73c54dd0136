-- The statement that words begin with, by decoding: there is one at most, and whether there is one can be told.
use Rattle.std.proofs.Common.{◌≡◌, ℕ, ◌-◌, ◌/◌, ◌%◌, ◌^◌, ◌<◌, ◌⊎◌, nat_lt, w16, ℤ, pos, negsuc, ◌-ℤ◌, Bool, true, false, List, [], ◌∷◌, ◌++◌, Option, Some, None, is_some, Result, Ok, Err, refl, sym, ◌∙◌, ap, subst, arith, inl, inr, lit<}
use Rattle.std.specs.Bool.{if◌then◌else◌}
use Rattle.std.specs.Prelude.{FitsSigned}
use Rattle.std.specs.Option.{option_to_list}
use Rattle.std.specs.Result.{result_ok}
use Rattle.std.specs.Ordering.{int_eq}
use Rattle.std.proofs.Math.Nat.{mod-lt}
use Rattle.std.proofs.lemmas.Bool.{cases_Bool, cases_eq, cases_lt, false≢true, true≢false}
use Rattle.std.proofs.lemmas.Bool.Decides.{nat_tests, Decides-int_eq}
use Rattle.std.proofs.lemmas.Int.{ints}
use Rattle.goldilocks.specs.Field.{prime}
use Rattle.goldilocks.specs.declared.Felt.{Felt}
use Rattle.goldilocks.specs.Felts.{felt}
use Rattle.goldilocks.proofs.Pairs.{same_felt, felt-number, number-felt}
use Rattle.casm_word.specs.declared.Word.{Word}
use Rattle.casm_word.specs.declared.Flags.{Flags}
use Rattle.casm_word.specs.declared.Shape.{Shape}
use Rattle.casm_word.specs.declared.WordFault.{WordFault}
use Rattle.casm_word.specs.declared.WordFault.TheVariants.{HighBit}
use Rattle.casm_word.specs.Word.{offset, word_of, flags_of, first_broken, unless_broken, decoding, word_number}
use Rattle.casm_word.proofs.Encoding.{decoding-number, decoded_number}
use Rattle.casm_statements.specs.declared.Stmt.{Stmt}
use Rattle.casm_statements.specs.Words.{encoding}
use Rattle.casm_statements.specs.Guesses.{stmt_in, flag_list}
use Rattle.casm_statements.proofs.Guesses.{stmt_is, only_stmt, same_flags}
use Rattle.assembler.specs.StatementWords.{statement_words, HasOffsets, BeginsWith, BeginsWithNone}
use Rattle.assembler.proofs.DefinedWords.{is_defined, has_immediate}

-- what a number that decodes is
decoded_low : (b : Bool) (o : Option Shape) (x w : Word) → (if b then unless_broken o x else Err HighBit) ≡ Ok w → b ≡ true
decoded_low true o x w h = refl
decoded_low false o x w h = absurd cc

decoded_as : (b : Bool) (o : Option Shape) (x w : Word) → (if b then unless_broken o x else Err HighBit) ≡ Ok w → x ≡ w
decoded_as true None x w h = cc
decoded_as true (Some s) x w h = absurd cc
decoded_as false o x w h = absurd cc

pub decoded-below : (n : ℕ) (w : Word) → decoding n ≡ Ok w → n < prime
unfolding decoding
decoded-below n w h =
    let low : nat_lt n (2 ^ 63) ≡ true = decoded_low (nat_lt n (2 ^ 63)) (first_broken (flags_of n)) (word_of n) w h in
    grind (arith, nat_tests)

pub decoded-word : (n : ℕ) (w : Word) → decoding n ≡ Ok w → word_of n ≡ w
unfolding decoding
decoded-word n w h = decoded_as (nat_lt n (2 ^ 63)) (first_broken (flags_of n)) (word_of n) w h

fits_from : (a : ℕ) → a < 2 ^ 16 → FitsSigned w16 (pos a -ℤ pos (2 ^ 15))
fits_from a h = elim (cases_lt a (2 ^ 15)) [
  | inl low ↦
      let e : pos a -ℤ pos (2 ^ 15) ≡ negsuc (2 ^ 15 - 1 - a) = omega (arith, ints) in
      let f : FitsSigned w16 (negsuc (2 ^ 15 - 1 - a)) = record { sfits = omega arith } in
      subst (λ (z : ℤ). FitsSigned w16 z) (sym e) f
  | inr high ↦
      let e : pos a -ℤ pos (2 ^ 15) ≡ pos (a - 2 ^ 15) = omega (arith, ints) in
      let f : FitsSigned w16 (pos (a - 2 ^ 15)) = record { sfits = omega arith } in
      subst (λ (z : ℤ). FitsSigned w16 z) (sym e) f
]

pub offset-fits : (n k : ℕ) → FitsSigned w16 (offset n k)
offset-fits n k = fits_from ((n / 2 ^ k) % 2 ^ 16) (mod-lt (n / 2 ^ k) (lit< tt))

-- the words begin with this one and with the statement's immediate, if it has one
pub record Decodes (v : Felt) (vs : List Felt) (s : Stmt) (others : List Felt) : Type 0 where
  pub word : decoding v.number ≡ Ok (encoding s).0
  pub rest : vs ≡ option_to_list (encoding s).1 ++ others

pub decodes_begins : (v : Felt) (vs : List Felt) (s : Stmt) (others : List Felt) → Decodes v vs s others → BeginsWith (v ∷ vs) s others
unfolding statement_words word_of
decodes_begins v vs s others d =
    let is_word = decoded-word v.number (encoding s).0 d.word in
    let number = decoded_number v.number (encoding s).0 d.word in
    let value : felt (word_number (encoding s).0) ≡ v = ap felt number ∙ felt-number v in
    let rest = d.rest in
    record {
      offsets = record {
        dst = subst (λ (w : Word). FitsSigned w16 w.off_dst) is_word (offset-fits v.number 0);
        op0 = subst (λ (w : Word). FitsSigned w16 w.off_op0) is_word (offset-fits v.number 16);
        op1 = subst (λ (w : Word). FitsSigned w16 w.off_op1) is_word (offset-fits v.number 32);
      };
      parts = cc;
    }

pub statement-decodes : (s : Stmt) → HasOffsets s → decoding (word_number (encoding s).0) ≡ Ok (encoding s).0
statement-decodes s h = decoding-number (encoding s).0 h.dst h.op0 h.op1 (is_defined s)

pub begins_decodes : (v : Felt) (vs : List Felt) (s : Stmt) (others : List Felt) → BeginsWith (v ∷ vs) s others → Decodes v vs s others
unfolding statement_words
begins_decodes v vs s others b =
    let p = b.parts in
    let decodes = statement-decodes s b.offsets in
    let value : v ≡ felt (word_number (encoding s).0) = cc in
    let number : v.number ≡ word_number (encoding s).0 = ap (λ (x : Felt). x.number) value ∙ number-felt (word_number (encoding s).0) (decoded-below (word_number (encoding s).0) (encoding s).0 decodes) in
    record { word = ap decoding number ∙ decodes; rest = cc }

pub begins_not_empty : (s : Stmt) (others : List Felt) → BeginsWith [] s others → ⊥
unfolding statement_words
begins_not_empty s others b = let p = b.parts in cc

-- two words are one, or they aren't
same_int : (x y : ℤ) → (x ≡ y) ⊎ (x ≡ y → ⊥)
same_int x y = elim (cases_Bool (int_eq x y)) [
  | inl e ↦ inl ((Decides-int_eq x y).0 e)
  | inr e ↦ inr (λ p. false≢true (sym e ∙ (Decides-int_eq x y).1 p))
]

same_bool : (x y : Bool) → (x ≡ y) ⊎ (x ≡ y → ⊥)
same_bool true true = inl refl
same_bool false false = inl refl
same_bool true false = inr true≢false
same_bool false true = inr false≢true

same_bools : (xs ys : List Bool) → (xs ≡ ys) ⊎ (xs ≡ ys → ⊥)
same_bools [] [] = inl refl
same_bools [] (y ∷ ys) = inr (λ p. cc)
same_bools (x ∷ xs) [] = inr (λ p. cc)
same_bools (x ∷ xs) (y ∷ ys) = elim (same_bool x y) [
  | inl e ↦ elim (same_bools xs ys) [ inl f ↦ inl cc | inr f ↦ inr (λ p. let q : xs ≡ ys = cc in f q) ]
  | inr e ↦ inr (λ p. let q : x ≡ y = cc in e q)
]

same_flag_sets : (f g : Flags) → (f ≡ g) ⊎ (f ≡ g → ⊥)
same_flag_sets f g = elim (same_bools (flag_list f) (flag_list g)) [
  | inl e ↦ inl (same_flags f g e)
  | inr e ↦ inr (λ p. e (ap flag_list p))
]

parts_same : (x y : Word) → x.off_dst ≡ y.off_dst → x.off_op0 ≡ y.off_op0 → x.off_op1 ≡ y.off_op1 → x.flags ≡ y.flags → x ≡ y
parts_same x y a b c d = λ i. record { off_dst = a i; off_op0 = b i; off_op1 = c i; flags = d i }

same_words : (x y : Word) → (x ≡ y) ⊎ (x ≡ y → ⊥)
same_words x y = elim (same_int x.off_dst y.off_dst) [
  | inl a ↦ elim (same_int x.off_op0 y.off_op0) [
    | inl b ↦ elim (same_int x.off_op1 y.off_op1) [
      | inl c ↦ elim (same_flag_sets x.flags y.flags) [
        | inl d ↦ inl (parts_same x y a b c d)
        | inr d ↦ inr (λ p. d (ap (λ (w : Word). w.flags) p))
      ]
      | inr c ↦ inr (λ p. c (ap (λ (w : Word). w.off_op1) p))
    ]
    | inr b ↦ inr (λ p. b (ap (λ (w : Word). w.off_op0) p))
  ]
  | inr a ↦ inr (λ p. a (ap (λ (w : Word). w.off_dst) p))
]

-- two words decode from one number only where they are one
same_decoded : (n : ℕ) (x y : Word) → decoding n ≡ Ok x → decoding n ≡ Ok y → x ≡ y
same_decoded n x y p q = let e : ◌≡◌ {A = Result Word WordFault} (Ok x) (Ok y) = sym p ∙ q in cc

-- what stands behind a word is told by the word
same_rest : (a b : Option Felt) (xs ys : List Felt) → is_some a ≡ is_some b → option_to_list a ++ xs ≡ option_to_list b ++ ys → (a ≡ b) × (xs ≡ ys)
same_rest None None xs ys e p = (refl, p)
same_rest None (Some y) xs ys e p = absurd (false≢true e)
same_rest (Some x) None xs ys e p = absurd (true≢false e)
same_rest (Some x) (Some y) xs ys e p = (cc, cc)

-- words begin with one statement at most
pub begins_with_one : (words : List Felt) (s t : Stmt) (xs ys : List Felt) → BeginsWith words s xs → BeginsWith words t ys → (s ≡ t) × (xs ≡ ys)
begins_with_one [] s t xs ys a b = absurd (begins_not_empty s xs a)
begins_with_one (v ∷ vs) s t xs ys a b =
    let d = begins_decodes v vs s xs a in
    let e = begins_decodes v vs t ys b in
    let w = same_decoded v.number (encoding s).0 (encoding t).0 d.word e.word in
    let flag : is_some (encoding s).1 ≡ is_some (encoding t).1 =
    has_immediate s ∙ (ap (λ (x : Word). x.flags.op1_imm) w ∙ sym (has_immediate t)) in
    let r = same_rest (encoding s).1 (encoding t).1 xs ys flag (sym d.rest ∙ e.rest) in
    let same : stmt_in (encoding s).0 (encoding s).1 ≡ stmt_in (encoding t).0 (encoding t).1 =
    ap (λ (x : Word). stmt_in x (encoding s).1) w ∙ ap (stmt_in (encoding t).0) r.0 in
    (sym (stmt_is s) ∙ (same ∙ stmt_is t), r.1)

-- the statement of a word and an immediate, if there is one
statement_of : (w : Word) (imm : Option Felt) → is_some imm ≡ w.flags.op1_imm → ((s : Stmt) × (encoding s ≡ (w, imm))) ⊎ ((s : Stmt) → (encoding s).0 ≡ w → (encoding s).1 ≡ imm → ⊥)
statement_of w imm h = elim (same_words (encoding (stmt_in w imm)).0 w) [
  | inl e ↦ elim (same_immediate (encoding (stmt_in w imm)).1 imm) [
    | inl f ↦ inl (stmt_in w imm, pair_is (encoding (stmt_in w imm)) w imm e f)
    | inr f ↦ inr (λ s p q. f (ap (λ (t : Stmt). (encoding t).1) (only_stmt s w imm (pair_is (encoding s) w imm p q)) ∙ q))
  ]
  | inr e ↦ inr (λ s p q. e (ap (λ (t : Stmt). (encoding t).0) (only_stmt s w imm (pair_is (encoding s) w imm p q)) ∙ p))
]
  where
    pair_is : (p : Word × Option Felt) (w : Word) (imm : Option Felt) → p.0 ≡ w → p.1 ≡ imm → p ≡ (w, imm)
    pair_is p w imm e f = λ i. (e i, f i)

    same_immediate : (a b : Option Felt) → (a ≡ b) ⊎ (a ≡ b → ⊥)
    same_immediate None None = inl refl
    same_immediate None (Some y) = inr (λ p. cc)
    same_immediate (Some x) None = inr (λ p. cc)
    same_immediate (Some x) (Some y) = elim (cases_eq x.number y.number) [
      | inl e ↦ inl (ap Some (same_felt x y e))
      | inr e ↦ inr (λ p. let q : x ≡ y = cc in e (ap (λ (v : Felt). v.number) q))
    ]

-- the words behind the first one begin with its immediate, where its flag says that there is one
behind_flag : (v : Felt) (vs : List Felt) (w : Word) (imm : Option Felt) (others : List Felt) → decoding v.number ≡ Ok w → is_some imm ≡ w.flags.op1_imm → vs ≡ option_to_list imm ++ others → ((s : Stmt) × (ys : List Felt) × BeginsWith (v ∷ vs) s ys) ⊎ BeginsWithNone (v ∷ vs)
behind_flag v vs w imm others h flag rest = elim (statement_of w imm flag) [
  | inl (s, e) ↦
      let d : Decodes v vs s others = record {
        word = h ∙ ap Ok (sym (ap (λ (p : Word × Option Felt). p.0) e));
        rest = rest ∙ ap (λ (o : Option Felt). option_to_list o ++ others) (sym (ap (λ (p : Word × Option Felt). p.1) e));
      } in
      inl (s, others, decodes_begins v vs s others d)
  | inr none ↦
      inr (λ s ys b.
      let d = begins_decodes v vs s ys b in
      let e = same_decoded v.number (encoding s).0 w d.word h in
      let same_flag : is_some (encoding s).1 ≡ is_some imm = has_immediate s ∙ (ap (λ (x : Word). x.flags.op1_imm) e ∙ sym flag) in
      none s e (same_rest (encoding s).1 imm ys others same_flag (sym d.rest ∙ rest)).0)
]

-- words begin with a statement, or with none
pub begins_or_not : (words : List Felt) → ((s : Stmt) × (ys : List Felt) × BeginsWith words s ys) ⊎ BeginsWithNone words
begins_or_not [] = inr begins_not_empty
begins_or_not (v ∷ vs) = by (decoding v.number) refl
  where
    no_rest : (o : Option Felt) (ys : List Felt) → is_some o ≡ true → [] ≡ option_to_list o ++ ys → ⊥
    no_rest None ys e p = false≢true e
    no_rest (Some x) ys e p = cc

    at_flag : (w : Word) (b : Bool) (vs : List Felt) → decoding v.number ≡ Ok w → w.flags.op1_imm ≡ b → ((s : Stmt) × (ys : List Felt) × BeginsWith (v ∷ vs) s ys) ⊎ BeginsWithNone (v ∷ vs)
    at_flag w false vs h e = behind_flag v vs w None vs h (sym e) refl
    at_flag w true [] h e =
        inr (λ s ys b.
        let d = begins_decodes v [] s ys b in
        let same = same_decoded v.number (encoding s).0 w d.word h in
        let flag : is_some (encoding s).1 ≡ true = has_immediate s ∙ (ap (λ (x : Word). x.flags.op1_imm) same ∙ e) in
        no_rest (encoding s).1 ys flag d.rest)
    at_flag w true (x ∷ xs) h e = behind_flag v (x ∷ xs) w (Some x) xs h (sym e) refl

    by : (r : Result Word WordFault) → decoding v.number ≡ r → ((s : Stmt) × (ys : List Felt) × BeginsWith (v ∷ vs) s ys) ⊎ BeginsWithNone (v ∷ vs)
    by (Ok w) h = at_flag w w.flags.op1_imm vs h refl
    by (Err f) h = inr (λ s ys b. let d = begins_decodes v vs s ys b in let w = d.word in cc)

-- what the decoded first word and the immediate behind it tell
pub begins_with_none-empty : (ws : List Felt) → ws ≡ [] → BeginsWithNone ws
begins_with_none-empty ws e s ys b = begins_not_empty s ys (subst (λ (xs : List Felt). BeginsWith xs s ys) e b)

pub begins_with_none-undecoded : (ws : List Felt) (v : Felt) (vs : List Felt) → ws ≡ v ∷ vs → result_ok (decoding v.number) ≡ None → BeginsWithNone ws
begins_with_none-undecoded ws v vs e h s ys b =
    let d = begins_decodes v vs s ys (subst (λ (xs : List Felt). BeginsWith xs s ys) e b) in
    let there : result_ok (decoding v.number) ≡ Some (encoding s).0 = ap result_ok d.word in
    cc

pub decoding-Ok : (r : Result Word WordFault) (w : Word) → result_ok r ≡ Some w → r ≡ Ok w
decoding-Ok (Ok x) w h = cc
decoding-Ok (Err f) w h = absurd cc

pub begins_with_statement : (ws : List Felt) (v : Felt) (vs : List Felt) (w : Word) (imm : Option Felt) (others : List Felt) (s : Stmt) → ws ≡ v ∷ vs → decoding v.number ≡ Ok w → vs ≡ option_to_list imm ++ others → encoding s ≡ (w, imm) → BeginsWith ws s others
begins_with_statement ws v vs w imm others s e h rest is =
    subst (λ (xs : List Felt). BeginsWith xs s others) (sym e) (decodes_begins v vs s others (record {
      word = h ∙ ap Ok (sym (ap (λ (p : Word × Option Felt). p.0) is));
      rest = rest ∙ ap (λ (o : Option Felt). option_to_list o ++ others) (sym (ap (λ (p : Word × Option Felt). p.1) is));
    }))

pub begins_with_none-unwritten : (ws : List Felt) (v : Felt) (vs : List Felt) (w : Word) (imm : Option Felt) (others : List Felt) → ws ≡ v ∷ vs → decoding v.number ≡ Ok w → is_some imm ≡ w.flags.op1_imm → vs ≡ option_to_list imm ++ others → ((s : Stmt) → encoding s ≡ (w, imm) → ⊥) → BeginsWithNone ws
begins_with_none-unwritten ws v vs w imm others e h flag rest none s ys b =
    let d = begins_decodes v vs s ys (subst (λ (xs : List Felt). BeginsWith xs s ys) e b) in
    let same = same_decoded v.number (encoding s).0 w d.word h in
    let same_flag : is_some (encoding s).1 ≡ is_some imm = has_immediate s ∙ (ap (λ (x : Word). x.flags.op1_imm) same ∙ sym flag) in
    let same_imm = (same_rest (encoding s).1 imm ys others same_flag (sym d.rest ∙ rest)).0 in
    none s (λ i. (same i, same_imm i))

pub begins_with_none-short : (ws : List Felt) (v : Felt) (vs : List Felt) (w : Word) → ws ≡ v ∷ vs → decoding v.number ≡ Ok w → w.flags.op1_imm ≡ true → vs ≡ [] → BeginsWithNone ws
begins_with_none-short ws v vs w e h flag short s ys b =
    let d = begins_decodes v vs s ys (subst (λ (xs : List Felt). BeginsWith xs s ys) e b) in
    let same = same_decoded v.number (encoding s).0 w d.word h in
    let is_there : is_some (encoding s).1 ≡ true = has_immediate s ∙ (ap (λ (x : Word). x.flags.op1_imm) same ∙ flag) in
    no_rest (encoding s).1 is_there (sym short ∙ d.rest)
  where
    no_rest : (o : Option Felt) → is_some o ≡ true → [] ≡ option_to_list o ++ ys → ⊥
    no_rest None e p = false≢true e
    no_rest (Some x) e p = cc

-- the number of a statement's word is below p
pub encoded-below : (s : Stmt) (p : Word × Option Felt) (n : ℕ) → p ≡ encoding s → (first_broken p.0.flags ≡ None → decoding n ≡ Ok p.0) → n < prime
encoded-below s p n e decodes =
    decoded-below n p.0 (decodes (ap (λ (q : Word × Option Felt). first_broken q.0.flags) e ∙ is_defined s))
