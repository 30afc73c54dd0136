-- Words, labels and places of bodies, one body after another.
use Rattle.std.proofs.Common.{◌≡◌, ℕ, suc, ◌+◌, ◌≤◌, ◌<◌, min, Bool, true, false, ◌||◌, List, [], ◌∷◌, ◌++◌, length, map, get_or, take, drop, Option, Some, None, is_some, refl, sym, ◌∙◌, ap, arith, cond}
use Rattle.std.specs.Option.{option_or, option_to_list}
use Rattle.std.specs.Cmp.Lexicographic.{nat_list_eq_equiv}
use Rattle.std.proofs.lemmas.Option.{none-some}
use Rattle.std.proofs.lemmas.List.{length-append, append_assoc, append-nil, map-append, map_more, take-append-drop}
use Rattle.std.proofs.lemmas.List.Sums.{sum_by-append, sum_by-cons}
use Rattle.std.specs.Str.{bytes_eq}
use Rattle.goldilocks.specs.declared.Felt.{Felt}
use Rattle.goldilocks.specs.Field.{field_sub}
use Rattle.goldilocks.specs.Felts.{felt}
use Rattle.goldilocks.proofs.Pairs.{felt-number}
use Rattle.casm_word.specs.declared.Word.{Word}
use Rattle.casm_word.specs.Word.{word_number}
use Rattle.casm_word.specs.Length.{program_word_limit}
use Rattle.casm_statements.specs.declared.Stmt.{Stmt}
use Rattle.casm_statements.specs.declared.Body.{Body}
use Rattle.casm_statements.specs.declared.Body.TheVariants as body
use Rattle.casm_statements.specs.declared.Item.{Item}
use Rattle.casm_statements.specs.Words.{encoding}
use Rattle.casm_text.specs.Meaning.{bodies}
use Rattle.assembler.specs.StatementWords.{statement_words}
use Rattle.assembler.specs.Assembly.{body_size, word_count, label_in, label_at, labels_from, labels_of, value_in, label_named, distance_to, body_words, words_from, words_of, first_given, distance}
use Rattle.assembler.specs.Views.{capped, capped_label}

pub word_count-cons : (b : Body) (bs : List Body) → word_count (b ∷ bs) ≡ body_size b + word_count bs
word_count-cons b bs = sum_by-cons body_size b bs

-- one body more
pub word_count-more : (bs : List Body) (b : Body) → word_count (bs ++ b ∷ []) ≡ word_count bs + body_size b
word_count-more bs b = let e = sum_by-append body_size bs (b ∷ []) in omega arith

labels_from-more : (place : ℕ) (bs : List Body) (b : Body) → labels_from place (bs ++ b ∷ []) ≡ labels_from place bs ++ label_at (place + word_count bs) (label_in b)
labels_from-more place [] b =
    append-nil (label_at place (label_in b)) ∙ ap (λ (n : ℕ). label_at n (label_in b)) (omega arith)
labels_from-more place (x ∷ bs) b =
    let c = sum_by-cons body_size x bs in
    let e : place + body_size x + word_count bs ≡ place + word_count (x ∷ bs) = omega arith in
    ap (λ (ls : List (List ℕ × ℕ)). label_at place (label_in x) ++ ls) (labels_from-more (place + body_size x) bs b ∙ ap (λ (n : ℕ). labels_from (place + body_size x) bs ++ label_at n (label_in b)) e)
    ∙ sym (append_assoc (label_at place (label_in x)) (labels_from (place + body_size x) bs) (label_at (place + word_count (x ∷ bs)) (label_in b)))

pub labels_of-more : (bs : List Body) (b : Body) → labels_of (bs ++ b ∷ []) ≡ labels_of bs ++ label_at (word_count bs) (label_in b)
labels_of-more bs b =
    let e : 0 + word_count bs ≡ word_count bs = omega arith in
    labels_from-more 0 bs b ∙ ap (λ (n : ℕ). labels_of bs ++ label_at n (label_in b)) e

words_from-more : (labels : List (List ℕ × ℕ)) (place : ℕ) (bs : List Body) (b : Body) → words_from labels place (bs ++ b ∷ []) ≡ words_from labels place bs ++ body_words (distance_to labels (place + word_count bs) (label_named b)) b
words_from-more labels place [] b =
    append-nil (body_words (distance_to labels place (label_named b)) b) ∙ ap (λ (n : ℕ). body_words (distance_to labels n (label_named b)) b) (omega arith)
words_from-more labels place (x ∷ bs) b =
    let c = sum_by-cons body_size x bs in
    let e : place + body_size x + word_count bs ≡ place + word_count (x ∷ bs) = omega arith in
    let own = body_words (distance_to labels place (label_named x)) x in
    ap (λ (ws : List Felt). own ++ ws) (words_from-more labels (place + body_size x) bs b ∙ ap (λ (n : ℕ). words_from labels (place + body_size x) bs ++ body_words (distance_to labels n (label_named b)) b) e)
    ∙ sym (append_assoc own (words_from labels (place + body_size x) bs) (body_words (distance_to labels (place + word_count (x ∷ bs)) (label_named b)) b))

pub words_from_start-more : (labels : List (List ℕ × ℕ)) (bs : List Body) (b : Body) → words_from labels 0 (bs ++ b ∷ []) ≡ words_from labels 0 bs ++ body_words (distance_to labels (word_count bs) (label_named b)) b
words_from_start-more labels bs b =
    let e : 0 + word_count bs ≡ word_count bs = omega arith in
    words_from-more labels 0 bs b ∙ ap (λ (n : ℕ). words_from labels 0 bs ++ body_words (distance_to labels n (label_named b)) b) e

or_either : {A : Type 0} (a b c : Option A) → option_or a (option_or b c) ≡ option_or (option_or a b) c
or_either None b c = refl
or_either (Some x) b c = refl

pub first_given-append : {A : Type 0} (f : Body → Option A) (xs ys : List Body) → first_given f (xs ++ ys) ≡ option_or (first_given f xs) (first_given f ys)
first_given-append f [] ys = refl
first_given-append f (x ∷ xs) ys = ap (option_or (f x)) (first_given-append f xs ys) ∙ or_either (f x) (first_given f xs) (first_given f ys)

option_or-some : {A : Type 0} (a b : Option A) → is_some (option_or a b) ≡ (is_some a || is_some b)
option_or-some None b = refl
option_or-some (Some x) b = refl

option_or-none : {A : Type 0} (a : Option A) → option_or a None ≡ a
option_or-none None = refl
option_or-none (Some x) = refl

pub is_given-more : {A : Type 0} (f : Body → Option A) (bs : List Body) (b : Body) → is_some (first_given f (bs ++ b ∷ [])) ≡ (is_some (first_given f bs) || is_some (f b))
is_given-more {A = A} f bs b =
    ap is_some (first_given-append f bs (b ∷ [])) ∙ (option_or-some (first_given f bs) (first_given f (b ∷ [])) ∙ ap (λ (o : Option A). is_some (first_given f bs) || is_some o) (option_or-none (f b)))

-- a body gives as many words as its size says
pub body_words-length : (by : Felt) (b : Body) → length (body_words by b) ≡ body_size b
unfolding statement_words encoding
body_words-length by (body.Builtins o r) = refl
body_words-length by (body.Start t) = refl
body_words-length by (body.End t) = refl
body_words-length by (body.Label n) = refl
body_words-length by (body.Stmt s) = refl
body_words-length by (body.JumpTo n inc) = refl
body_words-length by (body.BranchTo c n inc) = refl
body_words-length by (body.CallTo n) = refl
body_words-length by (body.Dw v) = refl

pub words_from-length : (labels : List (List ℕ × ℕ)) (place : ℕ) (bs : List Body) → length (words_from labels place bs) ≡ word_count bs
words_from-length labels place [] = refl
words_from-length labels place (b ∷ bs) =
    let own = body_words (distance_to labels place (label_named b)) b in
    let rest = words_from labels (place + body_size b) bs in
    let a = length-append own rest in
    let c = body_words-length (distance_to labels place (label_named b)) b in
    let d = words_from-length labels (place + body_size b) bs in
    let e = sum_by-cons body_size b bs in
    omega arith

-- labels whose values `u32` can hold are held as they are
capped_from : (place : ℕ) (bs : List Body) → place + word_count bs ≤ program_word_limit → map capped_label (labels_from place bs) ≡ labels_from place bs
capped_from place [] h = refl
capped_from place (b ∷ bs) h =
    let c = sum_by-cons body_size b bs in
    map-append capped_label (label_at place (label_in b)) (labels_from (place + body_size b) bs)
    ∙ (ap (λ (ls : List (List ℕ × ℕ)). ls ++ map capped_label (labels_from (place + body_size b) bs)) (one (label_in b) (omega arith))
    ∙ ap (λ (ls : List (List ℕ × ℕ)). label_at place (label_in b) ++ ls) (capped_from (place + body_size b) bs (omega arith)))
  where
    one : (o : Option (List ℕ)) → place ≤ program_word_limit → map capped_label (label_at place o) ≡ label_at place o
    one None l = refl
    one (Some n) l = let e : min place 4294967295 ≡ place = omega arith in ap (λ (k : ℕ). (n, k) ∷ []) e

pub labels_held : (bs : List Body) → word_count bs ≤ program_word_limit → map capped_label (labels_of bs) ≡ labels_of bs
labels_held bs h = capped_from 0 bs (omega arith)

-- a name is among the labels that are held where it is among the labels
pub value_in-capped : (n : List ℕ) (labels : List (List ℕ × ℕ)) → is_some (value_in (map capped_label labels) n) ≡ is_some (value_in labels n)
value_in-capped n [] = refl
value_in-capped n (l ∷ ls) = by (bytes_eq n l.0) (value_in-capped n ls)
  where
    by : (b : Bool) → is_some (value_in (map capped_label ls) n) ≡ is_some (value_in ls n) → is_some (cond b (Some (capped l.1)) (value_in (map capped_label ls) n)) ≡ is_some (cond b (Some l.1) (value_in ls n))
    by true e = refl
    by false e = e

-- a value with the number of a distance is the distance
pub distance-is : (v : Felt) (to from : ℕ) → v.number ≡ field_sub to from → v ≡ distance to from
unfolding distance
distance-is v to from e = sym (felt-number v) ∙ ap felt e

-- the words of a statement, by the word and the immediate that it has
pub statement_words-is : (s : Stmt) (v : Felt) (w : Word) (imm : Option Felt) → (w, imm) ≡ encoding s → v.number ≡ word_number w → statement_words s ≡ v ∷ option_to_list imm
unfolding statement_words
statement_words-is s v w imm e n =
    let a : w ≡ (encoding s).0 = ap (λ (p : Word × Option Felt). p.0) e in
    let b : imm ≡ (encoding s).1 = ap (λ (p : Word × Option Felt). p.1) e in
    let f : felt (word_number (encoding s).0) ≡ v = ap (λ (x : Word). felt (word_number x)) (sym a) ∙ (ap felt (sym n) ∙ felt-number v) in
    λ i. f i ∷ option_to_list (sym b i)

-- how many words a statement has, and what is pushed for it
pub one_word : (s : Stmt) (p : Word × Option Felt) → p ≡ encoding s → p.1 ≡ None → 1 ≡ length (statement_words s)
unfolding statement_words
one_word s p e none = ap (λ (o : Option Felt). suc (length (option_to_list o))) (sym none ∙ ap (λ (q : Word × Option Felt). q.1) e)

pub two_words : (s : Stmt) (p : Word × Option Felt) (x : Felt) → p ≡ encoding s → p.1 ≡ Some x → 2 ≡ length (statement_words s)
unfolding statement_words
two_words s p x e some = ap (λ (o : Option Felt). suc (length (option_to_list o))) (sym some ∙ ap (λ (q : Word × Option Felt). q.1) e)

pub one_pushed : (s : Stmt) (p : Word × Option Felt) (v : Felt) (before after : List Felt) → p ≡ encoding s → v.number ≡ word_number p.0 → p.1 ≡ None → after ≡ before ++ v ∷ [] → after ≡ before ++ statement_words s
one_pushed s p v before after e n none pushed =
    let w = statement_words-is s v p.0 p.1 e n in
    pushed ∙ ap (λ (ws : List Felt). before ++ ws) (sym (w ∙ ap (λ (o : Option Felt). v ∷ option_to_list o) none))

pub two_pushed : (s : Stmt) (p : Word × Option Felt) (v x : Felt) (before between after : List Felt) → p ≡ encoding s → v.number ≡ word_number p.0 → p.1 ≡ Some x → between ≡ before ++ v ∷ [] → after ≡ between ++ x ∷ [] → after ≡ before ++ statement_words s
two_pushed s p v x before between after e n some first second =
    let w = statement_words-is s v p.0 p.1 e n in
    second
    ∙ (ap (λ (ws : List Felt). ws ++ x ∷ []) first
    ∙ (append_assoc before (v ∷ []) (x ∷ [])
    ∙ ap (λ (ws : List Felt). before ++ ws) (sym (w ∙ ap (λ (o : Option Felt). v ∷ option_to_list o) some))))

-- the bodies of items in a loop
pub bodies-more : (items : List Item) (n : ℕ) (i : Item) → n < length items → i ≡ get_or items n i → bodies (take (n + 1) items) ≡ bodies (take n items) ++ i.body ∷ []
bodies-more items n i h at =
    map_more (λ (j : Item). j.body) items n i h ∙ ap (λ (j : Item). bodies (take n items) ++ j.body ∷ []) (sym at)

pub word_count-take : (items : List Item) (n : ℕ) → word_count (bodies (take n items)) ≤ word_count (bodies items)
word_count-take items n =
    let e : word_count (bodies items) ≡ word_count (bodies (take n items)) + word_count (bodies (drop n items)) =
    ap (λ (is : List Item). word_count (bodies is)) (sym (take-append-drop n items)) ∙ (ap word_count (map-append (λ (j : Item). j.body) (take n items) (drop n items)) ∙ sum_by-append body_size (bodies (take n items)) (bodies (drop n items))) in
    omega arith

-- the words that are written, one item more
pub written_more : (labels : List (List ℕ × ℕ)) (items : List Item) (n : ℕ) (i : Item) (before after : List Felt) → n < length items → i ≡ get_or items n i → before ≡ words_from labels 0 (bodies (take n items)) → after ≡ before ++ body_words (distance_to labels (length before) (label_named i.body)) i.body → after ≡ words_from labels 0 (bodies (take (n + 1) items))
written_more labels items n i before after h at e pushed =
    let count : length before ≡ word_count (bodies (take n items)) = ap length e ∙ words_from-length labels 0 (bodies (take n items)) in
    pushed
    ∙ (ap (λ (k : ℕ). before ++ body_words (distance_to labels k (label_named i.body)) i.body) count
    ∙ (ap (λ (ws : List Felt). ws ++ body_words (distance_to labels (word_count (bodies (take n items))) (label_named i.body)) i.body) e
    ∙ (sym (words_from_start-more labels (bodies (take n items)) i.body)
    ∙ ap (words_from labels 0) (sym (bodies-more items n i h at)))))

pub written_fits : (labels : List (List ℕ × ℕ)) (items : List Item) (n : ℕ) (before : List Felt) → before ≡ words_from labels 0 (bodies (take n items)) → word_count (bodies items) ≤ program_word_limit → length before ≤ program_word_limit
written_fits labels items n before e h =
    let count : length before ≡ word_count (bodies (take n items)) = ap length e ∙ words_from-length labels 0 (bodies (take n items)) in
    omega (arith, word_count-take items n)

-- a label has the number of the words before it as its value
labels_from-append : (place : ℕ) (xs ys : List Body) → labels_from place (xs ++ ys) ≡ labels_from place xs ++ labels_from (place + word_count xs) ys
labels_from-append place [] ys = ap (λ (n : ℕ). labels_from n ys) (omega arith)
labels_from-append place (x ∷ xs) ys =
    let c = sum_by-cons body_size x xs in
    let e : place + body_size x + word_count xs ≡ place + word_count (x ∷ xs) = omega arith in
    ap (λ (ls : List (List ℕ × ℕ)). label_at place (label_in x) ++ ls) (labels_from-append (place + body_size x) xs ys ∙ ap (λ (n : ℕ). labels_from (place + body_size x) xs ++ labels_from n ys) e)
    ∙ sym (append_assoc (label_at place (label_in x)) (labels_from (place + body_size x) xs) (labels_from (place + word_count (x ∷ xs)) ys))

value_in-behind : (n : List ℕ) (xs ys : List (List ℕ × ℕ)) → value_in xs n ≡ None → value_in (xs ++ ys) n ≡ value_in ys n
value_in-behind n [] ys h = refl
value_in-behind n (x ∷ xs) ys h = by (bytes_eq n x.0) refl (value_in-behind n xs ys)
  where
    by : (b : Bool) → bytes_eq n x.0 ≡ b → (value_in xs n ≡ None → value_in (xs ++ ys) n ≡ value_in ys n) → cond (bytes_eq n x.0) (Some x.1) (value_in (xs ++ ys) n) ≡ value_in ys n
    by true e more = absurd (none-some x.1 (sym h ∙ ap (λ (c : Bool). cond c (Some x.1) (value_in xs n)) e))
    by false e more =
        ap (λ (c : Bool). cond c (Some x.1) (value_in (xs ++ ys) n)) e
        ∙ more (ap (λ (c : Bool). cond c (Some x.1) (value_in xs n)) (sym e) ∙ h)

pub value_in-label : (before after : List Body) (n : List ℕ) → value_in (labels_of before) n ≡ None → value_in (labels_of (before ++ body.Label n ∷ after)) n ≡ Some (word_count before)
value_in-label before after n h =
    let e : 0 + word_count before ≡ word_count before = omega arith in
    ap (λ (ls : List (List ℕ × ℕ)). value_in ls n) (labels_from-append 0 before (body.Label n ∷ after))
    ∙ (value_in-behind n (labels_of before) (labels_from (0 + word_count before) (body.Label n ∷ after)) h
    ∙ (ap (λ (b : Bool). cond b (Some (0 + word_count before)) (value_in (labels_from (0 + word_count before + 0) after) n)) (nat_list_eq_equiv.refl n)
    ∙ ap Some e))

-- the words of a body stand behind those of the bodies before it
words_from-append : (labels : List (List ℕ × ℕ)) (place : ℕ) (xs ys : List Body) → words_from labels place (xs ++ ys) ≡ words_from labels place xs ++ words_from labels (place + word_count xs) ys
words_from-append labels place [] ys = ap (λ (n : ℕ). words_from labels n ys) (omega arith)
words_from-append labels place (x ∷ xs) ys =
    let c = sum_by-cons body_size x xs in
    let e : place + body_size x + word_count xs ≡ place + word_count (x ∷ xs) = omega arith in
    let own = body_words (distance_to labels place (label_named x)) x in
    ap (λ (ws : List Felt). own ++ ws) (words_from-append labels (place + body_size x) xs ys ∙ ap (λ (n : ℕ). words_from labels (place + body_size x) xs ++ words_from labels n ys) e)
    ∙ sym (append_assoc own (words_from labels (place + body_size x) xs) (words_from labels (place + word_count (x ∷ xs)) ys))

pub words_of-at : (before after : List Body) (b : Body) → (front back : List Felt) × (words_of (before ++ b ∷ after) ≡ front ++ (body_words (distance_to (labels_of (before ++ b ∷ after)) (word_count before) (label_named b)) b ++ back)) × (length front ≡ word_count before)
words_of-at before after b =
    let labels = labels_of (before ++ b ∷ after) in
    let e : 0 + word_count before ≡ word_count before = omega arith in (
      words_from labels 0 before,
      words_from labels (word_count before + body_size b) after,
      words_from-append labels 0 before (b ∷ after) ∙ ap (λ (n : ℕ). words_from labels 0 before ++ words_from labels n (b ∷ after)) e,
      words_from-length labels 0 before,
    )

-- the words of a body that names its distance from where it is pushed
pub pushed_at : (labels : List (List ℕ × ℕ)) (b : Body) (before after : List Felt) (by : Felt) (place : ℕ) → after ≡ before ++ body_words by b → by ≡ distance_to labels place (label_named b) → place ≡ length before → after ≡ before ++ body_words (distance_to labels (length before) (label_named b)) b
pushed_at labels b before after by place pushed is at = pushed ∙ ap (λ (d : Felt). before ++ body_words d b) (is ∙ ap (λ (n : ℕ). distance_to labels n (label_named b)) at)
