-- Words are shown as one list of bodies, and each list of words is shown as one.
use Rattle.std.proofs.Common.{◌≡◌, ℕ, zero, suc, ◌+◌, ◌≤◌, ◌<◌, List, [], ◌∷◌, ◌++◌, length, map, refl, sym, ◌∙◌, ap, subst, arith, inl, inr}
use Rattle.std.specs.List.{flat_map, AllByRecursion}
use Rattle.std.specs.Option.{option_to_list}
use Rattle.std.proofs.lemmas.List.{length-append, append_assoc, append-nil}
use Rattle.goldilocks.specs.declared.Felt.{Felt}
use Rattle.casm_statements.specs.declared.Stmt.{Stmt}
use Rattle.casm_statements.specs.declared.Body.{Body}
use Rattle.casm_statements.specs.declared.Body.TheVariants as body
use Rattle.casm_statements.specs.Words.{encoding}
use Rattle.assembler.specs.StatementWords.{statement_words, HasOffsets, BeginsWith, BeginsWithNone}
use Rattle.casm_statements.specs.declared.Item.{Item}
use Rattle.casm_text.specs.Meaning.{item_on}
use Rattle.assembler.specs.Shown.{Shown}
use Rattle.assembler.specs.Disassembly.{on_lines}
use Rattle.assembler.specs.Views.{ShownBehind}
use Rattle.assembler.proofs.Begins.{begins_with_one, begins_or_not, begins_not_empty}

-- a statement gives a word at least
pub left_shorter : (words : List Felt) (s : Stmt) (others : List Felt) → BeginsWith words s others → length others < length words
unfolding statement_words
left_shorter words s others b = let e = ap length b.parts in omega (arith, e, length-append (option_to_list (encoding s).1) others)

-- what words are shown as tells how they begin
shown_empty : (bs : List Body) → Shown [] bs → bs ≡ []
shown_empty [] h = refl
shown_empty (body.Stmt s ∷ bs) h = absurd (begins_not_empty s h.0 h.1)
shown_empty (body.Dw v ∷ bs) h = let e = h.1 in absurd cc
shown_empty (body.Builtins o r ∷ bs) h = absurd h
shown_empty (body.Start t ∷ bs) h = absurd h
shown_empty (body.End t ∷ bs) h = absurd h
shown_empty (body.Label n ∷ bs) h = absurd h
shown_empty (body.JumpTo n inc ∷ bs) h = absurd h
shown_empty (body.BranchTo c n inc ∷ bs) h = absurd h
shown_empty (body.CallTo n ∷ bs) h = absurd h

shown_statement : (words : List Felt) (s : Stmt) (others : List Felt) (bs : List Body) → BeginsWith words s others → Shown words bs → (cs : List Body) × (bs ≡ body.Stmt s ∷ cs) × Shown others cs
shown_statement words s others [] b h = absurd (begins_not_empty s others (subst (λ (ws : List Felt). BeginsWith ws s others) h b))
shown_statement words s others (body.Stmt t ∷ bs) b h =
    let e = begins_with_one words s t others h.0 b h.1 in
    (bs, ap (λ (x : Stmt). body.Stmt x ∷ bs) (sym e.0), subst (λ (ws : List Felt). Shown ws bs) (sym e.1) h.2)
shown_statement words s others (body.Dw v ∷ bs) b h = absurd (h.2 s others b)
shown_statement words s others (body.Builtins o r ∷ bs) b h = absurd h
shown_statement words s others (body.Start t ∷ bs) b h = absurd h
shown_statement words s others (body.End t ∷ bs) b h = absurd h
shown_statement words s others (body.Label n ∷ bs) b h = absurd h
shown_statement words s others (body.JumpTo n inc ∷ bs) b h = absurd h
shown_statement words s others (body.BranchTo c n inc ∷ bs) b h = absurd h
shown_statement words s others (body.CallTo n ∷ bs) b h = absurd h

shown_number : (v : Felt) (vs : List Felt) (bs : List Body) → BeginsWithNone (v ∷ vs) → Shown (v ∷ vs) bs → (cs : List Body) × (bs ≡ body.Dw v ∷ cs) × Shown vs cs
shown_number v vs [] none h = absurd cc
shown_number v vs (body.Stmt t ∷ bs) none h = absurd (none t h.0 h.1)
shown_number v vs (body.Dw u ∷ bs) none h =
    let e = h.1 in
    let same : v ≡ u = cc in
    let rest : h.0 ≡ vs = cc in
    (bs, ap (λ (x : Felt). body.Dw x ∷ bs) (sym same), subst (λ (ws : List Felt). Shown ws bs) rest h.3)
shown_number v vs (body.Builtins o r ∷ bs) none h = absurd h
shown_number v vs (body.Start t ∷ bs) none h = absurd h
shown_number v vs (body.End t ∷ bs) none h = absurd h
shown_number v vs (body.Label n ∷ bs) none h = absurd h
shown_number v vs (body.JumpTo n inc ∷ bs) none h = absurd h
shown_number v vs (body.BranchTo c n inc ∷ bs) none h = absurd h
shown_number v vs (body.CallTo n ∷ bs) none h = absurd h

-- words are shown as one list of bodies at most
one_within : (n : ℕ) (words : List Felt) (cs bs : List Body) → length words ≤ n → Shown words cs → Shown words bs → cs ≡ bs
one_within n [] cs bs m a b = shown_empty cs a ∙ sym (shown_empty bs b)
one_within zero (v ∷ vs) cs bs m a b = absurd (omega arith)
one_within (suc n) (v ∷ vs) cs bs m a b = elim (begins_or_not (v ∷ vs)) [
  | inl (s, ys, e) ↦
      let p = shown_statement (v ∷ vs) s ys cs e a in
      let q = shown_statement (v ∷ vs) s ys bs e b in
      let short = left_shorter (v ∷ vs) s ys e in
      p.1 ∙ (ap (λ (ds : List Body). body.Stmt s ∷ ds) (one_within n ys p.0 q.0 (omega arith) p.2 q.2) ∙ sym q.1)
  | inr none ↦
      let p = shown_number v vs cs none a in
      let q = shown_number v vs bs none b in
      p.1 ∙ (ap (λ (ds : List Body). body.Dw v ∷ ds) (one_within n vs p.0 q.0 (omega arith) p.2 q.2) ∙ sym q.1)
]

pub shown_as_one : (words : List Felt) (cs bs : List Body) → Shown words cs → Shown words bs → cs ≡ bs
shown_as_one words cs bs a b = one_within (length words) words cs bs (omega arith) a b

-- the words of statements are shown as these statements
pub shown_as_statements : (stmts : List Stmt) → AllByRecursion HasOffsets stmts → Shown (flat_map statement_words stmts) (map body.Stmt stmts)
shown_as_statements [] h = refl
shown_as_statements (s ∷ ss) h =
    (flat_map statement_words ss, record { offsets = h.0; parts = refl }, shown_as_statements ss h.1)

-- lines of bodies one after another
on_lines-append : (n : ℕ) (xs ys : List Body) → on_lines n (xs ++ ys) ≡ on_lines n xs ++ on_lines (n + length xs) ys
on_lines-append n [] ys = ap (λ (k : ℕ). on_lines k ys) (omega arith)
on_lines-append n (x ∷ xs) ys =
    let e : n + 1 + length xs ≡ n + length (x ∷ xs) = omega arith in
    ap (λ (is : List Item). item_on n x ∷ is) (on_lines-append (n + 1) xs ys ∙ ap (λ (k : ℕ). on_lines (n + 1) xs ++ on_lines k ys) e)

length-on_lines : (n : ℕ) (bs : List Body) → length (on_lines n bs) ≡ length bs
length-on_lines n [] = refl
length-on_lines n (b ∷ bs) = ap suc (length-on_lines (n + 1) bs)

-- the words are shown as far as the first words are shown already, and these are left.
pub record ShowsSoFar (before : List Item) (words left : List Felt) (items : List Item) : Type 0 where
  pub statements : List Body
  pub shown : (others : List Body) → Shown left others → Shown words (statements ++ others)
  pub parts : items ≡ before ++ on_lines (length before + 1) statements

-- one body more is shown
pub shows_more : (before items more : List Item) (words left others : List Felt) (b : Body) → ShowsSoFar before words left items → more ≡ items ++ on_lines (length items + 1) (b ∷ []) → ((bs : List Body) → Shown others bs → Shown left (b ∷ bs)) → ShowsSoFar before words others more
shows_more before items more words left others b so e step =
    let bs = so.statements in
    let p = so.parts in
    let count : length items + 1 ≡ length before + 1 + length bs =
    let l = ap length p in omega (arith, l, length-append before (on_lines (length before + 1) bs), length-on_lines (length before + 1) bs) in
    record {
      statements = bs ++ b ∷ [];
      shown = λ cs h. subst (λ (ds : List Body). Shown words ds) (sym (append_assoc bs (b ∷ []) cs)) (so.shown (b ∷ cs) (step cs h));
      parts =
          e
          ∙ (ap (λ (k : ℕ). items ++ on_lines k (b ∷ [])) count
          ∙ (ap (λ (is : List Item). is ++ on_lines (length before + 1 + length bs) (b ∷ [])) p
          ∙ (append_assoc before (on_lines (length before + 1) bs) (on_lines (length before + 1 + length bs) (b ∷ []))
          ∙ ap (λ (is : List Item). before ++ is) (sym (on_lines-append (length before + 1) bs (b ∷ []))))));
    }

-- all is shown
pub shows_all : (before items : List Item) (words left : List Felt) → ShowsSoFar before words left items → left ≡ [] → ShownBehind before words items
shows_all before items words left so e = record {
  statements = so.statements;
  shown = subst (λ (bs : List Body). Shown words bs) (append-nil so.statements) (so.shown [] e);
  parts = so.parts;
}
