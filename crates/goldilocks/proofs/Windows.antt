-- The windows of two of a slice: each item with the one behind it.
use Rattle.std.proofs.Common.{◌≡◌, ℕ, zero, suc, ◌+◌, ◌-◌, ◌<◌, ◌≤◌, List, [], ◌∷◌, length, take, drop, get_or, Option, Some, None, Bor, refl, sym, ap, subst, ◌∙◌, arith, add-one}
use Rattle.std.specs.declared.iter.Enumerate.{Enumerate}
use Rattle.std.specs.declared.slice.Windows.{Windows}
use Rattle.std.specs.Iterator.{Yields}
use Rattle.std.specs.Iterator.Adapters.{enumerate_source, enumerate_count, enumerate_steps}
use Rattle.std.specs.Slice.Iter.{windows_rest, windows_size, windows_steps}
use Rattle.std.proofs.lemmas.Iterator.{YieldsList}
use Rattle.std.proofs.lemmas.Iterator.Consumers.{YieldsList-from_enumerate, YieldsList-turn, YieldsList-end}
use Rattle.std.proofs.lemmas.Iterator.Splits.{YieldsList-from_shown_while}
use Rattle.std.proofs.lemmas.List.FromFn.{length-enumerate_from, get_or-enumerate_from}

windows_after : {X : Type 0} → X → List X → List (List X)
windows_after x [] = []
windows_after x (y ∷ ys) = (x ∷ y ∷ []) ∷ windows_after y ys

pub windows_of : {X : Type 0} → List X → List (List X)
windows_of [] = []
windows_of (x ∷ xs) = windows_after x xs

module _ {X : Type 0} where
  length-after : (x : X) (ys : List X) → length (windows_after x ys) ≡ length ys
  unfolding windows_after
  length-after x [] = refl
  length-after x (y ∷ ys) = ap suc (length-after y ys)

  pub length-windows : (xs : List X) → length (windows_of xs) ≡ length xs - 1
  unfolding windows_of
  length-windows [] = refl
  length-windows (x ∷ xs) = omega (arith, length-after x xs)

  after_at : (x : X) (ys : List X) (k : ℕ) (d : X) (e : List X) → k < length ys → get_or (windows_after x ys) k e ≡ get_or (x ∷ ys) k d ∷ get_or (x ∷ ys) (suc k) d ∷ []
  unfolding windows_after
  after_at x [] k d e lt = absurd (omega arith)
  after_at x (y ∷ ys) zero d e lt = refl
  after_at x (y ∷ ys) (suc k) d e lt = after_at y ys k d e (omega arith)

  pub window_at : (xs : List X) (k : ℕ) (d : X) (e : List X) → k + 1 < length xs → get_or (windows_of xs) k e ≡ get_or xs k d ∷ get_or xs (k + 1) d ∷ []
  unfolding windows_of
  window_at [] k d e lt = absurd (omega arith)
  window_at (x ∷ xs) k d e lt =
      after_at x xs k d e (omega arith)
      ∙ ap (λ n. get_or (x ∷ xs) k d ∷ get_or (x ∷ xs) n d ∷ []) (sym (add-one k))

  -- ---- what `windows(2)` gives

  none_left : (xs : List X) → length xs < 2 → length (windows_of xs) ≡ 0
  none_left xs short = omega (arith, length-windows xs)

  one_taken : (xs : List X) → 2 ≤ length xs → windows_of xs ≡ take 2 xs ∷ windows_of (drop 1 xs)
  unfolding windows_of windows_after
  one_taken [] more = absurd (omega arith)
  one_taken (x ∷ []) more = absurd (omega arith)
  one_taken (x ∷ y ∷ ys) more = refl

  pub YieldsList-from_windows : {s : Windows X} (xs : List X) → windows_rest s ≡ xs → windows_size s ≡ 2 → YieldsList (windows_steps {A = X}) (λ w. w.now) s (windows_of xs)
  YieldsList-from_windows {s} xs rest size =
      subst (λ l. YieldsList (windows_steps {A = X}) (λ w. w.now) s (windows_of l)) rest
      (YieldsList-from_shown_while (windows_steps {A = X}) (λ w. w.now) (λ t. windows_of (windows_rest t)) (λ t. windows_size t ≡ 2)
      (λ t u two step. none_left (windows_rest t) (omega (arith, two, step.1.0)))
      (λ t w u two step.
      let front : take 2 (windows_rest t) ≡ w.now = ap (λ n. take n (windows_rest t)) (sym two) ∙ sym step.1.1 in
      let behind : drop 1 (windows_rest t) ≡ windows_rest u = sym step.1.2 in (
        step.0 ∙ two,
        one_taken (windows_rest t) (omega (arith, two, step.1.0)) ∙ (λ i. front i ∷ windows_of (behind i)),
      ))
      s size)

  -- ---- one window, by its place

  -- the window has the item at this place and the one behind it
  pub record IsWindow (xs : List X) (i : ℕ) (window : List X) : Type 0 where
    pub within : i + 1 < length xs
    pub two : length window ≡ 2
    pub first : (d : X) → get_or window 0 d ≡ get_or xs i d
    pub second : (d : X) → get_or window 1 d ≡ get_or xs (i + 1) d

  pub IsWindow-at : (xs : List X) (i : ℕ) (window : List X) → i < length (windows_of xs) → window ≡ get_or (windows_of xs) i window → IsWindow xs i window
  IsWindow-at xs i window lt is =
      let within : i + 1 < length xs = omega (arith, length-windows xs) in
      let at : (d : X) → window ≡ get_or xs i d ∷ get_or xs (i + 1) d ∷ [] = λ d. is ∙ window_at xs i d window within in
      record {
        within = within;
        two = two_items xs window within at;
        first = λ d. ap (λ l. get_or l 0 d) (at d);
        second = λ d. ap (λ l. get_or l 1 d) (at d);
      }
    where
      two_items : (ys : List X) (w : List X) → i + 1 < length ys → ((d : X) → w ≡ get_or xs i d ∷ get_or xs (i + 1) d ∷ []) → length w ≡ 2
      two_items [] w lt at = absurd (omega arith)
      two_items (y ∷ ys) w lt at = ap length (at y)

  -- ---- a `for` over `windows(2)`, and over `windows(2).enumerate()`

  module _ (xs : List X) (s : Windows X) (rest : windows_rest s ≡ xs) (size : windows_size s ≡ 2) (done : List (Bor (List X))) (t : Windows X) (ran : Yields (windows_steps {A = X}) s done t) (r : Option (Bor (List X))) (u : Windows X) where
    pub windows_turn : (w : Bor (List X)) → r ≡ Some w → windows_steps {A = X} t r u → IsWindow xs (length done) w.now
    windows_turn w is step =
        let turn = YieldsList-turn (YieldsList-from_windows xs rest size) done t ran r u w is step in
        IsWindow-at xs (length done) w.now turn.0 turn.1

    pub windows_end : r ≡ None → windows_steps {A = X} t r u → length xs ≤ length done + 1
    windows_end is step =
        let end = YieldsList-end (YieldsList-from_windows xs rest size) done t ran r u is step in
        omega (arith, end.1, length-windows xs)

  module _ (xs : List X) (s : Enumerate (Windows X)) (rest : windows_rest (enumerate_source s) ≡ xs) (size : windows_size (enumerate_source s) ≡ 2) (count : enumerate_count s ≡ 0) (done : List (ℕ × Bor (List X))) (t : Enumerate (Windows X)) (ran : Yields (enumerate_steps (windows_steps {A = X})) s done t) (r : Option (ℕ × Bor (List X))) (u : Enumerate (Windows X)) where
    pub numbered_turn : (w : ℕ × Bor (List X)) → r ≡ Some w → enumerate_steps (windows_steps {A = X}) t r u → (w.0 ≡ length done) × IsWindow xs (length done) w.1.now
    numbered_turn w is step =
        let turn = YieldsList-turn (YieldsList-from_enumerate (YieldsList-from_windows xs rest size) count) done t ran r u w is step in
        let within : length done < length (windows_of xs) = omega (arith, turn.0, length-enumerate_from 0 (windows_of xs)) in
        let at : (w.0, w.1.now) ≡ (0 + length done, get_or (windows_of xs) (length done) w.1.now) = turn.1 ∙ get_or-enumerate_from 0 (windows_of xs) (length done) (w.0, w.1.now) within in (
          omega (arith, ap (λ (p : ℕ × List X). p.0) at),
          IsWindow-at xs (length done) w.1.now within (ap (λ (p : ℕ × List X). p.1) at),
        )

    pub numbered_end : r ≡ None → enumerate_steps (windows_steps {A = X}) t r u → length xs ≤ length done + 1
    numbered_end is step =
        let end = YieldsList-end (YieldsList-from_enumerate (YieldsList-from_windows xs rest size) count) done t ran r u is step in
        omega (arith, end.1, length-windows xs, length-enumerate_from 0 (windows_of xs))
