use Rattle.std.proofs.Common.{◌≡◌, ℕ, ◌+◌, ◌<◌, List, [], ◌∷◌, true, length, get_or, take, Option, Some, None, option_map, refl, sym, subst, arith}
use Rattle.std.specs.Prelude.{All, IsSome}
use Rattle.std.specs.Option.{is_some}
use Rattle.std.proofs.lemmas.List.{map_more, take_all}
use Rattle.std.proofs.lemmas.List.Elements.{All-append, All-cons}
use Rattle.goldilocks.specs.declared.Felt.{Felt}
use Rattle.goldilocks.specs.Felts.{numbers}
use Rattle.goldilocks.specs.Cells.{memory_of}
use Rattle.trace_files.specs.CellList.{listed}
use Rattle.verdict_tests.proofs.tests.stating.are_held.Goals as goal

some_read : (o : Option Felt) (p : Option ℕ) → is_some o ≡ true → option_map (λ (x : Felt). x.number) o ≡ p → IsSome p
some_read None p some is = cc
some_read (Some x) p some is = subst (λ q. IsSome q) is refl

one_more : (P : ℕ → Type 0) (shown : List Felt) (i : ℕ) (addr : Felt) → i < length shown → addr ≡ get_or shown i addr → P addr.number → All P (numbers (take i shown)) → All P (numbers (take (i + 1) shown))
one_more P shown i addr within at here before =
    let number : Felt → ℕ = λ x. x.number in
    subst (λ ns. All P ns) (sym (map_more number shown i addr within))
    (All-append P (numbers (take i shown)) (number (get_or shown i addr) ∷ []) before
    (All-cons P (number (get_or shown i addr)) [] (subst (λ (x : Felt). P x.number) at here) (λ k d lt. absurd (omega arith))))

pub loop-addr-preserved : goal.loop-addr-preserved
loop-addr-preserved c =
    one_more (λ a. IsSome (memory_of (listed c.args.cells.now) a)) c.args.shown.now c.loop-addr.addr-index c.addr-item.result c.loop-addr-test.true c.addr-item.is
    (some_read c.read.result _ c.if-is_none.ensures c.read.ensures)
    c.loop-addr.invariant

pub returns : goal.returns
returns c = λ told.
    let all : take c.loop-addr.addr-index c.args.shown.now ≡ c.args.shown.now = take_all c.loop-addr.addr-index c.args.shown.now (omega (arith, c.loop-addr-test.false)) in
    subst (λ xs. All (λ a. IsSome (memory_of (listed c.args.cells.now) a)) (numbers xs)) all c.loop-addr.invariant
