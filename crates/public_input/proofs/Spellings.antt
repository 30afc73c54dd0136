-- The reading says of bytes what the relation says.
use Rattle.std.proofs.Common.{◌≡◌, ◌≢◌, ◌⊎◌, inl, inr, IfOk, IfErr, ℕ, ◌<◌, ◌≤◌, ◌^◌, List, [], length, map, Option, Some, Result, Ok, Err, refl, ap, sym, ◌∙◌, subst, arith}
use Rattle.std.proofs.lemmas.Bool.{ltb-true, lt-ltb, leb-true, le-leb}
use Rattle.std.proofs.lemmas.List.{length-map}
use Rattle.std.proofs.lemmas.Result.{MatchResult-weaker, IfOk-weaker}
use Rattle.std.specs.List.Sorted.{IsStrictlyIncreasing}
use Rattle.goldilocks.specs.declared.Felt.{Felt}
use Rattle.goldilocks.specs.declared.Pair.{Pair}
use Rattle.serde_json.specs.Data.{Data}
use Rattle.json_fields.specs.Values.{json_of, whole_at, felt_at, list_at, pair_in}
use Rattle.json_fields.specs.Faults.{needed}
use Rattle.public_input.specs.declared.fault.PublicKey.{PublicKey}
use Rattle.public_input.specs.declared.fault.PublicKey.TheVariants.{Steps, ApFirst, ApLast, RcMin, RcMax, RangeBegin, RangeCount, Cells}
use Rattle.public_input.specs.declared.fault.PublicFault.{PublicFault}
use Rattle.public_input.specs.declared.fault.PublicFault.TheVariants.{Memory}
use Rattle.public_input.specs.declared.Public.{Public}
use Rattle.public_input.specs.Shown.{key_name}
use Rattle.public_input.specs.Statement.{Statement, statement}
use Rattle.public_input.specs.Valid.{IsValid}
use Rattle.goldilocks.specs.Cells.{addresses}
use Rattle.public_input.specs.Spelling.{SpellsPublic}
use Rattle.public_input.specs.Reading.{whole_under, felt_under, steps_in, rc_max_in, range_count_in, cells_in, statement_in, reading}
use Rattle.public_input.specs.Parts.{Gives}
use Rattle.json_fields.proofs.Steps.{needed_ok, needed_then, demand_then, ok_then}
use Rattle.public_input.proofs.Cells.{same_Ok, in_turn-ok, in_turn-back}

needed-back : {A F : Type 0} (fault : F) (o : Option A) (a : A) → o ≡ Some a → needed fault o ≡ Ok a
needed-back fault o a e = rw e refl

whole_under-ok : (key : PublicKey) (top : Data) (n : ℕ) → whole_under key top ≡ Ok n → whole_at (key_name key) top ≡ Some n
unfolding whole_under
whole_under-ok key top n e = needed_ok _ _ n e

felt_under-ok : (key : PublicKey) (top : Data) (x : Felt) → felt_under key top ≡ Ok x → felt_at (key_name key) top ≡ Some x
unfolding felt_under
felt_under-ok key top x e = needed_ok _ _ x e

whole_under-back : (key : PublicKey) (top : Data) (n : ℕ) → whole_at (key_name key) top ≡ Some n → whole_under key top ≡ Ok n
unfolding whole_under
whole_under-back key top n e = needed-back _ _ n e

felt_under-back : (key : PublicKey) (top : Data) (x : Felt) → felt_at (key_name key) top ≡ Some x → felt_under key top ≡ Ok x
unfolding felt_under
felt_under-back key top x e = needed-back _ _ x e

-- ---- the lines of each key

pub record AreSteps (top : Data) (n : ℕ) : Type 0 where
  pub is : whole_at (key_name Steps) top ≡ Some n
  pub some : 1 ≤ n
  pub most : n ≤ 2 ^ 20

pub steps_in-ok : (top : Data) (n : ℕ) → steps_in top ≡ Ok n → AreSteps top n
unfolding steps_in
steps_in-ok top n e =
    let found = ok_then _ _ _ e in
    let some = demand_then _ _ _ _ found.2 in
    let most = demand_then _ _ _ _ some.1 in
    let same : found.0 ≡ n = same_Ok _ _ most.1 in
    subst (λ (m : ℕ). AreSteps top m) same (record {
      is = whole_under-ok Steps top found.0 found.1;
      some = ltb-true _ _ some.0;
      most = leb-true _ _ most.0;
    })

pub steps_in-back : (top : Data) (n : ℕ) → AreSteps top n → steps_in top ≡ Ok n
unfolding steps_in
steps_in-back top n are = rw (whole_under-back Steps top n are.is, lt-ltb 0 n are.some, le-leb n (2 ^ 20) are.most) refl

pub record IsRcMax (rc_min : ℕ) (top : Data) (n : ℕ) : Type 0 where
  pub is : whole_at (key_name RcMax) top ≡ Some n
  pub narrow : n < 2 ^ 16
  pub above : rc_min ≤ n

pub rc_max_in-ok : (rc_min : ℕ) (top : Data) (n : ℕ) → rc_max_in rc_min top ≡ Ok n → IsRcMax rc_min top n
unfolding rc_max_in
rc_max_in-ok rc_min top n e =
    let found = ok_then _ _ _ e in
    let narrow = demand_then _ _ _ _ found.2 in
    let above = demand_then _ _ _ _ narrow.1 in
    let same : found.0 ≡ n = same_Ok _ _ above.1 in
    subst (λ (m : ℕ). IsRcMax rc_min top m) same (record {
      is = whole_under-ok RcMax top found.0 found.1;
      narrow = ltb-true _ _ narrow.0;
      above = leb-true _ _ above.0;
    })

pub rc_max_in-back : (rc_min : ℕ) (top : Data) (n : ℕ) → IsRcMax rc_min top n → rc_max_in rc_min top ≡ Ok n
unfolding rc_max_in
rc_max_in-back rc_min top n is = rw (whole_under-back RcMax top n is.is, lt-ltb n (2 ^ 16) is.narrow, le-leb rc_min n is.above) refl

pub record IsRangeCount (top : Data) (n : ℕ) : Type 0 where
  pub is : whole_at (key_name RangeCount) top ≡ Some n
  pub most : n ≤ 2 ^ 18

pub range_count_in-ok : (top : Data) (n : ℕ) → range_count_in top ≡ Ok n → IsRangeCount top n
unfolding range_count_in
range_count_in-ok top n e =
    let found = ok_then _ _ _ e in
    let most = demand_then _ _ _ _ found.2 in
    let same : found.0 ≡ n = same_Ok _ _ most.1 in
    subst (λ (m : ℕ). IsRangeCount top m) same (record { is = whole_under-ok RangeCount top found.0 found.1; most = leb-true _ _ most.0 })

pub range_count_in-back : (top : Data) (n : ℕ) → IsRangeCount top n → range_count_in top ≡ Ok n
unfolding range_count_in
range_count_in-back top n is = rw (whole_under-back RangeCount top n is.is, le-leb n (2 ^ 18) is.most) refl

pub record AreCells (top : Data) (cells : List Pair) : Type 0 where
  pub listed : List Data
  pub entries : list_at (key_name Cells) top ≡ Some listed
  pub are : map pair_in listed ≡ map Some cells
  pub most : length cells ≤ 2 ^ 18
  pub ascending : IsStrictlyIncreasing (addresses cells)

-- as many entries as cells
length-listed : (listed : List Data) (cells : List Pair) → map pair_in listed ≡ map Some cells → length listed ≡ length cells
length-listed listed cells e = sym (length-map listed pair_in) ∙ (ap length e ∙ length-map cells Some)

no_addresses : IsStrictlyIncreasing (addresses [])
no_addresses k within = absurd (omega arith)

pub cells_in-ok : (top : Data) (cells : List Pair) → cells_in top ≡ Ok cells → AreCells top cells
unfolding cells_in
cells_in-ok top cells e =
    let found = needed_then _ _ _ _ e in
    let most = demand_then _ _ _ _ found.2 in
    let next = in_turn-ok [] found.0 cells no_addresses most.1 in
    let are : map pair_in found.0 ≡ map Some cells = next.are ∙ ap (map Some) (sym next.whole) in
    record {
      listed = found.0;
      entries = found.1;
      are = are;
      most = subst (λ (n : ℕ). n ≤ 2 ^ 18) (length-listed found.0 cells are) (leb-true _ _ most.0);
      ascending = next.ascending;
    }

pub cells_in-back : (top : Data) (cells : List Pair) → AreCells top cells → cells_in top ≡ Ok cells
unfolding cells_in
cells_in-back top cells are =
    let few : length are.listed ≤ 2 ^ 18 = omega (arith, length-listed are.listed cells are.are, are.most) in
    rw (are.entries, le-leb (length are.listed) (2 ^ 18) few) (in_turn-back [] are.listed cells are.are are.ascending)

-- ---- all lines

spells : (bytes : List ℕ) (top : Data) → json_of bytes ≡ Some top → (s : Statement) → statement_in top ≡ Ok s → SpellsPublic bytes s
unfolding statement_in
spells bytes top json s e =
    let steps = ok_then _ _ _ e in
    let ap_first = ok_then _ _ _ steps.2 in
    let ap_last = ok_then _ _ _ ap_first.2 in
    let rc_min = ok_then _ _ _ ap_last.2 in
    let rc_max = ok_then _ _ _ rc_min.2 in
    let range_begin = ok_then _ _ _ rc_max.2 in
    let range_count = ok_then _ _ _ range_begin.2 in
    let cells = ok_then _ _ _ range_count.2 in
    let are_steps = steps_in-ok top steps.0 steps.1 in
    let is_rc_max = rc_max_in-ok rc_min.0 top rc_max.0 rc_max.1 in
    let is_range_count = range_count_in-ok top range_count.0 range_count.1 in
    let are_cells = cells_in-ok top cells.0 cells.1 in
    subst (λ (t : Statement). SpellsPublic bytes t) (same_Ok _ _ cells.2) (record {
      top = top;
      json = json;
      steps = are_steps.is;
      ap_first = felt_under-ok ApFirst top ap_first.0 ap_first.1;
      ap_last = felt_under-ok ApLast top ap_last.0 ap_last.1;
      rc_min = whole_under-ok RcMin top rc_min.0 rc_min.1;
      rc_max = is_rc_max.is;
      range_begin = felt_under-ok RangeBegin top range_begin.0 range_begin.1;
      range_count = is_range_count.is;
      listed = are_cells.listed;
      entries = are_cells.entries;
      cells = are_cells.are;
      limits = record {
        some_step = are_steps.some;
        most_steps = are_steps.most;
        in_order = is_rc_max.above;
        narrow = is_rc_max.narrow;
        most_range_cells = is_range_count.most;
        most_cells = are_cells.most;
        ascending = are_cells.ascending;
      };
    })

pub SpellsPublic-from_reading : (bytes : List ℕ) (s : Statement) → reading bytes ≡ Ok s → SpellsPublic bytes s
unfolding reading
SpellsPublic-from_reading bytes s e = let found = needed_then _ _ _ _ e in spells bytes found.0 found.1 s found.2

statement_in-back : (bytes : List ℕ) (s : Statement) (spells : SpellsPublic bytes s) → statement_in spells.top ≡ Ok s
unfolding statement_in
statement_in-back bytes s spells =
    let top = spells.top in
    let limits = spells.limits in
    let steps = steps_in-back top s.steps (record { is = spells.steps; some = limits.some_step; most = limits.most_steps }) in
    let ap_first = felt_under-back ApFirst top s.ap_first spells.ap_first in
    let ap_last = felt_under-back ApLast top s.ap_last spells.ap_last in
    let rc_min = whole_under-back RcMin top s.rc_min spells.rc_min in
    let rc_max = rc_max_in-back s.rc_min top s.rc_max (record { is = spells.rc_max; narrow = limits.narrow; above = limits.in_order }) in
    let range_begin = felt_under-back RangeBegin top s.range_begin spells.range_begin in
    let range_count = range_count_in-back top s.range_count (record { is = spells.range_count; most = limits.most_range_cells }) in
    let cells = cells_in-back top s.cells (record { listed = spells.listed; entries = spells.entries; are = spells.cells; most = limits.most_cells; ascending = limits.ascending }) in
    rw (steps, ap_first, ap_last, rc_min, rc_max, range_begin, range_count, cells) refl

pub reading-spelled : (bytes : List ℕ) (s : Statement) → SpellsPublic bytes s → reading bytes ≡ Ok s
unfolding reading
reading-spelled bytes s spells = rw (spells.json) (statement_in-back bytes s spells)

pub one_statement : (bytes : List ℕ) (s t : Statement) → SpellsPublic bytes s → SpellsPublic bytes t → s ≡ t
one_statement bytes s t one other = same_Ok _ _ (sym (reading-spelled bytes s one) ∙ reading-spelled bytes t other)

pub none_spelled : (bytes : List ℕ) (fault : PublicFault) → reading bytes ≡ Err fault → (s : Statement) → SpellsPublic bytes s → ⊥
none_spelled bytes fault e s spells = let ok = reading-spelled bytes s spells in cc

-- bytes spell something, or have a fault
either : (bytes : List ℕ) (read : Result Statement PublicFault) → reading bytes ≡ read → ((s : Statement) × SpellsPublic bytes s) ⊎ ((fault : PublicFault) × (reading bytes ≡ Err fault))
either bytes (Ok s) e = inl (s, SpellsPublic-from_reading bytes s e)
either bytes (Err fault) e = inr (fault, e)

pub spelled_or_faulty : (bytes : List ℕ) → ((s : Statement) × SpellsPublic bytes s) ⊎ ((fault : PublicFault) × (reading bytes ≡ Err fault))
spelled_or_faulty bytes = either bytes (reading bytes) refl

-- ---- what reading the value of a JSON text answers

module _ (bytes : List ℕ) (top : Data) (json : json_of bytes ≡ Some top) (answer : Result Public PublicFault) (gives : Gives statement (statement_in top) answer) where
  lines : reading bytes ≡ statement_in top
  unfolding reading
  lines = rw json refl

  pub read_spells : IfOk answer (λ p. SpellsPublic bytes (statement p))
  read_spells = MatchResult-weaker answer gives (λ p e. SpellsPublic-from_reading bytes (statement p) (lines ∙ e)) (λ fault e. tt)

  pub read_valid : IfOk answer IsValid
  read_valid = IfOk-weaker answer (λ p. SpellsPublic bytes (statement p)) IsValid (λ p spells. spells.limits) read_spells

  pub read_refused : IfErr answer (λ fault. fault ≢ Memory → (s : Statement) → SpellsPublic bytes s → ⊥)
  read_refused = MatchResult-weaker answer gives (λ p e. tt) (λ fault e other. none_spelled bytes fault (lines ∙ e other))
