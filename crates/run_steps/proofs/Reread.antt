-- What a step reads of the greater memory are the operands that it found.
use Rattle.std.proofs.Common.{◌≡◌, Bool, true, false, cond, Option, Some, None, Result, Ok, refl, sym, ap, ◌∙◌, subst}
use Rattle.segments.specs.declared.Place.{Place}
use Rattle.segments.specs.declared.RelState.{RelState}
use Rattle.segments.specs.declared.Value.{Value}
use Rattle.segments.specs.Memory.{RunMemory, Grows, cell}
use Rattle.segments.proofs.Memories.{Grows-refl, Grows-trans}
use Rattle.builtin_segments.specs.Rules.{Rules, adding}
use Rattle.casm_word.specs.declared.Flags.{Flags}
use Rattle.casm_word.specs.declared.Word.{Word}
use Rattle.run_steps.specs.declared.operands.Places.{Places}
use Rattle.run_steps.specs.declared.operands.Found.{Found}
use Rattle.run_steps.specs.Causes.{known}
use Rattle.run_steps.specs.Operands.{instruction_in, dst_place, op0_place, op0_pointed, op1_origin, op1_place, res_of}
use Rattle.run_steps.specs.Cases.{places_by_cases, operands_by_cases, found_by_cases, called_op0, sought_op0, sought_op1, found_dst}
use Rattle.run_steps.specs.Next.{next_by, next_in}
use Rattle.run_steps.specs.Step.{found_operands, placed, all_placed}
use Rattle.run_steps.proofs.Shapes.{bound, chained, same_ok, known-ok}
use Rattle.run_steps.proofs.Chains.{Later, later-same, then_later, held-later}
use Rattle.run_steps.proofs.TableCases.{found-cases}
use Rattle.run_steps.proofs.Adding.{Adds, adding-adds}
use Rattle.run_steps.proofs.StepParts.{Keeps, instruction-later, placed-keeps, unless_refused-ok}

-- ---- what was known stays

-- where this is known, it is the value
abbrev pub Agrees : Option Value → Value → Type 0
Agrees o v = (u : Value) → o ≡ Some u → v ≡ u

called_op0-keeps : (f : Flags) (s : RelState) (o : Option Value) (v : Value) → Agrees (called_op0 f s o) v → Agrees o v
unfolding called_op0
called_op0-keeps f s (Some w) v agrees u e = agrees u e
called_op0-keeps f s None v agrees u e = absurd (cc)

sought_op0-keeps : (f : Flags) (dst op0 op1 sought : Option Value) (u : Value) → sought_op0 f dst op0 op1 ≡ Ok sought → op0 ≡ Some u → sought ≡ Some u
unfolding sought_op0
sought_op0-keeps f dst (Some w) op1 sought u e known_is = sym (same_ok (Some w) sought e) ∙ known_is
sought_op0-keeps f dst None op1 sought u e known_is = absurd (cc)

sought_op1-keeps : (f : Flags) (dst op0 op1 sought : Option Value) (u : Value) → sought_op1 f dst op0 op1 ≡ Ok sought → op1 ≡ Some u → sought ≡ Some u
unfolding sought_op1
sought_op1-keeps f dst op0 (Some w) sought u e known_is = sym (same_ok (Some w) sought e) ∙ known_is
sought_op1-keeps f dst op0 None sought u e known_is = absurd (cc)

found_dst-keeps : (f : Flags) (s : RelState) (at : Place) (res : Value) (dst : Option Value) (v : Value) → found_dst f s at res dst ≡ Ok v → Agrees dst v
unfolding found_dst
found_dst-keeps f s at res (Some w) v e u known_is = let same : w ≡ u = cc in sym (same_ok w v e) ∙ same
found_dst-keeps f s at res None v e u known_is = absurd (cc)

known-agrees : (p : Place) (o : Option Value) (v u : Value) → known p o ≡ Ok v → o ≡ Some u → v ≡ u
known-agrees p o v u e known_is = let held : o ≡ Some v = known-ok p o v e in let same : Some v ≡ Some u = sym held ∙ known_is in cc

-- ---- the parts of what was found

record OperandsAre (places : Places) (known_dst known_op0 known_op1 : Option Value) (found : Found) : Type 0 where
  pub at : found.at ≡ places
  pub dst : Agrees known_dst found.dst
  pub op0 : Agrees known_op0 found.op0
  pub op1 : Agrees known_op1 found.op1

operands-are : (f : Flags) (s : RelState) (at : Places) (dst op0 op1 : Option Value) (found : Found) → operands_by_cases f s at dst op0 op1 ≡ Ok found → OperandsAre at dst op0 op1 found
unfolding operands_by_cases
operands-are f s at dst op0 op1 found e =
    let first = bound (sought_op0 f dst op0 op1) _ found e in
    let second = bound (sought_op1 f dst first.0 op1) _ found first.2 in
    let third = bound (known at.op0 first.0) _ found second.2 in
    let fourth = bound (known at.op1 second.0) _ found third.2 in
    let fifth = bound (res_of f third.0 fourth.0) _ found fourth.2 in
    let sixth = bound (found_dst f s at.dst fifth.0 dst) _ found fifth.2 in
    subst (λ (k : Found). OperandsAre at dst op0 op1 k) (same_ok _ found sixth.2) (record {
      at = refl;
      dst = found_dst-keeps f s at.dst fifth.0 dst sixth.0 sixth.1;
      op0 = λ u is. known-agrees at.op0 first.0 third.0 u third.1 (sought_op0-keeps f dst op0 op1 first.0 u first.1 is);
      op1 = λ u is. known-agrees at.op1 second.0 fourth.0 u fourth.1 (sought_op1-keeps f dst first.0 op1 second.0 u second.1 is);
    })

record PlacesAre (m : RunMemory) (w : Word) (s : RelState) (at : Places) : Type 0 where
  pub dst : dst_place w s ≡ Ok at.dst
  pub op0 : op0_place w s ≡ Ok at.op0
  pub op1 : op1_place w s at.op0 (called_op0 w.flags s (cell m at.op0)) ≡ Ok at.op1

places-are : (m : RunMemory) (w : Word) (s : RelState) (at : Places) → places_by_cases m w s ≡ Ok at → PlacesAre m w s at
unfolding places_by_cases
places-are m w s at e =
    let dst = bound (dst_place w s) _ at e in
    let op0 = bound (op0_place w s) _ at dst.2 in
    let op1 = bound (op1_place w s op0.0 (called_op0 w.flags s (cell m op0.0))) _ at op0.2 in
    subst (λ (k : Places). PlacesAre m w s k) (same_ok _ at op1.2) (record { dst = dst.1; op0 = op0.1; op1 = op1.1 })

-- ---- op1 lies where it lay

cond-later : {A C : Type 0} (b : Bool) (x y y' : Result A C) → Later y y' → Later (cond b x y) (cond b x y')
cond-later true x y y' later a e = e
cond-later false x y y' later a e = later a e

op0_pointed-none : (p q : Place) → op0_pointed p None ≡ Ok q → ⊥
unfolding op0_pointed known
op0_pointed-none p q e = cc

origin-later : (f : Flags) (s : RelState) (p : Place) (o o' : Option Value) → ((v : Value) → o ≡ Some v → o' ≡ Some v) → Later (op1_origin f s p o) (op1_origin f s p o')
unfolding op1_origin
origin-later f s p o o' stays =
    cond-later f.op1_imm (Ok s.pc) _ _
    (cond-later f.op1_fp (Ok s.fp) _ _
    (cond-later f.op1_ap (Ok s.ap) _ _
    (held-later (op0_pointed p) o o' stays (op0_pointed-none p))))

op1_place-later : (w : Word) (s : RelState) (p : Place) (o o' : Option Value) → ((v : Value) → o ≡ Some v → o' ≡ Some v) → Later (op1_place w s p o) (op1_place w s p o')
unfolding op1_place
op1_place-later w s p o o' stays =
    then_later (op1_origin w.flags s p o) (op1_origin w.flags s p o') _ _ (origin-later w.flags s p o o' stays) (λ origin.
    later-same _)

-- ---- what was found, of plain places and values

pub record IsFound (m : RunMemory) (w : Word) (s : RelState) (found : Found) : Type 0 where
  pub dst_at : dst_place w s ≡ Ok found.at.dst
  pub op0_at : op0_place w s ≡ Ok found.at.op0
  pub op1_at : op1_place w s found.at.op0 (Some found.op0) ≡ Ok found.at.op1
  pub dst : Agrees (cell m found.at.dst) found.dst
  pub op0 : Agrees (cell m found.at.op0) found.op0
  pub op1 : Agrees (cell m found.at.op1) found.op1

found-parts : (m : RunMemory) (w : Word) (s : RelState) (at : Places) (found : Found) → PlacesAre m w s at → OperandsAre at (cell m at.dst) (called_op0 w.flags s (cell m at.op0)) (cell m at.op1) found → IsFound m w s found
found-parts m w s at found places operands =
    let back : at ≡ found.at = sym operands.at in
    let here : PlacesAre m w s found.at = subst (λ (a : Places). PlacesAre m w s a) back places in
    let op0 : Agrees (called_op0 w.flags s (cell m found.at.op0)) found.op0 =
    subst (λ (a : Places). Agrees (called_op0 w.flags s (cell m a.op0)) found.op0) back operands.op0 in
    record {
      dst_at = here.dst;
      op0_at = here.op0;
      op1_at = op1_place-later w s found.at.op0 (called_op0 w.flags s (cell m found.at.op0)) (Some found.op0) (λ v e. ap (λ (x : Value). Some x) (op0 v e)) found.at.op1 here.op1;
      dst = subst (λ (a : Places). Agrees (cell m a.dst) found.dst) back operands.dst;
      op0 = called_op0-keeps w.flags s (cell m found.at.op0) found.op0 op0;
      op1 = subst (λ (a : Places). Agrees (cell m a.op1) found.op1) back operands.op1;
    }

pub is-found : (m : RunMemory) (s : RelState) (found : Found) → found_operands m s ≡ Ok found → (w : Word) × (instruction_in (cell m s.pc) ≡ Ok w) × IsFound m w s found
unfolding found_by_cases
is-found m s found e =
    let word = bound (instruction_in (cell m s.pc)) _ found (sym (found-cases m s) ∙ e) in
    let w : Word = word.0 in
    let places = bound (places_by_cases m w s) _ found word.2 in
    let at : Places = places.0 in
    (w, word.1, found-parts m w s at found (places-are m w s at places.1) (operands-are w.flags s at (cell m at.dst) (called_op0 w.flags s (cell m at.op0)) (cell m at.op1) found places.2))

-- ---- the greater memory holds what was found

placed-holds : (rules : Rules) (first m : RunMemory) (p : Place) (o : Option Value) (v : Value) (n : RunMemory) → Grows first m → cell first p ≡ o → Agrees o v → placed rules m p o v ≡ Ok n → cell n p ≡ Some v
unfolding placed
placed-holds rules first m p (Some u) v n grows held agrees e =
    subst (λ (k : RunMemory). cell k p ≡ Some v) (same_ok m n e) (grows.cells p u held ∙ ap (λ (x : Value). Some x) (sym (agrees u refl)))
placed-holds rules first m p None v n grows held agrees e =
    let adds : Adds m p v n = adding-adds rules m p v n (unless_refused-ok p (adding rules m p v) n e) in
    adds.held

pub record HoldsAll (m : RunMemory) (found : Found) (n : RunMemory) : Type 0 where
  pub grows : Grows m n
  pub dst : cell n found.at.dst ≡ Some found.dst
  pub op0 : cell n found.at.op0 ≡ Some found.op0
  pub op1 : cell n found.at.op1 ≡ Some found.op1

pub all-held : (rules : Rules) (m : RunMemory) (w : Word) (s : RelState) (found : Found) (n : RunMemory) → IsFound m w s found → all_placed rules m found ≡ Ok n → HoldsAll m found n
unfolding all_placed
all-held rules m w s found n is e =
    let at = found.at in
    let one = bound (placed rules m at.op0 (cell m at.op0) found.op0) _ n e in
    let two = bound (placed rules one.0 at.op1 (cell m at.op1) found.op1) _ n one.2 in
    let first : Keeps m found.op0 one.0 = placed-keeps rules m at.op0 (cell m at.op0) found.op0 one.0 one.1 in
    let second : Keeps one.0 found.op1 two.0 = placed-keeps rules one.0 at.op1 (cell m at.op1) found.op1 two.0 two.1 in
    let third : Keeps two.0 found.dst n = placed-keeps rules two.0 at.dst (cell m at.dst) found.dst n two.2 in
    let so_far : Grows m two.0 = Grows-trans m one.0 two.0 first.grows second.grows in
    record {
      grows = Grows-trans m two.0 n so_far third.grows;
      dst = placed-holds rules m two.0 at.dst (cell m at.dst) found.dst n so_far refl is.dst two.2;
      op0 = third.grows.cells at.op0 found.op0 (second.grows.cells at.op0 found.op0 (placed-holds rules m m at.op0 (cell m at.op0) found.op0 one.0 (Grows-refl m) refl is.op0 one.1));
      op1 = third.grows.cells at.op1 found.op1 (placed-holds rules m one.0 at.op1 (cell m at.op1) found.op1 two.0 first.grows refl is.op1 two.1);
    }

-- ---- what is read

known-held : (p : Place) (o : Option Value) (v : Value) → o ≡ Some v → known p o ≡ Ok v
unfolding known
known-held p o v e = ap (known p) e

reading : (n : RunMemory) (s : RelState) (w : Word) (dst_at op0_at op1_at : Place) (dst op0 op1 : Value) → instruction_in (cell n s.pc) ≡ Ok w → dst_place w s ≡ Ok dst_at → known dst_at (cell n dst_at) ≡ Ok dst → op0_place w s ≡ Ok op0_at → known op0_at (cell n op0_at) ≡ Ok op0 → op1_place w s op0_at (Some op0) ≡ Ok op1_at → known op1_at (cell n op1_at) ≡ Ok op1 → next_in n s ≡ next_by w.flags s dst op0 op1
unfolding next_in
reading n s w dst_at op0_at op1_at dst op0 op1 word at_dst is_dst at_op0 is_op0 at_op1 is_op1 =
    chained (instruction_in (cell n s.pc)) _ w word ∙
    (chained (dst_place w s) _ dst_at at_dst ∙
    (chained (known dst_at (cell n dst_at)) _ dst is_dst ∙
    (chained (op0_place w s) _ op0_at at_op0 ∙
    (chained (known op0_at (cell n op0_at)) _ op0 is_op0 ∙
    (chained (op1_place w s op0_at (Some op0)) _ op1_at at_op1 ∙
    chained (known op1_at (cell n op1_at)) _ op1 is_op1)))))

-- the next state in the greater memory is that of the operands that were found
pub reread : (rules : Rules) (m : RunMemory) (s : RelState) (found : Found) (n : RunMemory) → found_operands m s ≡ Ok found → all_placed rules m found ≡ Ok n → (w : Word) × (instruction_in (cell m s.pc) ≡ Ok w) × (next_in n s ≡ next_by w.flags s found.dst found.op0 found.op1)
reread rules m s found n found_is placed_are =
    let parts = is-found m s found found_is in
    let w : Word = parts.0 in
    let is : IsFound m w s found = parts.2 in
    let holds : HoldsAll m found n = all-held rules m w s found n is placed_are in
    let at = found.at in (
      w,
      parts.1,
      reading n s w at.dst at.op0 at.op1 found.dst found.op0 found.op1
          (instruction-later m n s.pc holds.grows w parts.1)
          is.dst_at (known-held at.dst (cell n at.dst) found.dst holds.dst)
          is.op0_at (known-held at.op0 (cell n at.op0) found.op0 holds.op0)
          is.op1_at (known-held at.op1 (cell n at.op1) found.op1 holds.op1),
    )
