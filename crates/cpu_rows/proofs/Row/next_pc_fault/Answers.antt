use Rattle.std.proofs.Common.{◌≡◌, List, take, drop, refl}
use Rattle.std.specs.Prelude.{slice_range}
use Rattle.cpu_rows.specs.Columns.{columns}
use Rattle.cpu_rows.specs.Equations.{Equation, ◌⊕◌, equations}
use Rattle.cpu_rows.specs.Steps.{zero_or_one}
use Rattle.casm_word.specs.Transition.{size}
use Rattle.cpu_rows.proofs.Choices.{size_of_flag, not_flag}
use Rattle.cpu_rows.proofs.Failing.{joined, unmet_is}
use Rattle.cpu_rows.proofs.Row.next_pc_fault.Goals as goal

pub returns : goal.returns
unfolding equations columns
returns c =
    λ after e.
    let r = columns c.args.self.now in
    let es : List Equation = slice_range (equations r after) 24 26 in
    let has = c.requires in
    let f = c.args.flags in
    let s : 1 ⊕ zero_or_one f.op1_imm ≡ size f = size_of_flag f.op1_imm in
    joined c.or.result c.unmet.result c.unmet-2.result (take 1 es) (take 1 (drop 1 es)) c.or.ensures
    (unmet_is c.unmet.result 25 _ _ _ _ c.unmet.ensures (cc) refl)
    (unmet_is c.unmet-2.result 26 _ _ _ _ c.unmet-2.ensures (cc (not_flag f.pc_jnz)) refl)
