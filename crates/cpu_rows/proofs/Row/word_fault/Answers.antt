use Rattle.std.proofs.Common.{◌≡◌, List, take, drop, refl, sym}
use Rattle.std.specs.Prelude.{slice_range}
use Rattle.cpu_rows.specs.Columns.{columns}
use Rattle.cpu_rows.specs.Equations.{Equation, equations}
use Rattle.std.proofs.Common.{length, arith, rules}
use Rattle.cpu_rows.proofs.Numbers.{number_at}
use Rattle.cpu_rows.proofs.Failing.{joined, unmet_is}
use Rattle.cpu_rows.proofs.Row.word_fault.Goals as goal

pub returns : goal.returns
unfolding equations columns
returns c =
    λ after.
    let r = columns c.args.self.now in
    let es : List Equation = slice_range (equations r after) 15 17 in
    let xs = c.args.self.now.tilde in
    let sixteen : length xs ≡ 16 = search rules in
    joined c.or.result c.unmet.result c.unmet-2.result (take 1 es) (take 1 (drop 1 es)) c.or.ensures
    (unmet_is c.unmet.result 16 _ _ _ _ c.unmet.ensures (sym (number_at xs 15 c.index-self-15.result (omega arith))) refl)
    (unmet_is c.unmet-2.result 17 _ _ _ _ c.unmet-2.ensures refl (cc (number_at xs 0 c.index-self-0.result (omega arith))))
