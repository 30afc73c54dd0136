use Rattle.std.proofs.Common.{◌≡◌, length, arith, ◌∙◌, rules}
use Rattle.cpu_rows.specs.Columns.{columns}
use Rattle.cpu_rows.specs.Equations.{flag}
use Rattle.cpu_rows.proofs.Failing.{flag_is, small_number}
use Rattle.cpu_rows.proofs.Row.flag.Goals as goal

pub returns-clause-set : goal.returns-clause-set
unfolding flag columns
returns-clause-set c =
    let sixteen : length c.args.self.now.tilde ≡ 16 = search rules in
    flag_is c.args.self.now.tilde c.args.place c.add.result.number c.sub-flag.result.number c.index-self-place.result c.index-self-place-2.result (omega arith) c.add.ensures c.sub-flag.ensures
    ∙ small_number c.sub-flag.result.number (omega arith)

pub returns-then-flag-gt1-clause-fails : goal.returns-then-flag-gt1-clause-fails
unfolding flag columns
returns-then-flag-gt1-clause-fails c =
    let sixteen : length c.args.self.now.tilde ≡ 16 = search rules in
    let e = flag_is c.args.self.now.tilde c.args.place c.add.result.number c.sub-flag.result.number c.index-self-place.result c.index-self-place-2.result (omega arith) c.add.ensures c.sub-flag.ensures in
    rw e (omega arith)
