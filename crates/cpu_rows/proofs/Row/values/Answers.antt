use Rattle.std.proofs.Common.{◌≡◌, List, [], ◌∷◌, ◌++◌, length, ap, rules}
use Rattle.goldilocks.specs.declared.Felt.{Felt}
use Rattle.cpu_rows.specs.Columns.{columns, values}
use Rattle.cpu_rows.proofs.Numbers.{read_all}
use Rattle.cpu_rows.proofs.Row.values.Goals as goal

pub returns : goal.returns
unfolding columns values
returns c =
    let r = c.args.self.now in
    let sixteen : length r.tilde ≡ 16 = search rules in
    let ds : List Felt = c.index-self-0.result ∷ c.index-self-1.result ∷ c.index-self-2.result ∷ c.index-self-3.result ∷ c.index-self-4.result ∷ c.index-self-5.result ∷ c.index-self-6.result ∷ c.index-self-7.result ∷ c.index-self-8.result ∷ c.index-self-9.result ∷ c.index-self-10.result ∷ c.index-self-11.result ∷ c.index-self-12.result ∷ c.index-self-13.result ∷ c.index-self-14.result ∷ c.index-self-15.result ∷ [] in
    ap
    (λ ts. (r.pc.number ∷ r.ap.number ∷ r.fp.number ∷ r.inst.number ∷ ts) ++ (r.off_dst.number ∷ r.off_op0.number ∷ r.off_op1.number ∷ r.dst_addr.number ∷ r.op0_addr.number ∷ r.op1_addr.number ∷ r.dst.number ∷ r.op0.number ∷ r.op1.number ∷ r.mul.number ∷ r.res.number ∷ r.t0.number ∷ r.t1.number ∷ []))
    (read_all r.tilde ds sixteen)
