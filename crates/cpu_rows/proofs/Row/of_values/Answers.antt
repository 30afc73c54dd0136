use Rattle.std.proofs.Common.{◌≡◌, List, [], ◌∷◌, length, rules}
use Rattle.goldilocks.specs.declared.Felt.{Felt}
use Rattle.cpu_rows.specs.Columns.{columns, values}
use Rattle.cpu_rows.proofs.Numbers.{read_all}
use Rattle.cpu_rows.proofs.Row.of_values.Goals as goal

pub returns : goal.returns
unfolding columns values
returns c =
    let xs : List Felt = c.args.v.now in
    let whole : length xs ≡ 33 = search rules in
    let ds : List Felt = c.index-v-0.result ∷ c.index-v-1.result ∷ c.index-v-2.result ∷ c.index-v-3.result ∷ c.index-v-4.result ∷ c.index-v-5.result ∷ c.index-v-6.result ∷ c.index-v-7.result ∷ c.index-v-8.result ∷ c.index-v-9.result ∷ c.index-v-10.result ∷ c.index-v-11.result ∷ c.index-v-12.result ∷ c.index-v-13.result ∷ c.index-v-14.result ∷ c.index-v-15.result ∷ c.index-v-16.result ∷ c.index-v-17.result ∷ c.index-v-18.result ∷ c.index-v-19.result ∷ c.index-v-20.result ∷ c.index-v-21.result ∷ c.index-v-22.result ∷ c.index-v-23.result ∷ c.index-v-24.result ∷ c.index-v-25.result ∷ c.index-v-26.result ∷ c.index-v-27.result ∷ c.index-v-28.result ∷ c.index-v-29.result ∷ c.index-v-30.result ∷ c.index-v-31.result ∷ c.index-v-32.result ∷ [] in
    read_all xs ds whole
