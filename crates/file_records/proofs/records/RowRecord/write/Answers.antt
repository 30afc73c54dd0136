use Rattle.std.proofs.Common.{◌≡◌, length, rules}
use Rattle.file_records.proofs.Spelled.{sixteen_of_values}
use Rattle.file_records.proofs.records.RowRecord.write.Goals as goal

pub returns-clause-fits : goal.returns-clause-fits
returns-clause-fits c =
    let whole : length c.values.result ≡ 33 = search rules in
    sixteen_of_values c.args.value.now c.values.result whole c.values.ensures
