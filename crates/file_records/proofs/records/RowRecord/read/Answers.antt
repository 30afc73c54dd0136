use Rattle.std.proofs.Common.{◌≡◌, length, rules, ap, ◌∙◌}
use Rattle.goldilocks.specs.Felts.{numbers}
use Rattle.file_records.proofs.Spelled.{row_of_bytes-values}
use Rattle.file_records.proofs.records.RowRecord.read.Goals as goal

pub returns : goal.returns
returns c =
    let row = c.of_values.result in
    let sixteen : length row.tilde ≡ 16 = search rules in
    row_of_bytes-values row c.args.bytes.now sixteen (c.of_values.ensures ∙ ap numbers c.read_values.ensures)
