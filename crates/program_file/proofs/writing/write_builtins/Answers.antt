use Rattle.std.proofs.Common.{codes, map}
use Rattle.json.specs.Token as token
use Rattle.serde_json.specs.Data.{string}
use Rattle.json_fields.specs.Encoding.{list_json}
use Rattle.json_fields.proofs.WrittenTokens.{token_added, and_then}
use Rattle.program_file.specs.Format.{builtin_names}
use Rattle.program_file.proofs.BuiltinLists.{builtins_tokens}
use Rattle.program_file.proofs.WrittenPrograms.{when_ended, name_added}
use Rattle.program_file.proofs.writing.write_builtins.Goals as goal

pub returns : goal.returns
returns c =
    let uses = c.args.builtins in
    let begun = token_added c.args.out.now c.begin_array.new.self token.begin_array c.in_ok-begin_array.ensures in
    let output = name_added c.begin_array.new.self c.write_name.new.out uses.output (codes "output") c.in_ok-write_name.ensures in
    let range = name_added c.write_name.new.out c.write_name-2.new.out uses.range (codes "range_check") c.in_ok-write_name-2.ensures in
    when_ended c.end_array.result c.args.out.now c.write_name-2.new.out c.end_array.new.self _ token.end_array (list_json (map string (builtin_names uses)))
    (and_then (and_then begun output) range) c.end_array.ensures (builtins_tokens uses)
