use Rattle.std.proofs.Common.{◌≡◌, ◌∙◌, [], ◌∷◌, codes, map, ap, decimal}
use Rattle.json.specs.Token as token
use Rattle.serde_json.specs.Data.{string}
use Rattle.json_fields.specs.Encoding.{list_json, felt_json}
use Rattle.json_fields.proofs.WrittenTokens.{token_added, value_added, and_then}
use Rattle.program_file.specs.Listing.{listing}
use Rattle.program_file.specs.Format.{builtin_names, prime_text, program_json}
use Rattle.program_file.proofs.WrittenPrograms.{when_ended, program_tokens, same_value, same_added}
use Rattle.program_file.proofs.writing.write_program.Goals as goal

pub returns : goal.returns
returns c =
    let p = listing c.args.program.now in
    let opened = token_added c.args.out.now c.begin_object.new.self token.begin_object c.in_ok-begin_object.ensures in
    let builtins_key = token_added c.begin_object.new.self c.key.new.self (token.key (codes "builtins")) c.in_ok-key.ensures in
    let builtins =
    value_added c.key.new.self c.write_builtins.new.out (list_json (map string (builtin_names p.builtins)))
    (same_value (ap (λ uses. list_json (map string (builtin_names uses))) c.builtins.ensures) c.in_ok-write_builtins.ensures) in
    let words_key = token_added c.write_builtins.new.out c.key-2.new.self (token.key (codes "data")) c.in_ok-key-2.ensures in
    let words = value_added c.key-2.new.self c.write_felts.new.out (list_json (map felt_json p.words)) (same_value (ap (λ ws. list_json (map felt_json ws)) c.words.ensures) c.in_ok-write_felts.ensures) in
    let end_key = token_added c.write_felts.new.out c.key-3.new.self (token.key (codes "end")) c.in_ok-key-3.ensures in
    let end_is : c.from.result ≡ p.end = c.from.ensures ∙ c.end.ensures in
    let end = same_added (ap (λ n. token.number (decimal n) ∷ []) end_is) (token_added c.key-3.new.self c.u64.new.self (token.number (decimal c.from.result)) c.in_ok-u64.ensures) in
    let prime_key = token_added c.u64.new.self c.key-4.new.self (token.key (codes "prime")) c.in_ok-key-4.ensures in
    let prime = token_added c.key-4.new.self c.string.new.self (token.string prime_text) c.in_ok-string.ensures in
    let start_key = token_added c.string.new.self c.key-5.new.self (token.key (codes "start")) c.in_ok-key-5.ensures in
    let start_is : c.from-2.result ≡ p.start = c.from-2.ensures ∙ c.start.ensures in
    let start = same_added (ap (λ n. token.number (decimal n) ∷ []) start_is) (token_added c.key-5.new.self c.u64-2.new.self (token.number (decimal c.from-2.result)) c.in_ok-u64-2.ensures) in
    when_ended c.end_object.result c.args.out.now c.u64-2.new.self c.end_object.new.self _ token.end_object (program_json p)
    (and_then (and_then (and_then (and_then (and_then (and_then (and_then (and_then (and_then (and_then opened builtins_key) builtins) words_key) words) end_key) end) prime_key) prime) start_key) start)
    c.end_object.ensures (program_tokens p)
