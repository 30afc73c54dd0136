use Rattle.std.proofs.Common.{◌≡◌, ◌∙◌, [], ◌∷◌, map, ap, decimal, All, subst}
use Rattle.json.specs.Token as token
use Rattle.json_fields.specs.Encoding.{list_json}
use Rattle.json_fields.proofs.WrittenTokens.{token_added, value_added, and_then}
use Rattle.hint_cells.specs.Fits.{FitsPlaces}
use Rattle.hint_cells.specs.HintList.{hint_list}
use Rattle.hint_cells.specs.Format.{cell_json, hints_json}
use Rattle.hint_cells.proofs.WrittenHints.{when_ended, hints_tokens, same_value, same_added, if_ok}
use Rattle.hint_cells.proofs.writing.write_hints.Goals as goal

pub returns-clause-written : goal.returns-clause-written
returns-clause-written c =
    let h = hint_list c.args.hints.now in
    let opened = token_added c.args.out.now c.begin_object.new.self token.begin_object c.in_ok-begin_object.ensures in
    let cells_key = same_added (ap (λ name. token.key name ∷ []) c.name.ensures) (token_added c.begin_object.new.self c.key.new.self (token.key c.name.result.now) c.in_ok-key.ensures) in
    let cells =
    value_added c.key.new.self c.write_cells.new.out (list_json (map cell_json h.cells))
    (same_value (ap (λ cs. list_json (map cell_json cs)) c.cells.ensures) c.in_ok-write_cells.ensures.written) in
    let extra_key = same_added (ap (λ name. token.key name ∷ []) c.name-2.ensures) (token_added c.write_cells.new.out c.key-2.new.self (token.key c.name-2.result.now) c.in_ok-key-2.ensures) in
    let extra_is : c.from.result ≡ h.extra = c.from.ensures ∙ c.extra.ensures in
    let extra = same_added (ap (λ n. token.number (decimal n) ∷ []) extra_is) (token_added c.key-2.new.self c.u64.new.self (token.number (decimal c.from.result)) c.in_ok-u64.ensures) in
    when_ended c.end_object.result c.args.out.now c.u64.new.self c.end_object.new.self _ token.end_object (hints_json h)
    (and_then (and_then (and_then (and_then opened cells_key) cells) extra_key) extra)
    c.end_object.ensures (hints_tokens h)

pub returns-clause-fit : goal.returns-clause-fit
returns-clause-fit c = if_ok c.end_object.result (subst (All FitsPlaces) c.cells.ensures c.in_ok-write_cells.ensures.fit)
