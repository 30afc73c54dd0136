use Rattle.std.proofs.Common.{◌≡◌, ◌-◌, ◌+◌, length, take, drop, arith, sym, length-drop, add-one}
use Rattle.std.proofs.lemmas.List.{take_all}
use Rattle.casm_tokens.specs.Lines.{is_in_line}
use Rattle.casm_tokens.proofs.LineLemmas.{feed_behind, list_all-run}
use Rattle.casm_tokens.proofs.lines.split_line.Goals as goal

pub returns-then-len-text-clause-line : goal.returns-then-len-text-clause-line
returns-then-len-text-clause-line c = rw c.line_len-len.ensures.value (list_all-run is_in_line c.args.text.now)

pub returns-else-len-text-clause-line : goal.returns-else-len-text-clause-line
returns-else-len-text-clause-line c = rw c.line_len-len.ensures.value (list_all-run is_in_line c.args.text.now)

pub returns-then-len-text-clause-rest : goal.returns-then-len-text-clause-rest
returns-then-len-text-clause-rest c =
    let t = c.args.text.now in let k = c.line_len-len.result in
    let l = length-drop (k + 1) t in
    let e : take (length t - (k + 1)) (drop (k + 1) t) ≡ drop (k + 1) t = take_all (length t - (k + 1)) (drop (k + 1) t) (omega arith) in
    rw (e, add-one, c.line_len-len.ensures.value) (feed_behind t (omega (arith, c.line_len-len.ensures.value)))

pub returns-else-len-text-clause-rest : goal.returns-else-len-text-clause-rest
returns-else-len-text-clause-rest c = sym (take_all c.line_len-len.result c.args.text.now (omega arith))
