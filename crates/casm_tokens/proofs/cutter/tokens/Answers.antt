use Rattle.casm_tokens.proofs.LineLemmas.{first_line, next_line, last_line}
use Rattle.casm_tokens.proofs.Cuts.{Cuts-none, Cuts-line, Cuts-last, Cuts-stop}
use Rattle.casm_tokens.proofs.Slices.{text_spans}
use Rattle.casm_tokens.proofs.cutter.tokens.Goals as goal

pub lines-init : goal.lines-init
lines-init c = rw c.new-found.ensures.items (Cuts-none c.args.text.now)

-- no token stands at this place
pub returns-in-Some-clause-fault : goal.returns-in-Some-clause-fault
returns-in-Some-clause-fault c =
    let f = first_line (λ r. r.now) c.lines.rest.now c.split_line.result.0.now c.split_line.result.1 c.split_line.ensures.rest c.split_line.ensures.line in
    rw c.stop_fault.ensures (Cuts-stop _ _ _ _ _ _ f.0 _ _ c.lines.invariant f.1 (rw c.in-Some.is at c.in_ok-stop.ensures.tokens))

-- the last line is cut
pub returns-in_default-next-clause-tokens : goal.returns-in_default-next-clause-tokens
returns-in_default-next-clause-tokens c =
    Cuts-last _ _ _ _ _ _ _ _ c.lines.invariant (last_line _ _ (rw c.in_default-next.is at c.split_line.ensures.rest) c.split_line.ensures.line) (rw c.in_default.is at c.in_ok-stop.ensures.tokens) c.in_ok-push_tokens.ensures

pub returns-in_default-next-clause-order : goal.returns-in_default-next-clause-order
returns-in_default-next-clause-order c =
    (text_spans _ _ (Cuts-last _ _ _ _ _ _ _ _ c.lines.invariant (last_line _ _ (rw c.in_default-next.is at c.split_line.ensures.rest) c.split_line.ensures.line) (rw c.in_default.is at c.in_ok-stop.ensures.tokens) c.in_ok-push_tokens.ensures)).order

pub returns-in_default-next-clause-slices : goal.returns-in_default-next-clause-slices
returns-in_default-next-clause-slices c =
    (text_spans _ _ (Cuts-last _ _ _ _ _ _ _ _ c.lines.invariant (last_line _ _ (rw c.in_default-next.is at c.split_line.ensures.rest) c.split_line.ensures.line) (rw c.in_default.is at c.in_ok-stop.ensures.tokens) c.in_ok-push_tokens.ensures)).slices

-- a line more is cut
pub lines-preserved : goal.lines-preserved
lines-preserved c =
    Cuts-line _ _ _ _ _ _ _ _ _ c.lines.invariant (next_line _ _ _ (rw c.in-Some-next.is at c.split_line.ensures.rest) c.split_line.ensures.line) (rw c.in-Some-next.is at c.split_line.ensures.len) (rw c.in_default.is at c.in_ok-stop.ensures.tokens) c.in_ok-push_tokens.ensures
