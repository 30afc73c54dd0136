use Rattle.std.proofs.Common.{List, ℕ, subst, arith}
use Rattle.casm_tokens.proofs.LineLemmas.{first_line, next_line, last_line}
use Rattle.casm_text.proofs.Parses.{Parses, Parses-start, Parses-line, Parses-stop, last_reads, last_wrong, Reads-means, fault_means_nothing}
use Rattle.casm_text.proofs.parser.parse.Goals as goal

pub lines-init : goal.lines-init
lines-init c = record { first = omega arith; in_range = omega arith; parses = rw c.new-items.ensures.items (Parses-start c.args.text.now) }

-- no token stands at a place
pub returns-in-Some-clause-fault : goal.returns-in-Some-clause-fault
returns-in-Some-clause-fault c =
    let f = first_line (λ r. r.now) c.lines.rest.now c.split_line.result.0.now c.split_line.result.1 c.split_line.ensures.rest c.split_line.ensures.line in
    rw c.stop_fault.ensures (Parses-stop _ _ _ _ _ f.0 _ _ (subst (λ (ls : List (List ℕ)). Parses c.args.text.now c.lines.items.items c.lines.wrong c.lines.line ls) f.1 c.lines.invariant.parses) (rw c.in-Some.is at c.in_ok-stop.ensures.tokens))

pub returns-in-Some-clause-means_nothing : goal.returns-in-Some-clause-means_nothing
returns-in-Some-clause-means_nothing c =
    let f = first_line (λ r. r.now) c.lines.rest.now c.split_line.result.0.now c.split_line.result.1 c.split_line.ensures.rest c.split_line.ensures.line in
    rw c.stop_fault.ensures (λ meant m. fault_means_nothing c.args.text.now _ meant (Parses-stop _ _ _ _ _ f.0 _ _ (subst (λ (ls : List (List ℕ)). Parses c.args.text.now c.lines.items.items c.lines.wrong c.lines.line ls) f.1 c.lines.invariant.parses) (rw c.in-Some.is at c.in_ok-stop.ensures.tokens)) m)

-- one more line is read
pub lines-preserved : goal.lines-preserved
lines-preserved c =
    let more = next_line _ _ _ (rw c.in-Some-next.is at c.split_line.ensures.rest) c.split_line.ensures.line in
    let len = rw c.in-Some-next.is at c.split_line.ensures.len in
    record {
      first = omega arith;
      in_range = omega (arith, c.lines.invariant.in_range);
      parses = Parses-line _ _ _ _ _ _ _ _ _ (subst (λ (ls : List (List ℕ)). Parses c.args.text.now c.lines.items.items c.lines.wrong c.lines.line ls) more c.lines.invariant.parses) (rw c.in_default.is at c.in_ok-stop.ensures.tokens) c.in_ok-wrong.ensures;
    }

-- all lines are read
pub returns-in-None-clause-reads : goal.returns-in-None-clause-reads
returns-in-None-clause-reads c = last_reads _ _ _ _ _ _ _ _ _ c.lines.invariant.parses (last_line _ _ (rw c.in_default-next.is at c.split_line.ensures.rest) c.split_line.ensures.line) (rw c.in_default.is at c.in_ok-stop.ensures.tokens) c.in_ok-wrong.ensures c.in-None.is

pub returns-in-None-clause-only : goal.returns-in-None-clause-only
returns-in-None-clause-only c = λ meant m. Reads-means _ _ meant (last_reads _ _ _ _ _ _ _ _ _ c.lines.invariant.parses (last_line _ _ (rw c.in_default-next.is at c.split_line.ensures.rest) c.split_line.ensures.line) (rw c.in_default.is at c.in_ok-stop.ensures.tokens) c.in_ok-wrong.ensures c.in-None.is) m

-- a line was none
pub returns-in-Some-wrong-clause-fault : goal.returns-in-Some-wrong-clause-fault
returns-in-Some-wrong-clause-fault c = rw c.fault.ensures (last_wrong _ _ _ _ _ _ _ _ _ _ c.lines.invariant.parses (last_line _ _ (rw c.in_default-next.is at c.split_line.ensures.rest) c.split_line.ensures.line) (rw c.in_default.is at c.in_ok-stop.ensures.tokens) c.in_ok-wrong.ensures c.in-Some-wrong.is)

pub returns-in-Some-wrong-clause-means_nothing : goal.returns-in-Some-wrong-clause-means_nothing
returns-in-Some-wrong-clause-means_nothing c = rw c.fault.ensures (λ meant m. fault_means_nothing c.args.text.now _ meant (last_wrong _ _ _ _ _ _ _ _ _ _ c.lines.invariant.parses (last_line _ _ (rw c.in_default-next.is at c.split_line.ensures.rest) c.split_line.ensures.line) (rw c.in_default.is at c.in_ok-stop.ensures.tokens) c.in_ok-wrong.ensures c.in-Some-wrong.is) m)
