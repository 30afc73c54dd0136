use Rattle.casm_statements.proofs.Guesses.{written, unwritten}
use Rattle.casm_statements.proofs.guess.of_word.Goals as goal
use Rattle.casm_statements.proofs.guess.of_word.Goals.{else-is_same_word-via-then-is_same_word+else-is_same_immediate, else-is_same_word-via-else-is_same_word}

-- the statement that is read off is written so
pub returns-then-is_same_immediate : goal.returns-then-is_same_immediate
returns-then-is_same_immediate c = λ s.
    written s c.args.w.now c.args.imm c.stmt_in-s.result c.to_word-value.result c.stmt_in-s.ensures c.to_word-value.ensures
    (c.is_same_word.ensures.0 c.if-is_same_word.true) (c.is_same_immediate.ensures.0 c.if-is_same_immediate.true)

-- it isn't, and no other is
pub returns-else-is_same_word : goal.returns-else-is_same_word
returns-else-is_same_word c = λ s.
    unwritten s c.args.w.now c.args.imm c.stmt_in-s.result c.to_word-value.result c.stmt_in-s.ensures c.to_word-value.ensures
    (λ same_word same_imm.
    elim c.else-is_same_word.branch [ else-is_same_word-via-then-is_same_word+else-is_same_immediate w ↦ let h = w.is_same_immediate.ensures.1 same_imm in let k = w.if-is_same_immediate.false in cc | else-is_same_word-via-else-is_same_word w ↦ let h = c.is_same_word.ensures.1 same_word in let k = w.if-is_same_word.false in cc ])
