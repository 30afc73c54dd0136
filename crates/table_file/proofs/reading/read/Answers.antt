use Rattle.std.proofs.Common.{◌≡◌, ◌⊎◌, Err, IsOk, refl, arith, inr, rules}
use Rattle.table_file.specs.declared.TableFault.TheVariants.{Memory}
use Rattle.table_file.specs.Tables.{contents, Contents}
use Rattle.table_file.specs.Spelling.{SpellsTables}
use Rattle.table_file.specs.Reading.{reading}
use Rattle.table_file.proofs.WholeFiles.{end_of_head, file_spells}
use Rattle.table_file.proofs.Spellings.{spelled_once, no_fault}
use Rattle.table_file.proofs.Readings.{reading-spells, reading-first, no_want_first}
use Rattle.table_file.proofs.reading.read.Goals as goal

pub returns-in_err-counts-clause-exact : goal.returns-in_err-counts-clause-exact
returns-in_err-counts-clause-exact c =
    let first = c.in_err-counts.ensures.fault in
    let told : (t : Contents) → SpellsTables c.args.bytes.now t → c.in_err-counts.field-0.0 ≡ Memory = λ t spells. absurd (no_fault c.args.bytes.now t spells first.place c.in_err-counts.field-0.0 first.here) in
    search rules

pub returns-in_err-counts-clause-memory : goal.returns-in_err-counts-clause-memory
returns-in_err-counts-clause-memory c =
    let told : c.in_err-counts.field-0.0 ≡ Memory → IsOk (reading c.args.bytes.now) = λ e. absurd (no_want_first c.args.bytes.now c.in_err-counts.field-0.0 c.in_err-counts.ensures.fault e) in
    search rules

pub returns-in_err-counts-clause-reading : goal.returns-in_err-counts-clause-reading
returns-in_err-counts-clause-reading c =
    let told : (c.in_err-counts.field-0.0 ≡ Memory) ⊎ (reading c.args.bytes.now ≡ Err c.in_err-counts.field-0.0) = inr (reading-first c.args.bytes.now c.in_err-counts.field-0.0 c.in_err-counts.ensures.fault) in
    search rules

pub split_at-requires : goal.split_at-requires
split_at-requires c =
    omega (arith, c.in_ok-counts.ensures.whole.head.has_counts.whole 4 (omega arith))

pub read_lists-requires : goal.read_lists-requires
read_lists-requires c =
    let file = c.in_ok-counts.ensures.whole in
    let end = end_of_head c.args.bytes.now c.in_ok-counts.counts file.head in
    omega (arith, file.ends, c.split_at.ensures.back_len)

pub returns-in_err-tables-clause-memory : goal.returns-in_err-tables-clause-memory
returns-in_err-tables-clause-memory c =
    let spells = file_spells c.args.bytes.now c.in_ok-counts.counts (λ i. omega (arith, c.type_inv.bytes i)) c.in_ok-counts.ensures.whole in
    let read : IsOk (reading c.args.bytes.now) = rw (reading-spells c.args.bytes.now _ spells) refl in
    search rules

pub returns-clause-spells : goal.returns-clause-spells
returns-clause-spells c =
    let spells = file_spells c.args.bytes.now c.in_ok-counts.counts (λ i. omega (arith, c.type_inv.bytes i)) c.in_ok-counts.ensures.whole in
    rw (c.in_ok-tables.ensures, c.split_at.ensures.back) spells

pub returns-clause-valid : goal.returns-clause-valid
returns-clause-valid c = (returns-clause-spells c).valid

pub returns-clause-only : goal.returns-clause-only
returns-clause-only c = λ other spells.
    spelled_once c.args.bytes.now other (contents c.in_ok-tables.tables) spells (returns-clause-spells c)

pub returns-clause-reading : goal.returns-clause-reading
returns-clause-reading c =
    reading-spells c.args.bytes.now (contents c.in_ok-tables.tables) (returns-clause-spells c)
