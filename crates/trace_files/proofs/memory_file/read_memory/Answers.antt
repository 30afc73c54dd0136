use Rattle.std.proofs.Common.{◌≡◌, ◌≢◌, ◌/◌, Err, IsOk, length, refl, rules}
use Rattle.trace_files.specs.MemoryFile.{SpellsMemory, cells_in, memory_reading}
use Rattle.trace_files.specs.declared.fault.FileFault.TheVariants.{Memory}
use Rattle.trace_files.proofs.MemoryFile.{memory_is_unique, memory_fault_all, memory_reading-fault, memory_reading-spelled, SpellsMemory-read}
use Rattle.trace_files.proofs.memory_file.read_memory.Goals as goal

pub returns-in_err-check-clause-complete : goal.returns-in_err-check-clause-complete
returns-in_err-check-clause-complete c = λ cells spells.
    let short : c.in_err-check.field-0.0 ≡ Memory = memory_fault_all c.args.bytes.now c.in_err-check.field-0.0 c.in_err-check.ensures.fault cells spells in
    search rules

pub returns-in_err-check-clause-reading : goal.returns-in_err-check-clause-reading
returns-in_err-check-clause-reading c =
    let told : c.in_err-check.field-0.0 ≢ Memory → memory_reading c.args.bytes.now ≡ Err c.in_err-check.field-0.0 = λ _. memory_reading-fault c.args.bytes.now c.in_err-check.field-0.0 c.in_err-check.ensures.fault in
    search rules

pub returns-in_err-cells-clause-memory : goal.returns-in_err-cells-clause-memory
returns-in_err-cells-clause-memory c =
    let read : IsOk (memory_reading c.args.bytes.now) = rw (memory_reading-spelled c.args.bytes.now (cells_in c.args.bytes.now) c.in_ok-check.ensures.spells) refl in
    search rules

pub invariant_of-result : goal.invariant_of-result
invariant_of-result c =
    let spelled : SpellsMemory c.args.bytes.now c.in_ok-cells.cells.items = SpellsMemory-read c.args.bytes.now (length c.args.bytes.now / 16) c.in_ok-cells.cells.items refl c.in_ok-cells.ensures c.in_ok-check.ensures.spells in
    record { ascending = spelled.ascending; most = spelled.most }

pub returns-clause-spelled : goal.returns-clause-spelled
returns-clause-spelled c =
    SpellsMemory-read c.args.bytes.now (length c.args.bytes.now / 16) c.in_ok-cells.cells.items refl c.in_ok-cells.ensures c.in_ok-check.ensures.spells

pub returns-clause-complete : goal.returns-clause-complete
returns-clause-complete c =
    λ cells spells. memory_is_unique c.args.bytes.now c.in_ok-cells.cells.items cells (returns-clause-spelled c) spells

pub returns-clause-reading : goal.returns-clause-reading
returns-clause-reading c =
    memory_reading-spelled c.args.bytes.now c.in_ok-cells.cells.items (returns-clause-spelled c)
