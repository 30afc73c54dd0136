use Rattle.std.proofs.Common.{◌≡◌, ◌≢◌, ◌/◌, Err, IsOk, length, map, refl, rules}
use Rattle.casm_word.specs.Transition.{registers}
use Rattle.trace_files.specs.TraceFile.{states_in, trace_reading}
use Rattle.trace_files.specs.declared.fault.FileFault.TheVariants.{Memory}
use Rattle.trace_files.proofs.TraceFile.{trace_is_unique, trace_fault_all, trace_reading-fault, trace_reading-spelled, SpellsTrace-read}
use Rattle.trace_files.proofs.trace_file.read_trace.Goals as goal

pub returns-in_err-check-clause-complete : goal.returns-in_err-check-clause-complete
returns-in_err-check-clause-complete c = λ states spells.
    let short : c.in_err-check.field-0.0 ≡ Memory = trace_fault_all c.args.bytes.now c.in_err-check.field-0.0 c.in_err-check.ensures.fault states spells in
    search rules

pub returns-in_err-check-clause-reading : goal.returns-in_err-check-clause-reading
returns-in_err-check-clause-reading c =
    let told : c.in_err-check.field-0.0 ≢ Memory → trace_reading c.args.bytes.now ≡ Err c.in_err-check.field-0.0 = λ _. trace_reading-fault c.args.bytes.now c.in_err-check.field-0.0 c.in_err-check.ensures.fault in
    search rules

pub returns-in_err-states-clause-memory : goal.returns-in_err-states-clause-memory
returns-in_err-states-clause-memory c =
    let read : IsOk (trace_reading c.args.bytes.now) = rw (trace_reading-spelled c.args.bytes.now (states_in c.args.bytes.now) c.in_ok-check.ensures.spells) refl in
    search rules

pub returns-clause-spelled : goal.returns-clause-spelled
returns-clause-spelled c =
    SpellsTrace-read c.args.bytes.now (length c.args.bytes.now / 24) c.in_ok-states.states.items c.in_ok-check.ensures.numbers refl c.in_ok-states.ensures c.in_ok-check.ensures.spells

pub returns-clause-complete : goal.returns-clause-complete
returns-clause-complete c =
    λ states spells. trace_is_unique c.args.bytes.now (map registers c.in_ok-states.states.items) states (returns-clause-spelled c) spells

pub returns-clause-reading : goal.returns-clause-reading
returns-clause-reading c =
    trace_reading-spelled c.args.bytes.now (map registers c.in_ok-states.states.items) (returns-clause-spelled c)
