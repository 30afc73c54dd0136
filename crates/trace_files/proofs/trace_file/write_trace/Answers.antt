use Rattle.std.proofs.Common.{◌++◌, ap, ◌∙◌}
use Rattle.std.specs.List.{flat_map}
use Rattle.file_records.specs.Numbers.{numbers_bytes}
use Rattle.file_records.specs.Records.{trace_state_values}
use Rattle.casm_word.specs.Transition.{registers}
use Rattle.trace_files.proofs.TraceFile.{trace_bytes-written, SpellsTrace-of_states}
use Rattle.trace_files.proofs.trace_file.write_trace.Goals as goal

pub returns-clause-written : goal.returns-clause-written
returns-clause-written c =
    c.in_ok-write_records.ensures.bytes
    ∙ (ap (λ xs. xs ++ flat_map (λ s. numbers_bytes (trace_state_values (registers s))) c.args.states.now) c.in_ok-bytes.ensures.items
    ∙ trace_bytes-written c.args.states.now)

pub returns-clause-spells : goal.returns-clause-spells
returns-clause-spells c =
    SpellsTrace-of_states c.args.states.now c.write_records.new.out.items (returns-clause-written c) c.requires.least c.requires.most
