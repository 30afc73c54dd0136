use Rattle.std.proofs.Common.{◌≡◌, Some, None}
use Rattle.serde_json.specs.View.{view}
use Rattle.json_fields.specs.Values.{json_of}
use Rattle.hint_cells.specs.declared.fault.HintFault.TheVariants as fault
use Rattle.hint_cells.proofs.Spelling.{reading-no_json, told, refused, answer_spells, answer_spells_nothing, fault_spells_nothing}
use Rattle.hint_cells.proofs.reading.read.Goals as goal

pub returns-in_default-clause-fault : goal.returns-in_default-clause-fault
returns-in_default-clause-fault c = λ _. let e : None ≡ json_of c.args.bytes.now = rw c.in_default.is at c.in_ok-top.ensures in reading-no_json c.args.bytes.now e

pub returns-clause-hints : goal.returns-clause-hints
returns-clause-hints c = let e : Some (view c.in-Some.top) ≡ json_of c.args.bytes.now = rw c.in-Some.is at c.in_ok-top.ensures in told c.args.bytes.now (view c.in-Some.top) c.read_value.result e c.read_value.ensures.hints

pub returns-clause-fault : goal.returns-clause-fault
returns-clause-fault c = let e : Some (view c.in-Some.top) ≡ json_of c.args.bytes.now = rw c.in-Some.is at c.in_ok-top.ensures in refused c.args.bytes.now (view c.in-Some.top) c.read_value.result e c.read_value.ensures.fault

pub returns-in_default-clause-spells_nothing : goal.returns-in_default-clause-spells_nothing
returns-in_default-clause-spells_nothing c = λ known. fault_spells_nothing c.args.bytes.now fault.Json (returns-in_default-clause-fault c known)

pub returns-clause-spells : goal.returns-clause-spells
returns-clause-spells c = answer_spells c.args.bytes.now c.read_value.result (returns-clause-hints c)

pub returns-clause-spells_nothing : goal.returns-clause-spells_nothing
returns-clause-spells_nothing c = answer_spells_nothing c.args.bytes.now c.read_value.result (returns-clause-fault c)
