use Rattle.std.proofs.Common.{ap, sym, ◌∙◌, option_map}
use Rattle.serde_json.specs.View.{view}
use Rattle.public_input.proofs.Spellings.{read_spells, read_valid, read_refused}
use Rattle.public_input.proofs.reading.read.Goals as goal

pub returns-clause-spells : goal.returns-clause-spells
returns-clause-spells c =
    read_spells c.args.bytes.now (view c.in-Some.top) (sym c.in_ok-found.ensures ∙ ap (option_map view) c.in-Some.is) c.read_statement.result c.read_statement.ensures

pub returns-clause-valid : goal.returns-clause-valid
returns-clause-valid c =
    read_valid c.args.bytes.now (view c.in-Some.top) (sym c.in_ok-found.ensures ∙ ap (option_map view) c.in-Some.is) c.read_statement.result c.read_statement.ensures

pub returns-clause-spells_nothing : goal.returns-clause-spells_nothing
returns-clause-spells_nothing c =
    read_refused c.args.bytes.now (view c.in-Some.top) (sym c.in_ok-found.ensures ∙ ap (option_map view) c.in-Some.is) c.read_statement.result c.read_statement.ensures
