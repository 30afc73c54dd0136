use Rattle.std.proofs.Common.{subst, sym}
use Rattle.std.specs.Str.{IsUtf8}
use Rattle.casm_statements.proofs.Ascii.{label_utf8}
use Rattle.casm_statements.proofs.text.NameDisplay.fmt.Goals as goal

-- a label is ASCII
pub unreachable-requires : goal.unreachable-requires
unreachable-requires g c =
    c.in-Err.ensures.cases.0 (subst IsUtf8 (sym c.text.ensures.bytes) (label_utf8 c.args.self.now c.text.ensures.label))
