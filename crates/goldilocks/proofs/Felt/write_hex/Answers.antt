use Rattle.goldilocks.proofs.Texts.{Writes-hex}
use Rattle.goldilocks.proofs.Felt.write_hex.Goals as goal

pub returns-in_err-text-clause-read_back : goal.returns-in_err-text-clause-read_back
returns-in_err-text-clause-read_back c = Writes-hex c.args.self.number c.args.self.in_field

pub returns-clause-read_back : goal.returns-clause-read_back
returns-clause-read_back c = Writes-hex c.args.self.number c.args.self.in_field
