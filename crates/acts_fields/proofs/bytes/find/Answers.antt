use Rattle.std.proofs.Common.{arith}
use Rattle.acts_fields.proofs.UntilLaws.{found, not_found}
use Rattle.acts_fields.proofs.bytes.find.Goals as goal

pub returns-in-Some : goal.returns-in-Some
returns-in-Some c = found c.args.b c.args.at c.args.s.now c.requires _ c.first.ensures c.in-Some.i c.in-Some.is

pub returns-in-None : goal.returns-in-None
returns-in-None c = (not_found c.args.b c.args.at c.args.s.now c.requires _ c.first.ensures c.in-None.is, omega arith)
