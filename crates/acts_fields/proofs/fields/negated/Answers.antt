use Rattle.std.proofs.Common.{arith}
use Rattle.std.proofs.lemmas.Int.{ints}
use Rattle.acts_fields.proofs.DigitLaws.{negative_some}
use Rattle.acts_fields.proofs.fields.negated.Goals as goal

pub returns : goal.returns
returns c = negative_some c.args.m _ (λ e. omega (arith, e)) (omega (arith, ints))
