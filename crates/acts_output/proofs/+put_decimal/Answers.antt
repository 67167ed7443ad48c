use Rattle.std.proofs.Common.{rules, arith}
use Rattle.acts_output.proofs.OutputLaws.{last_put, more_put}
use Rattle.acts_output.proofs.+put_decimal.Goals as goal

pub returns-then-k-eq0 : goal.returns-then-k-eq0
returns-then-k-eq0 t c = let P = c.put_digit.ensures in (last_put _ _ _ _ c.args.k c.args.n c.then-k-eq0.either P, omega (arith, P.after))

pub returns : goal.returns
returns t c = search (more_put, rules)
