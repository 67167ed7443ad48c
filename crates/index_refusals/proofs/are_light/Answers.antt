use Rattle.std.proofs.Common.{rules}
use Rattle.index_refusals.proofs.RuleLaws.{judge_each}
use Rattle.index_refusals.proofs.are_light.Goals as goal

pub returns : goal.returns
returns c = judge_each c.args.weights.now 1000 c.all.result (search rules)
