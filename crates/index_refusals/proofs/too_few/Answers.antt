use Rattle.std.proofs.Common.{arith}
use Rattle.pagestore.specs.Store.CountLaws.{free_both}
use Rattle.index_refusals.proofs.RuleLaws.{judge_lt}
use Rattle.index_refusals.proofs.too_few.Goals as goal

pub returns-then-fresh_count-wanted : goal.returns-then-fresh_count-wanted
returns-then-fresh_count-wanted c = judge_lt _ _ (λ l. omega (arith, c.free_count.ensures)) (λ h l. omega (arith, c.free_count.ensures))

pub returns-else-fresh_count-wanted : goal.returns-else-fresh_count-wanted
returns-else-fresh_count-wanted c = judge_lt _ _ (λ l. absurd (omega arith)) (λ h l. omega (arith, free_both c.args.index.now, c.fresh_count.ensures))
