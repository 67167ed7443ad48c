use Rattle.tree_rebalance.proofs.Pairs.{leaf_pair, inner_pair}
use Rattle.tree_rebalance.proofs.rebalancing.rebalance_pages.Goals as goal

pub returns-then-level-eq0 : goal.returns-then-level-eq0
returns-then-level-eq0 c = let a = c.args in leaf_pair a.d a.level a.index.now a.p a.q c.if-level-eq0.true c.rebalance.ensures.done

pub returns-else-level-eq0 : goal.returns-else-level-eq0
returns-else-level-eq0 c = let a = c.args in inner_pair a.d a.level a.index.now a.p a.q c.if-level-eq0.false c.rebalance-else-level-eq0.ensures.done
