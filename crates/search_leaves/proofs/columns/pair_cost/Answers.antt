use Rattle.std.proofs.Common.{arith}
use Rattle.search_leaves.proofs.columns.pair_cost.Goals as goal

pub returns : goal.returns
returns c = omega (arith, c.requires.0, c.requires.1)
