use Rattle.std.proofs.Common.{arith}
use Rattle.search_leaves.proofs.ColumnLaws.{quarters_start, quarters_end}
use Rattle.search_leaves.proofs.columns.add_quarters.Goals as goal

pub loop-m-init : goal.loop-m-init
loop-m-init c = quarters_start _ _ _ _ _ (omega arith) c.requires

pub returns : goal.returns
returns c = let L = c.loop-m in quarters_end _ _ _ L.m _ L.sums (omega arith) L.invariant
