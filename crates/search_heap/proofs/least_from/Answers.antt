use Rattle.std.proofs.Common.{arith}
use Rattle.search_heap.proofs.HeapLaws.{least_one, least_join}
use Rattle.search_heap.proofs.least_from.Goals as goal

pub loop-i-init : goal.loop-i-init
loop-i-init c = least_one _ _ _ _ (omega arith) (omega arith) (omega arith)

pub loop-i-preserved : goal.loop-i-preserved
loop-i-preserved c = least_join _ _ _ _ _ _ _ c.loop-i.invariant (least_one _ _ _ _ (omega arith) (omega arith) (omega arith)) c.lower-c.ensures
