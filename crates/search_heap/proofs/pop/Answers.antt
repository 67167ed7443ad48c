use Rattle.search_heap.proofs.HeapLaws.{pop_start, popped, pop_last}
use Rattle.std.proofs.Common.{arith}
use Rattle.search_heap.proofs.pop.Goals as goal

-- `pop` takes the top and lets the last of the first n sink from there.
pub sink-requires : goal.sink-requires
sink-requires c = pop_start _ c.args.n _ c.if-m-gt0.true (omega arith) c.requires.1

pub returns-then-m-gt0 : goal.returns-then-m-gt0
returns-then-m-gt0 c = popped _ c.args.n _ c.if-m-gt0.true (omega arith) c.requires.1 _ c.sink.ensures

pub returns-else-m-gt0 : goal.returns-else-m-gt0
returns-else-m-gt0 c = pop_last _ c.args.n (omega arith) c.requires.1
