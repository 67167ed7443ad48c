use Rattle.std.proofs.Common.{◌≡◌, ◌+◌, length}
use Rattle.pagestore.specs.Store.{freed_at}
use Rattle.pagestore.specs.Store.CountLaws.{chain_left}
use Rattle.pagestore.proofs.counting.freed_count.Given as goal

-- The links followed and the pages that the chain still has are all the freed pages.
abbrev pub invariant-loop-n : goal.invariant-loop-n
invariant-loop-n l = l.n + chain_left l.index l.n l.page ≡ length (freed_at l.index)
