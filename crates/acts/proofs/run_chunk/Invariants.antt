use Rattle.std.proofs.Common.{◌-◌, length}
use Rattle.acts.proofs.RunLaws.{Chunked}
use Rattle.acts.proofs.run_chunk.Given as goal

-- `run_chunk` meets its contract. Assumes nothing.
abbrev pub invariant-loop-t : goal.invariant-loop-t
invariant-loop-t l = Chunked l.initial.index l.initial.held l.chunk l.initial.out l.initial.t l.index l.held l.out l.t

abbrev pub decreases-loop-t : goal.decreases-loop-t
decreases-loop-t l = length l.chunk - l.t.at
