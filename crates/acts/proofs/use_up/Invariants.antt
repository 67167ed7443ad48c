use Rattle.acts.proofs.RunLaws.{Uses, left}
use Rattle.acts.proofs.use_up.Given as goal

-- `use_up` meets its contract. Assumes nothing.
abbrev pub invariant-loop-t : goal.invariant-loop-t
invariant-loop-t g l = Uses l.initial.index l.initial.held l.chunk l.initial.out l.initial.t l.index l.held l.out l.t

abbrev pub decreases-loop-t : goal.decreases-loop-t
decreases-loop-t g l = left l.chunk l.t
