use Rattle.acts.proofs.RunLaws.{Reads}
use Rattle.acts.proofs.run_input.Given as goal

-- `run_input` meets its contract. Assumes nothing.
abbrev pub invariant-turns : goal.invariant-turns
invariant-turns g l = Reads l.initial.index l.initial.held l.initial.chunk l.initial.out l.initial.t l.index l.held l.chunk l.out l.t
