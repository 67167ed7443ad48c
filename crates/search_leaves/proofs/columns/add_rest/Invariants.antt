use Rattle.search_leaves.specs.Columns.{Sums}
use Rattle.search_leaves.proofs.columns.add_rest.Given as goal

-- `columns::add_rest` meets its contract. Assumes nothing.
abbrev pub invariant-loop-m : goal.invariant-loop-m
invariant-loop-m l = Sums l.page l.q l.m l.n l.sums
