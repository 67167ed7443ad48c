use Rattle.search_leaves.specs.Columns.{WeightedSums}
use Rattle.search_leaves.proofs.columns.add_weighted_columns.Given as goal

-- `columns::add_weighted_columns` meets its contract. Assumes nothing.
abbrev pub invariant-loop-m : goal.invariant-loop-m
invariant-loop-m l = WeightedSums l.page l.weights l.q l.m l.n l.sums
