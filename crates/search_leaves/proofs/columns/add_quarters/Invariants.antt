use Rattle.search_leaves.specs.Columns.{Quarters}
use Rattle.search_leaves.proofs.columns.add_quarters.Given as goal

-- `columns::add_quarters` meets its contract. Assumes nothing.
abbrev pub invariant-loop-m : goal.invariant-loop-m
invariant-loop-m l = Quarters l.page l.q l.apart l.m l.n l.sums
