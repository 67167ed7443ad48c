use Rattle.search_leaves.specs.Columns.{weighted_from, most_weighted}
use Rattle.search_leaves.proofs.ColumnLaws.{AddingColumn}
use Rattle.search_leaves.proofs.columns.add_weighted.Given as goal

-- The sums below r have the column, those from r on do not yet.
abbrev pub invariant-loop-r : goal.invariant-loop-r
invariant-loop-r l = AddingColumn (weighted_from l.page l.weights l.q) most_weighted l.page l.q l.m l.n l.r l.sums
