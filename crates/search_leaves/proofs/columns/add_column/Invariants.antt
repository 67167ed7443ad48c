use Rattle.search_leaves.specs.Columns.{cost_from, most_cost}
use Rattle.search_leaves.proofs.ColumnLaws.{AddingColumn}
use Rattle.search_leaves.proofs.columns.add_column.Given as goal

-- The sums below r have the column, those from r on do not yet.
abbrev pub invariant-loop-r : goal.invariant-loop-r
invariant-loop-r l = AddingColumn (cost_from l.page l.q) most_cost l.page l.q l.m l.n l.r l.sums
