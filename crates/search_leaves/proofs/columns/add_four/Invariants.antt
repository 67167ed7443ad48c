use Rattle.search_leaves.proofs.ColumnLaws.{AddingFour}
use Rattle.search_leaves.proofs.columns.add_four.Given as goal

-- The sums below r have the four columns, those from r on do not yet.
abbrev pub invariant-loop-r : goal.invariant-loop-r
invariant-loop-r l = AddingFour l.page l.q l.apart l.m l.n l.r l.sums
