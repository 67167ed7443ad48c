use Rattle.search.proofs.TurnLaws.{Visiting}
use Rattle.search.proofs.visit.best_first.Given as goal

-- `best_first`: the invariant is that the search from here on gives the whole visit's answer; the measure is the steps left.
abbrev pub invariant-loop-tables : goal.invariant-loop-tables
invariant-loop-tables l = Visiting l.index l.sought.asked.now l.sought.k l.sought.choice l.initial.slots l.initial.highs l.initial.lows l.slots l.highs l.lows l.n l.rows l.leaves l.steps

abbrev pub decreases-loop-tables : goal.decreases-loop-tables
decreases-loop-tables l = l.steps
