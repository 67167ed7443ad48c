use Rattle.acts_output.proofs.PutLaws.{Rowed}
use Rattle.acts_output.proofs.rows.put_rows.Given as goal

abbrev pub invariant-loop-i : goal.invariant-loop-i
invariant-loop-i l = Rowed l.number l.leaves l.highs l.lows l.initial.out l.at l.out l.end l.i
