-- Before turn i the rows lent hold the first i candidates, and from i on what they held.
use Rattle.std.proofs.Common.{◌≡◌}
use Rattle.index_answer.specs.Filling.{up_to}
use Rattle.index_answer.proofs.fill_rows.Given as goal

abbrev pub invariant-loop-i : goal.invariant-loop-i
invariant-loop-i l = l.rows ≡ up_to l.highs l.lows l.initial.rows l.i
