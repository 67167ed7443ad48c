use Rattle.std.proofs.Common.{◌≤◌}
use Rattle.test_acts.proofs.upward.insert_sixteen.Given as goal

abbrev pub invariant-loop-n : goal.invariant-loop-n
invariant-loop-n l = l.done ≤ l.n
