use Rattle.std.proofs.Common.{◌≤◌}
use Rattle.test_scan.proofs.filling.delete_points.Given as goal

abbrev pub invariant-loop-p : goal.invariant-loop-p
invariant-loop-p l = l.refused ≤ l.p
