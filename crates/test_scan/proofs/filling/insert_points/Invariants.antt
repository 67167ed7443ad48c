use Rattle.std.proofs.Common.{◌≤◌}
use Rattle.test_scan.proofs.filling.insert_points.Given as goal

abbrev pub invariant-loop-point : goal.invariant-loop-point
invariant-loop-point l = l.refused ≤ l.point-index
