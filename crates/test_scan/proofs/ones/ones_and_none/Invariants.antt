use Rattle.std.proofs.Common.{◌≤◌, ◌*◌}
use Rattle.test_scan.proofs.ones.ones_and_none.Given as goal

abbrev pub invariant-loop : goal.invariant-loop
invariant-loop l = l.differences ≤ 131 * l.counter
