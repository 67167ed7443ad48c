use Rattle.std.proofs.Common.{◌≤◌, ◌*◌}
use Rattle.test_model.proofs.origin.Origin.weigh.Given as goal

abbrev pub invariant-loop-m : goal.invariant-loop-m
invariant-loop-m g l = l.sum ≤ 281474976710656 * l.m
