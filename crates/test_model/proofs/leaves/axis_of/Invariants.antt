use Rattle.std.proofs.Common.{◌<◌, length}
use Rattle.test_model.proofs.leaves.axis_of.Given as goal

abbrev pub invariant-loop-m : goal.invariant-loop-m
invariant-loop-m l = l.axis < length l.places
