use Rattle.std.proofs.Common.{◌+◌, ◌<◌}
use Rattle.test_model.proofs.days.date_of.Given as goal

abbrev pub invariant-loop-left : goal.invariant-loop-left
invariant-loop-left l = l.rest + l.month < 36525

abbrev pub decreases-loop-left : goal.decreases-loop-left
decreases-loop-left l = l.rest
