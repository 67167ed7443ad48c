use Rattle.std.proofs.Common.{◌≡◌, ◌*◌, ◌≤◌}
use Rattle.geometry_slices.specs.Questions.{sum_to}
use Rattle.geometry_lanes.specs.Lanes.{pull_at}
use Rattle.geometry_lanes.proofs.pulls.pulls.Given as goal

abbrev pub invariant-loop-m : goal.invariant-loop-m
invariant-loop-m g l = (l.sum ≡ sum_to l.m (pull_at l.falls l.weights l.at l.t)) × (l.sum ≤ 134217728 * l.m)
