use Rattle.std.proofs.Common.{◌≡◌, ◌*◌, ◌≤◌}
use Rattle.geometry_slices.specs.Questions.{sum_to}
use Rattle.geometry_lanes.specs.Lanes.{fall_at}
use Rattle.geometry_lanes.proofs.pulls.falls.Given as goal

abbrev pub invariant-loop-m : goal.invariant-loop-m
invariant-loop-m g l = (l.sum ≡ sum_to l.m (fall_at l.falls l.at l.t)) × (l.sum ≤ 2001 * l.m)
