use Rattle.std.proofs.Common.{◌*◌}
use Rattle.geometry_slices.specs.Questions.{Filled}
use Rattle.geometry_lanes.specs.Lanes.{side_in}
use Rattle.geometry_heights.proofs.lanes.fill_lanes.Given as goal

-- i lanes are filled.
abbrev pub invariant-loop-i : goal.invariant-loop-i
invariant-loop-i l = Filled (side_in l.axes l.m l.reach) (32 * l.m) l.i l.initial.falls l.falls
