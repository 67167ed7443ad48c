use Rattle.std.proofs.Common.{◌≡◌}
use Rattle.geometry_bounds.specs.Bounds.{least_between}
use Rattle.geometry_bounds.proofs.bounds.between.Given as goal

-- the least so far is that of as many pyramids as are passed
abbrev pub invariant-loop-distance : goal.invariant-loop-distance
invariant-loop-distance l = l.least ≡ least_between l.whole l.best l.i1 l.distance-index
