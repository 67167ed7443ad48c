use Rattle.std.proofs.Common.{◌≡◌, ◌≤◌, length}
use Rattle.geometry_slices.specs.Questions.{size_of}
use Rattle.geometry_lanes.specs.Lanes.{Lanes, lanes_of}
use Rattle.geometry_lanes.proofs.TurnLaws.{Halving}
use Rattle.geometry_lanes.proofs.bisection.bisect.Given as goal

-- `bisection::bisect` meets its contract: each pyramid's nearest height stays in its lane's interval, which is halved.
abbrev pub invariant-loop-size : goal.invariant-loop-size
invariant-loop-size l =
    (l.size ≤ 1000) × (l.n ≡ lanes_of (size_of l.asked)) × (length l.initial.heights ≡ 32) × Lanes l.asked l.tables.falls.now l.tables.weights.now l.tables.owns.now l.tables.ends.now l.n × Halving l.asked l.n l.size l.heights

abbrev pub decreases-loop-size : goal.decreases-loop-size
decreases-loop-size l = l.size
