use Rattle.geometry_lanes.specs.Lanes.{Weights}
use Rattle.geometry_heights.proofs.lanes.fill_weights.Given as goal

-- The rows of the coordinates below m are filled.
abbrev pub invariant-loop-m : goal.invariant-loop-m
invariant-loop-m l = Weights l.asked l.weights l.n l.m
