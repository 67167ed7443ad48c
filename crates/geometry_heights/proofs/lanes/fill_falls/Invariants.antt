use Rattle.geometry_lanes.specs.Lanes.{Falls}
use Rattle.geometry_heights.proofs.lanes.fill_falls.Given as goal

-- The rows of the coordinates below m are filled.
abbrev pub invariant-loop-m : goal.invariant-loop-m
invariant-loop-m l = Falls l.asked l.falls l.m
