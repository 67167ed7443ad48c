use Rattle.std.proofs.Common.{◌≡◌, ◌-◌, ◌++◌, map, replicate, take}
use Rattle.geometry.specs.Stored.{stored}
use Rattle.geometry.proofs.points.slots_of.Given as goal

-- the slots below m are filled
abbrev pub invariant-loop-m : goal.invariant-loop-m
invariant-loop-m l = l.slots ≡ map stored (take l.m l.p) ++ replicate (16 - l.m) 0
