use Rattle.std.proofs.Common.{◌≡◌, max, ◌<◌, drop}
use Rattle.geometry.specs.Stored.{point_of}
use Rattle.geometry.proofs.LoopLaws.{top_lead}
use Rattle.geometry.proofs.points.top_lead.Given as goal

-- the greatest lead so far, with that of what is left, is that of the whole
abbrev pub invariant-loop-m : goal.invariant-loop-m
invariant-loop-m l = (l.top < 1048576) × (max l.top (top_lead l.m (drop l.m (point_of l.p))) ≡ top_lead 0 (point_of l.p))
