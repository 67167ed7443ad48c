use Rattle.std.proofs.Common.{◌≡◌, ℕ, length}
use Rattle.geometry_lanes.specs.Lanes.{Gives, Sides}
use Rattle.geometry_heights.proofs.lanes.sides.Given as goal

-- The lanes of the coordinates below m have their numbers.
abbrev pub invariant-loop-m : goal.invariant-loop-m
invariant-loop-m g l = record {
  long : length l.xs ≡ 32;
  given : (p q : ℕ → ℕ) → Gives (goal.F-post g l.both) l.d p q → Sides p q l.d l.m l.xs;
}
