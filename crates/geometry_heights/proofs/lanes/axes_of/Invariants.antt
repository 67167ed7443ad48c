use Rattle.std.proofs.Common.{◌≡◌, ℕ, ◌<◌, length, get_or}
use Rattle.geometry.specs.Slices.{axis_no}
use Rattle.geometry_heights.proofs.lanes.axes_of.Given as goal

-- Each lane below i has its axis.
abbrev pub invariant-loop-i : goal.invariant-loop-i
invariant-loop-i l = (length l.axes ≡ 32) × ((k : ℕ) → k < l.i → get_or l.axes k 0 ≡ axis_no l.d k)
