use Rattle.std.proofs.Common.{◌≡◌, ◌*◌, ◌≤◌}
use Rattle.geometry_slices.specs.Questions.{sum_to, row_square}
use Rattle.geometry_slices.proofs.slices.row_squares.Given as goal

-- the sum so far is that of the places below m
abbrev pub invariant-loop-m : goal.invariant-loop-m
invariant-loop-m l = (l.sum ≤ 4194304 * l.m) × (l.sum ≡ sum_to l.m (row_square l.near l.at l.h))
