use Rattle.std.proofs.Common.{◌≡◌, ℕ, ◌<◌, get_or, length}
use Rattle.geometry_slices.proofs.tables.places.Given as goal

-- each place below m has its number
abbrev pub invariant-loop-m : goal.invariant-loop-m
invariant-loop-m l = (length l.places ≡ 16) × ((k : ℕ) → k < l.m → get_or l.places k 0 ≡ k)
