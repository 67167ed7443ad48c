use Rattle.std.proofs.Common.{◌≡◌, ℕ, ◌<◌, length}
use Rattle.geometry_slices.proofs.AskLaws.{Placed}
use Rattle.geometry_slices.proofs.asked.ask.Given as goal

-- the four numbers of each coordinate below m are in their places
abbrev pub invariant-loop-m : goal.invariant-loop-m
invariant-loop-m l = (length l.asked ≡ 64) × ((k : ℕ) → k < l.m → Placed l.low l.high l.weight l.asked k)
