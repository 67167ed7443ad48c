use Rattle.std.proofs.Common.{◌≡◌, ℕ, ◌<◌, length, get_or}
use Rattle.geometry.specs.Slices.{lowest_of, least_in}
use Rattle.geometry_slices.specs.Questions.{asked_of, whole_places}
use Rattle.geometry_slices.proofs.tables.fill_whole.Given as goal

-- each pyramid below i has its least distance
abbrev pub invariant-loop-i : goal.invariant-loop-i
invariant-loop-i l = (length l.whole ≡ whole_places) × ((k : ℕ) → k < l.i → get_or l.whole k 0 ≡ least_in (asked_of l.asked) k (lowest_of (length (asked_of l.asked)) k) 1000)
