use Rattle.std.proofs.Common.{◌≡◌, ℕ, ◌≤◌, get_or}
use Rattle.geometry_slices.specs.Questions.{Filled}
use Rattle.geometry_lanes.specs.Lanes.{turned_at, Sums}
use Rattle.geometry_lanes.proofs.bisection.halve_by.Given as goal

-- The lanes below i have had their turn.
abbrev pub invariant-loop-i : goal.invariant-loop-i
invariant-loop-i g l = record {
  turned : (f : ℕ → ℕ → ℕ) → Sums (goal.F-post g l.sum) l.n f → Filled (turned_at f l.owns l.ends l.step) 0 l.i l.initial.heights l.heights;
  waiting : (k : ℕ) → l.i ≤ k → get_or l.heights k 0 ≡ get_or l.initial.heights k 0;
}
