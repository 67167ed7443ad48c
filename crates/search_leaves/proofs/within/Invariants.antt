use Rattle.std.proofs.Common.{◌≡◌, ◌≤◌, take}
use Rattle.lists.specs.Sorting.{count}
use Rattle.search_leaves.specs.Columns.{not_past}
use Rattle.search_leaves.proofs.within.Given as goal

-- So many of those before r.
abbrev pub invariant-loop-r : goal.invariant-loop-r
invariant-loop-r l = (l.near ≤ l.r) × (l.near ≡ count (not_past l.limit) (take l.r l.sums))
