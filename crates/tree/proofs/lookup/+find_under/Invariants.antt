use Rattle.std.proofs.Common.{◌≡◌, min}
use Rattle.pagestore.specs.Store.{inner_at, entries_in}
use Rattle.tree_core.proofs.LookupLaws.{Seeks}
use Rattle.tree.proofs.lookup.+find_under.Given as goal

abbrev pub decreases-find_under : goal.decreases-find_under
decreases-find_under l = l.level

abbrev pub invariant-loop-i : goal.invariant-loop-i
invariant-loop-i l = (l.i-end ≡ min 16 (inner_at l.index l.page).count) × Seeks l.level l.index l.page l.id (entries_in (inner_at l.index l.page)) l.i
