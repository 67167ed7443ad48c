use Rattle.std.proofs.Common.{◌≡◌, ◌+◌, ◌-◌, ◌≤◌, min, max, drop}
use Rattle.lists.specs.Leading.{leading}
use Rattle.pagestore.specs.Store.{inner_at, entries_in}
use Rattle.tree_model.specs.Inserting.{choose}
use Rattle.tree_core.proofs.EntryLaws.{low_first}
use Rattle.tree_core.proofs.entries.choose_at.Given as goal

abbrev pub invariant-loop-i : goal.invariant-loop-i
invariant-loop-i l = (l.n ≡ min 16 (inner_at l.index l.page).count) × (l.i ≤ max 1 l.n)
    × (choose l.rank (entries_in (inner_at l.index l.page)) ≡ (l.i - 1) + leading (low_first l.rank) (drop l.i (entries_in (inner_at l.index l.page))))
