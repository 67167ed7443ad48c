use Rattle.std.proofs.Common.{◌+◌, ◌-◌, ◌≤◌, min, ◌≡◌}
use Rattle.pagestore.specs.Store.{inner_at, entries_in}
use Rattle.tree_core.specs.Lookup.{leaf_count}
use Rattle.tree.proofs.CountLaws.{count_from}
use Rattle.tree.proofs.lookup.+leaf_count.Given as goal

abbrev pub decreases-leaf_count : goal.decreases-leaf_count
decreases-leaf_count l = l.level

abbrev pub invariant-loop-i : goal.invariant-loop-i
invariant-loop-i l = (l.i ≤ l.n) × (l.level ≤ 4) × (l.level ≡ 0 → ⊥) × (l.n ≡ min (inner_at l.index l.page).count 16) × (l.sum + count_from (l.level - 1) l.index (entries_in (inner_at l.index l.page)) l.i ≡ leaf_count l.level l.index l.page)
