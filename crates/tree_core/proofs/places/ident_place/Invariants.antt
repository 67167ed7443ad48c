use Rattle.std.proofs.Common.{◌≡◌, ◌+◌, min, drop}
use Rattle.lists.specs.Leading.{leading}
use Rattle.pagestore.specs.Store.{leaf_at, records_in}
use Rattle.tree_model.specs.Deleting.{other_ident}
use Rattle.tree_core.proofs.places.ident_place.Given as goal

abbrev pub invariant-loop-i : goal.invariant-loop-i
invariant-loop-i l = (l.i-end ≡ min 16 (leaf_at l.index l.page).count)
    × (leading (other_ident l.id) (records_in (leaf_at l.index l.page)) ≡ l.i + leading (other_ident l.id) (drop l.i (records_in (leaf_at l.index l.page))))
