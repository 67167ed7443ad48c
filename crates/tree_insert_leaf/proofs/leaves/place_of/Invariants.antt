use Rattle.std.proofs.Common.{◌≡◌, ◌+◌, drop}
use Rattle.lists.specs.Leading.{leading}
use Rattle.tree_model.specs.Inserting.{rank_below}
use Rattle.tree_insert_leaf.proofs.leaves.place_of.Given as goal

abbrev pub invariant-loop-i : goal.invariant-loop-i
invariant-loop-i l = leading (rank_below l.d l.rank) l.records ≡ l.i + leading (rank_below l.d l.rank) (drop l.i l.records)
