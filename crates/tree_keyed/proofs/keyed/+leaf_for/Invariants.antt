use Rattle.tree_keyed.proofs.keyed.+leaf_for.Given as goal

abbrev pub decreases-leaf_for : goal.decreases-leaf_for
decreases-leaf_for l = l.level
