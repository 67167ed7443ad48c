use Rattle.tree_insert.proofs.insertion.+insert_at.Given as goal

abbrev pub decreases-insert_at : goal.decreases-insert_at
decreases-insert_at l = l.level
