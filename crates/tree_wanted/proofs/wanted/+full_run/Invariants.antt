use Rattle.tree_wanted.proofs.wanted.+full_run.Given as goal

abbrev pub decreases-full_run : goal.decreases-full_run
decreases-full_run l = l.level
