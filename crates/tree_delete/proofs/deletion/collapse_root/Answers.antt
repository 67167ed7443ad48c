use Rattle.std.proofs.Common.{refl, arith}
use Rattle.tree_core.proofs.DeletionLaws.{root_leaf, root_stays, root_one, root_collapses}
use Rattle.tree_delete.proofs.deletion.collapse_root.Goals as goal
use Rattle.tree_delete.proofs.deletion.collapse_root.Goals.{else-level-gt0-via-then-level-gt0+else-n-eq1, else-level-gt0-via-else-level-gt0}

pub returns-then-n-eq1 : goal.returns-then-n-eq1
returns-then-n-eq1 c = let a = c.args in
    root_one a.level a.index.now a.page a.n c.if-n-eq1.true
    (root_collapses a.level a.index.now a.page c.if-level-gt0.true refl c.child_of-child.ensures c.set_root_page.ensures c.set_root_level.ensures c.free_page.ensures)

pub returns-else-level-gt0 : goal.returns-else-level-gt0
returns-else-level-gt0 c = let a = c.args in
    elim c.else-level-gt0.branch [
      | else-level-gt0-via-then-level-gt0+else-n-eq1 w ↦ root_stays a.level a.index.now a.page a.n w.if-n-eq1.false
      | else-level-gt0-via-else-level-gt0 w ↦ root_leaf a.level a.index.now a.page a.n (omega arith)
    ]
