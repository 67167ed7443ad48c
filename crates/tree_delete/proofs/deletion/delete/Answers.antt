use Rattle.std.proofs.Common.{◌∙◌}
use Rattle.tree_core.proofs.DeletionLaws.{delete_steps}
use Rattle.tree_delete.proofs.deletion.delete.Goals as goal

pub returns : goal.returns
returns c = let a = c.args in
    let X = c.new-x.ensures in
    delete_steps a.index.now a.x (X.1 ∙ c.features_of.ensures) c.root_level-level.ensures c.root_page-root.ensures
    (rw X.0 at c.delete_at-left.ensures) c.collapse_root.ensures c.take_from_total.ensures
