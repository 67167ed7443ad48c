use Rattle.std.proofs.Common.{◌∙◌}
use Rattle.tree_core.proofs.RootLaws.{insert_steps}
use Rattle.tree_insert.proofs.roots.insert.Goals as goal

pub returns : goal.returns
returns c = let a = c.args in
    let X = c.new-x.ensures in
    insert_steps a.index.now a.x (X.1 ∙ c.features_of.ensures) c.root_level-level.ensures c.root_page-root.ensures
    (rw X.0 at c.insert_at-grown.ensures) c.grow_root.ensures c.add_to_total.ensures
