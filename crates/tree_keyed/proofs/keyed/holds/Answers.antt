use Rattle.std.proofs.Common.{refl}
use Rattle.tree_keyed.proofs.KeyedLaws.{holds_is}
use Rattle.tree_keyed.proofs.keyed.holds.Goals as goal

pub returns : goal.returns
returns c =
    let a = c.args in
    holds_is a.index.now a.x c.features_of-d.ensures c.root_level-level.ensures c.root_page-root.ensures
    c.record_rank-rank.ensures c.leaf_for-page.ensures refl c.held_among.ensures
