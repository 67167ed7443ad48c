use Rattle.pagestore_use.specs.MovedLaws.{move_steps}
use Rattle.pagestore_use.proofs.move_leaf.Goals as goal

pub returns : goal.returns
returns c = (c.take_page-new.ensures.0, move_steps _ _ _ _ _ _ _ c.leaf_at-leaf.ensures c.take_page-new.ensures.0 c.take_page-new.ensures.1 c.set_leaf.ensures c.free_page.ensures)
