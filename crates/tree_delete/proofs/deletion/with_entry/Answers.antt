use Rattle.std.proofs.Common.{refl}
use Rattle.tree_core.proofs.DeletionLaws.{set_in}
use Rattle.tree_delete.proofs.deletion.with_entry.Goals as goal

pub returns : goal.returns
returns c = let a = c.args in (refl, set_in a.inner.entries a.inner.count a.i a.e)
