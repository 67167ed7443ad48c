use Rattle.std.proofs.Common.{refl}
use Rattle.tree_core.proofs.RootLaws.{total_step}
use Rattle.tree_insert.proofs.roots.add_to_total.Goals as goal

pub returns : goal.returns
returns c = total_step c.args.index.now c.total_records-n.ensures refl c.set_total_records.ensures
