use Rattle.tree_core.proofs.DeletionLaws.{total_less}
use Rattle.tree_delete.proofs.deletion.take_from_total.Goals as goal

pub returns : goal.returns
returns c = total_less c.args.index.now c.total_records.ensures c.saturating_sub-n.ensures c.set_total_records.ensures
