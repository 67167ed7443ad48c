use Rattle.epoch_index.proofs.epoch_index_vouched_delete.Goals as goal

pub returns : goal.returns
returns c = rw c.code_of.ensures c.delete.ensures
