use Rattle.epoch_index.proofs.epoch_index_insert.Goals as goal

pub returns : goal.returns
returns c = rw c.code_of.ensures c.insert.ensures
