use Rattle.epoch_index.proofs.epoch_index_make.Goals as goal

pub returns : goal.returns
returns c = rw c.code_of.ensures c.make.ensures
