use Rattle.std.proofs.Common.{ap, ◌∙◌}
use Rattle.geometry.specs.Keys.{key_number}
use Rattle.tree_model.specs.Trees.{rank_of}
use Rattle.tree_core.proofs.keys.record_rank.Goals as goal

pub returns : goal.returns
unfolding rank_of
returns c = c.key_number.ensures ∙ ap key_number c.record_key.ensures
