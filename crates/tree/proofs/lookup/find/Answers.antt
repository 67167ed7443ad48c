use Rattle.std.proofs.Common.{refl}
use Rattle.tree_core.proofs.LookupLaws.{find_is}
use Rattle.tree.proofs.lookup.find.Goals as goal

pub returns : goal.returns
returns c = let a = c.args in rw (find_is a.index.now a.id c.root_level.ensures c.root_page.ensures refl) at c.find_under.ensures
