use Rattle.tree_core.proofs.EntryLaws.{bare_is}
use Rattle.tree_core.proofs.entries.bare_entry.Goals as goal

pub returns : goal.returns
returns c = bare_is c.args.page
