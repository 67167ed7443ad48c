use Rattle.std.proofs.Common.{rules}
use Rattle.pagestore_page.proofs.ReadLaws.{entry_is}
use Rattle.pagestore_page.proofs.items.get_entry.Goals as goal

pub returns : goal.returns
returns c = search (entry_is, rules)
