use Rattle.pagestore_page.proofs.WriteLaws.{entry_put}
use Rattle.pagestore_page.proofs.items.put_entry.Goals as goal

pub returns : goal.returns
returns c = entry_put _ _ _ _ _ c.args.e c.write.ensures c.put_key.ensures c.put_key-2.ensures
