use Rattle.pagestore_page.proofs.WriteLaws.{freed_put}
use Rattle.pagestore_page.proofs.links.write_freed.Goals as goal

pub returns : goal.returns
returns c = freed_put c.args.page.now _ _ _ _ c.requires c.write.ensures c.write-2.ensures c.clear.ensures
