use Rattle.pagestore_page.specs.Layout.{link_of}
use Rattle.pagestore_page.proofs.links.read_link.Goals as goal

pub returns : goal.returns
unfolding link_of
returns c = c.read.ensures
