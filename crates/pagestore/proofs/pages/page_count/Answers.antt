use Rattle.pagestore.specs.Store.{pages_in}
use Rattle.pagestore.proofs.pages.page_count.Goals as goal

pub returns : goal.returns
unfolding pages_in
returns c = c.min.ensures
