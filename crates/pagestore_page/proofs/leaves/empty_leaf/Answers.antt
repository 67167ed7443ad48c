use Rattle.pagestore_bytes.specs.Bytes.{le_at}
use Rattle.lists.specs.Basics.{tabulate}
use Rattle.pagestore_page.specs.Layout.{record_at, leaf_of}
use Rattle.pagestore_page.proofs.leaves.empty_leaf.Goals as goal

pub returns : goal.returns
unfolding leaf_of record_at le_at tabulate
returns c = rw c.no_record.ensures
