use Rattle.std.proofs.Common.{refl}
use Rattle.pagestore_bytes.specs.Bytes.{le_at}
use Rattle.lists.specs.Basics.{tabulate}
use Rattle.pagestore_page.specs.Layout.{record_at}
use Rattle.pagestore_page.proofs.leaves.no_record.Goals as goal

pub returns : goal.returns
unfolding record_at le_at tabulate
returns c = refl
