use Rattle.std.proofs.Common.{arith}
use Rattle.pagestore_page.specs.Layout.{leaf_of}
use Rattle.pagestore_page.proofs.leaves.read_count.Goals as goal

pub returns : goal.returns
unfolding leaf_of
returns c = omega (arith, c.type_inv.page 1)
