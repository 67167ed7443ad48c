use Rattle.std.proofs.Common.{leb, get_or, arith, refl}
use Rattle.lists.specs.Sorting.{count}
use Rattle.search_leaves.proofs.ColumnLaws.{within_more, at_most_one}
use Rattle.search_leaves.proofs.within.Goals as goal

pub loop-r-init : goal.loop-r-init
unfolding count
loop-r-init c = (omega arith, refl)

pub loop-r-preserved : goal.loop-r-preserved
loop-r-preserved c =
    let a = c.args in let r = c.loop-r.r in
    let more = within_more a.limit a.sums.now r (omega arith) in
    let one = at_most_one (leb (get_or a.sums.now r 0) a.limit) in
    (omega (arith, one), omega (arith, more))
