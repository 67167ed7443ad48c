use Rattle.std.proofs.Common.{◌<◌, length, arith, rules}
use Rattle.lists.specs.Basics.{tabulate}
use Rattle.lists.specs.Tabulated.{tabulate_more, tabulate_done}
use Rattle.pagestore_page.proofs.ReadLaws.{leaf_whole}
use Rattle.pagestore_page.proofs.leaves.read_leaf.Goals as goal

pub loop-i-init : goal.loop-i-init
unfolding tabulate
loop-i-init c = search rules

pub loop-i-preserved : goal.loop-i-preserved
loop-i-preserved c =
    let L = c.loop-i in
    let h : L.i < length L.records = omega arith in
    (search rules, tabulate_more _ L.records L.i _ h L.invariant.1 c.read_record.ensures)

pub returns : goal.returns
returns c = let L = c.loop-i in leaf_whole _ _ _ c.read_count.ensures (tabulate_done _ 16 L.records L.i (omega arith) (omega arith) L.invariant.0 L.invariant.1)
