use Rattle.std.proofs.Common.{◌<◌, length, arith, rules}
use Rattle.lists.specs.Basics.{tabulate}
use Rattle.lists.specs.Tabulated.{tabulate_more, tabulate_done}
use Rattle.pagestore_page.proofs.ReadLaws.{record_whole}
use Rattle.pagestore_page.proofs.leaves.read_record.Goals as goal

pub loop-m-init : goal.loop-m-init
unfolding tabulate
loop-m-init c = search rules

pub loop-m-preserved : goal.loop-m-preserved
loop-m-preserved c =
    let L = c.loop-m in
    let h : L.m < length L.coords = omega arith in
    (search rules, tabulate_more _ L.coords L.m _ h L.invariant.1 c.read_coord.ensures.0)

pub returns : goal.returns
returns c =
    let L = c.loop-m in
    record_whole _ c.args.i _ _ _ _ (search rules) c.read_ident.ensures c.read_stage.ensures c.read_stamp.ensures
    (tabulate_done _ 16 L.coords L.m (omega arith) (omega arith) L.invariant.0 L.invariant.1)
