use Rattle.std.proofs.Common.{take}
use Rattle.tree_core.proofs.DeletionLaws.{fix_none, fix_rebalanced}
use Rattle.tree_delete.proofs.deletion.fix_underflow.Goals as goal

pub returns-then-left-ge-MIN_ITEMS : goal.returns-then-left-ge-MIN_ITEMS
returns-then-left-ge-MIN_ITEMS c = let a = c.args in
    let W = c.with_entry-next.ensures in
    fix_none a.d a.level a.index.now a.page (take a.inner.count a.inner.entries) a.i a.left c.requires.1 W.0 W.1 c.if-left-ge-MIN_ITEMS.true c.leave_page.ensures

pub returns : goal.returns
returns c = let a = c.args in
    let W = c.with_entry-next.ensures in
    fix_rebalanced a.d a.level a.index.now a.page (take a.inner.count a.inner.entries) a.i a.left c.requires.1 W.0 W.1 c.if-left-ge-MIN_ITEMS.false c.rebalance.ensures
