use Rattle.std.proofs.Common.{ap, pos_of_ne-zero, arith}
use Rattle.pagestore.specs.Store.{entries_in}
use Rattle.tree_core.proofs.DeletionLaws.{delete_zero, delete_inner}
use Rattle.tree_delete.proofs.deletion.+delete_at.Goals as goal

pub returns-then-level-eq0 : goal.returns-then-level-eq0
returns-then-level-eq0 t c = let a = c.args in
    delete_zero a.x.features a.level a.index.now a.page a.x.stored c.if-level-eq0.true c.delete_leaf.ensures

pub overflow_sub-level : goal.overflow_sub-level
overflow_sub-level t c = omega (arith, pos_of_ne-zero c.if-level-eq0.false)

pub fix_underflow-requires : goal.fix_underflow-requires
fix_underflow-requires t c = (c.choose_at-i.ensures.1, pos_of_ne-zero c.if-level-eq0.false)

pub returns : goal.returns
returns t c = let a = c.args in
    delete_inner a.x.features a.level a.index.now a.page a.x.stored c.if-level-eq0.false a.x.ranked (ap entries_in c.inner_at-inner.ensures)
    c.choose_at-i.ensures.0 c.child_of-child.ensures c.delete_at-left.ensures c.fix_underflow.ensures
