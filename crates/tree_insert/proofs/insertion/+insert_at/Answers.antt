use Rattle.std.proofs.Common.{ap, pos_of_ne-zero, arith}
use Rattle.pagestore_page.specs.declared.Inner.{Inner}
use Rattle.pagestore.specs.Store.{entries_in}
use Rattle.tree_core.proofs.InsertionLaws.{level_zero, inner_step}
use Rattle.tree_insert.proofs.insertion.+insert_at.Goals as goal

pub returns-then-level-eq0 : goal.returns-then-level-eq0
returns-then-level-eq0 t c = let a = c.args in
    level_zero a.x.features a.level a.index.now a.page a.x.stored c.if-level-eq0.true c.insert_leaf.ensures

pub overflow_sub-level : goal.overflow_sub-level
overflow_sub-level t c = omega (arith, pos_of_ne-zero c.if-level-eq0.false)

pub put_inner-requires : goal.put_inner-requires
put_inner-requires t c = let C = c.choose_at-i.ensures in
    (C.1, omega (arith, C.2, ap (λ (m : Inner). m.count) c.inner_at-inner.ensures))

pub returns : goal.returns
returns t c = let a = c.args in
    inner_step a.x.features a.level a.index.now a.page a.x.stored c.if-level-eq0.false a.x.ranked (ap entries_in c.inner_at-inner.ensures)
    c.choose_at-i.ensures.0 c.child_of-child.ensures c.insert_at-grown.ensures c.put_inner.ensures
