use Rattle.std.proofs.Common.{refl, pos_of_ne-zero, arith}
use Rattle.tree_keyed.proofs.KeyedLaws.{for_leaf, for_inner}
use Rattle.tree_keyed.proofs.keyed.+leaf_for.Goals as goal

pub returns-then-level-eq0 : goal.returns-then-level-eq0
returns-then-level-eq0 t c = let a = c.args in for_leaf a.level a.index.now a.page a.rank c.if-level-eq0.true

pub overflow_sub-level : goal.overflow_sub-level
overflow_sub-level t c = omega (arith, pos_of_ne-zero c.if-level-eq0.false)

pub returns : goal.returns
returns t c = let a = c.args in
    for_inner a.level a.index.now a.page a.rank c.if-level-eq0.false refl c.choose_at-i.ensures.0 c.child_of-child.ensures c.leaf_for.ensures
