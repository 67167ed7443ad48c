use Rattle.std.proofs.Common.{refl}
use Rattle.tree_core.proofs.RootLaws.{grow_one, grow_two}
use Rattle.tree_insert.proofs.roots.grow_root.Goals as goal

pub returns-in-Two : goal.returns-in-Two
returns-in-Two c = let a = c.args in
    let T = c.take_page-page.ensures in
    rw c.in-Two.is (grow_two a.level a.index.now c.in-Two.e c.in-Two.f refl T.0 T.1 refl refl c.write.ensures.bytes c.set_root_page.ensures c.set_root_level.ensures)

pub returns-in_default : goal.returns-in_default
returns-in_default c = rw c.in_default.is (grow_one _ _ _)
