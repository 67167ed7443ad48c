use Rattle.pagestore.specs.Store.{view_of}
use Rattle.sound_check.proofs.FinishLaws.{clear_zeros, lent_zeros}
use Rattle.sound_check.proofs.check_with.Goals as goal

pub check_ground-requires : goal.check_ground-requires
check_ground-requires g c = let z = clear_zeros (view_of c.args.index.now) g.row.PAGES c.requires.pages in (z, z)

pub check_tree-requires : goal.check_tree-requires
check_tree-requires g c =
    let s = c.in_ok-check_ground.ensures in
    (s.0, s.1, lent_zeros (view_of c.args.index.now) g.row.PAGES g.row.POINTS c.requires.pages c.requires.points)
