use Rattle.std.proofs.Common.{arith, pos, ◌-ℤ◌, w16}
use mir.Facts.{to_z_pos}
use Rattle.search_leaves.proofs.WordLaws.{fits_16, back_16, gap_most}
use Rattle.search_leaves.proofs.columns.gap_of.Goals as goal

pub overflow_sub-result : goal.overflow_sub-result
overflow_sub-result c =
    let x = c.args.x in let y = c.args.y in
    rw (to_z_pos w16 {n = x} (omega (arith, c.requires.0)), to_z_pos w16 {n = y} (omega (arith, c.requires.1))) (fits_16 (pos x -ℤ pos y) (gap_most x y c.requires.0 c.requires.1))

pub returns : goal.returns
returns c =
    let x = c.args.x in let y = c.args.y in
    rw (to_z_pos w16 {n = x} (omega (arith, c.requires.0)), to_z_pos w16 {n = y} (omega (arith, c.requires.1))) (back_16 (pos x -ℤ pos y) (gap_most x y c.requires.0 c.requires.1))
