use Rattle.std.proofs.Common.{◌≡◌, arith, rules}
use Rattle.pagestore_page.specs.Layout.{put_coords}
use Rattle.pagestore_page.proofs.WriteLaws.{coords_next}
use Rattle.pagestore_page.proofs.leaves.put_coords.Goals as goal

pub loop-m-init : goal.loop-m-init
unfolding put_coords
loop-m-init c = search rules

pub loop-m-preserved : goal.loop-m-preserved
loop-m-preserved c = coords_next _ _ _ _ c.loop-m.m _ c.loop-m.invariant c.write.ensures

pub returns : goal.returns
returns c = let L = c.loop-m in let e : L.m ≡ 16 = omega arith in rw e at L.invariant
