use Rattle.std.proofs.Common.{arith}
use Rattle.geometry_slices.specs.Questions.{sum_to}
use Rattle.geometry_lanes.proofs.FallLaws.{fall_small, falls_next}
use Rattle.geometry_lanes.proofs.pulls.falls.Goals as goal

pub loop-m-init : goal.loop-m-init
unfolding sum_to
loop-m-init g c = (omega arith, omega arith)

pub loop-m-preserved : goal.loop-m-preserved
loop-m-preserved g c =
    let a = c.args in let l = c.loop-m in
    let s = c.saturating_sub-sum.ensures in
    let small = fall_small a.falls.now a.t c.requires.3 _ _ s in
    (falls_next a.falls.now a.t a.at _ l.m _ _ l.invariant.0 s (omega arith), omega (arith, small))
