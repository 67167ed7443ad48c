use Rattle.std.proofs.Common.{◌+◌, ◌*◌, arith, add-one}
use Rattle.geometry_slices.specs.Questions.{sum_to}
use Rattle.geometry_lanes.proofs.pulls.pulls.Goals as goal

pub loop-m-init : goal.loop-m-init
unfolding sum_to
loop-m-init g c = (omega arith, omega arith)

pub loop-m-preserved : goal.loop-m-preserved
unfolding sum_to
loop-m-preserved g c =
    let l = c.loop-m in
    let s = c.saturating_sub.ensures in
    let small = c.pull-sum.ensures.1 (omega (arith, s, c.requires.4 (c.args.at + 32 * l.m))) in
    (rw add-one (rw (c.pull-sum.ensures.0, s, l.invariant.0)), omega (arith, small))
