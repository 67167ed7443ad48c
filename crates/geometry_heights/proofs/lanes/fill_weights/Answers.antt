use Rattle.std.proofs.Common.{arith, rules}
use Rattle.geometry_slices.proofs.PackedLaws.{asked_few}
use Rattle.geometry_heights.proofs.FillLaws.{weights_more}
use Rattle.geometry_heights.proofs.lanes.fill_weights.Goals as goal

pub loop-m-preserved : goal.loop-m-preserved
loop-m-preserved c =
    let l = c.loop-m in
    weights_more c.args.asked.now l.weights c.args.n l.m c.requires.1 (omega (arith, asked_few c.args.asked.now c.requires.0.packed)) l.invariant _
    (c.fill.ensures.after (λ y e. search rules))
