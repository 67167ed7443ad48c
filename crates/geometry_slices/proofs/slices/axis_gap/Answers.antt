use Rattle.std.proofs.Common.{sym, ◌∙◌}
use Rattle.geometry.proofs.GapLaws.{axis_gap_low, axis_gap_high}
use Rattle.geometry_slices.proofs.slices.axis_gap.Goals as goal
use Rattle.geometry_slices.proofs.slices.axis_gap.Goals.{then-below, else-below}

pub returns : goal.returns
returns c =
    let a = c.args in
    elim c.if-below.branch [
      | then-below w ↦ (rw w.x-is at c.gap.ensures ∙ sym (axis_gap_low a.low a.high a.below a.h w.if-below.true c.requires))
      | else-below w ↦ (rw w.x-is at c.gap.ensures ∙ sym (axis_gap_high a.low a.high a.below a.h w.if-below.false))
    ]
