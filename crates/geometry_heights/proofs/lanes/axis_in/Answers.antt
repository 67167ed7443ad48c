use Rattle.geometry_slices.proofs.PackedLaws.{axis_low, axis_high}
use Rattle.geometry_heights.proofs.lanes.axis_in.Goals as goal

-- `lanes::axis_in` meets its contract: `axis_no` by its test.
pub returns-then-i-d : goal.returns-then-i-d
returns-then-i-d c = let a = c.args in axis_low a.d a.i c.if-i-d.true

pub returns-else-i-d : goal.returns-else-i-d
returns-else-i-d c = let a = c.args in axis_high a.d a.i c.if-i-d.false
