use Rattle.std.proofs.Common.{rules}
use Rattle.geometry_lanes.specs.Lanes.{weight_of}
use Rattle.geometry_heights.proofs.lanes.owns_of.Goals as goal

pub returns : goal.returns
returns c = c.sides.ensures (weight_of c.args.asked.now) (weight_of c.args.asked.now) (λ m r l p. search rules)
