use Rattle.std.proofs.Common.{rules}
use Rattle.geometry_lanes.specs.Lanes.{end_below, end_above}
use Rattle.geometry_lanes.proofs.SlopeLaws.{low_le, high_le}
use Rattle.geometry_heights.proofs.lanes.ends_of.Goals as goal

pub sides-requires-clause-callable : goal.sides-requires-clause-callable
sides-requires-clause-callable c = λ m l. let low = low_le c.args.asked.now c.requires m l in let high = high_le c.args.asked.now c.requires m l in search rules

pub returns : goal.returns
returns c = c.sides.ensures (end_below c.args.asked.now) (end_above c.args.asked.now) (λ m r l p. search rules)
