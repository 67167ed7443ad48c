use Rattle.std.proofs.Common.{arith}
use Rattle.lists.specs.Lengths.{zero_at}
use Rattle.geometry_heights.proofs.heights.nearest_lanes.Goals as goal

pub search_lanes-requires : goal.search_lanes-requires
search_lanes-requires c = (c.requires, record { long = omega arith; zeros = zero_at 512 }, omega arith, record { long = omega arith; zeros = zero_at 32 })
