use Rattle.geometry_bounds.proofs.SpanBoundLaws.{heights_over}
use Rattle.geometry_bounds.proofs.bounds.fill_near.Goals as goal

pub returns : goal.returns
returns c = heights_over c.args.asked.now _ _ c.fill_heights.ensures.0 c.fill_rows.ensures
