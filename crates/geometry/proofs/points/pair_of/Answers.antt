use Rattle.std.proofs.Common.{◌-◌, ◌%◌, ◌∙◌}
use Rattle.geometry.proofs.LoopLaws.{top_height, axis_in, pyramid_is}
use Rattle.geometry.proofs.points.pair_of.Goals as goal

-- the axis is a coordinate of the point
pub bounds-p-j : goal.bounds-p-j
bounds-p-j c = (axis_in c.args.p.now _ _ c.requires c.top_lead-top.ensures.0).1

pub pyramid_no-i-requires : goal.pyramid_no-i-requires
pyramid_no-i-requires c = ((axis_in c.args.p.now _ _ c.requires c.top_lead-top.ensures.0).1, c.requires.1)

pub returns : goal.returns
returns c =
    let p = c.args.p.now in
    let t = c.top_lead-top in
    let a = axis_in p _ _ c.requires t.ensures.0 in
    (c.pyramid_no-i.ensures ∙ pyramid_is p (15 - t.result % 16) a.1 a.0, top_height _ _ _ t.ensures.0)
