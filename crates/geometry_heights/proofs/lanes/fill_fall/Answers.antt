use Rattle.std.proofs.Common.{ap, ◌∙◌, arith}
use Rattle.geometry_lanes.specs.Lanes.{odd_of}
use Rattle.geometry_lanes.proofs.SlopeLaws.{low_le}
use Rattle.geometry_slices.proofs.PackedLaws.{asked_few}
use Rattle.geometry_heights.proofs.FillLaws.{reach_at_most, falls_more}
use Rattle.geometry_heights.proofs.lanes.fill_fall.Goals as goal

pub fill_lanes-requires : goal.fill_lanes-requires
fill_lanes-requires c =
    let a = c.args in
    let p = c.requires in
    (omega (arith, p.1, asked_few a.asked.now p.0.asked.packed), p.0.few, reach_at_most a.asked.now p.0.asked a.m p.1, p.2.long, p.0.lined.long)

pub odd-requires-2 : goal.odd-requires-2
odd-requires-2 c = omega (arith, c.saturating_sub-2.ensures, low_le c.args.asked.now c.requires.0.asked c.args.m c.requires.1)

pub returns : goal.returns
returns c =
    let a = c.args in
    let p = c.requires in
    falls_more a.asked.now a.axes.now a.falls.now _ a.m a.n _ _ p.0.asked p.0.few p.0.cover p.1 p.0.lined p.2 c.fill_lanes.ensures
    (c.odd.ensures ∙ ap odd_of c.saturating_sub.ensures) (c.odd-2.ensures ∙ ap odd_of c.saturating_sub-2.ensures)
