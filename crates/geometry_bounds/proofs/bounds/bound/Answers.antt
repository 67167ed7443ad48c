use Rattle.std.proofs.Common.{◌∙◌}
use Rattle.geometry.proofs.BoundLaws.{bound_read}
use Rattle.geometry_slices.proofs.PackedLaws.{asked_length}
use Rattle.geometry_slices.specs.Questions.{asked_of}
use Rattle.geometry_bounds.proofs.bounds.bound.Goals as goal

pub returns : goal.returns
returns c =
    let a = c.args in
    c.bound_between.ensures
    ∙ bound_read (asked_of a.asked.now) _ a.first.pyramid.0 a.first.height.0 a.last.pyramid.0 a.last.height.0 _ _ _ _ (asked_length a.asked.now c.requires.heights.rows.packed) c.last_pyramid-i1.ensures c.min-h1.ensures c.last_pyramid-i2.ensures c.min-h2.ensures
