use Rattle.std.proofs.Common.{refl, ap, ◌∙◌}
use Rattle.calendar.specs.Counting.{window_of}
use Rattle.index_query.specs.Asking.{laid_weights}
use Rattle.index_query.proofs.PointLaws.{laid_as, query_for}
use Rattle.index_query.proofs.query_of.Goals as goal

pub returns : goal.returns
returns c =
    let a = c.args in
    query_for a.point.now a.weights.now a.what c.slots_of-slots.result _ c.slots_of-slots.ensures c.requires _ refl _ (c.window_of.ensures ∙ ap window_of c.days.ensures)
    (laid_as c.features_by-features.ensures (ap (laid_weights _) c.weights.ensures))
