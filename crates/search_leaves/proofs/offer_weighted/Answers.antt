use Rattle.std.proofs.Common.{refl, ◌∙◌, arith}
use Rattle.search_model.specs.Asked.{asking_point}
use Rattle.search_leaves.specs.Columns.{record_in, weighted_from, most_weighted}
use Rattle.search_leaves.proofs.ColumnLaws.{sums_start, weighted_sums_end}
use Rattle.search_leaves.proofs.LeafLaws.{point_distance}
use Rattle.search_leaves.proofs.offer_weighted.Goals as goal

pub add_weighted_columns-requires : goal.add_weighted_columns-requires
add_weighted_columns-requires c =
    let P = c.requires in let a = c.args in
    record { by = sums_start (weighted_from a.page.now a.weights.now a.q.now) most_weighted _ _ _ _ P.bytes P.point c.lanes-full.ensures.1; number = P.point.number; light = P.point.light }

pub returns : goal.returns
returns c =
    let a = c.args in let O = c.offer_records.ensures in
    record {
      held = O.held;
      rows = O.rows (asking_point a.weights.now a.q.now a.k a.choice) refl (λ i d h p. point_distance a.weights.now a.q.now a.k a.choice (record_in a.page.now i) d c.requires.point.number (p ∙ weighted_sums_end a.page.now a.weights.now a.q.now _ _ c.add_weighted_columns.ensures i (omega (arith, h, c.lanes-full.ensures.0))));
    }
