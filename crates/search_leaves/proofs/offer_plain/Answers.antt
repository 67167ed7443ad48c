use Rattle.std.proofs.Common.{ℕ, min, refl, sym, ap, ◌∙◌, arith}
use Rattle.search_model.specs.Asked.{asking_point}
use Rattle.search_leaves.specs.Columns.{record_in}
use Rattle.search_leaves.specs.Offering.{ones}
use Rattle.search_leaves.proofs.ColumnLaws.{sums_start, sums_end}
use Rattle.search_leaves.proofs.LeafLaws.{plain_point_distance, none_offered}
use Rattle.search_leaves.proofs.offer_plain.Goals as goal

pub add_columns-requires : goal.add_columns-requires
add_columns-requires c = sums_start _ _ _ _ _ _ c.requires.bytes c.requires.point c.lanes-full.ensures.1

pub returns-then-within-eq0 : goal.returns-then-within-eq0
returns-then-within-eq0 c =
    let a = c.args in
    let number = c.filled-count.ensures ∙ ap (λ (x : ℕ). min x 16) c.read_count.ensures in
    none_offered a.page.now a.q.now a.position a.k a.choice a.n _ _ a.highs.now a.lows.now _ c.requires.held c.add_columns.ensures (omega (arith, number, c.lanes-full.ensures.0)) c.limit_of.ensures (sym c.within.ensures ∙ c.if-within-eq0.true)

pub returns : goal.returns
returns c =
    let a = c.args in let O = c.offer_records.ensures in
    record {
      held = O.held;
      rows = O.rows (asking_point (ones a.q.now) a.q.now a.k a.choice) refl (λ i d h p. plain_point_distance a.q.now a.k a.choice (record_in a.page.now i) d (p ∙ sums_end a.page.now a.q.now _ _ c.add_columns.ensures i (omega (arith, h, c.lanes-full.ensures.0))));
    }
