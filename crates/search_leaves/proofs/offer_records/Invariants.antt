use Rattle.std.proofs.Common.{◌≡◌, ℕ, ◌<◌}
use Rattle.pagestore_page.specs.Layout.{leaf_of}
use Rattle.pagestore.specs.Store.{records_in}
use Rattle.search_rows.specs.Held.{rows_in, Held}
use Rattle.search_model.specs.Asked.{Asked, distance_to}
use Rattle.search_leaves.specs.Columns.{record_in}
use Rattle.search_leaves.proofs.LeafLaws.{offers_from}
use Rattle.search_leaves.proofs.offer_records.Given as goal

-- The rows held are what offering the records from i on makes of those at the start.
abbrev pub invariant-loop-i : goal.invariant-loop-i
invariant-loop-i g l = record {
  held : Held l.highs l.lows l.rows l.k;
  rows : (q : Asked) → q.choice ≡ l.choice → ((i d : ℕ) → i < l.count → goal.D-post g l.distance i d → d ≡ distance_to q (record_in l.page i))
      → rows_in l.highs l.lows l.rows ≡ offers_from q l.position l.k (records_in (leaf_of l.page)) l.i (rows_in l.initial.highs l.initial.lows l.n);
}
