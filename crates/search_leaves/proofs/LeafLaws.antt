-- The steps of offering a leaf's records.
use Rattle.std.proofs.Common.{◌≡◌, refl, sym, ap, ◌∙◌, true, false, List, [], ◌∷◌, map, ℤ, ℕ, zero, suc, ◌+◌, ◌*◌, ◌-◌, ◌≤◌, ◌<◌, min, arith, le_refl, mul-le-mul, length, take, drop, get_or, replicate, length-take, take_all}
use lib.ListN.{length-replicate}
use Rattle.lists.specs.Sorting.{filter, count}
use Rattle.lists.specs.SortingLaws.{filter_first, filter_past, offer_take, offer_all_take, ins_all_ins}
use Rattle.lists.specs.Sorting as sorting
use Rattle.lists.specs.Tests.{by_cases}
use Rattle.geometry.specs.Points.{distance}
use Rattle.geometry.specs.Features.{weighted, weighted_distance}
use Rattle.geometry.specs.Stored.{point_of}
use Rattle.geometry.proofs.WeightLaws.{weighted_distance_law, weighted_length, ones_distance}
use Rattle.geometry.proofs.StoredLaws.{length_point, point_take}
use Rattle.pagestore_page.specs.declared.Record.{Record}
use Rattle.pagestore_page.specs.declared.Leaf.{Leaf}
use Rattle.pagestore_page.specs.Layout.{leaf_of, no_record}
use Rattle.pagestore_page.specs.LayoutLaws.{leaf_slots}
use Rattle.pagestore.specs.Store.{in_range, leaf_at, records_in}
use Rattle.pagestore.specs.Store.PageLaws.{leaf_part, leaf_view, page_none}
use Rattle.tree_model.specs.Trees.{point_in}
use Rattle.tree.proofs.CountLaws.{items_next, items_end}
use Rattle.search_rows.specs.declared.Row.{Row}
use Rattle.search_rows.specs.Rows.{row_order}
use Rattle.search_rows.specs.Held.{rows_of, rows_in, behind_all, Held, Offered}
use Rattle.search_rows.proofs.RowLaws.{row_order_law}
use Rattle.search_rows.proofs.HeldLaws.{offered_behind}
use Rattle.search_model.specs.declared.Choice.{Choice}
use Rattle.search_model.specs.Asked.{Asked, distance_to, candidate, asking, asking_point}
use Rattle.search_model.specs.Branches.{row_of, rows_among}
use Rattle.search_leaves.specs.Columns.{record_in, row_at, most_cost, Sums, not_past, BehindPast}
use Rattle.search_model.specs.Asked.{low_ends, weights_in, Seekable}
use Rattle.search_leaves.specs.Offering.{OfferedAll, ones}
use Rattle.search_leaves.proofs.ColumnLaws.{sums_end, none_within}

-- ---- OFFERING

-- only as many coordinates count as the asked point has
first_coords : (ws : List ℕ) (q p : List ℤ) → weighted_distance ws q (take (length q) p) ≡ weighted_distance ws q p
unfolding weighted_distance
first_coords [] q p = refl
first_coords (w ∷ ws) [] p = refl
first_coords (w ∷ ws) (x ∷ q) [] = refl
first_coords (w ∷ ws) (x ∷ q) (y ∷ p) = rw (first_coords ws q p)

-- the distance from a point and its weights, whose coordinates are as stored
pub point_distance : (ws q : List ℕ) (k : ℕ) (c : Choice) (x : Record) (D : ℕ) → length ws ≡ length q → D ≡ weighted_distance ws (point_of q) (point_of x.coords) → D ≡ distance_to (asking_point ws q k c) x
unfolding distance_to
point_distance ws q k c x D l e =
    let fs = weighted ws (point_of q) in
    let n : length fs ≡ length q = weighted_length ws (point_of q) (l ∙ sym (length_point q)) ∙ length_point q in
    e ∙ sym (weighted_distance_law ws (point_of q) (point_in (length fs) x)
    ∙ ap (λ (m : ℕ). weighted_distance ws (point_of q) (point_in m x)) n
    ∙ ap (λ (p : List ℤ). weighted_distance ws (point_of q) p) (point_take (length q) x.coords) ∙ ap (λ (m : ℕ). weighted_distance ws (point_of q) (take m (point_of x.coords))) (sym (length_point q))
    ∙ first_coords ws (point_of q) (point_of x.coords))

-- and from one without weights
pub plain_point_distance : (q : List ℕ) (k : ℕ) (c : Choice) (x : Record) (D : ℕ) → D ≡ distance (point_of q) (point_of x.coords) → D ≡ distance_to (asking_point (ones q) q k c) x
plain_point_distance q k c x D e =
    let same : ones q ≡ replicate (length (point_of q)) 1 = ap (λ (n : ℕ). replicate n 1) (sym (length_point q)) in
    point_distance (ones q) q k c x D (length-replicate {A = ℕ} (length q) 1)
    (e ∙ sym (ones_distance (point_of q) (point_of x.coords)) ∙ ap (λ (ws : List ℕ). weighted_distance ws (point_of q) (point_of x.coords)) (sym same))

-- a row offered last
offer_last : (k : ℕ) (x : Row) (xs s : List Row) → length s ≤ k
    → sorting.offer_all row_order k xs (sorting.offer row_order k x s) ≡ sorting.offer row_order k x (sorting.offer_all row_order k xs s)
unfolding sorting.insert_all
offer_last k x xs s h =
    let f = sorting.offer_all row_order k in
    let short : take k s ≡ s = take_all k s h in
    ap (λ (t : List Row). f xs (sorting.offer row_order k x t)) (sym short) ∙ ap (f xs) (offer_take row_order k x s) ∙ offer_all_take row_order k xs (sorting.insert_by row_order x s)
    ∙ ap (take k) (ins_all_ins row_order row_order_law xs x s) ∙ sym (offer_take row_order k x (sorting.insert_all row_order xs s))
    ∙ ap (sorting.offer row_order k x) (sym (offer_all_take row_order k xs s) ∙ ap (f xs) short)

-- one record: its row where it is a candidate, and no row where it is not
module _ (q : Asked) (position : ℕ) (x : Record) where
  pub among_one : candidate q x ≡ true → rows_among q position (x ∷ []) ≡ row_of q position x ∷ []
  unfolding rows_among filter
  among_one e = ap (map (row_of q position)) (filter_first (candidate q) x [] e)

  pub among_none : candidate q x ≡ false → rows_among q position (x ∷ []) ≡ []
  unfolding rows_among filter
  among_none e = ap (map (row_of q position)) (filter_past (candidate q) x [] e)

  -- of k rows or fewer it makes no difference whether the first record is offered first or last
  among_last : (rs : List Record) (k : ℕ) (s : List Row) → length s ≤ k
      → sorting.offer_all row_order k (rows_among q position (x ∷ rs)) s ≡ sorting.offer_all row_order k (rows_among q position (x ∷ [])) (sorting.offer_all row_order k (rows_among q position rs) s)
  unfolding rows_among sorting.offer_all filter
  among_last rs k s h = by_cases (candidate q x) (λ e. rw e (offer_last k (row_of q position x) (map (row_of q position) (filter (candidate q) rs)) s h)) (λ e. rw e)

-- ---- ONE RECORD

-- the record in slot i of a leaf page is offered if it is a candidate, at that distance from whatever is asked
pub record OfferedRecord (page : List ℕ) (i distance position : ℕ) (highs lows : List ℕ) (n k : ℕ)
    (c : Choice) (r : ℕ) (highs' lows' : List ℕ) : Type 0 where
  pub held : Held highs' lows' r k
  pub rows : (q : Asked) → q.choice ≡ c → distance ≡ distance_to q (record_in page i)
      → rows_in highs' lows' r ≡ sorting.offer_all row_order k (rows_among q position (record_in page i ∷ [])) (rows_in highs lows n)

module _ (page : List ℕ) (i D position : ℕ) (highs lows : List ℕ) (n k : ℕ) (choice : Choice) where
  abbrev here : Record
  here = record_in page i

  row_is : (q : Asked) → D ≡ distance_to q here → row_at page i D position ≡ row_of q position here
  unfolding row_of
  row_is q e = λ j. record { distance = e j; id = here.id; stamp = here.stamp; position = position }

  -- whether it is a candidate or not, a row behind all rows held changes nothing
  pub record_behind : Held highs lows n k → behind_all highs n k D ≡ true → OfferedRecord page i D position highs lows n k choice n highs lows
  unfolding sorting.offer_all
  record_behind h b =
      record {
        held = h;
        rows = λ q _ e.
            by_cases (candidate q here)
            (λ c. rw (among_one q position here c, ← row_is q e) (offered_behind highs lows n k (row_at page i D position) h b).rows)
            (λ c. rw (among_none q position here c));
      }

  pub record_passed : Held highs lows n k → ((q : Asked) → q.choice ≡ choice → candidate q here ≡ false) → OfferedRecord page i D position highs lows n k choice n highs lows
  unfolding sorting.offer_all
  record_passed h c = record { held = h; rows = λ q w e. rw (among_none q position here (c q w)) }

  pub record_taken : (r : ℕ) (highs' lows' : List ℕ) → ((q : Asked) → q.choice ≡ choice → candidate q here ≡ true) → Offered highs lows n k (row_at page i D position) r highs' lows'
      → OfferedRecord page i D position highs lows n k choice r highs' lows'
  unfolding sorting.offer_all
  record_taken r highs' lows' c o = record { held = o.held; rows = λ q w e. rw (among_one q position here (c q w), ← row_is q e) o.rows }

-- ---- A LEAF

-- what offering the records from place i on to rows makes of them
unfoldable pub offers_from : Asked → ℕ → ℕ → List Record → ℕ → List Row → List Row
unfolding rows_among
offers_from q position k rs i s = sorting.offer_all row_order k (rows_among q position (drop i rs)) s

module _ (page : List ℕ) (q : Asked) (position k : ℕ) (leaf : Leaf) (is : leaf ≡ leaf_of page) (n : ℕ) (number : n ≡ min leaf.count 16) where
  pub record_slots : length leaf.records ≡ 16
  record_slots = ap (λ (x : Leaf). length x.records) is ∙ leaf_slots page

  pub offers_next : (i : ℕ) (d : Record) (s t : List Row) → i < n → length s ≤ k → t ≡ offers_from q position k (records_in leaf) (i + 1) s
      → offers_from q position k (records_in leaf) i s ≡ sorting.offer_all row_order k (rows_among q position (get_or leaf.records i d ∷ [])) t
  unfolding offers_from
  offers_next i d s t h short f =
      rw (items_next leaf.count leaf.records record_slots i d (omega arith), f)
      (among_last q position (get_or leaf.records i d) (drop (i + 1) (records_in leaf)) k s short)

  pub offers_end : (i : ℕ) (s : List Row) → n ≤ i → offers_from q position k (records_in leaf) i s ≡ s
  unfolding offers_from sorting.offer_all filter
  offers_end i s h = rw (items_end leaf.count leaf.records record_slots i (omega arith))

  pub offers_all : (s : List Row) → offers_from q position k (records_in leaf) 0 s ≡ sorting.offer_all row_order k (rows_among q position (records_in (leaf_of page))) s
  unfolding offers_from
  offers_all s = rw is

  -- where no record changes the rows held, they stay as they are; m: how many records there are from i on
  pub offers_none : (s : List Row) → length s ≤ k → ((i : ℕ) → i < n → s ≡ sorting.offer_all row_order k (rows_among q position (get_or leaf.records i no_record ∷ [])) s) → (m i : ℕ) → i + m ≡ n
      → offers_from q position k (records_in leaf) i s ≡ s
  offers_none s short h zero i l = offers_end i s (omega arith)
  offers_none s short h (suc m) i l =
      offers_next i no_record s s (omega arith) short (sym (offers_none s short h m (i + 1) (omega arith))) ∙ sym (h i (omega arith))

-- one record more is offered, whose distance is told
pub one_offered : (post : ℕ → ℕ → Type 0) (page : List ℕ) (count position k : ℕ) (c : Choice) → count ≡ min (leaf_of page).count 16 → (s : List Row) → length s ≤ k
    → (highs lows : List ℕ) (n i j d r : ℕ) (highs' lows' : List ℕ) → i ≡ j + 1 → j < count → post j d
    → ((q : Asked) → q.choice ≡ c → ((m d : ℕ) → m < count → post m d → d ≡ distance_to q (record_in page m)) → rows_in highs lows n ≡ offers_from q position k (records_in (leaf_of page)) i s)
    → OfferedRecord page j d position highs lows n k c r highs' lows'
    → (q : Asked) → q.choice ≡ c → ((m d : ℕ) → m < count → post m d → d ≡ distance_to q (record_in page m)) → rows_in highs' lows' r ≡ offers_from q position k (records_in (leaf_of page)) j s
one_offered post page count position k c number s short highs lows n i j d r highs' lows' e h p before o q w told =
    o.rows q w (told j d h p)
    ∙ sym (offers_next page q position k (leaf_of page) refl count number j no_record s (rows_in highs lows n) h short (before q w told ∙ ap (λ (x : ℕ). offers_from q position k (records_in (leaf_of page)) x s) e))

-- no more than k rows are held
pub held_few : (highs lows : List ℕ) (n k : ℕ) → Held highs lows n k → length (rows_in highs lows n) ≤ k
held_few highs lows n k h = let f = h.few in rw (length-take n (rows_of highs lows)) (omega arith)

-- a leaf of which no distance is near enough leaves the rows as they are
module _ (page q : List ℕ) (position k : ℕ) (choice : Choice) (n full limit : ℕ) (highs lows sums : List ℕ) (held : Held highs lows n k) (s : Sums page q (length q) full sums)
    (enough : min (leaf_of page).count 16 ≤ full) (past : BehindPast highs n k limit) (none : count (not_past limit) (take full sums) ≡ 0) where
  far : (i : ℕ) → i < full → behind_all highs n k (get_or sums i 0) ≡ true
  far i h =
      let few = s.sized.few in let m = s.sized.most in let w = s.slots in
      let low = s.low i h in
      let top : most_cost * length q ≤ most_cost * 16 = mul-le-mul (le_refl most_cost) m in
      past (get_or sums i 0) (omega arith) (none_within limit full sums none i h (omega arith))

  unmoved : (i : ℕ) → i < full → rows_in highs lows n ≡ sorting.offer_all row_order k (rows_among (asking_point (ones q) q k choice) position (record_in page i ∷ [])) (rows_in highs lows n)
  unmoved i h =
      (record_behind page i (get_or sums i 0) position highs lows n k choice held (far i h)).rows (asking_point (ones q) q k choice) refl
      (plain_point_distance q k choice (record_in page i) (get_or sums i 0) (sums_end page q full sums s i h))

  pub none_offered : OfferedAll highs lows n k (rows_among (asking_point (ones q) q k choice) position (records_in (leaf_of page))) n highs lows
  none_offered =
      let c = min (leaf_of page).count 16 in
      record {
        held = held;
        rows = sym (offers_none page (asking_point (ones q) q k choice) position k (leaf_of page) refl c refl (rows_in highs lows n) (held_few highs lows n k held) (λ i h. unmoved i (omega arith)) c 0 (omega arith))
            ∙ offers_all page (asking_point (ones q) q k choice) position k (leaf_of page) refl c refl (rows_in highs lows n);
      }

-- ---- A PAGE OF THE INDEX

-- the part of the index at a page holds its leaf, and the low ends and weights of a question are the point's
pub offered_part : (b : List ℕ) (p : ℕ) (asked ws : List ℕ) (position : ℕ) (highs lows : List ℕ) (n k : ℕ) (c : Choice) (r : ℕ) (highs' lows' : List ℕ) → in_range b p ≡ true → Seekable asked → ws ≡ weights_in asked
    → OfferedAll highs lows n k (rows_among (asking_point ws (low_ends asked) k c) position (records_in (leaf_of (take (p * 1024 + 1024 - p * 1024) (drop (p * 1024) b))))) r highs' lows'
    → OfferedAll highs lows n k (rows_among (asking asked k c) position (records_in (leaf_at b p))) r highs' lows'
offered_part b p asked ws position highs lows n k c r highs' lows' e s w h =
    rw (s.is, ← w) (rw (leaf_part b p (p * 1024 + 1024 - p * 1024) (omega arith) e) at h)

-- and out of range there are no records
pub offered_outside : (b : List ℕ) (p : ℕ) (q : Asked) (position : ℕ) (highs lows : List ℕ) (n k : ℕ) → in_range b p ≡ false → Held highs lows n k
    → OfferedAll highs lows n k (rows_among q position (records_in (leaf_at b p))) n highs lows
unfolding sorting.offer_all rows_among filter
offered_outside b p q position highs lows n k e h = rw (leaf_view b p 0 [] (page_none b p e)).records (record { held = h; rows = refl })
