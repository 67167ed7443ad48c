-- Demand 3's set in the letter's own words: on every sound index `to_read`, which goes by bounds, picks the leaves that are `Called`,
-- which goes by points.
use Rattle.std.proofs.Common.{◌≡◌, refl, sym, ap, ◌∙◌, true, ◌⊎◌, inl, inr, List, [], ◌∷◌, map, ℕ, suc, ◌≤◌, ◌<◌, arith, le_trans, le_of_eq, length, length-append, length-take, ltb, leb, ltb-true, ltb-false, lt-ltb, leb-true, le-leb}
use lib.ListN.{length-map}
use Rattle.lists.specs.Basics.{All, all_map, concat_map}
use Rattle.lists.specs.Tests.{false_true, by_cases}
use Rattle.lists.specs.Sorting.{filter, sort}
use Rattle.lists.specs.SortingLaws.{length_sort, filter_all, filter_append}
use Rattle.lists.specs.ConcatMapLaws.{all_every}
use Rattle.lists.specs.Parts.{head_of, last_of}
use Rattle.lists.specs.Ascending.{head_or, last_or}
use Rattle.geometry.specs.Features.{IsBound}
use Rattle.geometry.proofs.BoundLaws.{bound_exact}
use Rattle.search_theory.specs.Nearest.{candidates, nearest, in_set}
use Rattle.search_rows.specs.declared.Row.{Row}
use Rattle.search_rows.specs.Rows.{row_order}
use Rattle.pagestore_page.specs.declared.Record.{Record}
use Rattle.pagestore.specs.Store.{View, view_of}
use Rattle.tree_model.specs.Trees.{Item, no_record, first_key, last_key, rank_of, key_of, tree_of, live, leaves_of}
use Rattle.tree_model.specs.Sound.{SoundIndex}
use Rattle.search_model.specs.Asked.{Asked, candidate, span_bound, Askable}
use Rattle.search_model.specs.Branches.{row_of, rows_among}
use Rattle.search_model.specs.Visit.{ranking}
use Rattle.search_model.specs.Questions.{rows_from, rows_of, leaf_bound, live_candidates, to_read_by, to_read, Near, last_distance, Called}
use Rattle.search_model.proofs.RecordLaws.{Right, from_first, pyramid_in, height_in, real, ordered}
use Rattle.search_model.proofs.FrameLaws.{Ordered, Branching, leaf_records}
use Rattle.search_model.proofs.SoundLaws.{leaf_items, records_leaves, tree_ordered, leaves_ordered, none_held}

-- ---- HOW MANY ROWS THERE ARE

rows_length : (q : Asked) (p : ℕ) (us : List (Item 1)) → length (rows_from q p us) ≡ length (filter (candidate q) (concat_map leaf_items us))
unfolding rows_from rows_among concat_map filter
rows_length q p [] = refl
rows_length q p (u ∷ us) =
    let h = rows_length q (suc p) us in
    rw (length-append (map (row_of q p) (filter (candidate q) u.1)) (rows_from q (suc p) us), filter_append (candidate q) u.1 (concat_map leaf_items us), length-append (filter (candidate q) u.1) (filter (candidate q) (concat_map leaf_items us)), length-map (filter (candidate q) u.1) (row_of q p)) (omega arith)

nearest_length : (v : View) (q : Asked)
    → (length (nearest ranking q.k (rows_of v q)) < q.k → length (live_candidates v q) < q.k) × (length (live_candidates v q) < q.k → length (nearest ranking q.k (rows_of v q)) < q.k)
unfolding nearest candidates rows_of leaves_of live
nearest_length v q =
    let c : length (candidates ranking (rows_of v q)) ≡ length (live_candidates v q) =
    ap (λ (xs : List Row). length (sort row_order xs)) (filter_all (λ x. true) (rows_of v q) (all_every (λ x. refl) (rows_of v q))) ∙ length_sort row_order (rows_of v q) ∙ rows_length q 0 (leaves_of v)
    ∙ ap (λ (rs : List Record). length (filter (candidate q) rs)) (sym (records_leaves v.level (tree_of v))) in
    let t = length-take q.k (candidates ranking (rows_of v q)) in
    (λ h. omega (arith, t, c), λ h. omega (arith, t, c))

-- ---- THE SET

-- few_all: with fewer than k candidates every leaf that holds records is in the set, also one without a candidate
pub few_all : (v : View) (q : Asked) (t : Item 1) → length (live_candidates v q) < q.k → 0 < length t.1 → to_read v q t ≡ true
unfolding to_read_by in_set
few_all v q t few some =
    rw (lt-ltb 0 (length t.1) some, lt-ltb (length (nearest ranking q.k (rows_of v q))) q.k ((nearest_length v q).1 few))

module _ (b : List ℕ) (s : SoundIndex b) (q : Asked) (suits : Askable (view_of b).d q) where
  abbrev v : View
  v = view_of b

  -- the bound of a leaf that holds records is the bound of its span (01)
  leaf_bound_law : (t : Item 1) → Ordered v.d 0 t → 0 < length t.1
      → IsBound q.features (first_key v.d t.1).pyramid.0 (first_key v.d t.1).height.0 (last_key v.d t.1).pyramid.0 (last_key v.d t.1).height.0 (leaf_bound v.d q t)
  unfolding leaf_bound span_bound first_key last_key key_of
  leaf_bound_law t o some =
      let d = v.d in
      let a = head_or no_record t.1 in
      let z = last_or no_record t.1 in
      let up = rw (leaf_records t) at o.up in
      let right = rw (leaf_records t) at o.right in
      let ga : Right d a = head_of no_record some right in
      let gz : Right d z = last_of no_record some right in
      let len = suits.same in
      let l : rank_of d a ≤ rank_of d z = last_of no_record some (from_first (rank_of d) no_record t.1 up) in
      bound_exact q.features (pyramid_in d a) (height_in d a) (pyramid_in d z) (height_in d z) (omega (arith, len, s.d.0)) suits.ordered
      (rw len (real d s.d.0 s.d.1 a ga)) (rw len (real d s.d.0 s.d.1 z gz)) (ordered d s.d.0 s.d.1 a z ga gz l)

  set_leaf_law : (t : Item 1) → Ordered v.d 0 t → 0 < length t.1 → (to_read v q t ≡ true → Called v q t) × (Called v q t → to_read v q t ≡ true)
  unfolding to_read_by in_set
  set_leaf_law t o some =
      let w = leaf_bound_law t o some in
      let n = length (nearest ranking q.k (rows_of v q)) in
      let e : ltb 0 (length t.1) ≡ true = lt-ltb 0 (length t.1) some in
      rw e
      (by_cases (ltb n q.k)
      (λ f. rw f (λ g. record { some = some; reach = inl (omega (arith, (nearest_length v q).0 (ltb-true n q.k f))) }, λ g. refl))
      (λ f. rw f (
        λ g. record {
          some = some;
          reach = inr (record { point = w.point; inside = w.inside; near = le_trans (le_of_eq w.reached) (leb-true _ _ g) });
        },
        λ g. back (ltb-false n q.k f) g.reach,
      )))
    where
      back : q.k ≤ length (nearest ranking q.k (rows_of v q)) → (length (live_candidates v q) < q.k) ⊎ Near v.d q.features t.1 (last_distance v q) → leb (leaf_bound v.d q t) (last_distance v q) ≡ true
      back f (inl g) = let h = (nearest_length v q).1 g in absurd (omega arith)
      back f (inr g) = le-leb _ _ (le_trans ((leaf_bound_law t o some).least g.point g.inside) g.near)

  -- leaves_bound: so for all leaves of the index: `leaf_bound` is reached by a grid point of the span and is least
  pub leaves_bound : 0 < v.total → All (λ t. IsBound q.features (first_key v.d t.1).pyramid.0 (first_key v.d t.1).height.0 (last_key v.d t.1).pyramid.0 (last_key v.d t.1).height.0 (leaf_bound v.d q t)) (leaves_of v)
  unfolding leaves_of Branching
  leaves_bound h = all_map (λ t (o : Ordered v.d 0 t). leaf_bound_law t o o.some) (leaves_ordered v.d v.level (tree_of v) (tree_ordered b s h))

  -- set_points: a leaf is in the set just if it holds records, and fewer than k candidates live or its span has a grid point no
  -- farther than the last row
  pub set_points : All (λ t. (to_read v q t ≡ true → Called v q t) × (Called v q t → to_read v q t ≡ true)) (leaves_of v)
  unfolding leaves_of Branching to_read_by
  set_points =
      by_cases (ltb 0 v.total)
      (λ e. all_map (λ t (o : Ordered v.d 0 t). set_leaf_law t o o.some) (leaves_ordered v.d v.level (tree_of v) (tree_ordered b s (ltb-true 0 v.total e))))
      (λ e. all_map (λ t (n : t.1 ≡ []). rw n (λ f. false_true f, λ f. absurd (let g = f.some in omega (arith, ap length n)))) (none_held b s (omega (arith, ltb-false 0 v.total e))))
