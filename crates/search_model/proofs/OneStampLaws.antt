-- Where all stamps are equal, rows and count are those of 01's tie rule (02, Q-9: "01's examples are as before when all stamps are 0"); whatever
-- they are, the rows' distances and the count.
use Rattle.std.proofs.Common.{◌≡◌, sym, ap, ◌∙◌, Bool, true, ◌&&◌, ◌||◌, List, [], ◌∷◌, map, ℕ, suc, ◌-◌, ◌≤◌, ltb, leb, length, get_or}
use lib.ListN.{length-map}
use Rattle.lists.specs.Basics.{All, none, all_append, all_left, all_right, concat_map}
use Rattle.lists.specs.Sorting.{count, filter}
use Rattle.lists.specs.SortingLaws.{filter_append, all_filter}
use Rattle.lists.specs.ConcatMapLaws.{all_mapped}
use Rattle.search_theory.specs.Nearest.{nearest, in_set, kth}
use Rattle.search_rows.specs.declared.Row.{Row}
use Rattle.search_rows.specs.Rows.{distance, stamp}
use Rattle.search_rows.proofs.RowLaws.{one_stamp, tie_idle}
use Rattle.pagestore.specs.Store.{View, view_of}
use Rattle.tree_model.specs.Trees.{Item, tree_of, live, leaves_of}
use Rattle.tree_model.specs.Sound.{SoundIndex}
use Rattle.search_model.specs.Asked.{Asked, candidate, LeavesOutNone, Askable}
use Rattle.search_model.specs.Branches.{row_of, rows_among}
use Rattle.search_model.specs.Visit.{ranking, Answer, found}
use Rattle.search_model.specs.Questions.{rows_from, rows_of, leaf_bound, live_candidates, to_read_by, to_read}
use Rattle.search_model.specs.FullSet.{in_plain_set, plain_due}
use Rattle.search_model.specs.OneStamp.{id_ranking, due_by_id, OneStamp, OneStampLive}
use Rattle.search_model.proofs.SoundLaws.{leaf_items, records_leaves}
use Rattle.search_model.proofs.ExactLaws.{found_exact}
use Rattle.search_model.proofs.FullSetLaws.{all_rows_law}

module _ (q : Asked) (P : ℕ → Type 0) where
  rows_stamp : (p : ℕ) (us : List (Item 1)) → All (λ r. P r.stamp) (filter (candidate q) (concat_map leaf_items us)) → All (λ x. P (stamp x)) (rows_from q p us)
  unfolding rows_from rows_among row_of concat_map filter
  rows_stamp p [] a = none
  rows_stamp p (u ∷ us) a =
      let c = candidate q in
      let b = rw (filter_append c u.1 (concat_map leaf_items us)) at a in
      all_append (all_mapped (row_of q p) (filter c u.1) (all_left (filter c u.1) (filter c (concat_map leaf_items us)) b))
      (rows_stamp (suc p) us (all_right (filter c u.1) (filter c (concat_map leaf_items us)) b))

  -- what holds of the candidates' stamps holds of the rows'
  pub rows_stamped : (v : View) → All (λ r. P r.stamp) (live_candidates v q) → All (λ x. P (stamp x)) (rows_of v q)
  unfolding rows_of leaves_of live
  rows_stamped v a = rows_stamp 0 (leaves_of v) (rw (records_leaves v.level (tree_of v)) at a)

module _ (q : Asked) (s : ℕ) where
  same_nearest : (v : View) → OneStamp v q s → nearest ranking q.k (rows_of v q) ≡ nearest id_ranking q.k (rows_of v q)
  same_nearest v a = one_stamp (λ x. true) s q.k (rows_of v q) (rows_stamped q (λ n. n ≡ s) v a)

-- ---- WHATEVER THE STAMPS

-- whether a leaf is in the set goes by the distances of the nearest
same_in : (k b : ℕ) (xs ys : List Row) → map distance xs ≡ map distance ys
    → (ltb (length xs) k || leb b (get_or (map distance xs) (length xs - 1) 0)) ≡ (ltb (length ys) k || leb b (get_or (map distance ys) (length ys - 1) 0))
same_in k b xs ys e =
    let l : length xs ≡ length ys = sym (length-map xs distance) ∙ ap length e ∙ length-map ys distance in
    rw (e, l)

module _ (v : View) (q : Asked) where
  same_leaf : (t : Item 1) → to_read v q t ≡ to_read_by id_ranking v q t
  unfolding to_read_by in_set kth
  same_leaf t =
      ap (λ (x : Bool). ltb 0 (length t.1) && x)
      (same_in q.k (leaf_bound v.d q t) (nearest ranking q.k (rows_of v q)) (nearest id_ranking q.k (rows_of v q)) (tie_idle (λ x. true) q.k (rows_of v q)))

  -- the set of leaves is that of 01's tie rule
  pub same_set : to_read v q ≡ to_read_by id_ranking v q
  same_set i t = same_leaf t i

-- found_any_stamp: the distances of the rows, in order, and the number of leaves read are those that 01's tie rule calls for
pub found_any_stamp : (b : List ℕ) → SoundIndex b → (q : Asked) → Askable (view_of b).d q → 1 ≤ q.k
    → (map distance (found b q).rows ≡ map distance (due_by_id (view_of b) q).rows) × ((found b q).leaves ≡ (due_by_id (view_of b) q).leaves)
found_any_stamp b w q suits one =
    let e = found_exact b w q suits one in
    let v = view_of b in (
      ap (λ (x : Answer). map distance x.rows) e ∙ tie_idle (λ x. true) q.k (rows_of v q),
      ap (λ (x : Answer). x.leaves) e ∙ ap (λ (f : Item 1 → Bool). count f (leaves_of v)) (same_set v q),
    )

-- ---- ONE STAMP

-- found_one_stamp: whichever stages and days are asked for, the candidates having one stamp
pub found_one_stamp : (b : List ℕ) → SoundIndex b → (q : Asked) → Askable (view_of b).d q → 1 ≤ q.k → (s : ℕ) → OneStamp (view_of b) q s → found b q ≡ due_by_id (view_of b) q
found_one_stamp b w q suits one s a =
    found_exact b w q suits one ∙ (λ i. record { rows = same_nearest q s (view_of b) a i; leaves = count (same_set (view_of b) q i) (leaves_of (view_of b)) })

-- and with the full set and no dates 01's own answer
pub found_plain : (b : List ℕ) → SoundIndex b → (q : Asked) → LeavesOutNone q.choice → Askable (view_of b).d q → 1 ≤ q.k → (s : ℕ) → OneStampLive (view_of b) s → found b q ≡ plain_due id_ranking (view_of b) q
unfolding to_read_by in_plain_set
found_plain b w q e suits one s a =
    let v = view_of b in
    found_one_stamp b w q suits one s (all_filter (candidate q) (live v) a)
    ∙ (λ i. record {
      rows = nearest id_ranking q.k (all_rows_law b w q e i);
      leaves = count (λ t. ltb 0 (length t.1) && in_set id_ranking q.k (all_rows_law b w q e i) (leaf_bound v.d q t)) (leaves_of v);
    })
