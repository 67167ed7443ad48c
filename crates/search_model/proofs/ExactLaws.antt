-- What is promised of the search on a sound index, in the words of demands 2 and 3: its rows, the leaves read and their count.
use Rattle.std.proofs.Common.{◌≡◌, refl, sym, ap, ◌∙◌, Bool, true, false, List, [], ◌∷◌, map, ℕ, zero, suc, ◌≤◌, ◌<◌, arith, length, take, ltb, eqb, eqb-true, eq-eqb, ltb-true, ltb-false, lt-ltb, ne_eqb}
use lib.ListN.{length-map}
use borrow.Author.Tests.{eqb-false}
use Rattle.lists.specs.Basics.{All, none, also, concat_map}
use Rattle.lists.specs.Tests.{by_cases}
use Rattle.lists.specs.Sorting.{filter, count, sort}
use Rattle.lists.specs.SortingLaws.{filter_sort, filter_all, count_append}
use Rattle.lists.specs.ConcatMapLaws.{map_append, all_every}
use Rattle.lists.specs.Counts.{mult, mult_append}
use Rattle.search_theory.specs.Nearest.{Outcome, nearest, candidates, in_set, best_first}
use Rattle.search_theory.proofs.Promises as flatly
use Rattle.search_rows.specs.declared.Row.{Row}
use Rattle.search_theory.specs.Marks.{Strict}
use Rattle.search_rows.specs.Rows.{newest_first}
use Rattle.search_rows.proofs.RowLaws.{row_order_law, of_id, Distinct, nearest_by_stamp, candidates_strict}
use Rattle.pagestore_page.specs.declared.Record.{Record}
use Rattle.pagestore.specs.Store.{total, View, view_of, field_at}
use Rattle.tree_model.specs.Trees.{Item, tree_of, leaves_of, ident_of, live}
use Rattle.tree_model.specs.Sound.{SoundIndex}
use Rattle.search_model.specs.Asked.{Asked, candidate, Askable}
use Rattle.search_model.specs.Branches.{Branch, branch_bound, tied, before, row_of, rows_among, rows_at}
use Rattle.search_model.specs.Visit.{ranking, Answer, visited, reads_none, found, placed, leaves_read}
use Rattle.search_model.specs.Questions.{answer_due, rows_from, rows_of, leaf_branch, to_read_by, to_read, set_from, reading_order}
use Rattle.search_model.proofs.FrameLaws.{leaf_branches}
use Rattle.search_model.proofs.DescentLaws.{branch_order}
use Rattle.search_model.proofs.SoundLaws.{leaf_items, records_leaves, none_held}
use Rattle.search_model.proofs.VisitedLaws.{index_leaves, like_self, reads_some, visited_like, found_like, leaves_some, rows_all, floors, found_none}

count_set : (v : View) (q : Asked) (p : ℕ) (us : List (Item 1)) → All (λ u. 0 < length u.1) us
    → count (λ x. in_set ranking q.k (rows_of v q) x.bound) (leaf_branches q v.d p us) ≡ count (to_read v q) us
unfolding count leaf_branches leaf_branch to_read_by
count_set v q p [] none = refl
count_set v q p (u ∷ us) (also h a) = rw (lt-ltb 0 (length u.1) h, count_set v q (suc p) us a)

none_set : (v : View) (q : Asked) (us : List (Item 1)) → All (λ u. u.1 ≡ []) us → count (to_read v q) us ≡ 0
unfolding count to_read_by
none_set v q [] none = refl
none_set v q (u ∷ us) (also e a) = rw (e, none_set v q us a)

none_rows : (q : Asked) (p : ℕ) (us : List (Item 1)) → All (λ u. u.1 ≡ []) us → rows_from q p us ≡ []
unfolding rows_from rows_among filter
none_rows q p [] none = refl
none_rows q p (u ∷ us) (also e a) = rw (e, none_rows q (suc p) us a)

nearest_none : (k : ℕ) → nearest ranking k [] ≡ []
unfolding nearest candidates sort filter
nearest_none zero = refl
nearest_none (suc k) = refl

module _ (b : List ℕ) (s : SoundIndex b) (q : Asked) (suits : Askable (view_of b).d q) (one : 1 ≤ q.k) where
  abbrev v : View
  v = view_of b

  exact_some : 0 < v.total → found b q ≡ answer_due v q
  exact_some t =
      let o : Outcome Row Branch = best_first ranking branch_bound (rows_at b q) q.k tied (index_leaves b q) in
      let r : o.rows ≡ nearest ranking q.k (rows_of v q) = flatly.rows_nearest ranking row_order_law branch_bound tied branch_order (index_leaves b q) (rows_at b q) (floors b s q suits one) q.k one ∙ ap (nearest ranking q.k) (rows_all b s q suits one) in
      let n : length o.read ≡ count (to_read v q) (leaves_of v) =
      flatly.leaves_count ranking row_order_law branch_bound tied branch_order (index_leaves b q) (rows_at b q) (floors b s q suits one) q.k one
      ∙ ap (λ (xs : List Row). count (λ x. in_set ranking q.k xs x.bound) (index_leaves b q)) (rows_all b s q suits one) ∙ count_set v q 0 (leaves_of v) (leaves_some b s q suits one t) in
      found_like b s q suits one b (like_self b s q suits one) t ∙ (λ i. record { rows = r i; leaves = n i })

  exact_none : v.total ≡ 0 → found b q ≡ answer_due v q
  unfolding view_of rows_of
  exact_none e =
      let h = none_held b s e in
      found_none b s q suits one b e ∙ sym (rw (none_rows q 0 (leaves_of v) h, none_set v q (leaves_of v) h, nearest_none q.k))

  pub found_exact : found b q ≡ answer_due v q
  found_exact = by_cases (ltb 0 v.total) (λ e. exact_some (ltb-true 0 v.total e)) (λ e. exact_none (omega (arith, ltb-false 0 v.total e)))

  -- rows_nearest: the rows are the k nearest of the live candidates, by distance, then by later stamp, then by lower identifier, or all if fewer live
  pub rows_nearest : (found b q).rows ≡ nearest ranking q.k (rows_of v q)
  rows_nearest = ap (λ (f : Answer). f.rows) found_exact

  -- leaves_exact: the count is the number of leaves in demand 3's set
  pub leaves_exact : (found b q).leaves ≡ count (to_read v q) (leaves_of v)
  leaves_exact = ap (λ (f : Answer). f.leaves) found_exact

  -- ---- WHICH LEAVES ARE READ

  -- the branches of the leaves of the set
  set_branches : (p : ℕ) (ts : List (Item 1)) → All (λ u. 0 < length u.1) ts → filter (λ x. in_set ranking q.k (rows_of v q) x.bound) (leaf_branches q v.d p ts) ≡ set_from v q p ts
  unfolding filter leaf_branches leaf_branch set_from to_read_by
  set_branches p [] none = refl
  set_branches p (u ∷ ts) (also h a) = rw (lt-ltb 0 (length u.1) h, set_branches (suc p) ts a)

  read_some : 0 < v.total → leaves_read b q ≡ reading_order v q
  unfolding leaves_read reading_order
  read_some t =
      rw (reads_some b s q suits one b (like_self b s q suits one) t)
      (ap (λ (x : List Row × List (ℕ × ℕ)). x.1) (visited_like b s q suits one b (like_self b s q suits one) t)
      ∙ ap (map placed)
      (flatly.leaves_exact ranking row_order_law branch_bound tied branch_order (index_leaves b q) (rows_at b q) (floors b s q suits one) q.k one
      ∙ ap (λ (xs : List Row). filter (λ x. in_set ranking q.k xs x.bound) (sort before (index_leaves b q))) (rows_all b s q suits one)
      ∙ filter_sort before branch_order (λ x. in_set ranking q.k (rows_of v q) x.bound) (index_leaves b q)
      ∙ ap (sort before) (set_branches 0 (leaves_of v) (leaves_some b s q suits one t))))

  read_nothing : (c : List ℕ) → field_at total c ≡ 0 → leaves_read c q ≡ []
  unfolding leaves_read reads_none
  read_nothing c e = rw (e)

  set_none : (p : ℕ) (ts : List (Item 1)) → All (λ u. u.1 ≡ []) ts → set_from v q p ts ≡ []
  unfolding set_from to_read_by
  set_none p [] none = refl
  set_none p (u ∷ ts) (also h a) = rw (h, set_none (suc p) ts a)

  read_none : v.total ≡ 0 → leaves_read b q ≡ reading_order v q
  unfolding view_of reading_order sort
  read_none e = read_nothing b e ∙ sym (ap (λ (xs : List Branch). map placed (sort before xs)) (set_none 0 (leaves_of v) (none_held b s e)))

  -- leaves_read_law: which leaves are read, and in which order: those of the set, by (bound, position)
  pub leaves_read_law : leaves_read b q ≡ reading_order v q
  leaves_read_law = by_cases (ltb 0 v.total) (λ e. read_some (ltb-true 0 v.total e)) (λ e. read_none (omega (arith, ltb-false 0 v.total e)))

-- the count that is returned is that of the leaves read, on any bytes
pub leaves_counted : (b : List ℕ) (q : Asked) → (found b q).leaves ≡ length (leaves_read b q)
unfolding found leaves_read
leaves_counted b q = by_cases (reads_none b) (λ e. rw e) (λ e. rw (e, length-map (visited b q).read placed))

-- ---- THE ORDER OF THE ROWS

-- rows of identifier n
count_idents : (n : ℕ) (q : Asked) (p : ℕ) (rs : List Record) → count (of_id n) (map (row_of q p) rs) ≡ mult n (map ident_of rs)
unfolding count mult row_of
count_idents n q p [] = refl
count_idents n q p (r ∷ rs) = let h = count_idents n q p rs in by_cases (eqb r.id n)
    (λ e. let f : eqb n r.id ≡ true = eq-eqb n r.id (sym (eqb-true r.id n e)) in rw (e, f) (omega arith))
    (λ e. let f : eqb n r.id ≡ false = ne_eqb n r.id (λ w. eqb-false r.id n e (sym w)) in rw (e, f) (omega arith))

-- no more candidates have an identifier than records do
kept_idents : (n : ℕ) (f : Record → Bool) (rs : List Record) → mult n (map ident_of (filter f rs)) ≤ mult n (map ident_of rs)
unfolding filter mult
kept_idents n f [] = omega arith
kept_idents n f (r ∷ rs) = let h = kept_idents n f rs in by_cases (f r) (λ e. rw e (omega arith)) (λ e. rw e (omega arith))

count_rows : (n : ℕ) (q : Asked) (p : ℕ) (us : List (Item 1)) → count (of_id n) (rows_from q p us) ≤ mult n (map ident_of (concat_map leaf_items us))
unfolding rows_from rows_among concat_map count mult
count_rows n q p [] = omega arith
count_rows n q p (u ∷ us) =
    let h = count_rows n q (suc p) us in let g = count_idents n q p (filter (candidate q) u.1) in let k = kept_idents n (candidate q) u.1 in
    rw (count_append (of_id n) (map (row_of q p) (filter (candidate q) u.1)) (rows_from q (suc p) us), map_append ident_of u.1 (concat_map leaf_items us), mult_append n (map ident_of u.1) (map ident_of (concat_map leaf_items us))) (omega arith)

-- identifiers are distinct
pub rows_distinct : (b : List ℕ) → SoundIndex b → (q : Asked) → Distinct (rows_of (view_of b) q)
unfolding rows_of leaves_of live
rows_distinct b s q n =
    let e = count_rows n q 0 (leaves_of (view_of b)) in
    let f = ap (λ (rs : List Record). mult n (map ident_of rs)) (records_leaves (view_of b).level (tree_of (view_of b))) in
    let d = s.distinct n in omega arith

-- so the rows go by distance, then by later stamp, then by lower identifier: position never decides
pub rows_by_stamp : (b : List ℕ) → SoundIndex b → (q : Asked) → nearest ranking q.k (rows_of (view_of b) q) ≡ take q.k (sort newest_first (rows_of (view_of b) q))
rows_by_stamp b s q =
    let xs = rows_of (view_of b) q in
    nearest_by_stamp (λ x. true) q.k xs (rows_distinct b s q) ∙ ap (λ (ys : List Row). take q.k (sort newest_first ys)) (filter_all (λ x. true) xs (all_every (λ x. refl) xs))

-- and each is behind every one before it, by these
pub rows_strict : (b : List ℕ) → SoundIndex b → (q : Asked) → Strict newest_first (candidates ranking (rows_of (view_of b) q))
rows_strict b s q = candidates_strict (λ x. true) (rows_of (view_of b) q) (rows_distinct b s q)
