-- The visit of an index with the header and the inner pages of a sound one is that of its leaves by (bound, position), and no row of a
-- leaf is nearer than its bound.
use Rattle.std.proofs.Common.{◌≡◌, refl, sym, ap, ap₂, ◌∙◌, false, List, [], ◌∷◌, ◌++◌, ℕ, suc, ◌*◌, ◌≤◌, ◌<◌, arith, length, ltb, eqb, ltb-true, ltb-false, le-ltb, ne_eqb}
use Rattle.lists.specs.Basics.{All, none, also, all_map, concat_map}
use Rattle.lists.specs.Tests.{by_cases}
use Rattle.lists.specs.Sorting.{filter}
use Rattle.lists.specs.SortingLaws.{all_filter}
use Rattle.lists.specs.ConcatMapLaws.{all_mapped}
use Rattle.search_theory.specs.Nearest.{Floor, best_first}
use Rattle.search_theory.specs.Frontier.{seek}
use Rattle.search_rows.specs.declared.Row.{Row}
use Rattle.pagestore_page.specs.declared.Record.{Record}
use Rattle.pagestore.specs.Store.{level, total, root, View, view_of, pages_in, leaf_at, records_in, field_at}
use Rattle.tree_model.specs.Trees.{Item, leaves, tree_of, leaves_of}
use Rattle.tree_model.specs.Sound.{SoundIndex}
use Rattle.search_model.specs.Numbers.{max_level}
use Rattle.search_model.specs.Asked.{Asked, distance_to, candidate, Askable}
use Rattle.search_model.specs.Branches.{Branch, branch_bound, last_place, tied, before, is_leaf, page_in, kids, root_branch, row_of, rows_among, rows_at}
use Rattle.search_model.specs.Visit.{ranking, answer_of, room, visited, reads_none, found}
use Rattle.search_model.specs.Questions.{rows_from, rows_of, leaf_bound, leaf_branch}
use Rattle.search_model.proofs.RecordLaws.{span_floor}
use Rattle.search_model.proofs.FrameLaws.{Frame, Ordered, Branching, leaf_records, frame_range, leaf_branches}
use Rattle.search_model.proofs.DescentLaws.{shown, shown_answer, seek_is}
use Rattle.search_model.proofs.RoomLaws.{room_enough}
use Rattle.search_model.proofs.SoundLaws.{tree_frame, tree_hold, tree_level, tree_leaves, tree_pages_law, tree_ordered, tree_root, none_held, leaves_ordered}

-- ---- LEAVES BY POSITION

-- what the rows of a leaf cost at least
abbrev pub LeafFloor : ℕ → Asked → Item 1 → Type 0
LeafFloor d q u = All (λ r. leaf_bound d q u ≤ distance_to q r) u.1

-- so the rows of its candidates
pub among_floor : (q : Asked) (B p : ℕ) (rs : List Record) → All (λ r. B ≤ distance_to q r) rs → All (λ x. B ≤ x.distance) (rows_among q p rs)
unfolding rows_among row_of
among_floor q B p rs a = all_mapped (row_of q p) (filter (candidate q) rs) (all_filter (candidate q) rs a)

module _ (b : List ℕ) (q : Asked) (d : ℕ) where
  concat_map_rows : (p : ℕ) (us : List (Item 1)) → All (λ u. records_in (leaf_at b u.0) ≡ u.1) us → concat_map (rows_at b q) (leaf_branches q d p us) ≡ rows_from q p us
  unfolding concat_map leaf_branches leaf_branch rows_from
  concat_map_rows p [] none = refl
  concat_map_rows p (u ∷ us) (also e a) = ap₂ (λ (x y : List Row). x ++ y) (ap (rows_among q p) e) (concat_map_rows (suc p) us a)

  row_floors : (p : ℕ) (us : List (Item 1)) → All (λ u. records_in (leaf_at b u.0) ≡ u.1) us → All (LeafFloor d q) us → All (Floor ranking branch_bound (rows_at b q)) (leaf_branches q d p us)
  unfolding leaf_branches leaf_branch
  row_floors p [] none none = none
  row_floors p (u ∷ us) (also e a) (also f h) = also {x = leaf_branch q d p u} (rw e (among_floor q (leaf_bound d q u) p u.1 f)) (row_floors (suc p) us a h)

none_floor : (d : ℕ) (q : Asked) (u : Item 1) → u.1 ≡ [] → LeafFloor d q u
none_floor d q u e = rw e none

-- the leaves of an index, as branches by position
abbrev pub index_leaves : List ℕ → Asked → List Branch
index_leaves b q = leaf_branches q (view_of b).d 0 (leaves_of (view_of b))

module _ (b : List ℕ) (s : SoundIndex b) (q : Asked) (suits : Askable (view_of b).d q) (one : 1 ≤ q.k) where
  abbrev v : View
  v = view_of b

  -- an index with the header and the inner pages of b
  pub record Like (c : List ℕ) : Type 0 where
    pub level : field_at level c ≡ v.level
    pub total : field_at total c ≡ v.total
    pub root : field_at root c ≡ v.root
    pub pages : pages_in c ≡ pages_in b
    pub frame : Frame c v.d v.level (tree_of v)

  pub like_self : Like b
  unfolding view_of
  like_self = record { level = refl; total = refl; root = refl; pages = refl; frame = tree_frame b s }

  pub reads_some : (c : List ℕ) → Like c → 0 < v.total → reads_none c ≡ false
  unfolding reads_none
  reads_some c h t =
      let z : eqb (field_at total c) 0 ≡ false = ne_eqb (field_at total c) 0 (omega (arith, h.total)) in
      let w : ltb max_level (field_at level c) ≡ false = le-ltb max_level (field_at level c) (omega (arith, h.level, tree_level b s)) in rw (z, w)

  -- the visit from the root is that of all leaves by (bound, position)
  pub visited_like : (c : List ℕ) → Like c → 0 < v.total → shown (visited c q) ≡ shown (best_first ranking branch_bound (rows_at c q) q.k tied (index_leaves b q))
  unfolding visited leaves_of page_in
  visited_like c h t =
      let g : field_at root c ≡ (tree_of v).0 = h.root ∙ sym (tree_root b s) in
      let e : page_in c (field_at root c) ≡ (tree_of v).0 = rw (g, frame_range c v.d v.level (tree_of v) h.frame) in
      let r : root_branch c ≡ record { bound = 0; place = 0; level = v.level; page = (tree_of v).0 } = λ i. record { bound = 0; place = 0; level = h.level i; page = e i } in
      let few : length (leaves v.level (tree_of v)) ≤ room c = room_enough c (length (leaves v.level (tree_of v))) (λ n g w. tree_leaves b s n g (omega (arith, h.total))) (omega (arith, h.total, s.most)) in
      let enough : length (leaves v.level (tree_of v)) ≤ pages_in b = tree_pages_law b s in
      let n : pages_in c ≡ pages_in b = h.pages in
      let places : length (leaves v.level (tree_of v)) ≤ last_place = omega (arith, tree_leaves b s 65535 (omega arith) s.most) in
      ap (λ (x : Branch). shown (seek ranking branch_bound (rows_at c q) before is_leaf (kids c q) q.k (room c) (2 * pages_in c) (x ∷ []) [])) r
      ∙ seek_is c q v.d s.d.0 s.d.1 suits q.k (room c) (2 * pages_in c) one v.level (tree_of v) places h.frame (tree_ordered b s t) few (omega arith)

  pub found_like : (c : List ℕ) → Like c → 0 < v.total → found c q ≡ answer_of (best_first ranking branch_bound (rows_at c q) q.k tied (index_leaves b q))
  unfolding found
  found_like c h t = rw (reads_some c h t) (shown_answer (visited c q) (best_first ranking branch_bound (rows_at c q) q.k tied (index_leaves b q)) (visited_like c h t))

  -- ---- THE ROWS AND THE LEAVES

  -- where there are records, each leaf has some
  pub leaves_some : 0 < v.total → All (λ u. 0 < length u.1) (leaves_of v)
  unfolding leaves_of Branching
  leaves_some t = all_map (λ u (o : Ordered v.d 0 u). o.some) (leaves_ordered v.d v.level (tree_of v) (tree_ordered b s t))

  pub leaf_floors : All (LeafFloor v.d q) (leaves_of v)
  unfolding leaves_of leaf_bound Branching
  leaf_floors =
      by_cases (ltb 0 v.total)
      (λ e. all_map
      (λ u (o : Ordered v.d 0 u).
      (span_floor v.d s.d.0 s.d.1 q suits u.1 o.some (rw (leaf_records u) at o.up) (rw (leaf_records u) at o.right)))
      (leaves_ordered v.d v.level (tree_of v) (tree_ordered b s (ltb-true 0 v.total e))))
      (λ e. all_map (none_floor v.d q) (none_held b s (omega (arith, ltb-false 0 v.total e))))

  pub rows_all : concat_map (rows_at b q) (index_leaves b q) ≡ rows_of v q
  unfolding rows_of
  rows_all = concat_map_rows b q v.d 0 (leaves_of v) (tree_hold b s)

  pub floors : All (Floor ranking branch_bound (rows_at b q)) (index_leaves b q)
  floors = row_floors b q v.d 0 (leaves_of v) (tree_hold b s) leaf_floors

  pub found_none : (c : List ℕ) → field_at total c ≡ 0 → found c q ≡ record { rows = []; leaves = 0 }
  unfolding found reads_none
  found_none c e = rw (e)
