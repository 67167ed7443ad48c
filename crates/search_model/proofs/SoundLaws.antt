-- What the search uses of a sound index: its inner pages hold its tree, records are in order and in range, and 4 levels, room for one
-- branch for 8 records each, and twice as many steps as pages are enough.
use Rattle.std.proofs.Common.{◌≡◌, refl, sym, ap, ap₂, ◌∙◌, true, List, [], ◌∷◌, ◌++◌, map, append-nil, ℕ, zero, suc, ◌*◌, ◌^◌, ◌≤◌, ◌<◌, arith, le_refl, le_trans, mul-le-mul, suc-mul, length, length-append, ltb, ltb-true, ltb-false}
use native.Mathlib.Nat.{pow-le-pow_right, pow-succ'}
use Rattle.lists.specs.Basics.{indicator, All, none, also, all_head, all_tail, all_map, concat_map, concat_map_append}
use Rattle.lists.specs.ConcatMapLaws.{all_concat_map, all_both, all_every}
use Rattle.lists.specs.Counts.{mult, mult_append, all_of_mult, pigeons}
use Rattle.lists.specs.Tests.{by_cases}
use Rattle.lists.specs.Lengths.{length_none}
use Rattle.lists.specs.Choices.{indicator_true, indicator_le}
use Rattle.pagestore_page.specs.declared.Record.{Record}
use Rattle.pagestore_page.specs.Fits.{RecordFits}
use Rattle.pagestore.specs.Store.{View, view_of, in_range, pages_in, leaf_at, records_in}
use Rattle.pagestore.specs.Store.PageLaws.{leaf_view, inner_view, records_fit}
use Rattle.pagestore.specs.Store.RangeLaws.{range_high}
use Rattle.tree_model.specs.Trees.{Item, records, pages, leaves, entry_of, node, Rep, tree_of, live, leaves_of}
use Rattle.tree_model.specs.Sound.{is_page, fresh_pages, RootFilled, Filled, SoundIndex}
use Rattle.search_model.specs.Numbers.{max_level}
use Rattle.search_model.proofs.FrameLaws.{Frame, Branching, Ordered, ordered_kids, leaf_records, parts_right}
use Rattle.tree_model.specs.TreeLaws.{concat_map_records, tree_page}

-- ---- A TREE AND ITS LEAVES

abbrev pub leaf_items : Item 1 → List Record
leaf_items u = u.1

concat_map_concat_map : {A B C : Type 0} (f : A → List B) (g : B → List C) (h : A → List C) (xs : List A) → All (λ x. h x ≡ concat_map g (f x)) xs → concat_map h xs ≡ concat_map g (concat_map f xs)
unfolding concat_map
concat_map_concat_map f g h [] none = refl
concat_map_concat_map {C = C} f g h (x ∷ xs) (also e a) = ap₂ (λ (u v : List C). u ++ v) e (concat_map_concat_map f g h xs a) ∙ sym (concat_map_append g (f x) (concat_map f xs))

-- the records of a tree are those of its leaves
pub records_leaves : (l : ℕ) (t : Item (suc l)) → records (suc l) t ≡ concat_map leaf_items (leaves l t)
unfolding records leaves concat_map
records_leaves zero t = concat_map_records t.1 ∙ sym (append-nil t.1)
records_leaves (suc l) t = concat_map_concat_map (leaves l) leaf_items (records (suc l)) t.1 (all_every (records_leaves l) t.1)

pub leaves_ordered : (d l : ℕ) (t : Item (suc l)) → Ordered d l t → All (Ordered d 0) (leaves l t)
unfolding leaves
leaves_ordered d zero t o = also o none
leaves_ordered d (suc l) t o = all_concat_map (leaves l) t.1 (all_map (leaves_ordered d l) (ordered_kids d l t o))

-- ---- FILLS

-- where each of xs has m elements or more
concat_map_most : {A B : Type 0} (m : ℕ) (f : A → List B) (xs : List A) → All (λ x. m ≤ length (f x)) xs → length xs * m ≤ length (concat_map f xs)
unfolding concat_map
concat_map_most m f [] none = omega arith
concat_map_most m f (x ∷ xs) (also h a) =
    let r = concat_map_most m f xs a in
    rw (length-append (f x) (concat_map f xs)) (omega (arith, suc-mul (length xs) m))

abbrev eights : ℕ → ℕ
eights l = 8 * 8 ^ l

filled_records : (l : ℕ) (t : Item (suc l)) → Filled (suc l) t → eights l ≤ length (records (suc l) t)
unfolding Filled records
filled_records zero t f = rw (concat_map_records t.1) f.0
filled_records (suc l) t f =
    let r : length t.1 * eights l ≤ length (concat_map (records (suc l)) t.1) = concat_map_most (eights l) (records (suc l)) t.1 (all_map (filled_records l) f.2) in
    let m : 8 * eights l ≤ length t.1 * eights l = mul-le-mul f.0 (le_refl (eights l)) in
    omega (arith, pow-succ' 8 l)

leaves_list : (l : ℕ) (ts : List (Item (suc l))) → All (λ t. 8 * length (leaves l t) ≤ length (records (suc l) t)) ts → 8 * length (concat_map (leaves l) ts) ≤ length (concat_map (records (suc l)) ts)
unfolding concat_map
leaves_list l [] none = omega arith
leaves_list l (t ∷ ts) (also h a) =
    let r = leaves_list l ts a in
    rw (length-append (leaves l t) (concat_map (leaves l) ts), length-append (records (suc l) t) (concat_map (records (suc l)) ts)) (omega arith)

filled_leaves : (l : ℕ) (t : Item (suc l)) → Filled (suc l) t → 8 * length (leaves l t) ≤ length (records (suc l) t)
unfolding Filled records leaves
filled_leaves zero t f = rw (concat_map_records t.1) f.0
filled_leaves (suc l) t f = leaves_list l t.1 (all_map (filled_leaves l) f.2)

filled_branching : (l : ℕ) (t : Item (suc l)) → Filled (suc l) t → Branching l t
unfolding Filled Branching
filled_branching zero t f = omega (arith, f.0)
filled_branching (suc l) t f = (omega (arith, f.0), all_map (filled_branching l) f.2)

-- the root
pub root_branching : (l : ℕ) (t : Item (suc l)) → RootFilled l t → All (Filled l) t.1 → 0 < length (records (suc l) t) → Branching l t
unfolding RootFilled Branching
root_branching zero t r f h = rw (leaf_records t) at h
root_branching (suc l) t r f h = (r.0, all_map (filled_branching l) f)

-- a tree of 65,535 records has 4 levels of inner pages at most
pub root_level_law : (l : ℕ) (t : Item (suc l)) → RootFilled l t → All (Filled l) t.1 → length (records (suc l) t) ≤ 65535 → l ≤ max_level
unfolding RootFilled records
root_level_law zero t r f h = omega arith
root_level_law (suc l) t r f h =
    let m : length t.1 * eights l ≤ length (concat_map (records (suc l)) t.1) = concat_map_most (eights l) (records (suc l)) t.1 (all_map (filled_records l) f) in
    let n : 2 * eights l ≤ length t.1 * eights l = mul-le-mul r.0 (le_refl (eights l)) in
    by_cases (ltb 3 l)
    (λ e. let g : 4 ≤ l = ltb-true 3 l e in
    let w : 8 ^ 4 ≤ 8 ^ l = pow-le-pow_right (omega arith) g in absurd (omega arith))
    (λ e. omega (arith, ltb-false 3 l e))

-- and one leaf at most for 8 records each, or one leaf
pub root_leaves : (n l : ℕ) (t : Item (suc l)) → RootFilled l t → All (Filled l) t.1 → 8 ≤ n → length (records (suc l) t) ≤ n → 8 * length (leaves l t) ≤ n
unfolding RootFilled records leaves
root_leaves n zero t r f g h = omega arith
root_leaves n (suc l) t r f g h = omega (arith, leaves_list l t.1 (all_map (filled_leaves l) f))

pages_list : (l : ℕ) (ts : List (Item (suc l))) → All (λ t. length (leaves l t) ≤ length (pages (suc l) t)) ts → length (concat_map (leaves l) ts) ≤ length (concat_map (pages (suc l)) ts)
unfolding concat_map
pages_list l [] none = omega arith
pages_list l (t ∷ ts) (also h a) =
    let r = pages_list l ts a in
    rw (length-append (leaves l t) (concat_map (leaves l) ts), length-append (pages (suc l) t) (concat_map (pages (suc l)) ts)) (omega arith)

-- a leaf is a page
leaves_pages : (l : ℕ) (t : Item (suc l)) → length (leaves l t) ≤ length (pages (suc l) t)
unfolding leaves pages
leaves_pages zero t = omega arith
leaves_pages (suc l) t = omega (arith, pages_list l t.1 (all_every (leaves_pages l) t.1))

-- ---- BYTES

module _ (b : List ℕ) where
  -- the inner pages hold the tree
  pub frame_of : (l : ℕ) (t : Item (suc l)) → Rep (suc l) (view_of b) t → All (λ p. in_range b p ≡ true) (pages (suc l) t) → Frame b (view_of b).d l t
  unfolding Frame Rep pages node view_of
  frame_of zero t r a = all_head a
  frame_of (suc l) t r a = (
    all_head a,
    (inner_view b t.0 l (length t.1) (map (entry_of (view_of b).d l) t.1) r.0).entries,
    all_map (λ u h. frame_of l u h.0 h.1) (all_both r.1 (parts_right (pages (suc l)) t.1 (all_tail a))),
  )

  -- and the leaf pages its records
  pub leaves_hold : (l : ℕ) (t : Item (suc l)) → Rep (suc l) (view_of b) t → All (λ u. records_in (leaf_at b u.0) ≡ u.1) (leaves l t)
  unfolding Rep leaves node view_of
  leaves_hold zero t r = also (leaf_view b t.0 (length t.1) t.1 r.0).records none
  leaves_hold (suc l) t r = all_concat_map (leaves l) t.1 (all_map (leaves_hold l) r.1)

  pub records_stored : (l : ℕ) (t : Item (suc l)) → Rep (suc l) (view_of b) t → All RecordFits (records (suc l) t)
  records_stored l t r =
      rw (records_leaves l t)
      (all_concat_map leaf_items (leaves l t) (all_map (λ u (e : records_in (leaf_at b u.0) ≡ u.1). rw e at (records_fit b u.0)) (leaves_hold l t r)))

module _ (b : List ℕ) (s : SoundIndex b) where
  abbrev v : View
  v = view_of b

  abbrev tree : Item (suc v.level)
  tree = tree_of v

  once_page : (p : ℕ) → mult p (pages (suc v.level) tree) ≤ indicator (is_page v p)
  once_page p = omega (arith, s.once p, mult_append p (pages (suc v.level) tree) (v.freed ++ fresh_pages v))

  pub tree_range : All (λ p. in_range b p ≡ true) (pages (suc v.level) tree)
  unfolding in_range view_of
  tree_range = all_of_mult (pages (suc v.level) tree) (λ p h. indicator_true (is_page v p) (omega (arith, once_page p)))

  -- no page is twice in the tree
  pub tree_once : (p : ℕ) → mult p (pages (suc v.level) tree) ≤ 1
  tree_once p = omega (arith, once_page p, indicator_le (is_page v p))

  -- the header is not in the tree
  pub tree_header : mult 0 (pages (suc v.level) tree) ≡ 0
  tree_header = omega (arith, once_page 0)

  pub tree_frame : Frame b v.d v.level tree
  tree_frame = frame_of b v.level tree s.rep tree_range

  pub tree_hold : All (λ u. records_in (leaf_at b u.0) ≡ u.1) (leaves_of v)
  unfolding leaves_of
  tree_hold = leaves_hold b v.level tree s.rep

  live_length : length (records (suc v.level) tree) ≡ v.total
  unfolding live
  live_length = sym s.total

  pub tree_level : v.level ≤ max_level
  tree_level = root_level_law v.level tree s.root_fill s.fills (omega (arith, live_length, s.most))

  pub tree_leaves : (n : ℕ) → 8 ≤ n → v.total ≤ n → 8 * length (leaves_of v) ≤ n
  unfolding leaves_of
  tree_leaves n g h = root_leaves n v.level tree s.root_fill s.fills g (omega (arith, live_length))

  pub tree_pages_law : length (leaves_of v) ≤ pages_in b
  unfolding leaves_of
  tree_pages_law =
      le_trans (leaves_pages v.level tree)
      (pigeons (pages_in b) (all_map (λ p (h : in_range b p ≡ true). range_high b p h) tree_range) tree_once)

  pub tree_ordered : 0 < v.total → Ordered v.d v.level tree
  unfolding live
  tree_ordered h =
      record {
        up = s.order;
        right = all_map (λ r g. record { ok = g.0; fits = g.1 }) (all_both s.ranges (records_stored b v.level tree s.rep));
        some = root_branching v.level tree s.root_fill s.fills (omega (arith, live_length));
      }

  pub tree_root : tree.0 ≡ v.root
  unfolding tree_of
  tree_root = tree_page v.level v v.root

  -- a sound index of no records has one leaf, and it is empty
  pub none_held : v.total ≡ 0 → All (λ u. u.1 ≡ []) (leaves_of v)
  unfolding leaves_of concat_map
  none_held e = empties (leaves v.level tree) (omega (arith, live_length, ap length (records_leaves v.level tree)))
    where
      empties : (us : List (Item 1)) → length (concat_map leaf_items us) ≡ 0 → All (λ u. u.1 ≡ []) us
      empties [] h = none
      empties (u ∷ us) h = let g = length-append u.1 (concat_map leaf_items us) in also (length_none u.1 (omega arith)) (empties us (omega arith))
