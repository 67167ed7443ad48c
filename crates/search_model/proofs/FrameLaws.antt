-- The leaves that the search can come to, where the inner pages hold a tree. Nothing is assumed of what its leaf pages hold.
use Rattle.std.proofs.Common.{◌≡◌, refl, sym, ap, ap₂, ◌∙◌, true, false, List, [], ◌∷◌, ◌++◌, map, ℕ, zero, suc, min, ◌+◌, ◌≤◌, ◌<◌, arith, le_refl, le_trans, eqb, ne_eqb, length, length-append}
use Rattle.lists.specs.Basics.{All, none, also, all_map, all_left, all_right, concat_map}
use Rattle.lists.specs.Sorting.{sum}
use Rattle.lists.specs.ConcatMapLaws.{all_concat_map, map_append, all_both, concat_map_some}
use Rattle.lists.specs.Ascending.{Ascending, asc_left, asc_right}
use Rattle.geometry.specs.Numbers.{max_features}
use Rattle.search_theory.specs.Frontier.{leaves_under}
use Rattle.pagestore.specs.Store.{in_range, inner_at, entries_in}
use Rattle.tree_model.specs.Trees.{Item, no_record, rank_of, first_key, last_key, records, leaves, entry_of}
use Rattle.tree_core.specs.Lookup.{leaf_count}
use Rattle.search_model.specs.Asked.{Asked, span_bound, Askable}
use Rattle.search_model.specs.Branches.{Branch, last_place, is_leaf, page_in, branches, opened, kids}
use Rattle.search_model.specs.Questions.{leaf_bound, leaf_branch}
use Rattle.search_model.proofs.RecordLaws.{Right, from_first, to_last, span_part}
use Rattle.tree_model.specs.TreeLaws.{concat_map_records}

-- the inner pages of c hold the tree t of level l; its leaves are pages
unfoldable pub Frame : List ℕ → ℕ → (l : ℕ) → Item (suc l) → Type 0
Frame c d zero t = in_range c t.0 ≡ true
Frame c d (suc l) t = (in_range c t.0 ≡ true) × (entries_in (inner_at c t.0) ≡ map (entry_of d l) t.1) × All (Frame c d l) t.1

-- no leaf is empty, and an inner page has two children or more
unfoldable pub Branching : (l : ℕ) → Item (suc l) → Type 0
Branching zero t = 0 < length t.1
Branching (suc l) t = (2 ≤ length t.1) × All (Branching l) t.1

pub not_leaf : (l : ℕ) → eqb (suc l) 0 ≡ false
not_leaf l = ne_eqb (suc l) 0 (omega arith)

pub leaf_records : (t : Item 1) → records 1 t ≡ t.1
unfolding records
leaf_records t = concat_map_records t.1

pub records_some : (l : ℕ) (t : Item (suc l)) → Branching l t → 0 < length (records (suc l) t)
unfolding Branching records
records_some zero t h = rw (concat_map_records t.1) h
records_some (suc l) t h = concat_map_some (records (suc l)) t.1 (omega (arith, h.0)) (all_map (records_some l) h.1)

module _ (c : List ℕ) (d : ℕ) where
  pub frame_range : (l : ℕ) (t : Item (suc l)) → Frame c d l t → in_range c t.0 ≡ true
  unfolding Frame
  frame_range zero t f = f
  frame_range (suc l) t f = f.0

  count_list : (l : ℕ) (ts : List (Item (suc l))) → All (λ u. leaf_count l c u.0 ≡ length (leaves l u)) ts
      → sum (λ e. leaf_count l c e.child) (map (entry_of d l) ts) ≡ length (concat_map (leaves l) ts)
  unfolding sum concat_map entry_of
  count_list l [] none = refl
  count_list l (u ∷ us) (also h a) = rw (length-append (leaves l u) (concat_map (leaves l) us)) (let r = count_list l us a in omega arith)

  -- the leaves are counted right
  pub count_leaves : (l : ℕ) (t : Item (suc l)) → Frame c d l t → leaf_count l c t.0 ≡ length (leaves l t)
  unfolding Frame leaf_count leaves
  count_leaves zero t f = refl
  count_leaves (suc l) t f = rw f.1 (count_list l t.1 (all_map (count_leaves l) f.2))

module _ (q : Asked) (d : ℕ) where
  -- the branch of a page with its items, the first leaf under it at position p
  unfoldable pub item_branch : ℕ → (l : ℕ) → Item (suc l) → Branch
  item_branch p l t = record { bound = span_bound q (first_key d (records (suc l) t)) (last_key d (records (suc l) t)); place = p; level = l; page = t.0 }

  unfoldable pub item_branches : (l : ℕ) → ℕ → List (Item (suc l)) → List Branch
  unfolding item_branch leaves
  item_branches l p [] = []
  item_branches l p (t ∷ ts) = item_branch p l t ∷ item_branches l (p + length (leaves l t)) ts

  -- those of leaves, by position
  unfoldable pub leaf_branches : ℕ → List (Item 1) → List Branch
  unfolding leaf_branch
  leaf_branches p [] = []
  leaf_branches p (t ∷ ts) = leaf_branch q d p t ∷ leaf_branches (suc p) ts

  pub leaf_branch_law : (p : ℕ) (t : Item 1) → item_branch p 0 t ≡ leaf_branch q d p t
  unfolding item_branch leaf_branch leaf_bound
  leaf_branch_law p t = rw (leaf_records t)

  pub leaf_append : (p : ℕ) (xs ys : List (Item 1)) → leaf_branches p (xs ++ ys) ≡ leaf_branches p xs ++ leaf_branches (p + length xs) ys
  unfolding leaf_branches
  leaf_append p [] ys = ap (λ (n : ℕ). leaf_branches n ys) (omega arith)
  leaf_append p (x ∷ xs) ys =
      ap (λ (r : List Branch). leaf_branch q d p x ∷ r) (leaf_append (suc p) xs ys ∙ ap (λ (n : ℕ). leaf_branches (suc p) xs ++ leaf_branches n ys) (omega arith))

-- an inner branch with any bound
abbrev pub inner : ℕ → ℕ → (l : ℕ) → Item (suc (suc l)) → Branch
inner B p l t = record { bound = B; place = p; level = suc l; page = t.0 }

module _ (c : List ℕ) (q : Asked) (d : ℕ) where
  -- what an inner page gives when it is opened, where there are positions for the leaves under it
  pub kids_are : (l p : ℕ) (ts : List (Item (suc l))) → p + length (concat_map (leaves l) ts) ≤ last_place → All (Frame c d l) ts → branches c q l p (map (entry_of d l) ts) ≡ item_branches q d l p ts
  unfolding branches item_branches item_branch entry_of page_in concat_map
  kids_are l p [] m none = refl
  kids_are l p (t ∷ ts) m (also f a) =
      let n = length-append (leaves l t) (concat_map (leaves l) ts) in
      let e : min p last_place ≡ p = omega arith in
      rw (e, frame_range c d l t f, count_leaves c d l t f, kids_are l (p + length (leaves l t)) ts (omega arith) a)

  pub opened_is : (p l : ℕ) (t : Item (suc (suc l))) → p + length (leaves (suc l) t) ≤ last_place → Frame c d (suc l) t → opened c q (suc l) p t.0 ≡ item_branches q d l p t.1
  unfolding opened Frame leaves
  opened_is p l t m f = ap (branches c q l p) f.1 ∙ kids_are l p t.1 m f.2

  -- the leaves under a branch are these
  abbrev Under : (l p : ℕ) → Item (suc l) → Type 0
  Under l p t = leaves_under is_leaf (kids c q) l (item_branch q d p l t) ≡ leaf_branches q d p (leaves l t)

  under_list : (l p : ℕ) (ts : List (Item (suc l))) → p + length (concat_map (leaves l) ts) ≤ last_place → ((n : ℕ) (t : Item (suc l)) → n + length (leaves l t) ≤ last_place → Frame c d l t → Under l n t)
      → All (Frame c d l) ts → concat_map (leaves_under is_leaf (kids c q) l) (item_branches q d l p ts) ≡ leaf_branches q d p (concat_map (leaves l) ts)
  unfolding concat_map item_branches leaf_branches
  under_list l p [] m h none = refl
  under_list l p (t ∷ ts) m h (also f a) =
      let n = length-append (leaves l t) (concat_map (leaves l) ts) in
      ap₂ (λ (x y : List Branch). x ++ y) (h p t (omega arith) f) (under_list l (p + length (leaves l t)) ts (omega arith) h a) ∙ sym (leaf_append q d p (leaves l t) (concat_map (leaves l) ts))

  pub under_is : (l p : ℕ) (t : Item (suc l)) → p + length (leaves l t) ≤ last_place → Frame c d l t → Under l p t
  unfolding leaves_under leaves leaf_branches item_branch Frame
  under_is zero p t m f = ap (λ (x : Branch). x ∷ []) (leaf_branch_law q d p t)
  under_is (suc l) p t m f = rw (not_leaf l, opened_is p l t m f) (under_list l p t.1 m (under_is l) f.2)

  -- whatever the bound of an inner branch is
  pub under_inner : (l B p : ℕ) (t : Item (suc (suc l))) → p + length (leaves (suc l) t) ≤ last_place → Frame c d (suc l) t → leaves_under is_leaf (kids c q) (suc l) (inner B p l t) ≡ leaf_branches q d p (leaves (suc l) t)
  unfolding leaves_under leaves Frame
  under_inner l B p t m f = rw (not_leaf l, opened_is p l t m f) (under_list l p t.1 m (under_is l) f.2)

-- ---- ORDER AND RANGES, FROM A PAGE TO THE PAGES UNDER IT

pub parts_right : {A B : Type 0} {P : B → Type 0} (f : A → List B) (xs : List A) → All P (concat_map f xs) → All (λ x. All P (f x)) xs
unfolding concat_map
parts_right f [] a = none
parts_right f (x ∷ xs) a = also (all_left (f x) (concat_map f xs) a) (parts_right f xs (all_right (f x) (concat_map f xs) a))

pub parts_up : {A B : Type 0} (g : B → ℕ) (f : A → List B) (xs : List A) → Ascending (map g (concat_map f xs)) → All (λ x. Ascending (map g (f x))) xs
unfolding concat_map
parts_up g f [] a = none
parts_up g f (x ∷ xs) a =
    let b : Ascending (map g (f x) ++ map g (concat_map f xs)) = rw (map_append g (f x) (concat_map f xs)) at a in
    also (asc_left (map g (f x)) (map g (concat_map f xs)) b) (parts_up g f xs (asc_right (map g (f x)) (map g (concat_map f xs)) b))

-- the records under a page are in key order, in range and as stored
pub record Ordered (d l : ℕ) (t : Item (suc l)) : Type 0 where
  pub up : Ascending (map (rank_of d) (records (suc l) t))
  pub right : All (Right d) (records (suc l) t)
  pub some : Branching l t

pub ordered_kids : (d l : ℕ) (t : Item (suc (suc l))) → Ordered d (suc l) t → All (Ordered d l) t.1
unfolding records Branching
ordered_kids d l t o =
    all_map (λ u h. record { up = h.0; right = h.1.0; some = h.1.1 })
    (all_both (parts_up (rank_of d) (records (suc l)) t.1 o.up) (all_both (parts_right (records (suc l)) t.1 o.right) o.some.1))

module _ (d : ℕ) (low : 1 ≤ d) (high : d ≤ max_features) (q : Asked) (suits : Askable d q) where
  abbrev span_of : (l : ℕ) → Item (suc l) → ℕ
  span_of l t = span_bound q (first_key d (records (suc l) t)) (last_key d (records (suc l) t))

  -- the bound of a page is at most that of each page under it
  kids_floor : (l : ℕ) (t : Item (suc (suc l))) → Ordered d (suc l) t → All (λ u. span_of (suc l) t ≤ span_of l u) t.1
  unfolding records
  kids_floor l t o =
      all_map
      (λ u h. span_part d low high q suits (records (suc (suc l)) t) (records_some (suc l) t o.some) o.up o.right
      (records (suc l) u) (records_some l u h.0.some) h.0.up h.0.right h.1.0 h.1.1)
      (all_both (ordered_kids d l t o)
      (all_both
      (parts_right (records (suc l)) t.1 (from_first (rank_of d) no_record (records (suc (suc l)) t) o.up))
      (parts_right (records (suc l)) t.1 (to_last (rank_of d) no_record (records (suc (suc l)) t) o.up))))

  -- and of each leaf under it
  pub leaves_floor : (l : ℕ) (t : Item (suc l)) → Ordered d l t → All (λ u. span_of l t ≤ leaf_bound d q u) (leaves l t)
  unfolding leaves leaf_bound
  leaves_floor zero t o = also {x = t} (rw (leaf_records t) (le_refl _)) none
  leaves_floor (suc l) t o =
      all_concat_map (leaves l) t.1
      (all_map (λ u h. all_map (λ s g. le_trans h.1 g) (leaves_floor l u h.0))
      (all_both (ordered_kids d l t o) (kids_floor l t o)))
