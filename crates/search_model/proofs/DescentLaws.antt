-- The search from the root gives what the visit of all leaves by (bound, position) gives.
use Rattle.std.proofs.Common.{◌≡◌, refl, sym, ap, ◌∙◌, false, List, [], ◌∷◌, map, ℕ, zero, suc, ◌+◌, ◌*◌, ◌≤◌, ◌<◌, arith, le_refl, length, length-append, lt-ltb, le-ltb}
use lib.ListN.{length-map}
use borrow.Author.Tests.{lt-leb}
use Rattle.lists.specs.Basics.{All, none, also, concat_map}
use Rattle.lists.specs.Tests.{three, false_true}
use Rattle.lists.specs.Sorting.{Order, sort, insert_by}
use Rattle.lists.specs.Orders.{lower, higher, by_lower, by_equal, by_higher_law, by_weak, by_same, by_higher_weak, by_higher_same, lower_weak, lower_same, lex_last, weak_order}
use Rattle.geometry.specs.Numbers.{max_features}
use Rattle.search_theory.specs.Nearest.{Outcome, reading, exceeds, offered, visit, best_first}
use Rattle.search_theory.specs.Frontier.{leaves_under, Descends, seek}
use Rattle.search_theory.proofs.FrontierLaws.{seek_end, seek_read, seek_root}
use Rattle.search_theory.proofs.VisitLaws.{visit_read}
use Rattle.search_rows.specs.declared.Row.{Row}
use Rattle.tree_model.specs.Trees.{Item, leaves}
use Rattle.search_model.specs.Asked.{Asked, Askable}
use Rattle.search_model.specs.Branches.{Branch, branch_bound, branch_place, branch_level, branch_page, higher_first, last_place, tied, before, is_leaf, kids, rows_at}
use Rattle.search_model.specs.Visit.{ranking, answer_of, placed}
use Rattle.search_model.specs.Questions.{leaf_bound, leaf_branch}
use Rattle.search_model.proofs.FrameLaws.{Frame, Branching, inner, item_branch, item_branches, leaf_branches, opened_is, under_inner, Ordered, ordered_kids, leaves_floor}

pub branch_order : Order before
branch_order =
    weak_order (by_weak branch_bound tied (by_weak branch_place higher_first (by_higher_weak branch_level (lower branch_page) (lower_weak branch_page))))
    (λ a b e f.
    let s = by_same branch_bound tied a b e f in
    let t = by_same branch_place higher_first a b s.1 s.2 in
    let u = by_higher_same branch_level (lower branch_page) a b t.1 t.2 in
    let w = lower_same branch_page a b u.1 u.2 in
    λ i. record { bound = s.0 i; place = t.0 i; level = u.0 i; page = w i })

pub branch_floor : (x y : Branch) → before y x ≡ false → x.bound ≤ y.bound
branch_floor x y e = three y.bound x.bound (λ h. false_true (sym e ∙ by_lower branch_bound tied y x h)) (λ h. omega arith) (λ h. omega arith)

-- an inner branch comes before the leaves under it
behind : (x y : Branch) → x.bound ≤ y.bound → x.place ≤ y.place → y.level < x.level → before y x ≡ false
behind x y b p l =
    three y.bound x.bound
    (λ h. absurd (omega arith))
    (λ h. by_equal branch_bound tied y x h ∙ three y.place x.place
    (λ g. absurd (omega arith))
    (λ g. by_equal branch_place higher_first y x g ∙ lex_last (higher branch_level) (lower branch_page) y x (le-ltb x.level y.level (omega arith)) (lt-ltb y.level x.level l))
    (λ g. by_higher_law branch_place higher_first y x g))
    (λ h. by_higher_law branch_bound tied y x h)

leaves_behind : (q : Asked) (d : ℕ) (x : Branch) (n : ℕ) (ts : List (Item 1)) → x.place ≤ n → 0 < x.level → All (λ u. x.bound ≤ leaf_bound d q u) ts
    → All (λ y. before y x ≡ false) (leaf_branches q d n ts)
unfolding leaf_branches leaf_branch
leaves_behind q d x n [] p l none = none
leaves_behind q d x n (t ∷ ts) p l (also h a) = also (behind x (leaf_branch q d n t) h p l) (leaves_behind q d x (suc n) ts (omega arith) l a)

length_branches : (q : Asked) (d l p : ℕ) (ts : List (Item (suc l))) → length (item_branches q d l p ts) ≡ length ts
unfolding item_branches
length_branches q d l p [] = refl
length_branches q d l p (t ∷ ts) = ap suc (length_branches q d l (p + length (leaves l t)) ts)

-- what is seen of a visit: its rows, and the leaves read, each by its position and its page
abbrev pub shown : Outcome Row Branch → List Row × List (ℕ × ℕ)
shown o = (o.rows, map placed o.read)

pub shown_answer : (o u : Outcome Row Branch) → shown o ≡ shown u → answer_of o ≡ answer_of u
shown_answer o u e =
    let n : length o.read ≡ length u.read = sym (length-map o.read placed) ∙ ap (λ (x : List Row × List (ℕ × ℕ)). length x.1) e ∙ length-map u.read placed in
    λ i. record { rows = (e i).0; leaves = n i }

module _ (c : List ℕ) (q : Asked) (d : ℕ) (low : 1 ≤ d) (high : d ≤ max_features) (suits : Askable d q) where
  abbrev Down : ℕ → Branch → Type 0
  Down l x = Descends is_leaf (kids c q) before l x

  -- where there are positions for the leaves under a page
  abbrev Downward : (l : ℕ) → Type 0
  Downward l = (p : ℕ) (t : Item (suc l)) → p + length (leaves l t) ≤ last_place → Frame c d l t → Ordered d l t → Down l (item_branch q d p l t)

  down_list : (l p : ℕ) (ts : List (Item (suc l))) → p + length (concat_map (leaves l) ts) ≤ last_place → Downward l → All (Frame c d l) ts → All (Ordered d l) ts → All (Down l) (item_branches q d l p ts)
  unfolding item_branches concat_map
  down_list l p [] m h none none = none
  down_list l p (t ∷ ts) m h (also f a) (also o b) =
      let n = length-append (leaves l t) (concat_map (leaves l) ts) in also (h p t (omega arith) f o) (down_list l (p + length (leaves l t)) ts (omega arith) h a b)

  -- a page of the tree, whatever its bound, if it is at most that of each leaf under it
  down_inner : (l B p : ℕ) (t : Item (suc (suc l))) → p + length (leaves (suc l) t) ≤ last_place → Downward l
      → Frame c d (suc l) t → Ordered d (suc l) t → All (λ u. B ≤ leaf_bound d q u) (leaves (suc l) t) → Down (suc l) (inner B p l t)
  unfolding Descends Frame Branching leaves
  down_inner l B p t m h f o b = λ e.
      let k = opened_is c q d p l t m f in (
        rw (k, length_branches q d l p t.1) o.some.0,
        rw (under_inner c q d l B p t m f) (leaves_behind q d (inner B p l t) p (leaves (suc l) t) (le_refl p) (omega arith) b),
        rw k (down_list l p t.1 m h f.2 (ordered_kids d l t o)),
      )

  pub down : (l : ℕ) → Downward l
  unfolding Descends item_branch
  down zero p t m f o = refl
  down (suc l) p t m f o = down_inner l _ p t m (down l) f o (leaves_floor d low high q suits (suc l) t o)

  -- ---- THE SEARCH

  module _ (k room n : ℕ) (one : 1 ≤ k) where
    abbrev seek_from : Branch → Outcome Row Branch
    seek_from x = seek ranking branch_bound (rows_at c q) before is_leaf (kids c q) k room n (x ∷ []) []

    abbrev visit_all : List (Item 1) → Outcome Row Branch
    visit_all ts = best_first ranking branch_bound (rows_at c q) k tied (leaf_branches q d 0 ts)

    inner_root : (l : ℕ) (t : Item (suc (suc l))) → length (leaves (suc l) t) ≤ last_place → Frame c d (suc l) t → Ordered d (suc l) t → length (leaves (suc l) t) ≤ room → 2 * length (leaves (suc l) t) ≤ n
        → seek_from (inner 0 0 l t) ≡ visit_all (leaves (suc l) t)
    unfolding best_first leaf_branches
    inner_root l t m f o r s =
        let e = under_inner c q d l 0 0 t (omega arith) f in
        let g : length (leaves_under is_leaf (kids c q) (suc l) (inner 0 0 l t)) ≡ length (leaves (suc l) t) = ap length e ∙ length_leaves 0 (leaves (suc l) t) in
        seek_root ranking branch_bound (rows_at c q) before is_leaf (kids c q) k room branch_order branch_floor (suc l) n (inner 0 0 l t) one
        (down_inner l 0 0 t (omega arith) (down l) f o (zeros (leaves (suc l) t))) (omega arith) (omega arith)
        ∙ ap (λ (ls : List Branch). visit ranking branch_bound (rows_at c q) k (sort before ls) []) e
      where
        zeros : (ts : List (Item 1)) → All (λ u. 0 ≤ leaf_bound d q u) ts
        zeros [] = none
        zeros (t ∷ ts) = also {x = t} (omega arith) (zeros ts)

        length_leaves : (p : ℕ) (ts : List (Item 1)) → length (leaf_branches q d p ts) ≡ length ts
        length_leaves p [] = refl
        length_leaves p (t ∷ ts) = ap suc (length_leaves (suc p) ts)

  -- while there are no rows, no bound exceeds the k-th distance
  none_exceeds : (k b : ℕ) → 1 ≤ k → exceeds ranking k b [] ≡ false
  unfolding exceeds
  none_exceeds k b one = rw (lt-leb k 0 one)

  -- a root leaf is read, whatever its bound
  leaf_root : (k room m : ℕ) (one : 1 ≤ k) (t : Item 1)
      → shown (seek_from k room (suc m) one (record { bound = 0; place = 0; level = 0; page = t.0 })) ≡ shown (visit_all k room (suc m) one (leaves 0 t))
  unfolding best_first leaves leaf_branches leaf_branch sort insert_by visit
  leaf_root k room m one t =
      let x : Branch = record { bound = 0; place = 0; level = 0; page = t.0 } in
      let y : Branch = leaf_branch q d 0 t in
      ap shown (seek_read ranking branch_bound (rows_at c q) before is_leaf (kids c q) k room m x [] [] (none_exceeds k 0 one) refl
      ∙ ap (reading x) (seek_end ranking branch_bound (rows_at c q) before is_leaf (kids c q) k room m (offered ranking branch_bound (rows_at c q) k x [])))
      ∙ sym (ap shown (visit_read ranking branch_bound (rows_at c q) k y [] [] (none_exceeds k (leaf_bound d q t) one)))

  -- the search from the root of a tree gives what the visit of its leaves gives
  pub seek_is : (k room n : ℕ) (one : 1 ≤ k) (l : ℕ) (t : Item (suc l)) → length (leaves l t) ≤ last_place → Frame c d l t → Ordered d l t → length (leaves l t) ≤ room → 2 * length (leaves l t) ≤ n
      → shown (seek_from k room n one (record { bound = 0; place = 0; level = l; page = t.0 })) ≡ shown (visit_all k room n one (leaves l t))
  unfolding leaves
  seek_is k room zero one zero t p f o r s = absurd (omega arith)
  seek_is k room (suc m) one zero t p f o r s = leaf_root k room m one t
  seek_is k room n one (suc l) t p f o r s = ap shown (inner_root k room n one l t p f o r s)
