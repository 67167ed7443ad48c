-- Deletion from a tree: its records, its fills, the pages that it gives up. Nothing here speaks of bytes.
use Rattle.std.specs.Prelude.{◌≡◌, refl, ◌≢◌, ltb, eqb, take, drop, set}
use Rattle.std.proofs.Math.Path.{sym, ap}
use Rattle.std.proofs.Common.{◌∙◌, length-set, take-append-drop, length-append, length-take, length-drop, drop-set-lt, get_or-set_same}
use mathlib.Core.List.{List, [], ◌∷◌, ◌++◌, append_assoc, append-nil}
use Prim.Native.Nat.{ℕ, zero, suc, ◌+◌, ◌-◌, ◌≤◌, ◌<◌}
use native.Mathlib.Omega.{arith}
use Rattle.std.proofs.Math.ListN.{length, get_or}
use Rattle.std.proofs.lemmas.List.{take-set-le}
use Rattle.std.proofs.Math.Seq.{get_or-set_other}
use borrow.Author.Tests.{ltb-true, ltb-false, eq-eqb, ne_eqb}
use Rattle.lists.specs.Basics.{if, All, none, also, concat_map, concat_map_append, all_append, all_left, all_right, all_map}
use Rattle.lists.specs.Choices.{if_cases}
use Rattle.lists.specs.Counts.{mult, mult_append}
use Rattle.lists.specs.ConcatMapLaws.{all_both}
use Rattle.lists.specs.Parts.{all_drop, all_set, concat_map_split, concat_map_three, concat_map_set, concat_map_pair}
use Rattle.lists.specs.AscendingBy.{AscendingBy, rising_left, rising_right}
use Rattle.lists.specs.Tabulated.{all_take, all_at}
use Rattle.pagestore_page.specs.declared.Record.{Record}
use Rattle.tree_model.specs.Trees.{Item, records, pages, rank_of}
use Rattle.tree_model.specs.Deleting.{delete_record, left_count, rebalanced_items, left_of, place_pair, rebalanced_pair, delete_tree}
use Rattle.tree_model.specs.Inserting.{no_tree, chosen}
use Rattle.tree_model.specs.TreeLaws.{concat_map_records, no_pages_law}
use Rattle.tree_laws.specs.Shapes.{Ok, Some, Root, ok_root, chosen_lt, before_chosen, behind_chosen}
use Rattle.tree_laws.specs.Idents.{del_left, del_right, del_all, del_length}

-- REBALANCING

-- two ways: cut elsewhere, or merged
pub data Balanced {A : Type 0} (xs ys : List A) : List (List A) → Type 0 where
  two : {us vs : List A} → us ++ vs ≡ xs ++ ys → 8 ≤ length us → length us ≤ 16 → 8 ≤ length vs → length vs ≤ 16 → Balanced xs ys (us ∷ vs ∷ [])
  one : {us : List A} → us ≡ xs ++ ys → 8 ≤ length us → length us ≤ 16 → Balanced xs ys (us ∷ [])

-- what the left one is to hold, of two that may be rebalanced: all, if that fits a page, or so many that both are filled
data Shared (n m : ℕ) : ℕ → Type 0 where
  all : n + m ≤ 16 → Shared n m (n + m)
  some : {k : ℕ} → 8 ≤ k → k ≤ 16 → k + 8 ≤ n + m → n + m ≤ k + 16 → Shared n m k

left_shared : (n m : ℕ) → 7 ≤ n → n ≤ 16 → 7 ≤ m → m ≤ 16 → 15 ≤ n + m → Shared n m (left_count n m)
unfolding left_count
left_shared n m a b c d e =
    if_cases (Shared n m) (ltb n 8) _ _
    (λ h. let h' : n < 8 = ltb-true _ _ h in
    if_cases (Shared n m) (ltb 8 m) _ _
    (λ g. let g' : 8 < m = ltb-true _ _ g in some (omega arith) (omega arith) (omega arith) (omega arith))
    (λ g. let g' : m ≤ 8 = ltb-false _ _ g in all (omega arith)))
    (λ h. let h' : 8 ≤ n = ltb-false _ _ h in
    if_cases (Shared n m) (ltb m 8) _ _
    (λ g. let g' : m < 8 = ltb-true _ _ g in
    if_cases (Shared n m) (ltb 8 n) _ _
    (λ f. let f' : 8 < n = ltb-true _ _ f in some (omega arith) (omega arith) (omega arith) (omega arith))
    (λ f. let f' : n ≤ 8 = ltb-false _ _ f in all (omega arith)))
    (λ g. let g' : 8 ≤ m = ltb-false _ _ g in some (omega arith) (omega arith) (omega arith) (omega arith)))

balanced_by : {A : Type 0} (xs ys : List A) {k : ℕ} → 15 ≤ length xs + length ys → Shared (length xs) (length ys) k
    → Balanced xs ys (if (eqb k (length xs + length ys)) ((xs ++ ys) ∷ []) (take k (xs ++ ys) ∷ drop k (xs ++ ys) ∷ []))
balanced_by xs ys e (all a) = rw (eq-eqb (length xs + length ys) (length xs + length ys) refl) (one {us = xs ++ ys} refl (omega (arith, length-append xs ys)) (omega (arith, length-append xs ys)))
balanced_by xs ys {k} e (some a b c d) =
    let n = length-append xs ys in
    let t = length-take k (xs ++ ys) in
    let u = length-drop k (xs ++ ys) in
    rw (ne_eqb k (length xs + length ys) (λ (z : k ≡ length xs + length ys). omega arith)) (two {us = take k (xs ++ ys)} {vs = drop k (xs ++ ys)} (take-append-drop k (xs ++ ys)) (omega arith) (omega arith) (omega arith) (omega arith))

balanced_is : {A : Type 0} (xs ys : List A) → 7 ≤ length xs → length xs ≤ 16 → 7 ≤ length ys → length ys ≤ 16 → 15 ≤ length xs + length ys → Balanced xs ys (rebalanced_items xs ys)
unfolding rebalanced_items
balanced_is xs ys a b c d e = balanced_by xs ys e (left_shared (length xs) (length ys) a b c d e)

-- what a rebalanced pair holds is what the pair held
place_concat_map : {A B : Type 0} (f : A → List B) (p q : ℕ) (fs : List ℕ) (xs ys : List A) {zs : List (List A)} → Balanced xs ys zs
    → concat_map (λ t. concat_map f t.1) (place_pair p q fs zs).trees ≡ concat_map f xs ++ concat_map f ys
unfolding place_pair concat_map
place_concat_map {A} {B} f p q fs xs ys (two {us = us} {vs = vs} e a b c d) =
    ap (λ (z : List B). concat_map f us ++ z) (append-nil (concat_map f vs)) ∙ sym (concat_map_append f us vs) ∙ ap (concat_map f) e ∙ concat_map_append f xs ys
place_concat_map f p q fs xs ys (one {us = us} e a b) = append-nil (concat_map f us) ∙ ap (concat_map f) e ∙ concat_map_append f xs ys

place_ok : (l p q : ℕ) (fs : List ℕ) (xs ys : List (Item l)) {zs : List (List (Item l))} → Balanced xs ys zs → All (Ok l) (xs ++ ys) → All (Ok (suc l)) (place_pair p q fs zs).trees
unfolding place_pair Ok
place_ok l p q fs xs ys (two {us = us} {vs = vs} e a b c d) o =
    let o' : All (Ok l) (us ++ vs) = rw e o in also (a, b, all_left us vs o') (also (c, d, all_right us vs o') none)
place_ok l p q fs xs ys (one {us = us} e a b) o = let o' : All (Ok l) us = rw e o in also (a, b, o') none

place_pages : (l z p q : ℕ) (fs : List ℕ) (xs ys : List (Item l)) {zs : List (List (Item l))} → Balanced xs ys zs
    → mult z (concat_map (pages (suc l)) (place_pair p q fs zs).trees) + mult z (place_pair p q fs zs).free ≡ mult z (p ∷ concat_map (pages l) xs) + mult z (q ∷ concat_map (pages l) ys) + mult z fs
unfolding place_pair pages mult concat_map
place_pages l z p q fs xs ys (two {us = us} {vs = vs} e a b c d) =
    let U = concat_map (pages l) us in
    let W = concat_map (pages l) vs in
    let e1 : mult z (U ++ q ∷ (W ++ [])) ≡ mult z U + mult z (q ∷ (W ++ [])) = mult_append z U (q ∷ (W ++ [])) in
    let e2 : mult z (W ++ []) ≡ mult z W = ap (mult z) (append-nil W) in
    let e3 : mult z U + mult z W ≡ mult z (concat_map (pages l) xs) + mult z (concat_map (pages l) ys) =
    sym (mult_append z U W) ∙ ap (mult z) (sym (concat_map_append (pages l) us vs) ∙ ap (concat_map (pages l)) e ∙ concat_map_append (pages l) xs ys) ∙ mult_append z (concat_map (pages l) xs) (concat_map (pages l) ys) in
    omega arith
place_pages l z p q fs xs ys (one {us = us} e a b) =
    let U = concat_map (pages l) us in
    let e2 : mult z (U ++ []) ≡ mult z U = ap (mult z) (append-nil U) in
    let e3 : mult z U ≡ mult z (concat_map (pages l) xs) + mult z (concat_map (pages l) ys) =
    ap (mult z) (ap (concat_map (pages l)) e ∙ concat_map_append (pages l) xs ys) ∙ mult_append z (concat_map (pages l) xs) (concat_map (pages l) ys) in
    omega arith

place_few : {A : Type 0} (p q : ℕ) (fs : List ℕ) {xs ys : List A} {zs : List (List A)} → Balanced xs ys zs → (1 ≤ length (place_pair p q fs zs).trees) × (length (place_pair p q fs zs).trees ≤ 2)
unfolding place_pair
place_few p q fs (two e a b c d) = omega arith
place_few p q fs (one e a b) = omega arith

-- THE PAIR

left_fits : (i n : ℕ) → i < n → 2 ≤ n → suc (left_of i n) < n
unfolding left_of
left_fits i n h g = if_cases (λ j. suc j < n) (ltb (suc i) n) i (i - 1) (λ e. ltb-true _ _ e) (λ e. let q : n ≤ suc i = ltb-false _ _ e in omega arith)

left_le : (i n : ℕ) → i < n → 2 ≤ n → (left_of i n ≤ i) × (i < suc (suc (left_of i n)))
unfolding left_of
left_le i n h g = if_cases (λ j. (j ≤ i) × (i < suc (suc j))) (ltb (suc i) n) i (i - 1) (λ e. omega arith) (λ e. let q : n ≤ suc i = ltb-false _ _ e in omega arith)

-- a page with at most one item too few
pub record Near (l : ℕ) (t : Item (suc l)) : Type 0 where
  pub low : 7 ≤ length t.1
  pub high : length t.1 ≤ 16
  pub subs : All (Ok l) t.1

ok_near : (l : ℕ) (t : Item (suc l)) → Ok (suc l) t → Near l t
unfolding Ok
ok_near l t o = record { low = omega arith; high = o.1; subs = o.2 }

ok_eight : (l : ℕ) (t : Item (suc l)) → Ok (suc l) t → 8 ≤ length t.1
unfolding Ok
ok_eight l t o = o.0

-- the children ts, of which the one at i has become x: of the pair only that child can be short
module _ (l : ℕ) (ts : List (Item (suc l))) (i : ℕ) (x : Item (suc l)) (h : i < length ts) (g : 2 ≤ length ts) (ok : All (Ok (suc l)) ts) (nx : Near l x) where
  pair_sum : (j : ℕ) → j ≡ left_of i (length ts) → 15 ≤ length (get_or (set ts i x) j (no_tree l)).1 + length (get_or (set ts i x) (suc j) (no_tree l)).1
  unfolding left_of
  pair_sum j e =
      if_cases (λ m. j ≡ m → 15 ≤ length (get_or (set ts i x) j (no_tree l)).1 + length (get_or (set ts i x) (suc j) (no_tree l)).1) (ltb (suc i) (length ts)) i (i - 1)
      (λ c q. let c' : suc i < length ts = ltb-true _ _ c in
      let a : get_or (set ts i x) j (no_tree l) ≡ x = rw q (get_or-set_same ts i x (no_tree l) h) in
      let b : get_or (set ts i x) (suc j) (no_tree l) ≡ get_or ts (suc j) (no_tree l) = get_or-set_other ts i (suc j) x (no_tree l) (λ (w : suc j ≡ i). omega arith) in
      rw (a, b) (omega (arith, nx.low, ok_eight l (get_or ts (suc j) (no_tree l)) (all_at ok (suc j) (no_tree l) (omega arith)))))
      (λ c q. let c' : length ts ≤ suc i = ltb-false _ _ c in
      let s : suc j ≡ i = omega arith in
      let b : get_or (set ts i x) (suc j) (no_tree l) ≡ x = rw s (get_or-set_same ts i x (no_tree l) h) in
      let a : get_or (set ts i x) j (no_tree l) ≡ get_or ts j (no_tree l) = get_or-set_other ts i j x (no_tree l) (λ (w : j ≡ i). omega arith) in
      rw (a, b) (omega (arith, nx.low, ok_eight l (get_or ts j (no_tree l)) (all_at ok j (no_tree l) (omega arith)))))
      e

  pub pair_near : All (Near l) (set ts i x)
  pair_near = all_set i x nx (all_map (ok_near l) ok)

  pub pair_lt : suc (left_of i (length ts)) < length (set ts i x)
  pair_lt = rw (length-set ts i x) (left_fits i (length ts) h g)

  pub pair_balanced : let a = get_or (set ts i x) (left_of i (length ts)) (no_tree l) in let b = get_or (set ts i x) (suc (left_of i (length ts))) (no_tree l) in Balanced a.1 b.1 (rebalanced_items a.1 b.1)
  pair_balanced =
      let na = all_at pair_near (left_of i (length ts)) (no_tree l) (omega (arith, pair_lt)) in
      let nb = all_at pair_near (suc (left_of i (length ts))) (no_tree l) pair_lt in
      balanced_is _ _ na.low na.high nb.low nb.high (pair_sum _ refl)

  abbrev after : (fs : List ℕ) → List (Item (suc l))
  after fs = take (left_of i (length ts)) (set ts i x) ++ ((rebalanced_pair l fs (left_of i (length ts)) (set ts i x)).trees ++ drop (suc (suc (left_of i (length ts)))) (set ts i x))

  -- rebalancing changes nothing of what the children hold
  pair_records : (fs : List ℕ) → concat_map (records (suc l)) (after fs) ≡ concat_map (records (suc l)) (set ts i x)
  unfolding records
  pair_records fs =
      let j = left_of i (length ts) in
      let a = get_or (set ts i x) j (no_tree l) in
      let b = get_or (set ts i x) (suc j) (no_tree l) in
      concat_map_three (records (suc l)) (take j (set ts i x)) (rebalanced_pair l fs j (set ts i x)).trees (drop (suc (suc j)) (set ts i x))
      ∙ ap (λ (z : List Record). concat_map (records (suc l)) (take j (set ts i x)) ++ (z ++ concat_map (records (suc l)) (drop (suc (suc j)) (set ts i x)))) (place_concat_map (records l) a.0 b.0 fs a.1 b.1 pair_balanced)
      ∙ ap (λ (z : List Record). concat_map (records (suc l)) (take j (set ts i x)) ++ z) (append_assoc (records (suc l) a) (records (suc l) b) _)
      ∙ sym (concat_map_pair (records (suc l)) (set ts i x) j (no_tree l) pair_lt)

  pub pair_ok : (fs : List ℕ) → All (Ok (suc l)) (after fs)
  pair_ok fs =
      let j = left_of i (length ts) in
      let na = all_at pair_near j (no_tree l) (omega (arith, pair_lt)) in
      let nb = all_at pair_near (suc j) (no_tree l) pair_lt in
      let p : All (Ok (suc l)) (take j (set ts i x)) = rw (take-set-le j ts i x (left_le i (length ts) h g).0) (all_take j ok) in
      let q : All (Ok (suc l)) (drop (suc (suc j)) (set ts i x)) = rw (drop-set-lt (suc (suc j)) ts i x (left_le i (length ts) h g).1) (all_drop (suc (suc j)) ok) in
      all_append p (all_append (place_ok l _ _ fs _ _ pair_balanced (all_append na.subs nb.subs)) q)

  pub pair_pages : (fs : List ℕ) (z : ℕ)
      → mult z (concat_map (pages (suc l)) (after fs)) + mult z (rebalanced_pair l fs (left_of i (length ts)) (set ts i x)).free ≡ mult z (concat_map (pages (suc l)) (set ts i x)) + mult z fs
  unfolding pages
  pair_pages fs z =
      let j = left_of i (length ts) in
      let a = get_or (set ts i x) j (no_tree l) in
      let b = get_or (set ts i x) (suc j) (no_tree l) in
      let L = concat_map (pages (suc l)) (take j (set ts i x)) in
      let R = concat_map (pages (suc l)) (drop (suc (suc j)) (set ts i x)) in
      let E = concat_map (pages (suc l)) (rebalanced_pair l fs j (set ts i x)).trees in
      let g = place_pages l z a.0 b.0 fs a.1 b.1 pair_balanced in
      let n : mult z (concat_map (pages (suc l)) (after fs)) ≡ mult z L + (mult z E + mult z R) =
      simp (concat_map_three (pages (suc l)) (take j (set ts i x)) (rebalanced_pair l fs j (set ts i x)).trees (drop (suc (suc j)) (set ts i x)), mult_append z L, mult_append z E) in
      let o : mult z (concat_map (pages (suc l)) (set ts i x)) ≡ mult z L + (mult z (pages (suc l) a) + (mult z (pages (suc l) b) + mult z R)) =
      ap (mult z) (concat_map_pair (pages (suc l)) (set ts i x) j (no_tree l) pair_lt) ∙ mult_append z L (pages (suc l) a ++ (pages (suc l) b ++ R))
      ∙ ap (λ (m : ℕ). mult z L + m) (mult_append z (pages (suc l) a) (pages (suc l) b ++ R) ∙ ap (λ (m : ℕ). mult z (pages (suc l) a) + m) (mult_append z (pages (suc l) b) R)) in
      omega arith

  pub pair_length : (fs : List ℕ) → (length (after fs) ≤ length ts) × (length ts ≤ length (after fs) + 1)
  pair_length fs =
      let j = left_of i (length ts) in
      let us = set ts i x in
      let es = (rebalanced_pair l fs j us).trees in
      let c = place_few (get_or us j (no_tree l)).0 (get_or us (suc j) (no_tree l)).0 fs pair_balanced in
      omega (arith, length-append (take j us) (es ++ drop (suc (suc j)) us), length-append es (drop (suc (suc j)) us), length-take j us, length-drop (suc (suc j)) us, pair_lt, length-set ts i x)

-- DELETION

pub same_page : (d l : ℕ) (r : Record) (fs : List ℕ) (t : Item (suc l)) → (delete_tree d l r fs t).tree.0 ≡ t.0
unfolding delete_tree
same_page d zero r fs t = refl
same_page d (suc l) r fs t = refl

pub delete_near : (d l : ℕ) (r : Record) (fs : List ℕ) (t : Item (suc l)) → Ok (suc l) t → Near l (delete_tree d l r fs t).tree
unfolding delete_tree Ok
delete_near d zero r fs t o = let n = del_length r.id t.1 in record { low = omega arith; high = omega arith; subs = del_all r.id o.2 }
delete_near d (suc l) r fs t o =
    let i = chosen d l (rank_of d r) t.1 in
    let lt = chosen_lt d l (rank_of d r) t.1 (omega arith) in
    let c = get_or t.1 i (no_tree l) in
    let u = delete_tree d l r fs c in
    let n = delete_near d l r fs c (all_at o.2 i (no_tree l) lt) in
    let m = pair_length l t.1 i u.tree lt (omega arith) o.2 n u.free in
    record { low = omega arith; high = omega arith; subs = pair_ok l t.1 i u.tree lt (omega arith) o.2 n u.free }

-- what is left of an inner root: it has a child, and its children are filled
pub record After (l : ℕ) (t : Item (suc l)) : Type 0 where
  pub low : 1 ≤ length t.1
  pub high : length t.1 ≤ 16
  pub subs : All (Ok l) t.1

pub delete_after : (d l : ℕ) (r : Record) (fs : List ℕ) (t : Item (suc (suc l))) → Root (suc l) t → After (suc l) (delete_tree d (suc l) r fs t).tree
unfolding delete_tree Some
delete_after d l r fs t o =
    let i = chosen d l (rank_of d r) t.1 in
    let lt = chosen_lt d l (rank_of d r) t.1 (omega (arith, o.some)) in
    let c = get_or t.1 i (no_tree l) in
    let u = delete_tree d l r fs c in
    let n = delete_near d l r fs c (all_at o.subs i (no_tree l) lt) in
    let m = pair_length l t.1 i u.tree lt o.some o.subs n u.free in
    record { low = omega (arith, o.some); high = omega (arith, o.most); subs = pair_ok l t.1 i u.tree lt o.some o.subs n u.free }

-- no page is lost or used twice
pub delete_kept : (d l : ℕ) (r : Record) (z : ℕ) (fs : List ℕ) (t : Item (suc l)) → Root l t
    → mult z (pages (suc l) (delete_tree d l r fs t).tree) + mult z (delete_tree d l r fs t).free ≡ mult z (pages (suc l) t) + mult z fs
unfolding delete_tree pages mult Some
delete_kept d zero r z fs t o = ap (λ (w : List ℕ). mult z (t.0 ∷ w) + mult z fs) (no_pages_law (delete_record r.id t.1) ∙ sym (no_pages_law t.1))
delete_kept d (suc l) r z fs t o =
    let i = chosen d l (rank_of d r) t.1 in
    let lt = chosen_lt d l (rank_of d r) t.1 (omega (arith, o.some)) in
    let c = get_or t.1 i (no_tree l) in
    let okc = all_at o.subs i (no_tree l) lt in
    let u = delete_tree d l r fs c in
    let ih = delete_kept d l r z fs c (ok_root l c okc) in
    let m = pair_pages l t.1 i u.tree lt o.some o.subs (delete_near d l r fs c okc) u.free z in
    let L = concat_map (pages (suc l)) (take i t.1) in
    let R = concat_map (pages (suc l)) (drop (suc i) t.1) in
    let e : mult z (concat_map (pages (suc l)) t.1) ≡ mult z L + (mult z (pages (suc l) c) + mult z R) =
    ap (mult z) (concat_map_split (pages (suc l)) t.1 i (no_tree l) lt) ∙ mult_append z L (pages (suc l) c ++ R) ∙ ap (λ (n : ℕ). mult z L + n) (mult_append z (pages (suc l) c) R) in
    let f : mult z (concat_map (pages (suc l)) (set t.1 i u.tree)) ≡ mult z L + (mult z (pages (suc l) u.tree) + mult z R) =
    ap (mult z) (concat_map_set (pages (suc l)) t.1 i u.tree lt) ∙ mult_append z L (pages (suc l) u.tree ++ R) ∙ ap (λ (n : ℕ). mult z L + n) (mult_append z (pages (suc l) u.tree) R) in
    omega arith

-- RECORDS

-- a record of the identifier has the rank
abbrev pub Known : ℕ → Record → Record → Type 0
Known d r x = x.id ≡ r.id → rank_of d x ≡ rank_of d r

pub not_below : (d : ℕ) (r : Record) {xs : List Record} → All (Known d r) xs → All (λ x. rank_of d x < rank_of d r) xs → All (λ x. x.id ≢ r.id) xs
not_below d r h g = all_map (λ x (p : Known d r x × (rank_of d x < rank_of d r)) (e : x.id ≡ r.id). omega (arith, p.0 e, p.1)) (all_both h g)

pub not_above_law : (d : ℕ) (r : Record) {xs : List Record} → All (Known d r) xs → All (λ x. rank_of d r < rank_of d x) xs → All (λ x. x.id ≢ r.id) xs
not_above_law d r h g = all_map (λ x (p : Known d r x × (rank_of d r < rank_of d x)) (e : x.id ≡ r.id). omega (arith, p.0 e, p.1)) (all_both h g)

pub delete_records : (d l : ℕ) (r : Record) (fs : List ℕ) (t : Item (suc l)) → Root l t → AscendingBy (rank_of d) (records (suc l) t) → All (Known d r) (records (suc l) t)
    → records (suc l) (delete_tree d l r fs t).tree ≡ delete_record r.id (records (suc l) t)
unfolding delete_tree records Some
delete_records d zero r fs t o s kn = concat_map_records (delete_record r.id t.1) ∙ ap (delete_record r.id) (sym (concat_map_records t.1))
delete_records d (suc l) r fs t o s kn =
    let k = rank_of d r in
    let i = chosen d l k t.1 in
    let some : 0 < length t.1 = omega (arith, o.some) in
    let lt = chosen_lt d l k t.1 some in
    let c = get_or t.1 i (no_tree l) in
    let okc = all_at o.subs i (no_tree l) lt in
    let u = delete_tree d l r fs c in
    let ls : List Record = concat_map (records (suc l)) (take i t.1) in
    let rs : List Record = concat_map (records (suc l)) (drop (suc i) t.1) in
    let split : concat_map (records (suc l)) t.1 ≡ ls ++ (records (suc l) c ++ rs) = concat_map_split (records (suc l)) t.1 i (no_tree l) lt in
    let s' : AscendingBy (rank_of d) (ls ++ (records (suc l) c ++ rs)) = rw split at s in
    let kn' : All (Known d r) (ls ++ (records (suc l) c ++ rs)) = rw split at kn in
    let knc = all_right ls (records (suc l) c ++ rs) kn' in
    let ih : records (suc l) u.tree ≡ delete_record r.id (records (suc l) c) =
    delete_records d l r fs c (ok_root l c okc) (rising_left (rank_of d) (records (suc l) c) rs (rising_right (rank_of d) ls _ s')) (all_left (records (suc l) c) rs knc) in
    let a : delete_record r.id (ls ++ (records (suc l) c ++ rs)) ≡ ls ++ delete_record r.id (records (suc l) c ++ rs) =
    del_left r.id (records (suc l) c ++ rs) (not_below d r (all_left ls _ kn') (before_chosen d l k t.1 some o.subs s)) in
    let b : delete_record r.id (records (suc l) c ++ rs) ≡ delete_record r.id (records (suc l) c) ++ rs =
    del_right r.id (records (suc l) c) (not_above_law d r (all_right (records (suc l) c) rs knc) (behind_chosen d l k t.1 some o.subs s)) in
    let e : concat_map (records (suc l)) (set t.1 i u.tree) ≡ ls ++ (records (suc l) u.tree ++ rs) = concat_map_set (records (suc l)) t.1 i u.tree lt in
    pair_records l t.1 i u.tree lt o.some o.subs (delete_near d l r fs c okc) u.free ∙ cc

-- THE PAGES GIVEN UP: at each level at most one, the right page of the pair; the highest level comes first, being freed last

unfoldable pub gives : {A : Type 0} → ℕ → ℕ → List (List A) → List ℕ
gives p q [] = p ∷ q ∷ []
gives p q (us ∷ []) = q ∷ []
gives p q (us ∷ vs ∷ ws) = []

-- of the children ts, the one at j and the next
abbrev given_pair : (l : ℕ) → ℕ → List (Item (suc l)) → List ℕ
given_pair l j ts = let x = get_or ts j (no_tree l) in let y = get_or ts (suc j) (no_tree l) in gives x.0 y.0 (rebalanced_items x.1 y.1)

unfoldable pub given : ℕ → (l : ℕ) → Record → Item (suc l) → List ℕ
given d zero r t = []
given d (suc l) r t =
    let i = chosen d l (rank_of d r) t.1 in
    let c = get_or t.1 i (no_tree l) in
    given_pair l (left_of i (length t.1)) (set t.1 i (delete_tree d l r [] c).tree) ++ given d l r c

place_given : {A : Type 0} (p q : ℕ) (fs : List ℕ) (zs : List (List A)) → (place_pair p q fs zs).free ≡ gives p q zs ++ fs
unfolding place_pair gives
place_given p q fs [] = refl
place_given p q fs (us ∷ []) = refl
place_given p q fs (us ∷ vs ∷ ws) = refl

place_trees : {A : Type 0} (p q : ℕ) (fs gs : List ℕ) (zs : List (List A)) → (place_pair p q fs zs).trees ≡ (place_pair p q gs zs).trees
unfolding place_pair
place_trees p q fs gs [] = refl
place_trees p q fs gs (us ∷ []) = refl
place_trees p q fs gs (us ∷ vs ∷ ws) = refl

-- which pages are free makes no difference to the tree
pub delete_tree_law : (d l : ℕ) (r : Record) (fs gs : List ℕ) (t : Item (suc l)) → (delete_tree d l r fs t).tree ≡ (delete_tree d l r gs t).tree
unfolding delete_tree
delete_tree_law d zero r fs gs t = refl
delete_tree_law d (suc l) r fs gs t =
    let i = chosen d l (rank_of d r) t.1 in
    let c = get_or t.1 i (no_tree l) in
    let j = left_of i (length t.1) in
    let g : List ℕ → Item (suc l) → Item (suc (suc l)) = λ hs x. (t.0, take j (set t.1 i x) ++ ((rebalanced_pair l hs j (set t.1 i x)).trees ++ drop (suc (suc j)) (set t.1 i x))) in
    let ts = set t.1 i (delete_tree d l r gs c).tree in
    ap (g (delete_tree d l r fs c).free) (delete_tree_law d l r fs gs c)
    ∙ ap (λ (z : List (Item (suc l))). (t.0, take j ts ++ (z ++ drop (suc (suc j)) ts))) (place_trees _ _ (delete_tree d l r fs c).free (delete_tree d l r gs c).free _)

pub delete_free : (d l : ℕ) (r : Record) (fs : List ℕ) (t : Item (suc l)) → (delete_tree d l r fs t).free ≡ given d l r t ++ fs
unfolding delete_tree given
delete_free d zero r fs t = refl
delete_free d (suc l) r fs t =
    let i = chosen d l (rank_of d r) t.1 in
    let c = get_or t.1 i (no_tree l) in
    let j = left_of i (length t.1) in
    let ts = set t.1 i (delete_tree d l r [] c).tree in
    let x = get_or ts j (no_tree l) in
    let y = get_or ts (suc j) (no_tree l) in
    ap (λ (z : Item (suc l)). (rebalanced_pair l (delete_tree d l r fs c).free j (set t.1 i z)).free) (delete_tree_law d l r fs [] c)
    ∙ place_given x.0 y.0 (delete_tree d l r fs c).free (rebalanced_items x.1 y.1)
    ∙ ap (λ (z : List ℕ). gives x.0 y.0 (rebalanced_items x.1 y.1) ++ z) (delete_free d l r fs c)
    ∙ sym (append_assoc (gives x.0 y.0 (rebalanced_items x.1 y.1)) (given d l r c) fs)
