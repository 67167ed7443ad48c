-- Laws of the k-th cost: what it counts, how it goes with k and with the cost, and the rows within reach of it.
use Rattle.std.specs.Prelude.{◌≡◌, Bool, true, false, take, ltb, leb}
use Rattle.std.proofs.Math.Path.{refl, ap}
use Rattle.std.proofs.Common.{sym, ◌∙◌, length-take, List, [], ◌∷◌, map, ℕ, zero, suc, ◌-◌, ◌≤◌, ◌<◌, arith, ltb-false, lt-ltb, le-ltb, le-leb, leb-true, leb-false}
use Rattle.std.proofs.Math.Bool.{not}
use Rattle.std.proofs.Math.ListN.{length, get_or}
use borrow.Author.Tests.{lt-leb}
use Rattle.lists.specs.Basics.{All, none, also, all_map}
use Rattle.lists.specs.Tests.{false_true, by_cases}
use Rattle.lists.specs.Sorting.{filter, count, Order, Sorted, end, next}
use Rattle.lists.specs.SortingLaws.{sorted_sort, length_sort, count_sort, length_filter, all_sort, all_filter}
use Rattle.lists.specs.Orders.{by}
use Rattle.lists.specs.Choices.{indicator_le}
use Rattle.search_theory.specs.Nearest.{Ranking, row_order, candidates, nearest, kth, at_most, in_set}
use Rattle.search_theory.proofs.VisitLaws.{by_floor, below, below_far, below_more, exceeds_below, in_set_exceeds}

module _ {A : Type 0} (f : A → ℕ) (tie : A → A → Bool) where
  -- numbers of a sorted list rise
  rising : (x : A) (xs : List A) → All (λ y. by f tie y x ≡ false) xs → All (λ y. f x ≤ f y) xs
  rising x xs a = all_map (λ y e. by_floor f tie x y e) a

  at_least : (m j : ℕ) (ys : List A) → All (λ y. m ≤ f y) ys → j < length ys → m ≤ get_or (map f ys) j 0
  at_least m j [] none w = absurd (omega arith)
  at_least m zero (y ∷ ys) (also h a) w = h
  at_least m (suc j) (y ∷ ys) (also h a) w = at_least m j ys a (omega arith)

  none_at_most : (m : ℕ) (xs : List A) → All (λ y. m < f y) xs → count (at_most f m) xs ≡ 0
  unfolding count
  none_at_most m [] none = refl
  none_at_most m (x ∷ xs) (also h a) = let q = none_at_most m xs a in rw (lt-leb (f x) m h) (omega arith)

  -- j + 1 of a sorted list are at most m just if the one at index j is
  index_at_most : (j m : ℕ) (xs : List A) → Sorted (by f tie) xs → suc j ≤ count (at_most f m) xs → get_or (map f xs) j 0 ≤ m
  unfolding count
  index_at_most j m [] end h = absurd (omega arith)
  index_at_most zero m (x ∷ xs) (next a s) h =
      by_cases (leb (f x) m)
      (λ e. leb-true (f x) m e)
      (λ e. let q : m < f x = leb-false (f x) m e in
      let z : count (at_most f m) (x ∷ xs) ≡ 0 = none_at_most m (x ∷ xs) (also q (all_map (λ y g. let p = by_floor f tie x y g in omega arith) a)) in
      absurd (omega arith))
  index_at_most (suc j) m (x ∷ xs) (next a s) h = let t = indicator_le (leb (f x) m) in index_at_most j m xs s (omega arith)

  at_most_index : (j m : ℕ) (xs : List A) → Sorted (by f tie) xs → j < length xs → get_or (map f xs) j 0 ≤ m → suc j ≤ count (at_most f m) xs
  unfolding count
  at_most_index j m [] end h g = absurd (omega arith)
  at_most_index zero m (x ∷ xs) (next a s) h g = rw (le-leb (f x) m g) (omega arith)
  at_most_index (suc j) m (x ∷ xs) (next a s) h g =
      let q : f x ≤ get_or (map f xs) j 0 = at_least (f x) j xs (rising x xs a) (omega arith) in
      let p = at_most_index j m xs s (omega arith) g in
      rw (le-leb (f x) m (omega arith)) (omega arith)

  -- the first j + 1 are at most the one at index j
  first_at_most : (j : ℕ) (xs : List A) → Sorted (by f tie) xs → j < length xs → All (λ x. f x ≤ get_or (map f xs) j 0) (take (suc j) xs)
  first_at_most j [] end h = absurd (omega arith)
  first_at_most zero (x ∷ xs) (next a s) h = let q : f x ≤ f x = omega arith in also q none
  first_at_most (suc j) (x ∷ xs) (next a s) h =
      also (at_least (f x) j xs (rising x xs a) (omega arith)) (first_at_most j xs s (omega arith))

  index_take : (j : ℕ) (xs : List A) → get_or (map f (take (suc j) xs)) j 0 ≡ get_or (map f xs) j 0
  index_take j [] = refl
  index_take zero (x ∷ xs) = refl
  index_take (suc j) (x ∷ xs) = index_take j xs

  -- below b at an index: below b at every earlier one
  pub below_earlier : (i j b : ℕ) (xs : List A) → Sorted (by f tie) xs → i ≤ j → below f j b xs ≡ true → below f i b xs ≡ true
  unfolding below
  below_earlier i j b [] end h e = e
  below_earlier zero zero b (x ∷ xs) (next a s) h e = e
  below_earlier zero (suc j) b (x ∷ xs) (next a s) h e =
      by_cases (ltb (f x) b)
      (λ t. t)
      (λ t. let q : b ≤ f x = ltb-false (f x) b t in
      false_true (sym (below_far f j b xs (all_map (λ y g. let p = by_floor f tie x y g in omega arith) a)) ∙ e))
  below_earlier (suc i) zero b (x ∷ xs) (next a s) h e = absurd (omega arith)
  below_earlier (suc i) (suc j) b (x ∷ xs) (next a s) h e = below_earlier i j b xs s (omega arith) e

-- ---- of a question

module _ {A : Type 0} (r : Ranking A) (o : Order (row_order r)) (xs : List A) where
  sorted : Sorted (row_order r) (candidates r xs)
  unfolding candidates
  sorted = sorted_sort (row_order r) o (filter r.passes xs)

  pub length_candidates : length (candidates r xs) ≡ count r.passes xs
  unfolding candidates
  length_candidates = length_sort (row_order r) (filter r.passes xs) ∙ length_filter r.passes xs

  count_candidates : (p : A → Bool) → count p (candidates r xs) ≡ count p (filter r.passes xs)
  unfolding candidates
  count_candidates p = count_sort (row_order r) p (filter r.passes xs)

  kth_index : (j : ℕ) → kth r (suc j) (nearest r (suc j) xs) ≡ get_or (map r.cost (candidates r xs)) j 0
  unfolding kth nearest
  kth_index j = let e : suc j - 1 ≡ j = omega arith in rw e (index_take r.cost r.tie j (candidates r xs))

  pub count_kth : (j m : ℕ) → suc j ≤ count (at_most r.cost m) (filter r.passes xs) → kth r (suc j) (nearest r (suc j) xs) ≤ m
  count_kth j m h =
      let e = count_candidates (at_most r.cost m) in
      rw (kth_index j) (index_at_most r.cost r.tie j m (candidates r xs) sorted (omega arith))

  pub kth_count : (j m : ℕ) → suc j ≤ length (candidates r xs) → kth r (suc j) (nearest r (suc j) xs) ≤ m → suc j ≤ count (at_most r.cost m) (filter r.passes xs)
  kth_count j m h g =
      let e = count_candidates (at_most r.cost m) in
      let q = at_most_index r.cost r.tie j m (candidates r xs) sorted (omega arith) (rw (kth_index j) at g) in
      omega arith

  -- each of the k nearest costs at most the k-th
  pub nearest_at_most : (j : ℕ) → suc j ≤ length (candidates r xs) → All (λ x. r.cost x ≤ kth r (suc j) (nearest r (suc j) xs)) (nearest r (suc j) xs)
  unfolding nearest
  nearest_at_most j h = rw (kth_index j) (first_at_most r.cost r.tie j (candidates r xs) sorted (omega arith))

  -- a lower bound, or a larger k, keeps a leaf in the set
  pub in_set_lower : (j b c : ℕ) → b ≤ c → in_set r (suc j) xs c ≡ true → in_set r (suc j) xs b ≡ true
  in_set_lower j b c h e =
      by_cases (below r.cost j b (candidates r xs))
      (λ t. false_true (sym (in_set_exceeds r j xs c ∙ ap not (exceeds_below r j c (candidates r xs) ∙ below_more r.cost j b c (candidates r xs) h t)) ∙ e))
      (λ t. in_set_exceeds r j xs b ∙ ap not (exceeds_below r j b (candidates r xs) ∙ t))

  pub in_set_larger : (i j b : ℕ) → i ≤ j → in_set r (suc i) xs b ≡ true → in_set r (suc j) xs b ≡ true
  in_set_larger i j b h e =
      by_cases (below r.cost j b (candidates r xs))
      (λ t. false_true (sym (in_set_exceeds r i xs b ∙ ap not (exceeds_below r i b (candidates r xs) ∙ below_earlier r.cost r.tie i j b (candidates r xs) sorted h t)) ∙ e))
      (λ t. in_set_exceeds r j xs b ∙ ap not (exceeds_below r j b (candidates r xs) ∙ t))

  -- the set in 01's words
  pub in_set_few : (k b : ℕ) → length (candidates r xs) < k → in_set r k xs b ≡ true
  unfolding in_set nearest
  in_set_few k b h =
      let q : length (take k (candidates r xs)) < k = rw (length-take k (candidates r xs)) (omega arith) in
      rw (lt-ltb (length (take k (candidates r xs))) k q)

  pub in_set_kth : (k b : ℕ) → k ≤ length (candidates r xs) → in_set r k xs b ≡ leb b (kth r k (nearest r k xs))
  unfolding in_set nearest
  in_set_kth k b h =
      let q : length (take k (candidates r xs)) ≡ k = rw (length-take k (candidates r xs)) (omega arith) in
      rw (q, le-ltb k k (omega arith))

  -- a leaf that holds all rows is in the set: no row costs less than its bound
  pub in_set_floor : (j b : ℕ) → All (λ x. b ≤ r.cost x) xs → in_set r (suc j) xs b ≡ true
  unfolding candidates
  in_set_floor j b a =
      in_set_exceeds r j xs b
      ∙ ap not (exceeds_below r j b (candidates r xs) ∙ below_far r.cost j b (candidates r xs) (all_sort (row_order r) (filter r.passes xs) (all_filter r.passes xs a)))

-- the k-th cost of another question over the same candidates: those within the k-th cost of the first are within m
module _ {A : Type 0} (r r' : Ranking A) (o : Order (row_order r)) (o' : Order (row_order r')) (xs : List A) where
  carried : (d m : ℕ) (ys : List A) → All (λ x. r.cost x ≤ d → r'.cost x ≤ m) ys → count (at_most r.cost d) ys ≤ count (at_most r'.cost m) ys
  unfolding count
  carried d m [] none = omega arith
  carried d m (y ∷ ys) (also h a) =
      let q = carried d m ys a in
      by_cases (leb (r.cost y) d)
      (λ e. rw (e, le-leb (r'.cost y) m (h (leb-true (r.cost y) d e))) (omega arith))
      (λ e. rw e (omega arith))

  pub kth_carried : (j m : ℕ) → r'.passes ≡ r.passes → suc j ≤ length (candidates r xs)
      → All (λ x. r.cost x ≤ kth r (suc j) (nearest r (suc j) xs) → r'.cost x ≤ m) xs → kth r' (suc j) (nearest r' (suc j) xs) ≤ m
  kth_carried j m e h a =
      let d = kth r (suc j) (nearest r (suc j) xs) in
      let n = kth_count r o xs j d h (omega arith) in
      let c = carried d m (filter r.passes xs) (all_filter r.passes xs a) in
      let s : count (at_most r'.cost m) (filter r'.passes xs) ≡ count (at_most r'.cost m) (filter r.passes xs) = ap (λ (p : A → Bool). count (at_most r'.cost m) (filter p xs)) e in
      count_kth r' o' xs j m (omega arith)
