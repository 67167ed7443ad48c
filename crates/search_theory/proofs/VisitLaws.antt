-- Why the visit gives the nearest rows and reads just the leaves of the set.
use Rattle.std.specs.Prelude.{◌≡◌, Bool, true, false, ◌&&◌, ◌||◌, get_or, ltb, leb}
use Rattle.std.proofs.Math.Path.{refl, sym, ap, ap₂, fun_ext}
use Rattle.std.proofs.Common.{◌∙◌, length-take, List, [], ◌∷◌, map, ℕ, zero, suc, ◌-◌, ◌≤◌, ◌<◌, arith, ltb-true, ltb-false, lt-ltb, le-ltb, le-leb}
use Rattle.std.proofs.Math.Bool.{not}
use Rattle.std.proofs.Math.ListN.{length, take}
use Rattle.std.proofs.Math.Dec.{leb-suc-zero, leb-suc-suc}
use borrow.Author.Tests.{lt-leb}
use Rattle.lists.specs.Basics.{All, none, also, all_head, all_tail, all_map, concat_map}
use Rattle.lists.specs.Tests.{false_true, by_cases}
use Rattle.lists.specs.Sorting.{filter, Order, insert_by, sort, insert_all, Sorted, end, next}
use Rattle.lists.specs.SortingLaws.{all_sort, all_filter, none_before, sorted_ins, sorted_ins_all, sorted_sort, sort_ins_all, sort_canonical, ins_all_append, offer_all_take, filter_append, filter_first, filter_none}
use Rattle.lists.specs.Orders.{by, by_lower}
use Rattle.lists.specs.ConcatMapLaws.{all_concat_map, count_concat_map, count_filter, sum_sort}
use Rattle.search_theory.specs.Nearest.{Ranking, row_order, candidates, nearest, kth, exceeds, in_set, reading, offered, Floor, visit, best_first}

pub by_floor : {A : Type 0} (f : A → ℕ) (r : A → A → Bool) (x y : A) → by f r y x ≡ false → f x ≤ f y
by_floor f r x y e = by_cases (ltb (f y) (f x)) (λ t. false_true (sym e ∙ by_lower f r y x (ltb-true (f y) (f x) t))) (λ t. ltb-false (f y) (f x) t)

-- ---- the stop test, by index: the cost at index j is below b

module _ {A : Type 0} (cost : A → ℕ) where
  unfoldable pub below : ℕ → ℕ → List A → Bool
  below j b [] = false
  below zero b (x ∷ xs) = ltb (cost x) b
  below (suc j) b (x ∷ xs) = below j b xs

  below_index : (j b : ℕ) (xs : List A) → (leb (suc j) (length xs) && ltb (get_or (map cost xs) j 0) b) ≡ below j b xs
  unfolding below
  below_index j b [] = rw (leb-suc-zero j)
  below_index zero b (x ∷ xs) = rw (le-leb 1 (suc (length xs)) (omega arith))
  below_index (suc j) b (x ∷ xs) = rw (leb-suc-suc (suc j) (length xs)) (below_index j b xs)

  -- far: no cost is below b
  pub below_far : (j b : ℕ) (xs : List A) → All (λ x. b ≤ cost x) xs → below j b xs ≡ false
  unfolding below
  below_far j b [] none = refl
  below_far zero b (x ∷ xs) (also h a) = le-ltb (cost x) b h
  below_far (suc j) b (x ∷ xs) (also h a) = below_far j b xs a

  below_take : (j b : ℕ) (xs : List A) → below j b (take (suc j) xs) ≡ below j b xs
  unfolding below
  below_take j b [] = refl
  below_take zero b (x ∷ xs) = refl
  below_take (suc j) b (x ∷ xs) = below_take j b xs

  pub below_more : (j b c : ℕ) (xs : List A) → b ≤ c → below j b xs ≡ true → below j c xs ≡ true
  unfolding below
  below_more j b c [] h e = e
  below_more zero b c (x ∷ xs) h e = let q : cost x < b = ltb-true (cost x) b e in lt-ltb (cost x) c (omega arith)
  below_more (suc j) b c (x ∷ xs) h e = below_more j b c xs h e

module _ {A : Type 0} (r : Ranking A) where
  pub exceeds_below : (j b : ℕ) (xs : List A) → exceeds r (suc j) b xs ≡ below r.cost j b xs
  unfolding exceeds kth
  exceeds_below j b xs = let e : suc j - 1 ≡ j = omega arith in rw e (below_index r.cost j b xs)

  pub exceeds_take : (j b : ℕ) (xs : List A) → exceeds r (suc j) b (take (suc j) xs) ≡ exceeds r (suc j) b xs
  exceeds_take j b xs = exceeds_below j b (take (suc j) xs) ∙ below_take r.cost j b xs ∙ sym (exceeds_below j b xs)

  not_below : (m b : ℕ) → not (ltb m b) ≡ leb b m
  not_below m b = by_cases (ltb m b)
      (λ e. let q : m < b = ltb-true m b e in rw (e, lt-leb b m q))
      (λ e. let q : b ≤ m = ltb-false m b e in rw (e, le-leb b m q))

  within_rows : (j b : ℕ) (rows : List A) → length rows ≤ suc j
      → not (exceeds r (suc j) b rows) ≡ (ltb (length rows) (suc j) || leb b (kth r (length rows) rows))
  unfolding exceeds
  within_rows j b rows h =
      by_cases (ltb (length rows) (suc j))
      (λ e. let q : length rows < suc j = ltb-true (length rows) (suc j) e in rw (lt-leb (suc j) (length rows) q, e))
      (λ e. let q : suc j ≤ length rows = ltb-false (length rows) (suc j) e in
      let n : length rows ≡ suc j = omega arith in
      rw (e, le-leb (suc j) (length rows) q, n) (not_below (kth r (suc j) rows) b))

  -- the set of demand 3: the leaves whose bound does not exceed the k-th cost of all candidates
  pub in_set_exceeds : (j : ℕ) (xs : List A) (b : ℕ) → in_set r (suc j) xs b ≡ not (exceeds r (suc j) b (candidates r xs))
  unfolding in_set nearest
  in_set_exceeds j xs b =
      sym (within_rows j b (take (suc j) (candidates r xs)) (rw (length-take (suc j) (candidates r xs)) (omega arith)))
      ∙ ap not (exceeds_take j b (candidates r xs))

-- ---- rows that are far change neither the k-th cost nor the first k

module _ {A : Type 0} (r : Ranking A) (o : Order (row_order r)) where
  floor_all : (b : ℕ) (x : A) (ys : List A) → b ≤ r.cost x → All (λ y. row_order r y x ≡ false) ys → All (λ y. b ≤ r.cost y) ys
  floor_all b x ys h a = all_map (λ y e. let q = by_floor r.cost r.tie x y e in omega arith) a

  below_ins : (j b : ℕ) (x : A) (s : List A) → b ≤ r.cost x → Sorted (row_order r) s → below r.cost j b (insert_by (row_order r) x s) ≡ below r.cost j b s
  unfolding below insert_by
  below_ins j b x [] h end = below_far r.cost j b (x ∷ []) (also h none)
  below_ins zero b x (y ∷ ys) h (next a s) =
      by_cases (row_order r y x)
      (λ e. rw e)
      (λ e. let q = by_floor r.cost r.tie x y e in rw e (le-ltb (r.cost x) b h ∙ sym (le-ltb (r.cost y) b (omega arith))))
  below_ins (suc j) b x (y ∷ ys) h (next a s) =
      by_cases (row_order r y x)
      (λ e. rw e (below_ins j b x ys h s))
      (λ e. let far = floor_all b x (y ∷ ys) h (also e (none_before (row_order r) o x y ys e a)) in
      rw e (below_far r.cost j b (y ∷ ys) far ∙ sym (below_far r.cost (suc j) b (y ∷ ys) far)))

  take_ins_far : (j b : ℕ) (x : A) (s : List A) → b ≤ r.cost x → Sorted (row_order r) s → below r.cost j b s ≡ true
      → take (suc j) (insert_by (row_order r) x s) ≡ take (suc j) s
  unfolding below insert_by
  take_ins_far j b x [] h end g = false_true g
  take_ins_far zero b x (y ∷ ys) h (next a s) g =
      by_cases (row_order r y x)
      (λ e. rw e)
      (λ e. let q = by_floor r.cost r.tie x y e in false_true (sym (le-ltb (r.cost y) b (omega arith)) ∙ g))
  take_ins_far (suc j) b x (y ∷ ys) h (next a s) g =
      by_cases (row_order r y x)
      (λ e. rw e (ap (λ (t : List A). y ∷ t) (take_ins_far j b x ys h s g)))
      (λ e. let far = floor_all b x (y ∷ ys) h (also e (none_before (row_order r) o x y ys e a)) in
      false_true (sym (below_far r.cost (suc j) b (y ∷ ys) far) ∙ g))

  below_ins_all : (j b : ℕ) (xs s : List A) → All (λ x. b ≤ r.cost x) xs → Sorted (row_order r) s
      → below r.cost j b (insert_all (row_order r) xs s) ≡ below r.cost j b s
  unfolding insert_all
  below_ins_all j b [] s none h = refl
  below_ins_all j b (x ∷ xs) s (also f a) h =
      below_ins_all j b xs (insert_by (row_order r) x s) a (sorted_ins (row_order r) o x s h) ∙ below_ins j b x s f h

  take_ins_all_far : (j b : ℕ) (xs s : List A) → All (λ x. b ≤ r.cost x) xs → Sorted (row_order r) s → below r.cost j b s ≡ true
      → take (suc j) (insert_all (row_order r) xs s) ≡ take (suc j) s
  unfolding insert_all
  take_ins_all_far j b [] s none h g = refl
  take_ins_all_far j b (x ∷ xs) s (also f a) h g =
      take_ins_all_far j b xs (insert_by (row_order r) x s) a (sorted_ins (row_order r) o x s h) (below_ins j b x s f h ∙ g)
      ∙ take_ins_far j b x s f h g

-- ---- the visit

module _ {A L : Type 0} (r : Ranking A) (bound : L → ℕ) (rows : L → List A) (k : ℕ) where
  pub visit_stop : (l : L) (ls : List L) (s : List A) → exceeds r k (bound l) s ≡ true → visit r bound rows k (l ∷ ls) s ≡ record { rows = s; read = [] }
  unfolding visit
  visit_stop l ls s e = rw e

  pub visit_read : (l : L) (ls : List L) (s : List A) → exceeds r k (bound l) s ≡ false
      → visit r bound rows k (l ∷ ls) s ≡ reading l (visit r bound rows k ls (offered r bound rows k l s))
  unfolding visit
  visit_read l ls s e = rw e

module _ {A L : Type 0} (r : Ranking A) (o : Order (row_order r)) (bound : L → ℕ) (rows : L → List A) (tie : L → L → Bool) where
  -- rows s with the candidates of leaves ls
  filled : List L → List A → List A
  filled ls s = insert_all (row_order r) (filter r.passes (concat_map rows ls)) s

  filled_cons : (l : L) (ls : List L) (s : List A) → filled (l ∷ ls) s ≡ filled ls (insert_all (row_order r) (filter r.passes (rows l)) s)
  unfolding filled concat_map
  filled_cons l ls s =
      ap (λ (xs : List A). insert_all (row_order r) xs s) (filter_append r.passes (rows l) (concat_map rows ls))
      ∙ ins_all_append (row_order r) (filter r.passes (rows l)) (filter r.passes (concat_map rows ls)) s

  -- bounds of leaves in order rise, so all candidates that are left are at or past the next bound
  far_rows : (l : L) (ls : List L) → All (Floor r bound rows) (l ∷ ls) → Sorted (by bound tie) (l ∷ ls)
      → All (λ x. bound l ≤ r.cost x) (filter r.passes (concat_map rows (l ∷ ls)))
  far_rows l ls (also f fs) (next a s) =
      all_filter r.passes (concat_map rows (l ∷ ls))
      (all_concat_map rows (l ∷ ls) (also f (later ls fs a)))
    where
      later : (ms : List L) → All (Floor r bound rows) ms → All (λ m. by bound tie m l ≡ false) ms → All (λ m. All (λ x. bound l ≤ r.cost x) (rows m)) ms
      later [] none none = none
      later (m ∷ ms) (also g gs) (also e es) =
          also (all_map (λ x h. let q = by_floor bound tie l m e in omega arith) g) (later ms gs es)

  none_left : (j b : ℕ) (l : L) (ls : List L) (t : List A) → b ≤ bound l → Sorted (by bound tie) (l ∷ ls) → below r.cost j b t ≡ true
      → filter (λ m. not (exceeds r (suc j) (bound m) t)) (l ∷ ls) ≡ []
  none_left j b l ls t h (next a s) e = filter_none (λ m. not (exceeds r (suc j) (bound m) t)) (l ∷ ls) (also (over l h) (all_map (λ m g. over m (let q = by_floor bound tie l m g in omega arith)) a))
    where
      over : (m : L) → b ≤ bound m → not (exceeds r (suc j) (bound m) t) ≡ false
      over m g = ap not (exceeds_below r j (bound m) t ∙ below_more r.cost j b (bound m) t g e)

  visit_filled : (j : ℕ) (ls : List L) (s : List A) → All (Floor r bound rows) ls → Sorted (by bound tie) ls → Sorted (row_order r) s
      → visit r bound rows (suc j) ls (take (suc j) s)
      ≡ record { rows = take (suc j) (filled ls s); read = filter (λ l. not (exceeds r (suc j) (bound l) (filled ls s))) ls }
  unfolding visit filled concat_map filter insert_all
  visit_filled j [] s none end h = refl
  visit_filled j (l ∷ ls) s (also f fs) (next a q) h =
      let far = far_rows l ls (also f fs) (next a q) in
      let later : below r.cost j (bound l) (filled (l ∷ ls) s) ≡ below r.cost j (bound l) s = below_ins_all r o j (bound l) _ s far h in
      let now : exceeds r (suc j) (bound l) (take (suc j) s) ≡ below r.cost j (bound l) s = exceeds_take r j (bound l) s ∙ exceeds_below r j (bound l) s in
      by_cases (below r.cost j (bound l) s)
      (λ e. visit_stop r bound rows (suc j) l ls (take (suc j) s) (now ∙ e)
      ∙ ap₂ (λ (u : List A) (v : List L). record { rows = u; read = v })
      (sym (take_ins_all_far r o j (bound l) _ s far h e))
      (sym (none_left j (bound l) l ls (filled (l ∷ ls) s) (omega arith) (next a q) (later ∙ e))))
      (λ e. visit_read r bound rows (suc j) l ls (take (suc j) s) (now ∙ e)
      ∙ ap (λ (t : List A). reading l (visit r bound rows (suc j) ls t)) (offer_all_take (row_order r) (suc j) (filter r.passes (rows l)) s)
      ∙ ap (reading l) (visit_filled j ls (insert_all (row_order r) (filter r.passes (rows l)) s) fs q (sorted_ins_all (row_order r) o (filter r.passes (rows l)) s h))
      ∙ ap (λ (t : List A). reading l (record { rows = take (suc j) t; read = filter (λ m. not (exceeds r (suc j) (bound m) t)) ls })) (sym (filled_cons l ls s))
      ∙ ap (λ (v : List L). record { rows = take (suc j) (filled (l ∷ ls) s); read = v })
      (sym (filter_first (λ m. not (exceeds r (suc j) (bound m) (filled (l ∷ ls) s))) l ls (ap not (exceeds_below r j (bound l) (filled (l ∷ ls) s) ∙ later ∙ e)))))

  -- candidates do not go by the order of the leaves
  candidates_sorted : (ls : List L) → candidates r (concat_map rows (sort (by bound tie) ls)) ≡ candidates r (concat_map rows ls)
  unfolding candidates
  candidates_sorted ls =
      sort_canonical (row_order r) o _ _ (λ p.
      count_filter p r.passes (concat_map rows (sort (by bound tie) ls))
      ∙ count_concat_map _ rows (sort (by bound tie) ls) ∙ sum_sort (by bound tie) _ ls ∙ sym (count_concat_map _ rows ls)
      ∙ sym (count_filter p r.passes (concat_map rows ls)))

  module _ (oL : Order (by bound tie)) (j : ℕ) (ls : List L) (floors : All (Floor r bound rows) ls) where
    pub visit_exact : best_first r bound rows (suc j) tie ls
        ≡ record { rows = nearest r (suc j) (concat_map rows ls); read = filter (λ l. in_set r (suc j) (concat_map rows ls) (bound l)) (sort (by bound tie) ls) }
    unfolding best_first nearest candidates filled
    visit_exact =
        let leaves = sort (by bound tie) ls in
        let all : filled leaves [] ≡ candidates r (concat_map rows ls) = sym (sort_ins_all (row_order r) o _) ∙ candidates_sorted ls in
        visit_filled j leaves [] (all_sort (by bound tie) ls floors) (sorted_sort (by bound tie) oL ls) end
        ∙ ap (λ (c : List A). record { rows = take (suc j) c; read = filter (λ l. not (exceeds r (suc j) (bound l) c)) leaves }) all
        ∙ ap (λ (p : L → Bool). record { rows = nearest r (suc j) (concat_map rows ls); read = filter p leaves })
        (fun_ext (λ l. sym (in_set_exceeds r j (concat_map rows ls) (bound l))))

-- ---- the visit looks at no leaf that it does not read

module _ {A L : Type 0} (r : Ranking A) (bound : L → ℕ) (rows rows' : L → List A) (k : ℕ) where
  pub visit_alike : (ls : List L) (s : List A) → All (λ l. rows' l ≡ rows l) (visit r bound rows k ls s).read
      → visit r bound rows' k ls s ≡ visit r bound rows k ls s
  unfolding visit
  visit_alike [] s = λ h. refl
  visit_alike (l ∷ ls) s =
      by_cases (exceeds r k (bound l) s)
      (λ e. rw e (λ h. refl))
      (λ e. rw e (λ h. rw (all_head h) (ap (reading l) (visit_alike ls (offered r bound rows k l s) (all_tail h)))))
