-- Why the leaves of the set hold every row within reach, and why reach leaves no near row out.
use Rattle.std.specs.Prelude.{◌≡◌, true, ℕ, suc, ◌≤◌, ◌<◌, length, ltb, leb}
use Rattle.std.proofs.Math.Path.{refl, sym, ap}
use Rattle.std.proofs.Common.{◌∙◌, List, [], ◌∷◌, ◌++◌, arith, ltb-true, ltb-false, le-leb, leb-true}
use Rattle.std.proofs.Math.Bool.{Bool, false}
use Rattle.lists.specs.Basics.{All, none, also, all_map, concat_map}
use Rattle.lists.specs.Tests.{false_true, by_cases}
use Rattle.lists.specs.Sorting.{filter, count, Order, sort}
use Rattle.lists.specs.SortingLaws.{filter_append, filter_none, all_filter, all_sort, sort_canonical}
use Rattle.lists.specs.Tabulated.{all_take}
use Rattle.lists.specs.ConcatMapLaws.{all_both, count_concat_map, count_filter, sum_sort}
use Rattle.lists.specs.Orders.{by}
use Rattle.search_theory.specs.Nearest.{Ranking, row_order, candidates, nearest, kth, at_most, in_set, Outcome, Floor, best_first}
use Rattle.search_theory.proofs.VisitLaws.{visit_exact}
use Rattle.search_theory.proofs.KthLaws.{length_candidates, count_kth, kth_count, nearest_at_most, in_set_lower, in_set_few, in_set_kth}
use Rattle.search_theory.specs.Ranges.{may_be, within_reach}

module _ {A L : Type 0} (rows : L → List A) (p : A → Bool) where
  -- leaves with no row that passes may be left out
  filter_concat_map : (q : L → Bool) (ls : List L) → All (λ l. q l ≡ false → All (λ x. p x ≡ false) (rows l)) ls → filter p (concat_map rows (filter q ls)) ≡ filter p (concat_map rows ls)
  unfolding concat_map filter
  filter_concat_map q [] none = refl
  filter_concat_map q (l ∷ ls) (also h a) =
      let rest : filter p (concat_map rows (filter q ls)) ≡ filter p (concat_map rows ls) = filter_concat_map q ls a in
      by_cases (q l)
      (λ e. rw e (filter_append p (rows l) (concat_map rows (filter q ls)) ∙ ap (λ (t : List A). filter p (rows l) ++ t) rest ∙ sym (filter_append p (rows l) (concat_map rows ls))))
      (λ e. rw e (rest ∙ sym (filter_append p (rows l) (concat_map rows ls) ∙ ap (λ (t : List A). t ++ filter p (concat_map rows ls)) (filter_none p (rows l) (h e)))))

  -- the order of the leaves does not matter
  sort_filter_concat_map : (before : A → A → Bool) (o : Order before) (beforeL : L → L → Bool) (ls : List L) → sort before (filter p (concat_map rows (sort beforeL ls))) ≡ sort before (filter p (concat_map rows ls))
  sort_filter_concat_map before o beforeL ls =
      sort_canonical before o _ _ (λ c.
      count_filter c p (concat_map rows (sort beforeL ls)) ∙ count_concat_map _ rows (sort beforeL ls) ∙ sum_sort beforeL _ ls
      ∙ sym (count_concat_map _ rows ls) ∙ sym (count_filter c p (concat_map rows ls)))

module _ {A L : Type 0} (r : Ranking A) (o : Order (row_order r)) (least : A → ℕ) (ol : Order (by least r.tie))
    (bound : L → ℕ) (rows : L → List A) (tie : L → L → Bool) (oL : Order (by bound tie)) (j : ℕ) (ls : List L)
    (floors : All (λ l. All (λ x. (bound l ≤ least x) × (least x ≤ r.cost x)) (rows l)) ls) where
  too_far : (l : L) → in_set r (suc j) (concat_map rows ls) (bound l) ≡ false → (x : A) → bound l ≤ least x → may_be r least (suc j) (concat_map rows ls) x ≡ false
  too_far l e x h =
      by_cases (in_set r (suc j) (concat_map rows ls) (least x))
      (λ t. false_true (sym e ∙ in_set_lower r o (concat_map rows ls) j (bound l) (least x) h t))
      (λ t. by_cases (r.passes x) (λ d. simp (d, t)) (λ d. simp d))

  pub reach_read : within_reach r least (suc j) (concat_map rows ls) (concat_map rows (best_first r bound rows (suc j) tie ls).read)
      ≡ within_reach r least (suc j) (concat_map rows ls) (concat_map rows ls)
  unfolding within_reach
  reach_read =
      let q : L → Bool = λ l. in_set r (suc j) (concat_map rows ls) (bound l) in
      let p : A → Bool = may_be r least (suc j) (concat_map rows ls) in
      let before : A → A → Bool = by least r.tie in
      let fs : All (Floor r bound rows) ls = all_map (λ l a. all_map (λ x h. let u = h.0 in let v = h.1 in omega arith) a) floors in
      let away : All (λ l. q l ≡ false → All (λ x. p x ≡ false) (rows l)) ls = all_map (λ l a e. all_map (λ x h. too_far l e x h.0) a) floors in
      ap (λ (t : Outcome A L). sort before (filter p (concat_map rows t.read))) (visit_exact r o bound rows tie oL j ls fs)
      ∙ ap (sort before) (filter_concat_map rows p q (sort (by bound tie) ls) (all_sort (by bound tie) ls away))
      ∙ sort_filter_concat_map rows p before ol (by bound tie) ls

-- c: the cost from some point in the ranges
module _ {A : Type 0} (r : Ranking A) (o : Order (row_order r)) (least c : A → ℕ) (oc : Order (by c r.tie)) (xs : List A)
    (between : All (λ x. (least x ≤ c x) × (c x ≤ r.cost x)) xs) where
  abbrev from : Ranking A
  from = record { cost = c; tie = r.tie; passes = r.passes }

  more_at_most : (m : ℕ) (ys : List A) → All (λ x. (least x ≤ c x) × (c x ≤ r.cost x)) ys → count (at_most r.cost m) ys ≤ count (at_most c m) ys
  unfolding count
  more_at_most m [] none = omega arith
  more_at_most m (y ∷ ys) (also h a) =
      let q = more_at_most m ys a in
      by_cases (leb (r.cost y) m)
      (λ e. let g : r.cost y ≤ m = leb-true (r.cost y) m e in let d = h.1 in rw (e, le-leb (c y) m (omega arith)) (omega arith))
      (λ e. rw e (omega arith))

  same_number : length (candidates from xs) ≡ length (candidates r xs)
  same_number = length_candidates from oc xs ∙ sym (length_candidates r o xs)

  near_between : (k : ℕ) → All (λ x. (least x ≤ c x) × (c x ≤ r.cost x)) (nearest from k xs)
  unfolding nearest candidates
  near_between k = all_take k (all_sort (row_order from) (filter r.passes xs) (all_filter r.passes xs between))

  -- its k nearest are within reach
  pub near_reached : (j : ℕ) → All (λ x. in_set r (suc j) xs (least x) ≡ true) (nearest from (suc j) xs)
  near_reached j =
      by_cases (ltb (length (candidates r xs)) (suc j))
      (λ e. few (nearest from (suc j) xs) (ltb-true (length (candidates r xs)) (suc j) e))
      (λ e. let enough : suc j ≤ length (candidates r xs) = ltb-false (length (candidates r xs)) (suc j) e in
      let g = kth r (suc j) (nearest r (suc j) xs) in
      let n = kth_count r o xs j g enough (omega arith) in
      let m = more_at_most g (filter r.passes xs) (all_filter r.passes xs between) in
      let closer : kth from (suc j) (nearest from (suc j) xs) ≤ g = count_kth from oc xs j g (omega arith) in
      let s = same_number in
      all_map (λ x h. in_set_kth r o xs (suc j) (least x) enough ∙ le-leb (least x) g (let u = h.0 in let v = h.1.0 in omega arith))
      (all_both (nearest_at_most from oc xs j (omega arith)) (near_between (suc j))))
    where
      few : (ys : List A) → length (candidates r xs) < suc j → All (λ x. in_set r (suc j) xs (least x) ≡ true) ys
      few [] h = none
      few (y ∷ ys) h = also (in_set_few r o xs (suc j) (least y) h) (few ys h)
