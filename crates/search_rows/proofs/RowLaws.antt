-- Laws of row order: it is total, on distinct identifiers position never decides, where stamps are equal it is 01's, stamps move no
-- distance, and lists past a mark join up.
use Rattle.std.specs.Prelude.{◌≡◌, ◌≢◌, Bool, true, false, ◌&&◌, ℕ, ◌+◌, ◌≤◌, ◌<◌, take, eqb}
use Rattle.std.proofs.Math.Path.{refl, ap}
use Rattle.std.proofs.Common.{sym, ◌∙◌, arith, List, [], ◌∷◌, map, eq-eqb, le-ltb, lt-ltb}
use Rattle.std.proofs.Math.Dec.{ltb}
use Rattle.lists.specs.Basics.{All, none, also, all_map}
use Rattle.lists.specs.Tests.{three, by_cases}
use Rattle.lists.specs.Sorting.{count, filter, sum, Order, Sorted}
use Rattle.lists.specs.Sorting as sorting
use Rattle.lists.specs.SortingLaws.{ltb_order, ins_first, sorted_sort, count_sort, all_sort, all_filter}
use Rattle.lists.specs.Parts.{map_take}
use Rattle.lists.specs.ConcatMapLaws.{count_filter}
use Rattle.lists.specs.Orders.{lex, by, lower, higher, Weak, by_weak, by_higher_weak, by_same, by_higher_same, lower_weak, lower_same, weak_order, by_lower, by_higher_law, lex_first, lex_second, lex_last}
use Rattle.search_theory.specs.Nearest.{candidates, nearest}
use Rattle.search_theory.specs.Marks.{Strict, read_on, unmarked}
use Rattle.search_theory.specs.Marks as marks
use Rattle.search_theory.proofs.Promises.{lists_join}
use Rattle.search_rows.specs.declared.Row.{Row}
use Rattle.search_rows.specs.Rows.{distance, stamp, id, position, id_order, tie_order, newest_tie, row_order, newest_first, by_distance, by_identifier}

pub row_order_law : Order row_order
row_order_law = weak_order (by_weak distance tie_order (by_higher_weak stamp id_order (by_weak id (lower position) (lower_weak position))))
    (λ a b e d.
    let s = by_same distance tie_order a b e d in
    let l = by_higher_same stamp id_order a b s.1 s.2 in
    let t = by_same id (lower position) a b l.1 l.2 in
    let u = lower_same position a b t.1 t.2 in
    λ i. record { distance = s.0 i; id = t.0 i; stamp = l.0 i; position = u i })

-- of two rows at equal distance
module _ (a b : Row) where
  pub later : stamp b < stamp a → tie_order a b ≡ true
  later h = lex_first (higher stamp) id_order a b (lt-ltb (stamp b) (stamp a) h)

  pub as_late : stamp a ≡ stamp b → tie_order a b ≡ id_order a b
  as_late h = lex_second (higher stamp) id_order a b (le-ltb (stamp b) (stamp a) (omega arith)) (le-ltb (stamp a) (stamp b) (omega arith))

  pub earlier : stamp a < stamp b → tie_order a b ≡ false
  earlier h = lex_last (higher stamp) id_order a b (le-ltb (stamp b) (stamp a) (omega arith)) (lt-ltb (stamp a) (stamp b) h)

newest_weak : Weak newest_first
newest_weak = by_weak distance newest_tie (by_higher_weak stamp (lower id) (lower_weak id))

pub newest_asym : (a b : Row) → newest_first a b ≡ true → newest_first b a ≡ false
newest_asym = newest_weak.asym

-- rows of which neither is before the other have the same identifier
newest_same : (a b : Row) → newest_first a b ≡ false → newest_first b a ≡ false → a.id ≡ b.id
newest_same a b e d =
    let s = by_same distance newest_tie a b e d in
    let l = by_higher_same stamp (lower id) a b s.1 s.2 in
    lower_same id a b l.1 l.2

-- orders whose later parts agree
lex_alike : (p r s : Row → Row → Bool) (a b : Row) → r a b ≡ s a b → lex p r a b ≡ lex p s a b
unfolding lex
lex_alike p r s a b e = rw e

-- rows of different identifiers: position does not decide
pub position_idle : (a b : Row) → a.id ≢ b.id → row_order a b ≡ newest_first a b
position_idle a b n = lex_alike (lower distance) tie_order newest_tie a b (lex_alike (higher stamp) id_order (lower id) a b tied)
  where
    tied : id_order a b ≡ lower id a b
    tied = three (id a) (id b)
        (λ h. by_lower id (lower position) a b h ∙ sym (lt-ltb (id a) (id b) h))
        (λ h. absurd (n h))
        (λ h. by_higher_law id (lower position) a b h ∙ sym (le-ltb (id a) (id b) (omega arith)))

-- rows of one stamp: it does not decide, and the order is 01's
pub stamp_idle : (a b : Row) → stamp a ≡ stamp b → row_order a b ≡ by distance id_order a b
stamp_idle a b e = lex_alike (lower distance) tie_order id_order a b (as_late a b e)

-- rows of this identifier
abbrev pub of_id : ℕ → Row → Bool
of_id n x = eqb x.id n

-- no identifier occurs twice
abbrev pub Distinct : List Row → Type 0
Distinct xs = (n : ℕ) → count (of_id n) xs ≤ 1

-- x's identifier is none of xs'
other_ids : (x : Row) (xs : List Row) → count (of_id x.id) xs ≤ 0 → All (λ y. y.id ≢ x.id) xs
unfolding count
other_ids x [] h = none
other_ids x (y ∷ ys) h =
    let n : y.id ≢ x.id = λ q. let g : eqb y.id x.id ≡ true = eq-eqb y.id x.id q in
    let z : count (of_id x.id) (y ∷ ys) ≡ 1 + count (of_id x.id) ys = rw g in omega arith in
    also n (other_ids x ys (omega arith))

-- rows not before x, of other identifiers, are past it
others : (x : Row) (ys : List Row) → All (λ y. y.id ≢ x.id) ys → All (λ y. row_order y x ≡ false) ys → All (λ y. newest_first x y ≡ true) ys
others x [] none none = none
others x (y ∷ ys) (also n m) (also e a) =
    also
    (by_cases (newest_first x y) (λ t. t) (λ t. absurd (n (sym (newest_same x y t (sym (position_idle y x n) ∙ e))))))
    (others x ys m a)

strict_rows : (xs : List Row) → Distinct xs → Sorted row_order xs → Strict newest_first xs
unfolding count
strict_rows [] d sorting.end = marks.end
strict_rows (x ∷ xs) d (sorting.next a s) =
    let c = d x.id in
    let e : eqb x.id x.id ≡ true = eq-eqb x.id x.id refl in
    let z : count (of_id x.id) (x ∷ xs) ≡ 1 + count (of_id x.id) xs = rw e in
    marks.next (others x xs (other_ids x xs (omega arith)) a) (strict_rows xs (λ n. let h = d n in omega arith) s)

count_fewer : (p q : Row → Bool) (xs : List Row) → count (λ x. p x && q x) xs ≤ count q xs
unfolding count
count_fewer p q [] = omega arith
count_fewer p q (x ∷ xs) = let h = count_fewer p q xs in
    by_cases (p x) (λ e. rw e (omega arith)) (λ e. rw e (omega arith))

-- orders that put the same rows before x put x in at the same place
ins_alike : (r s : Row → Row → Bool) (x : Row) (ys : List Row) → All (λ y. r y x ≡ s y x) ys → sorting.insert_by r x ys ≡ sorting.insert_by s x ys
unfolding sorting.insert_by
ins_alike r s x [] none = refl
ins_alike r s x (y ∷ ys) (also e a) =
    rw e (by_cases (s y x) (λ t. rw t (ap (λ (l : List Row). y ∷ l) (ins_alike r s x ys a))) (λ t. rw t))

-- on distinct identifiers position never decides
pub sort_idle : (xs : List Row) → Distinct xs → sorting.sort row_order xs ≡ sorting.sort newest_first xs
unfolding sorting.sort count
sort_idle [] d = refl
sort_idle (x ∷ xs) d =
    let c = d x.id in
    let e : eqb x.id x.id ≡ true = eq-eqb x.id x.id refl in
    let z : count (of_id x.id) (x ∷ xs) ≡ 1 + count (of_id x.id) xs = rw e in
    ins_alike row_order newest_first x (sorting.sort row_order xs) (all_map (λ y n. position_idle y x n) (all_sort row_order xs (other_ids x xs (omega arith))))
    ∙ ap (sorting.insert_by newest_first x) (sort_idle xs (λ n. let h = d n in omega arith))

distinct_kept : (passes : Row → Bool) (xs : List Row) → Distinct xs → Distinct (filter passes xs)
distinct_kept passes xs d = λ n. let b = count_filter (of_id n) passes xs in let e = count_fewer passes (of_id n) xs in let h = d n in omega arith

-- Demand 2's words, with Q-9's tie rule (02): by distance, equal distances by later stamp, then by lower identifier
pub nearest_by_stamp : (passes : Row → Bool) (k : ℕ) (xs : List Row) → Distinct xs → nearest (by_distance passes) k xs ≡ take k (sorting.sort newest_first (filter passes xs))
unfolding nearest candidates
nearest_by_stamp passes k xs d = ap (take k) (sort_idle (filter passes xs) (distinct_kept passes xs d))

-- orders that agree on the rows to be sorted sort them alike
sort_alike : (r s : Row → Row → Bool) (P : Row → Type 0) → ((a b : Row) → P a → P b → r a b ≡ s a b) → (xs : List Row) → All P xs → sorting.sort r xs ≡ sorting.sort s xs
unfolding sorting.sort
sort_alike r s P h [] none = refl
sort_alike r s P h (x ∷ xs) (also e a) =
    ins_alike r s x (sorting.sort r xs) (all_map (λ y f. h y x f e) (all_sort r xs a)) ∙ ap (sorting.insert_by s x) (sort_alike r s P h xs a)

-- rows of one stamp are sorted as 01 sorts them
sort_one : (s : ℕ) (xs : List Row) → All (λ x. stamp x ≡ s) xs → sorting.sort row_order xs ≡ sorting.sort (by distance id_order) xs
sort_one s = sort_alike row_order (by distance id_order) (λ x. stamp x ≡ s) (λ a b e f. stamp_idle a b (e ∙ sym f))

-- rows at one distance are sorted by the tie rule alone
pub sort_tied : (n : ℕ) (xs : List Row) → All (λ x. distance x ≡ n) xs → sorting.sort newest_first xs ≡ sorting.sort newest_tie xs
sort_tied n = sort_alike newest_first newest_tie (λ x. distance x ≡ n) (λ a b e f. lex_second (lower distance) newest_tie a b (le-ltb (distance a) (distance b) (omega (arith, e, f))) (le-ltb (distance b) (distance a) (omega (arith, e, f))))

-- and the nearest of them are 01's (02, Q-9: "01's examples are as before when all stamps are 0")
pub one_stamp : (passes : Row → Bool) (s k : ℕ) (xs : List Row) → All (λ x. stamp x ≡ s) xs → nearest (by_distance passes) k xs ≡ nearest (by_identifier passes) k xs
unfolding nearest candidates
one_stamp passes s k xs a = ap (take k) (sort_one s (filter passes xs) (all_filter passes xs a))

-- A tie rule moves no distance: those of sorted rows are the sorted distances.
module _ (tie : Row → Row → Bool) where
  ins_distance : (x : Row) (ys : List Row) → Sorted ltb (map distance ys)
      → map distance (sorting.insert_by (by distance tie) x ys) ≡ sorting.insert_by ltb (distance x) (map distance ys)
  unfolding sorting.insert_by
  ins_distance x [] sorting.end = refl
  ins_distance x (y ∷ ys) (sorting.next a s) =
      three (distance y) (distance x)
      (λ h. rw (by_lower distance tie y x h, lt-ltb (distance y) (distance x) h) (ap (λ (l : List ℕ). distance y ∷ l) (ins_distance x ys s)))
      (λ h. rw (le-ltb (distance y) (distance x) (omega arith)) (by_cases (by distance tie y x)
      (λ e. rw e (ap (λ (l : List ℕ). distance y ∷ l) (ins_distance x ys s ∙ ap (λ (d : ℕ). sorting.insert_by ltb d (map distance ys)) (sym h) ∙ ins_first ltb (distance y) (map distance ys) a)
      ∙ ap (λ (d : ℕ). d ∷ distance y ∷ map distance ys) h))
      (λ e. rw e)))
      (λ h. rw (by_higher_law distance tie y x h, le-ltb (distance y) (distance x) (omega arith)))

  sort_distances : (xs : List Row) → map distance (sorting.sort (by distance tie) xs) ≡ sorting.sort ltb (map distance xs)
  unfolding sorting.sort
  sort_distances [] = refl
  sort_distances (x ∷ xs) =
      let e = sort_distances xs in
      ins_distance x (sorting.sort (by distance tie) xs) (rw e (sorted_sort ltb ltb_order (map distance xs))) ∙ ap (sorting.insert_by ltb (distance x)) e

-- so the distances of the nearest are those that 01's rule gives, whatever the stamps
pub tie_idle : (passes : Row → Bool) (k : ℕ) (xs : List Row) → map distance (nearest (by_distance passes) k xs) ≡ map distance (nearest (by_identifier passes) k xs)
unfolding nearest candidates
tie_idle passes k xs =
    let ys = filter passes xs in
    sym (map_take distance k (sorting.sort row_order ys))
    ∙ ap (take k) (sort_distances tie_order ys ∙ sym (sort_distances id_order ys)) ∙ map_take distance k (sorting.sort (by distance id_order) ys)

-- candidates of distinct identifiers: each row is past every earlier one
pub candidates_strict : (passes : Row → Bool) (xs : List Row) → Distinct xs → Strict newest_first (candidates (by_distance passes) xs)
unfolding candidates
candidates_strict passes xs d =
    strict_rows (sorting.sort row_order (filter passes xs))
    (λ n. let a = count_sort row_order (of_id n) (filter passes xs) in let b = count_filter (of_id n) passes xs in let e = count_fewer passes (of_id n) xs in let h = d n in omega arith)
    (sorted_sort row_order row_order_law (filter passes xs))

-- the lists got by always marking the last row's distance, stamp and identifier join up to the list of a larger number (02, Q-6)
pub rows_join : (passes : Row → Bool) (xs : List Row) → Distinct xs → (ks : List ℕ)
    → read_on newest_first (by_distance passes) unmarked ks xs ≡ nearest (by_distance passes) (sum (λ k. k) ks) xs
rows_join passes xs d ks = lists_join (by_distance passes) row_order_law xs newest_first newest_asym (candidates_strict passes xs d) ks
