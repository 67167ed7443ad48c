-- What is promised of a best-first search, over any kind of row and leaf.
use Rattle.std.specs.Prelude.{◌≡◌, Bool, true, false, ℕ, zero, suc, ◌≤◌, length, take}
use Rattle.std.proofs.Common.{sym, ap, ◌∙◌, arith, List, []}
use Rattle.std.proofs.Math.Seq.{take-take}
use Rattle.lists.specs.Basics.{All, concat_map}
use Rattle.lists.specs.Tests.{from_one}
use Rattle.lists.specs.Sorting.{filter, count, sum, Order, sort}
use Rattle.lists.specs.SortingLaws.{length_filter, count_sort, all_sort, all_kept}
use Rattle.lists.specs.Orders.{by}
use Rattle.search_theory.specs.Nearest.{Ranking, row_order, candidates, nearest, kth, in_set, Outcome, Floor, best_first}
use Rattle.search_theory.specs.Marks.{read_on, Strict, unmarked}
use Rattle.search_theory.specs.Ranges.{within_reach}
use Rattle.search_theory.proofs.VisitLaws.{visit_exact, visit_alike}
use Rattle.search_theory.proofs.KthLaws.{in_set_larger, in_set_floor, kth_carried}
use Rattle.search_theory.proofs.MarksLaws.{read_on_joins}
use Rattle.search_theory.proofs.RangesLaws.{reach_read, near_reached}

-- r: how the question ranks rows. bound, rows: of a leaf; leaves of equal bound are taken by tie. ls: the leaves.
module _ {A L : Type 0} (r : Ranking A) (o : Order (row_order r)) (bound : L → ℕ) (tie : L → L → Bool) (oL : Order (by bound tie)) (ls : List L) where
  -- the leaves of demand 3's set, where the leaves hold rows
  abbrev pub set_of : (L → List A) → ℕ → L → Bool
  set_of rows k l = in_set r k (concat_map rows ls) (bound l)

  module _ (rows : L → List A) (floors : All (Floor r bound rows) ls) (k : ℕ) (one : 1 ≤ k) where
    -- the visit gives these rows, and has read these leaves in this order
    pub outcome_exact : best_first r bound rows k tie ls
        ≡ record { rows = nearest r k (concat_map rows ls); read = filter (set_of rows k) (sort (by bound tie) ls) }
    outcome_exact = from_one (λ n. best_first r bound rows n tie ls ≡ record { rows = nearest r n (concat_map rows ls); read = filter (set_of rows n) (sort (by bound tie) ls) })
        (λ j. visit_exact r o bound rows tie oL j ls floors) k one

    -- the rows are the k nearest
    pub rows_nearest : (best_first r bound rows k tie ls).rows ≡ nearest r k (concat_map rows ls)
    rows_nearest = ap (λ (t : Outcome A L). t.rows) outcome_exact

    -- the leaves read are those of the set, each once; their number is that of the set
    pub leaves_exact : (best_first r bound rows k tie ls).read ≡ filter (set_of rows k) (sort (by bound tie) ls)
    leaves_exact = ap (λ (t : Outcome A L). t.read) outcome_exact

    pub leaves_count : length (best_first r bound rows k tie ls).read ≡ count (set_of rows k) ls
    leaves_count = ap length leaves_exact ∙ length_filter (set_of rows k) (sort (by bound tie) ls) ∙ count_sort (by bound tie) (set_of rows k) ls

    -- whatever the leaves out of the set hold: nothing is asked of rows' there
    pub unread_anything : (rows' : L → List A) → All (λ l. set_of rows k l ≡ true → rows' l ≡ rows l) ls
        → best_first r bound rows' k tie ls ≡ best_first r bound rows k tie ls
    unfolding best_first
    unread_anything rows' same =
        visit_alike r bound rows rows' k (sort (by bound tie) ls) []
        (rw leaves_exact (all_kept (set_of rows k) (sort (by bound tie) ls) (all_sort (by bound tie) ls same)))

    -- exchange: other rows in the leaves out of the set, none below its leaf's bound, change neither the nearest nor the set
    module _ (rows' : L → List A) (floors' : All (Floor r bound rows') ls) (same : All (λ l. set_of rows k l ≡ true → rows' l ≡ rows l) ls) where
      pub exchange_rows : nearest r k (concat_map rows' ls) ≡ nearest r k (concat_map rows ls)
      exchange_rows =
          sym (from_one (λ n. (best_first r bound rows' n tie ls).rows ≡ nearest r n (concat_map rows' ls)) (λ j. ap (λ (t : Outcome A L). t.rows) (visit_exact r o bound rows' tie oL j ls floors')) k one)
          ∙ ap (λ (t : Outcome A L). t.rows) (unread_anything rows' same) ∙ rows_nearest

-- xs: the rows of all records
module _ {A : Type 0} (r : Ranking A) (o : Order (row_order r)) (xs : List A) where
  -- a leaf that holds all rows is in the set
  pub set_floor : (k b : ℕ) → 1 ≤ k → All (λ x. b ≤ r.cost x) xs → in_set r k xs b ≡ true
  set_floor k b one a = from_one (λ n. in_set r n xs b ≡ true) (λ j. in_set_floor r o xs j b a) k one

  -- rows for k open the rows for a larger number, and a leaf read for k is read for a larger number
  pub rows_open : (k n : ℕ) → k ≤ n → take k (nearest r n xs) ≡ nearest r k xs
  unfolding nearest
  rows_open k n h = take-take k n (candidates r xs) h

  pub read_larger : (k n b : ℕ) → 1 ≤ k → k ≤ n → in_set r k xs b ≡ true → in_set r n xs b ≡ true
  read_larger zero n b one h e = absurd (omega arith)
  read_larger (suc i) zero b one h e = absurd (omega arith)
  read_larger (suc i) (suc j) b one h e = in_set_larger r o xs i j b (omega arith) e

  -- the lists for the numbers ks, got by always marking the last row, join up to the list for their sum
  pub lists_join : (past : A → A → Bool) → ((a b : A) → past a b ≡ true → past b a ≡ false) → Strict past (candidates r xs)
      → (ks : List ℕ) → read_on past r unmarked ks xs ≡ nearest r (sum (λ k. k) ks) xs
  lists_join past asym strict ks = read_on_joins past asym r o xs strict ks

  -- the k-th cost goes over to another cost: if what costs at most the k-th cost here costs at most m there, the k-th cost there is at most m
  pub kth_moves : (r' : Ranking A) → Order (row_order r') → r'.passes ≡ r.passes → (k m : ℕ) → 1 ≤ k → k ≤ length (candidates r xs)
      → All (λ x. r.cost x ≤ kth r k (nearest r k xs) → r'.cost x ≤ m) xs → kth r' k (nearest r' k xs) ≤ m
  kth_moves r' o' e k m one h a =
      from_one (λ n. n ≤ length (candidates r xs) → All (λ x. r.cost x ≤ kth r n (nearest r n xs) → r'.cost x ≤ m) xs → kth r' n (nearest r' n xs) ≤ m)
      (λ j g b. kth_carried r r' o o' xs j m e g b) k one h a

  -- a cost that is known from a least to a greatest value: whatever the cost c is, its k nearest are within reach
  pub reach_complete : (least c : A → ℕ) → Order (by c r.tie) → All (λ x. (least x ≤ c x) × (c x ≤ r.cost x)) xs → (k : ℕ) → 1 ≤ k
      → All (λ x. in_set r k xs (least x) ≡ true) (nearest (record { cost = c; tie = r.tie; passes = r.passes }) k xs)
  reach_complete least c oc between k one =
      from_one (λ n. All (λ x. in_set r n xs (least x) ≡ true) (nearest (record { cost = c; tie = r.tie; passes = r.passes }) n xs))
      (near_reached r o least c oc xs between) k one

-- and the leaves read hold all rows within reach
pub reach_exact : {A L : Type 0} (r : Ranking A) (o : Order (row_order r)) (least : A → ℕ) (ol : Order (by least r.tie))
    (bound : L → ℕ) (rows : L → List A) (tie : L → L → Bool) (oL : Order (by bound tie)) (ls : List L)
    → All (λ l. All (λ x. (bound l ≤ least x) × (least x ≤ r.cost x)) (rows l)) ls → (k : ℕ) → 1 ≤ k
    → within_reach r least k (concat_map rows ls) (concat_map rows (best_first r bound rows k tie ls).read) ≡ within_reach r least k (concat_map rows ls) (concat_map rows ls)
reach_exact r o least ol bound rows tie oL ls floors k one =
    from_one (λ n. within_reach r least n (concat_map rows ls) (concat_map rows (best_first r bound rows n tie ls).read) ≡ within_reach r least n (concat_map rows ls) (concat_map rows ls))
    (λ j. reach_read r o least ol bound rows tie oL j ls floors) k one
