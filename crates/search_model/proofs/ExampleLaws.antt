-- The examples of 01 marked P that speak of leaves hold, and Q-9's: by the promises, they compute.
use Rattle.std.proofs.Common.{◌≡◌, refl, sym, ap, ◌∙◌, ◌&&◌, List, [], ◌∷◌, map, ℕ, ◌≤◌, lit≤, ltb, pos, length}
use Rattle.lists.specs.Basics.{All, none, also, range_from}
use Rattle.lists.specs.Sorting.{filter, count, insert_by, sort}
use Rattle.lists.specs.Orders.{lex}
use Rattle.lists.specs.Ascending.{head_or, last_or}
use Rattle.calendar.specs.Counting.{in_window}
use Rattle.geometry.specs.Points.{height_of, axis_at, axis_of, pyramid_of}
use Rattle.geometry.specs.Features.{gap_of, dist_to, plain}
use Rattle.geometry.specs.Slices.{side_by, slice_by, axis_no, sign_no, slice_at, least_from, least_in, bound_to, bound_of}
use Rattle.geometry.specs.Stored.{point_of, slots_of}
use Rattle.search_theory.specs.Nearest.{candidates, nearest, kth, in_set}
use Rattle.pagestore.specs.Store.{view_of}
use Rattle.tree_model.specs.Trees.{Item, key_of, first_key, last_key, leaves_of}
use Rattle.search_model.specs.Asked.{Asked, in_stages, every_record, plainly, distance_to, candidate, span_bound}
use Rattle.search_model.specs.Branches.{row_of, rows_among}
use Rattle.search_model.specs.Visit.{ranking, Answer}
use Rattle.search_model.specs.Questions.{rows_from, rows_of, leaf_bound, to_read_by}
use Rattle.search_model.specs.Examples.{record_no, Holds, unstamped, examples, mixed, stamped_examples}
use Rattle.search_model.proofs.AskedLaws.{plain_suits}
use Rattle.search_model.proofs.ExactLaws.{found_exact}

-- the two leaves
abbrev pair : (ℕ → ℕ) → ℕ → ℕ → List (Item 1)
pair stamp a b = (a, map (record_no stamp) (range_from 1 9)) ∷ (b, map (record_no stamp) (range_from 10 8)) ∷ []

abbrev asked : ℕ → ℕ → Asked
asked n k = plainly (pos n ∷ []) k every_record

-- the identifiers that demand 2 calls for, and the number of leaves that demand 3 does
abbrev rows_for : (ℕ → ℕ) → ℕ → ℕ → ℕ → ℕ → List ℕ
rows_for stamp n k a b = map (λ x. x.id) (nearest ranking k (rows_from (asked n k) 0 (pair stamp a b)))

abbrev read_for : (ℕ → ℕ) → ℕ → ℕ → ℕ → ℕ → ℕ
read_for stamp n k a b = count (λ t. ltb 0 (length t.1) && in_set ranking k (rows_from (asked n k) 0 (pair stamp a b)) (leaf_bound 1 (asked n k) t)) (pair stamp a b)

holds : (stamp : ℕ → ℕ) (n k : ℕ) (rows : List ℕ) (read : ℕ) → 1 ≤ k → ((a b : ℕ) → rows_for stamp n k a b ≡ rows) → ((a b : ℕ) → read_for stamp n k a b ≡ read)
    → Holds stamp (record { point = n; k = k; rows = rows; read = read })
unfolding rows_of to_read_by
holds stamp n k rows read one e f b s h =
    let v = view_of b in
    let x = found_exact b s (asked n k) (plain_suits v.d (pos n ∷ []) k _ (sym h.d)) one in
    let l : leaves_of v ≡ pair stamp h.first h.second = h.leaves in (
      ap (λ (y : Answer). map (λ z. z.id) y.rows) x ∙ ap (λ (ts : List (Item 1)). map (λ z. z.id) (nearest ranking k (rows_from (asked n k) 0 ts))) l ∙ e h.first h.second,
      ap (λ (y : Answer). y.leaves) x
          ∙ (λ i. count (λ t. ltb 0 (length t.1) && in_set ranking k (rows_from (asked n k) 0 (l i)) (leaf_bound (h.d i) (asked n k) t)) (l i))
          ∙ f h.first h.second,
    )

-- every example of the list holds
pub answers_hold : All (Holds unstamped) examples
unfolding range_from filter count insert_by sort lex head_or last_or height_of axis_at axis_of pyramid_of gap_of dist_to plain side_by slice_by axis_no sign_no slice_at least_from least_in bound_to bound_of point_of slots_of candidates nearest kth in_set key_of first_key last_key distance_to in_stages in_window candidate span_bound row_of rows_among rows_from leaf_bound record_no
answers_hold =
    also (holds unstamped 9 1 (9 ∷ []) 1 (lit≤ tt) (λ a b. refl) (λ a b. refl))
    (also (holds unstamped 9 2 (9 ∷ 8 ∷ []) 2 (lit≤ tt) (λ a b. refl) (λ a b. refl))
    (also (holds unstamped 1 9 (range_from 1 9) 1 (lit≤ tt) (λ a b. refl) (λ a b. refl))
    (also (holds unstamped 9 18 (9 ∷ 8 ∷ 10 ∷ 7 ∷ 11 ∷ 6 ∷ 12 ∷ 5 ∷ 13 ∷ 4 ∷ 14 ∷ 3 ∷ 15 ∷ 2 ∷ 16 ∷ 1 ∷ 17 ∷ []) 2 (lit≤ tt) (λ a b. refl) (λ a b. refl))
    (also (holds unstamped 1 18 (range_from 1 17) 2 (lit≤ tt) (λ a b. refl) (λ a b. refl))
    none))))

pub stamps_hold : All (Holds mixed) stamped_examples
unfolding range_from filter count insert_by sort lex head_or last_or height_of axis_at axis_of pyramid_of gap_of dist_to plain side_by slice_by axis_no sign_no slice_at least_from least_in bound_to bound_of point_of slots_of candidates nearest kth in_set key_of first_key last_key distance_to in_stages in_window candidate span_bound row_of rows_among rows_from leaf_bound record_no
stamps_hold =
    also (holds mixed 9 6 (9 ∷ 8 ∷ 10 ∷ 7 ∷ 11 ∷ 12 ∷ []) 2 (lit≤ tt) (λ a b. refl) (λ a b. refl))
    (also (holds mixed 9 18 (9 ∷ 8 ∷ 10 ∷ 7 ∷ 11 ∷ 12 ∷ 6 ∷ 13 ∷ 5 ∷ 4 ∷ 14 ∷ 3 ∷ 15 ∷ 2 ∷ 16 ∷ 17 ∷ 1 ∷ []) 2 (lit≤ tt) (λ a b. refl) (λ a b. refl))
    none)
