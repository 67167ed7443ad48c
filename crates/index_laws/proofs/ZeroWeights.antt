-- Q-1, weights of zeros: how the laws of proofs/Weights come about.
use Rattle.std.specs.Prelude.{◌≡◌, refl, Bool, true, ℕ, suc, ltb, leb, ℤ, length, take}
use Rattle.std.proofs.Common.{sym, ◌∙◌, arith, ltb-true, ltb-false, le-leb}
use Rattle.std.proofs.Math.Path.{ap}
use mathlib.Core.List.{List, [], ◌∷◌, map}
use Rattle.lists.specs.Basics.{All, none, also, all_map, all_append}
use Rattle.lists.specs.Tests.{by_cases}
use Rattle.lists.specs.Sorting.{count, filter, sort}
use Rattle.calendar.specs.Days.{Days}
use Rattle.geometry.specs.Features.{dist_to, IsBound}
use Rattle.geometry.proofs.WeightLaws.{weighted_distance_law, zeros_distance}
use Rattle.pagestore_page.specs.declared.Record.{Record}
use Rattle.pagestore.specs.Store.{view_of}
use Rattle.tree_model.specs.Trees.{Item, first_key, last_key, leaves_of, point_in}
use Rattle.search_theory.specs.Nearest.{nearest, in_set}
use Rattle.search_rows.specs.Rows.{distance, newest_tie}
use Rattle.search_rows.proofs.RowLaws.{sort_tied}
use Rattle.search_model.specs.Asked.{distance_to, candidate}
use Rattle.search_model.specs.Branches.{row_of, rows_among}
use Rattle.search_model.specs.Visit.{ranking}
use Rattle.search_model.specs.Questions.{rows_from, rows_of, leaf_bound, to_read_by, to_read, last_distance}
use Rattle.search_model.proofs.SoundLaws.{none_held}
use Rattle.search_model.proofs.SetLaws.{leaves_bound}
use Rattle.index_query.specs.Asking.{Question, sought}
use Rattle.index_query.proofs.AskingLaws.{question_suits}
use Rattle.index_refusals.specs.Refusals.{First, question_rules}
use Rattle.index_refusals.proofs.CarriedLaws.{question_sound, question_carried}
use Rattle.index_refusals.specs.Outcomes.{found_with}
use Rattle.index_laws.specs.Answers.{question_answers}
use Rattle.index_laws.specs.Weights.{holds_records}
use Rattle.index_laws.specs.Weights as asked

count_alike : (f g : Item 1 → Bool) (ts : List (Item 1)) → All (λ t. f t ≡ g t) ts → count f ts ≡ count g ts
unfolding count
count_alike f g [] none = refl
count_alike f g (t ∷ ts) (also e a) = rw (e, count_alike f g ts a)

none_below : (n : ℕ) → leb 0 n ≡ true
none_below n = le-leb 0 n (omega arith)

-- by weights that are all 0
module _ (p : List ℤ) (ws : List ℕ) (k stages : ℕ) (days : Days) (z : All (λ x. x ≡ 0) ws) where
  abbrev by_zeros : Question
  by_zeros = asked.by_zeros p ws k stages days

  -- every distance is 0
  no_gap : (x : List ℤ) → dist_to (sought by_zeros).features x ≡ 0
  no_gap x = weighted_distance_law ws p x ∙ zeros_distance ws p x z

  pub zeros_apart : (r : Record) → distance_to (sought by_zeros) r ≡ 0
  unfolding distance_to
  zeros_apart r = no_gap (point_in (length (sought by_zeros).features) r)

  rows_apart : (n : ℕ) (rs : List Record) → All (λ x. distance x ≡ 0) (map (row_of (sought by_zeros) n) rs)
  unfolding row_of
  rows_apart n [] = none
  rows_apart n (r ∷ rs) = also {x = row_of (sought by_zeros) n r} (zeros_apart r) (rows_apart n rs)

  leaves_apart : (n : ℕ) (ts : List (Item 1)) → All (λ x. distance x ≡ 0) (rows_from (sought by_zeros) n ts)
  unfolding rows_from rows_among
  leaves_apart n [] = none
  leaves_apart n (t ∷ ts) = all_append (rows_apart n (filter (candidate (sought by_zeros)) t.1)) (leaves_apart (suc n) ts)

  -- so is the bound of a leaf, which is read just if it holds records
  module _ (b : List ℕ) (t : Item 1) where
    zero_read : leaf_bound (view_of b).d (sought by_zeros) t ≡ 0 → to_read (view_of b) (sought by_zeros) t ≡ holds_records t
    unfolding to_read_by in_set
    zero_read e = rw e (by_cases (holds_records t) (λ h. rw h (by_cases (ltb (length (nearest ranking k (rows_of (view_of b) (sought by_zeros)))) k) (λ f. rw f) (λ f. rw f (none_below (last_distance (view_of b) (sought by_zeros)))))) (λ h. rw h))

    none_read : t.1 ≡ [] → to_read (view_of b) (sought by_zeros) t ≡ holds_records t
    unfolding to_read_by
    none_read e = rw e

  module _ (b : List ℕ) (n : ℕ) (h : First (question_rules b by_zeros n) 0) where
    abbrev w : Question
    w = by_zeros

    -- its bound is a grid point's distance
    abbrev Bound : Item 1 → Type 0
    Bound t = IsBound (sought w).features (first_key (view_of b).d t.1).pyramid.0 (first_key (view_of b).d t.1).height.0 (last_key (view_of b).d t.1).pyramid.0 (last_key (view_of b).d t.1).height.0 (leaf_bound (view_of b).d (sought w) t)

    -- zeros_read: a leaf is read just if it holds records
    pub zeros_read : All (λ t. to_read (view_of b) (sought w) t ≡ holds_records t) (leaves_of (view_of b))
    zeros_read =
        let s = question_sound b w n h in
        let suits = question_suits (view_of b).d w (question_carried b w n h).features in
        by_cases (ltb 0 (view_of b).total)
        (λ e. all_map (λ t (g : Bound t). zero_read b t (sym g.reached ∙ no_gap g.point)) (leaves_bound b s (sought w) suits (ltb-true 0 (view_of b).total e)))
        (λ e. all_map (λ t (g : t.1 ≡ []). none_read b t g) (none_held b s (omega (arith, ltb-false 0 (view_of b).total e))))

    -- so as many are read as hold records, and the rows go by the tie rule alone
    pub zeros_leaves : (found_with 0 b w).leaves ≡ count holds_records (leaves_of (view_of b))
    zeros_leaves = (question_answers b w n h).leaves ∙ count_alike (to_read (view_of b) (sought w)) holds_records (leaves_of (view_of b)) zeros_read

    pub zeros_rows : (found_with 0 b w).rows ≡ take k (sort newest_tie (rows_of (view_of b) (sought w)))
    unfolding rows_of
    zeros_rows = (question_answers b w n h).order ∙ ap (take k) (sort_tied 0 (rows_of (view_of b) (sought w)) (leaves_apart 0 (leaves_of (view_of b))))
