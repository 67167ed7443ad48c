-- The search's promises, of a question.
use Rattle.std.specs.Prelude.{◌≡◌, true, ◌&&◌, ℤ, length}
use Rattle.std.proofs.Math.Path.{refl, sym, ap, ap₂}
use Rattle.std.proofs.Common.{◌∙◌, subst}
use mathlib.Core.List.{List, [], ◌∷◌, ◌++◌, map}
use Prim.Native.Nat.{ℕ, suc, ◌≤◌}
use Rattle.lists.specs.Basics.{All, concat_map}
use Rattle.lists.specs.Counts.{mult}
use Rattle.lists.specs.Sorting.{count, filter}
use Rattle.lists.specs.SortingLaws.{filter_append}
use Rattle.lists.specs.ConcatMapLaws.{map_append}
use Rattle.calendar.specs.Days.{Days, undated}
use Rattle.calendar.specs.Counting.{window_of, in_window}
use Rattle.geometry.specs.Features.{dist_to}
use Rattle.geometry.proofs.SliceLaws.{plain_distance}
use Rattle.geometry.proofs.WeightLaws.{weighted_distance_law}
use Rattle.pagestore_page.specs.declared.Record.{Record}
use Rattle.pagestore.specs.Store.{View, view_of}
use Rattle.tree_model.specs.Trees.{Item, leaves, tree_of, live, leaves_of, point_in}
use Rattle.tree_model.specs.Sound.{SoundIndex}
use Rattle.search_theory.specs.Nearest.{nearest}
use Rattle.search_rows.specs.Rows.{distance as rowDistance}
use Rattle.search_model.specs.declared.Choice.{Choice}
use Rattle.search_model.specs.Asked.{in_stages, full_set, distance_to, candidate, LeavesOutNone, Askable}
use Rattle.search_model.specs.Branches.{row_of, rows_among}
use Rattle.search_model.specs.Visit.{ranking, found, leaves_read}
use Rattle.search_model.specs.Questions.{rows_from, rows_of, live_candidates, Exchanged, AgreeBut, Called, reading_order, to_read, unread_pages}
use Rattle.search_model.specs.FullSet.{plain_due}
use Rattle.search_model.specs.OneStamp.{id_ranking, due_by_id, OneStamp, OneStampLive}
use Rattle.search_model.proofs.AskedLaws.{plain_suits, weighted_suits}
use Rattle.search_model.proofs.SoundLaws.{leaf_items, records_leaves}
use Rattle.search_model.proofs.ExactLaws.{found_exact, leaves_read_law}
use Rattle.search_model.proofs.ExchangeLaws.{exchange}
use Rattle.search_model.proofs.UnreadLaws.{unread_header, unread_bytes}
use Rattle.search_model.proofs.SetLaws.{set_points}
use Rattle.search_model.proofs.FullSetLaws.{live_full, full_set_law}
use Rattle.search_model.proofs.OneStampLaws.{found_any_stamp, found_one_stamp, found_plain}
use Rattle.index_query.specs.Asking.{Weights, unweighed, weighed, Question, choice_of, features_by, sought, distance_by, AsMany, Suited, bare, bare_of}

-- ---- WITH WEIGHTS AND WITHOUT

suits_by : (d : ℕ) (ws : Weights) (p : List ℤ) (k : ℕ) (c : Choice) → length p ≡ d → AsMany d ws → Askable d (record { features = features_by ws p; k = k; choice = c })
suits_by d unweighed p k c e a = plain_suits d p k c e
suits_by d (weighed ws) p k c e a = weighted_suits d ws p k c e a

pub distance_by_law : (ws : Weights) (q p : List ℤ) → dist_to (features_by ws q) p ≡ distance_by ws q p
distance_by_law unweighed q p = plain_distance q p
distance_by_law (weighed ws) q p = weighted_distance_law ws q p

module _ (d : ℕ) (w : Question) (s : Suited d w) where
  pub question_suits : Askable d (sought w)
  question_suits = suits_by d w.weights w.point w.k (choice_of w) s.0 s.1

  -- there are as many weights as coordinates
  pub weights_own : AsMany (length w.point) w.weights
  weights_own = subst (λ (n : ℕ). AsMany n w.weights) (sym s.0) s.1

  -- a record's distance: its point's, squared, with weights the sum of weight times squared difference
  pub gap_by : (r : Record) → distance_to (sought w) r ≡ distance_by w.weights w.point (point_in (length w.point) r)
  unfolding distance_to
  gap_by r =
      ap (λ (n : ℕ). dist_to (sought w).features (point_in n r)) (question_suits.same ∙ sym s.0)
      ∙ distance_by_law w.weights w.point (point_in (length w.point) r)

-- ---- THE ROWS OF THE LIVE RECORDS

module _ (w : Question) where
  -- the live records looked for: those whose stage is in the set and whose stamp in the window
  pub among_live : (v : View) → live_candidates v (sought w) ≡ filter (λ r. in_stages w.stages r.stage && in_window (window_of w.days) r.stamp) (live v)
  unfolding candidate
  among_live v = refl

  bare_leaf : (n : ℕ) (rs : List Record) → map bare (map (row_of (sought w) n) rs) ≡ map (bare_of w) rs
  unfolding row_of
  bare_leaf n [] = refl
  bare_leaf n (r ∷ rs) = ap (λ (xs : List (ℕ × ℕ × ℕ)). bare_of w r ∷ xs) (bare_leaf n rs)

  bare_rows : (n : ℕ) (ts : List (Item 1)) → map bare (rows_from (sought w) n ts) ≡ map (bare_of w) (filter (candidate (sought w)) (concat_map leaf_items ts))
  unfolding rows_from rows_among concat_map filter
  bare_rows n [] = refl
  bare_rows n (t ∷ ts) =
      let c = candidate (sought w) in
      map_append bare (map (row_of (sought w) n) (filter c t.1)) (rows_from (sought w) (suc n) ts)
      ∙ ap₂ (λ (x y : List (ℕ × ℕ × ℕ)). x ++ y) (bare_leaf n (filter c t.1)) (bare_rows (suc n) ts)
      ∙ sym (ap (map (bare_of w)) (filter_append c t.1 (concat_map leaf_items ts)) ∙ map_append (bare_of w) (filter c t.1) (filter c (concat_map leaf_items ts)))

  pub live_rows : (v : View) → map bare (rows_of v (sought w)) ≡ map (bare_of w) (live_candidates v (sought w))
  unfolding rows_of leaves_of live
  live_rows v =
      bare_rows 0 (leaves v.level (tree_of v)) ∙ ap (λ (rs : List Record). map (bare_of w) (filter (candidate (sought w)) rs)) (sym (records_leaves v.level (tree_of v)))

-- with the full set and no dates none is left out of a sound index
leaves_none : (w : Question) → w.stages ≡ full_set → w.days ≡ undated → LeavesOutNone (choice_of w)
leaves_none w e f = (e, ap window_of f)

pub full_live : (b : List ℕ) → SoundIndex b → (w : Question) → w.stages ≡ full_set → w.days ≡ undated → live_candidates (view_of b) (sought w) ≡ live (view_of b)
full_live b s w e f = live_full b s (sought w) (leaves_none w e f)

-- ---- WHAT THE SEARCH FINDS

-- on a sound index that the question suits
module _ (b : List ℕ) (s : SoundIndex b) (w : Question) (d : Suited (view_of b).d w) where
  suits : Askable (view_of b).d (sought w)
  suits = question_suits (view_of b).d w d

  pub called_for : All (λ t. (to_read (view_of b) (sought w) t ≡ true → Called (view_of b) (sought w) t) × (Called (view_of b) (sought w) t → to_read (view_of b) (sought w) t ≡ true)) (leaves_of (view_of b))
  called_for = set_points b s (sought w) suits

  module _ (one : 1 ≤ w.k) where
    pub sought_exact : found b (sought w) ≡ record { rows = nearest ranking w.k (rows_of (view_of b) (sought w)); leaves = count (to_read (view_of b) (sought w)) (leaves_of (view_of b)) }
    sought_exact = found_exact b s (sought w) suits one

    -- with the full set and no dates what 01 calls for (02), but for the tie rule
    pub full_exact : w.stages ≡ full_set → w.days ≡ undated → found b (sought w) ≡ plain_due ranking (view_of b) (sought w)
    full_exact e f = full_set_law b s (sought w) (leaves_none w e f) suits one

    -- whatever the stamps, the distances and the count that 01's tie rule calls for (02, Q-9), and where they are equal, its rows
    pub any_stamp_exact : (map rowDistance (found b (sought w)).rows ≡ map rowDistance (due_by_id (view_of b) (sought w)).rows) × ((found b (sought w)).leaves ≡ (due_by_id (view_of b) (sought w)).leaves)
    any_stamp_exact = found_any_stamp b s (sought w) suits one

    pub one_stamp_exact : (t : ℕ) → OneStamp (view_of b) (sought w) t → found b (sought w) ≡ due_by_id (view_of b) (sought w)
    one_stamp_exact t a = found_one_stamp b s (sought w) suits one t a

    -- with both, 01's own answer
    pub plain_exact : w.stages ≡ full_set → w.days ≡ undated → (t : ℕ) → OneStampLive (view_of b) t → found b (sought w) ≡ plain_due id_ranking (view_of b) (sought w)
    plain_exact e f t a = found_plain b s (sought w) (leaves_none w e f) suits one t a

    pub read_ordered : leaves_read b (sought w) ≡ reading_order (view_of b) (sought w)
    read_ordered = leaves_read_law b s (sought w) suits one

    -- the header is on no unread page
    pub header_read : mult 0 (unread_pages (view_of b) (sought w)) ≡ 0
    header_read = unread_header b s (sought w) suits one

    pub unread_same : (c : List ℕ) → AgreeBut (unread_pages (view_of b) (sought w)) b c → found c (sought w) ≡ found b (sought w)
    unread_same c agree = unread_bytes b s (sought w) suits one c agree

    pub exchange_same : (c : List ℕ) → SoundIndex c → (view_of c).d ≡ (view_of b).d → Exchanged (view_of b).d (to_read (view_of b) (sought w)) (leaves_of (view_of b)) (leaves_of (view_of c)) → found c (sought w) ≡ found b (sought w)
    exchange_same c t alike x = (exchange b c s t (sought w) suits alike one x).0
