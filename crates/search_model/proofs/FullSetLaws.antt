-- The full set without dates returns what 01 does (02), with Q-9's tie rule: on a sound index each live record is then a candidate.
use Rattle.std.proofs.Common.{◌≡◌, refl, ap, ap₂, ◌∙◌, Bool, ◌&&◌, List, [], ◌∷◌, ◌++◌, map, ℕ, suc, ◌≤◌, ltb, length}
use Rattle.lists.specs.Basics.{All, none, also}
use Rattle.lists.specs.Sorting.{count}
use Rattle.search_theory.specs.Nearest.{Ranking, nearest, in_set}
use Rattle.search_rows.specs.declared.Row.{Row}
use Rattle.geometry.specs.Features.{Feature}
use Rattle.pagestore.specs.Store.{View, view_of}
use Rattle.tree_model.specs.Trees.{Item, tree_of, live, leaves_of}
use Rattle.tree_model.specs.Sound.{RecordOk, SoundIndex}
use Rattle.search_model.specs.declared.Choice.{Choice}
use Rattle.search_model.specs.Asked.{Asked, distance_to, span_bound, LeavesOutNone, Askable}
use Rattle.search_model.specs.Branches.{row_of, rows_among}
use Rattle.search_model.specs.Visit.{ranking, found}
use Rattle.search_model.specs.Questions.{rows_from, rows_of, leaf_bound, live_candidates, to_read_by, to_read}
use Rattle.search_model.specs.FullSet.{all_rows_from, all_rows, in_plain_set, plain_due}
use Rattle.search_model.proofs.AskedLaws.{candidates_full}
use Rattle.search_model.proofs.FrameLaws.{parts_right}
use Rattle.search_model.proofs.SoundLaws.{leaf_items, records_leaves}
use Rattle.search_model.proofs.ExactLaws.{found_exact}

rows_full : (q : Asked) → LeavesOutNone q.choice → (d p : ℕ) (us : List (Item 1)) → All (λ u. All (RecordOk d) (leaf_items u)) us → rows_from q p us ≡ all_rows_from q p us
unfolding rows_from rows_among all_rows_from
rows_full q e d p [] none = refl
rows_full q e d p (u ∷ us) (also h a) =
    ap₂ (λ (x y : List Row). x ++ y) (ap (map (row_of q p)) (candidates_full q e d u.1 h)) (rows_full q e d (suc p) us a)

-- 01's answer goes by the features and k: whichever records are looked for, it is the same
module _ (r : Ranking Row) (fs : List Feature) (k : ℕ) (c e : Choice) where
  abbrev asks : Choice → Asked
  asks x = record { features = fs; k = k; choice = x }

  same_rows : (p : ℕ) (ts : List (Item 1)) → all_rows_from (asks c) p ts ≡ all_rows_from (asks e) p ts
  unfolding all_rows_from row_of distance_to
  same_rows p [] = refl
  same_rows p (t ∷ ts) = ap (λ (x : List Row). map (row_of (asks e) p) t.1 ++ x) (same_rows (suc p) ts)

  same_leaves : (v : View) → in_plain_set r v (asks c) ≡ in_plain_set r v (asks e)
  unfolding in_plain_set all_rows leaf_bound span_bound
  same_leaves v i t = ltb 0 (length t.1) && in_set r k (same_rows 0 (leaves_of v) i) (leaf_bound v.d (asks e) t)

  pub plain_choice : (v : View) → plain_due r v (asks c) ≡ plain_due r v (asks e)
  unfolding all_rows
  plain_choice v = λ i. record { rows = nearest r k (same_rows 0 (leaves_of v) i); leaves = count (same_leaves v i) (leaves_of v) }

module _ (b : List ℕ) (s : SoundIndex b) (q : Asked) (e : LeavesOutNone q.choice) where
  -- each live record is looked for
  pub live_full : live_candidates (view_of b) q ≡ live (view_of b)
  live_full = candidates_full q e (view_of b).d (live (view_of b)) s.ranges

  pub all_rows_law : rows_of (view_of b) q ≡ all_rows (view_of b) q
  unfolding rows_of all_rows live leaves_of
  all_rows_law =
      rows_full q e (view_of b).d 0 (leaves_of (view_of b))
      (parts_right leaf_items (leaves_of (view_of b)) (rw (records_leaves (view_of b).level (tree_of (view_of b))) at s.ranges))

  same_set : to_read (view_of b) q ≡ in_plain_set ranking (view_of b) q
  unfolding to_read_by in_plain_set
  same_set i t = ltb 0 (length t.1) && in_set ranking q.k (all_rows_law i) (leaf_bound (view_of b).d q t)

  -- full_set_law: the search finds what 01 calls for, but for the tie rule
  pub full_set_law : Askable (view_of b).d q → 1 ≤ q.k → found b q ≡ plain_due ranking (view_of b) q
  full_set_law suits one =
      let n : count (to_read (view_of b) q) (leaves_of (view_of b)) ≡ count (in_plain_set ranking (view_of b) q) (leaves_of (view_of b)) = ap (λ (f : Item 1 → Bool). count f (leaves_of (view_of b))) same_set in
      found_exact b s q suits one ∙ (λ i. record { rows = nearest ranking q.k (all_rows_law i); leaves = n i })
