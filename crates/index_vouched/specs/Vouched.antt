-- Insert and delete without the check and without a look through all leaves for the identifier: the caller vouches for it. The rules are those of
-- the trusted acts, but for 6 and 7. An insert has no 6: that the identifier is not live is the caller's word. A delete is told the point too (so
-- 3 and 4 are given), and 7 asks whether that record stands in the leaf to which its key leads.
use Rattle.std.specs.Prelude.{◌≡◌, true, List, [], ◌∷◌, ℕ, ◌≤◌, ◌<◌, ℤ, length}
use Rattle.geometry.specs.Stored.{in_range}
use Rattle.pagestore.specs.Store.{view_of, field_at, level, free_at}
use Rattle.tree_model.specs.Trees.{point_in}
use Rattle.pagestore_page.specs.declared.Record.{Record}
use Rattle.tree_model.specs.Sound.{Permitted, max_points, max_stage}
use Rattle.tree_core.specs.Insertion.{pages_wanted}
use Rattle.tree_core.specs.Deletion.{delete_from}
use Rattle.tree_core.specs.Lookup.{find_in}
use Rattle.tree_core.specs.Keyed.{holds_at}
use Rattle.index_refusals.specs.declared.Epoch.{Epoch}
use Rattle.index_refusals.specs.Refusals.{Rule, First, record_of, live_times, bad_length, unsound, bad_features, bad_coordinate, zero_id, bad_stage, not_live, full, no_pages}
use Rattle.index_refusals.specs.Outcomes.{unless_refused, inserted_with}
use Rattle.index_refusals.specs.Trusted.{Suits}
use Rattle.search_model.specs.Numbers.{max_level}

abbrev pub vouched_insert : List ℕ → Epoch → List ℤ → List Rule
vouched_insert b e p =
    (bad_length, Permitted (length b))
    ∷ (unsound, field_at level b ≤ max_level)
    ∷ (bad_features, Suits b p)
    ∷ (bad_coordinate, in_range p ≡ true)
    ∷ (zero_id, 1 ≤ e.id)
    ∷ (bad_stage, e.stage ≤ max_stage)
    ∷ (full, (view_of b).total < max_points)
    ∷ (no_pages, pages_wanted b (record_of e p) ≤ length (free_at b))
    ∷ []

-- the record that a delete is told: its identifier and its point. Its stage and its stamp are not looked at.
abbrev pub record_told : ℕ → List ℤ → Record
record_told i p = record_of (record { id = i; stage = 0; stamp = 0 }) p

abbrev pub vouched_delete : List ℕ → ℕ → List ℤ → List Rule
vouched_delete b i p =
    (bad_length, Permitted (length b))
    ∷ (unsound, field_at level b ≤ max_level)
    ∷ (bad_features, Suits b p)
    ∷ (bad_coordinate, in_range p ≡ true)
    ∷ (zero_id, 1 ≤ i)
    ∷ (not_live, holds_at b (record_told i p) ≡ true)
    ∷ []

-- what a delete with number n leaves; what an insert leaves is `inserted_with`
abbrev pub vouched_deleted_with : ℕ → List ℕ → ℕ → List ℤ → List ℕ
vouched_deleted_with n b i p = unless_refused n (delete_from b (record_told i p)) b

-- what an insert of the epoch e, and a delete of identifier i, with point p on index b return, the number r, and leave, the index c
abbrev pub VouchedInserted : List ℕ → Epoch → List ℤ → ℕ → List ℕ → Type 0
VouchedInserted b e p r c = (First (vouched_insert b e p) r) × (c ≡ inserted_with r b e p)

abbrev pub VouchedDeleted : List ℕ → ℕ → List ℤ → ℕ → List ℕ → Type 0
VouchedDeleted b i p r c = (First (vouched_delete b i p) r) × (c ≡ vouched_deleted_with r b i p)

-- identifier i is live with point p: what a caller vouches for with a delete
abbrev pub LiveAt : List ℕ → ℕ → List ℤ → Type 0
LiveAt b i p = (0 < live_times b i) × (point_in (view_of b).d (find_in b i) ≡ p)
