-- The acts without the check, for an index that the caller knows to be sound: the act's numbers in its order.
-- Nothing is known of the bytes here, so some conditions are other ones. 2 asks for the part of soundness that is tested without a look at the pages:
-- the header's level is one that a sound index can have, and an identifier is looked for along at most 16 ^ 4 paths. 3 asks for d too (01: "d, or the
-- number of coordinates, is wrong"), and 6, 7 and 8 go by what finding an identifier gives and by the header's total.
-- On a sound index each rule is the act's (TrustedLaws).
use Rattle.std.specs.Prelude.{◌≡◌, true, ◌≢◌, List, [], ◌∷◌, ◌++◌, ℕ, ◌≤◌, ◌<◌, ℤ, length}
use Rattle.geometry.specs.Stored.{in_range}
use Rattle.geometry.specs.Numbers.{max_features}
use Rattle.pagestore.specs.Store.{view_of, field_at, level, free_at}
use Rattle.tree_model.specs.Sound.{Permitted, max_points, max_stage}
use Rattle.tree_core.specs.Insertion.{pages_wanted}
use Rattle.tree_core.specs.Lookup.{find_in}
use Rattle.index_query.specs.Asking.{Weights, Question, AsMany, Light}
use Rattle.index_refusals.specs.declared.Epoch.{Epoch}
use Rattle.index_refusals.specs.Refusals.{Rule, record_of, asked_rules, bad_length, unsound, bad_features, bad_coordinate, bad_weight, zero_id, bad_stage, already_live, not_live, full, no_pages}
use Rattle.search_model.specs.Numbers.{max_level}

-- the point p has as many coordinates as the index b has features: 1 to 16
abbrev pub Suits : List ℕ → List ℤ → Type 0
Suits b p = (1 ≤ length p) × (length p ≤ max_features) × (length p ≡ (view_of b).d)

abbrev pub trusted_insert : List ℕ → Epoch → List ℤ → List Rule
trusted_insert b e p =
    (bad_length, Permitted (length b))
    ∷ (unsound, field_at level b ≤ max_level)
    ∷ (bad_features, Suits b p)
    ∷ (bad_coordinate, in_range p ≡ true)
    ∷ (zero_id, 1 ≤ e.id)
    ∷ (bad_stage, e.stage ≤ max_stage)
    ∷ (already_live, (find_in b e.id).id ≡ 0)
    ∷ (full, (view_of b).total < max_points)
    ∷ (no_pages, pages_wanted b (record_of e p) ≤ length (free_at b))
    ∷ []

abbrev pub trusted_delete : List ℕ → ℕ → List Rule
trusted_delete b i =
    (bad_length, Permitted (length b))
    ∷ (unsound, field_at level b ≤ max_level)
    ∷ (zero_id, 1 ≤ i)
    ∷ (not_live, (find_in b i).id ≢ 0)
    ∷ []

abbrev pub trusted_question : List ℕ → Question → ℕ → List Rule
trusted_question b w n =
    (bad_length, Permitted (length b))
    ∷ (unsound, field_at level b ≤ max_level)
    ∷ (bad_features, Suits b w.point × AsMany (view_of b).d w.weights)
    ∷ (bad_coordinate, in_range w.point ≡ true)
    ∷ (bad_weight, Light w.weights)
    ∷ asked_rules w n

-- those of them that speak of the index, the point and its weights
abbrev pub weighing_rules : List ℕ → List ℤ → Weights → List Rule
weighing_rules b p ws =
    (bad_length, Permitted (length b))
    ∷ (unsound, field_at level b ≤ max_level)
    ∷ (bad_features, Suits b p × AsMany (view_of b).d ws)
    ∷ (bad_coordinate, in_range p ≡ true)
    ∷ (bad_weight, Light ws)
    ∷ []

-- those with which insert and question both begin, by the number of coordinates
abbrev pub trusted_number : List ℕ → List ℤ → List Rule
trusted_number b p =
    (bad_length, Permitted (length b))
    ∷ (unsound, field_at level b ≤ max_level)
    ∷ (bad_features, Suits b p)
    ∷ []

-- those of an insert's point
abbrev pub trusted_point : List ℕ → List ℤ → List Rule
trusted_point b p =
    (bad_length, Permitted (length b))
    ∷ (unsound, field_at level b ≤ max_level)
    ∷ (bad_features, Suits b p)
    ∷ (bad_coordinate, in_range p ≡ true)
    ∷ []

-- those that speak of an identifier and its point, of an epoch and its point, and of room for a record
abbrev pub pair_rules : List ℕ → ℕ → List ℤ → List Rule
pair_rules b i p =
    (bad_length, Permitted (length b))
    ∷ (unsound, field_at level b ≤ max_level)
    ∷ (bad_features, Suits b p)
    ∷ (bad_coordinate, in_range p ≡ true)
    ∷ (zero_id, 1 ≤ i)
    ∷ []

abbrev pub epoch_rules : List ℕ → Epoch → List ℤ → List Rule
epoch_rules b e p = pair_rules b e.id p ++ ((bad_stage, e.stage ≤ max_stage) ∷ [])

abbrev pub room_rules : List ℕ → Epoch → List ℤ → List Rule
room_rules b e p =
    (full, (view_of b).total < max_points)
    ∷ (no_pages, pages_wanted b (record_of e p) ≤ length (free_at b))
    ∷ []
