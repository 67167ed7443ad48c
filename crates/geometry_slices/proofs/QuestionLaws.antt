-- A question's numbers by place: its coordinates, and the sums of a slice.
use Rattle.std.proofs.Common.{◌≡◌, refl, ap, List, [], ◌∷◌, ℕ, zero, suc, ◌<◌, arith, length, get_or}
use Rattle.std.proofs.Math.Nat.{suc_inj}
use Rattle.geometry.specs.Features.{Feature, weighted}
use Rattle.geometry.specs.Stored.{coord_of, point_of}
use Rattle.geometry_slices.specs.Questions.{features_of, reach_at, reaches_of, Prepared}

-- lists of one length
abbrev pub Even : List ℕ → List ℕ → List ℕ → Type 0
Even ls hs ws = (length hs ≡ length ls) × (length ws ≡ length ls)

some_none : (xs : List ℕ) → 0 ≡ suc (length xs) → ⊥
some_none xs e = omega arith

pub length_features : (ls hs ws : List ℕ) → Even ls hs ws → length (features_of ls hs ws) ≡ length ls
unfolding features_of
length_features [] hs ws e = refl
length_features (l ∷ ls) [] ws e = absurd (some_none ls e.0)
length_features (l ∷ ls) (h ∷ hs) [] e = absurd (some_none ls e.1)
length_features (l ∷ ls) (h ∷ hs) (w ∷ ws) e = ap suc (length_features ls hs ws (suc_inj e.0, suc_inj e.1))

-- coordinate m
abbrev pub feature_at : List ℕ → List ℕ → List ℕ → ℕ → Feature
feature_at ls hs ws m = record { low = coord_of (get_or ls m 0); high = coord_of (get_or hs m 0); weight = get_or ws m 0 }

pub feature_at_law : (ls hs ws : List ℕ) (m : ℕ) (z : Feature) → Even ls hs ws → m < length ls → get_or (features_of ls hs ws) m z ≡ feature_at ls hs ws m
unfolding features_of
feature_at_law [] hs ws m z e k = absurd (let y : m < 0 = k in omega arith)
feature_at_law (l ∷ ls) [] ws m z e k = absurd (some_none ls e.0)
feature_at_law (l ∷ ls) (h ∷ hs) [] m z e k = absurd (some_none ls e.1)
feature_at_law (l ∷ ls) (h ∷ hs) (w ∷ ws) zero z e k = refl
feature_at_law (l ∷ ls) (h ∷ hs) (w ∷ ws) (suc m) z e k = feature_at_law ls hs ws m z (suc_inj e.0, suc_inj e.1) (omega arith)

pub length_reaches : (ls hs : List ℕ) → length hs ≡ length ls → length (reaches_of ls hs) ≡ length ls
unfolding reaches_of
length_reaches [] hs e = refl
length_reaches (l ∷ ls) [] e = absurd (some_none ls e)
length_reaches (l ∷ ls) (h ∷ hs) e = ap suc (length_reaches ls hs (suc_inj e))

pub prepared_length : {ls hs ws r : List ℕ} → Prepared ls hs ws r → length (features_of ls hs ws) ≡ length ls
prepared_length p = length_features _ _ _ (p.highs, p.weights)

pub reach_at_place : (ls hs : List ℕ) (m : ℕ) → m < length ls → m < length hs → get_or (reaches_of ls hs) m 0 ≡ reach_at (get_or ls m 0) (get_or hs m 0)
unfolding reaches_of
reach_at_place [] hs m l k = absurd (let z : m < 0 = l in omega arith)
reach_at_place (x ∷ xs) [] m l k = absurd (let z : m < 0 = k in omega arith)
reach_at_place (x ∷ xs) (y ∷ ys) zero l k = refl
reach_at_place (x ∷ xs) (y ∷ ys) (suc m) l k = reach_at_place xs ys m (omega arith) (omega arith)

-- the question for a stored point with weights: its low ends are its high ends
pub stored_weighted : (q ws : List ℕ) → features_of q q ws ≡ weighted ws (point_of q)
unfolding features_of weighted point_of
stored_weighted [] [] = refl
stored_weighted [] (w ∷ ws) = refl
stored_weighted (x ∷ xs) [] = refl
stored_weighted (x ∷ xs) (w ∷ ws) = ap (λ (fs : List Feature). record { low = coord_of x; high = coord_of x; weight = w } ∷ fs) (stored_weighted xs ws)
