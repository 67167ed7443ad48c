-- A point with a weight for each coordinate: the distance by it in Q-1's words (02), weights of ones and of zeros.
use Rattle.std.proofs.Common.{◌≡◌, refl, sym, ap, ap₂, ◌∙◌, subst, List, [], ◌∷◌, ℕ, suc, ◌+◌, ◌-◌, ◌*◌, ◌≤◌, ◌<◌, arith, add-one, ℤ, length, get_or, drop, replicate, drop_of_length-le, drop-cons}
use Rattle.std.specs.Int.Signed.{≤ℤ_refl}
use Rattle.lists.specs.Basics.{All, also}
use Rattle.geometry.proofs.GapLaws.{gap_point}
use Rattle.geometry.proofs.SliceLaws.{plain_distance}
use Rattle.geometry.proofs.StoredLaws.{coord_gap}
use Rattle.geometry.proofs.BoundLaws.{bound_exact}
use Rattle.geometry.proofs.LoopLaws.{point_cons}
use Rattle.geometry.specs.Points.{InRange, PairLe, distance}
use Rattle.geometry.specs.Features.{Feature, dist_to, plain, weighted, weighted_distance, Ordered, Asks, IsBound}
use Rattle.geometry.specs.Slices.{Real, bound_of}
use Rattle.geometry.specs.Stored.{point_of}

-- weighted_distance_law: the distance of a point from what is asked is the sum of weight times squared difference
pub weighted_distance_law : (ws : List ℕ) (q p : List ℤ) → dist_to (weighted ws q) p ≡ weighted_distance ws q p
unfolding dist_to weighted weighted_distance
weighted_distance_law [] q p = refl
weighted_distance_law (w ∷ ws) [] p = refl
weighted_distance_law (w ∷ ws) (q ∷ qs) [] = refl
weighted_distance_law (w ∷ ws) (q ∷ qs) (p ∷ ps) = ap₂ (λ (x y : ℕ). x + y) (ap (λ (n : ℕ). w * (n * n)) (gap_point q p)) (weighted_distance_law ws qs ps)

pub weighted_length : (ws : List ℕ) (q : List ℤ) → length ws ≡ length q → length (weighted ws q) ≡ length q
unfolding weighted
weighted_length [] q e = e
weighted_length (w ∷ ws) [] e = refl
weighted_length (w ∷ ws) (q ∷ qs) e = ap suc (weighted_length ws qs (omega arith))

pub weighted_ordered : (ws : List ℕ) (q : List ℤ) → Ordered (weighted ws q)
unfolding weighted
weighted_ordered [] q = tt
weighted_ordered (w ∷ ws) [] = tt
weighted_ordered (w ∷ ws) (q ∷ qs) = (≤ℤ_refl q, weighted_ordered ws qs)

pub weighted_asks : (W : ℕ) (ws : List ℕ) (q : List ℤ) → All (λ x. x ≤ W) ws → InRange q → Asks W (weighted ws q)
unfolding weighted
weighted_asks W [] q l r = tt
weighted_asks W (w ∷ ws) [] l r = tt
weighted_asks W (w ∷ ws) (q ∷ qs) (also h l) r = ((r.0, r.0, h), weighted_asks W ws qs l r.1)

-- ones_plain: the unweighted question is the case of ones
pub ones_plain : (q : List ℤ) → weighted (replicate (length q) 1) q ≡ plain q
unfolding weighted plain
ones_plain [] = refl
ones_plain (q ∷ qs) = ap (λ (fs : List Feature). record { low = q; high = q; weight = 1 } ∷ fs) (ones_plain qs)

pub ones_distance : (q p : List ℤ) → weighted_distance (replicate (length q) 1) q p ≡ distance q p
ones_distance q p = sym (weighted_distance_law (replicate (length q) 1) q p) ∙ ap (λ (fs : List Feature). dist_to fs p) (ones_plain q) ∙ plain_distance q p

-- where all weights are 0, so is every distance
pub zeros_distance : (ws : List ℕ) (q p : List ℤ) → All (λ x. x ≡ 0) ws → weighted_distance ws q p ≡ 0
unfolding weighted_distance
zeros_distance [] q p l = refl
zeros_distance (w ∷ ws) [] p l = refl
zeros_distance (w ∷ ws) (q ∷ qs) [] l = refl
zeros_distance (w ∷ ws) (q ∷ qs) (p ∷ ps) (also h l) = rw (h, zeros_distance ws qs ps l) (omega arith)

-- ---- THE BOUND OF A SPAN

-- weighted_bound: whatever the weights, `bound_of` is reached by a grid point of the span, and least
module _ (ws : List ℕ) (q : List ℤ) (n : length ws ≡ length q) (some : 0 < length q) (i h i' h' : ℕ) (r : Real (length q) i h) (r' : Real (length q) i' h') (l : PairLe i h i' h') where
  pub weighted_bound : IsBound (weighted ws q) i h i' h' (bound_of (weighted ws q) i h i' h')
  weighted_bound =
      let e = weighted_length ws q n in
      bound_exact (weighted ws q) i h i' h' (omega arith) (weighted_ordered ws q) (subst (λ (d : ℕ). Real d i h) (sym e) r) (subst (λ (d : ℕ). Real d i' h') (sym e) r') l

  -- where all are 0, so is it
  pub zeros_bound : All (λ x. x ≡ 0) ws → bound_of (weighted ws q) i h i' h' ≡ 0
  zeros_bound z = sym weighted_bound.reached ∙ weighted_distance_law ws q weighted_bound.point ∙ zeros_distance ws q weighted_bound.point z

-- ---- COORDINATES AS STORED

-- one coordinate more
pub weighted_more : (ws q p : List ℕ) (m : ℕ) → m < length ws → m < length q → m < length p
    → weighted_distance (drop m ws) (drop m (point_of q)) (drop m (point_of p))
    ≡ get_or ws m 0 * (((get_or q m 0 - get_or p m 0) + (get_or p m 0 - get_or q m 0)) * ((get_or q m 0 - get_or p m 0) + (get_or p m 0 - get_or q m 0)))
    + weighted_distance (drop (m + 1) ws) (drop (m + 1) (point_of q)) (drop (m + 1) (point_of p))
unfolding weighted_distance
weighted_more ws q p m h l k = rw (drop-cons ws m 0 h, point_cons q m l, point_cons p m k, coord_gap (get_or q m 0) (get_or p m 0), add-one m)

pub weighted_end : (ws q p : List ℕ) (m : ℕ) → length ws ≤ m → weighted_distance (drop m ws) (drop m (point_of q)) (drop m (point_of p)) ≡ 0
unfolding weighted_distance
weighted_end ws q p m l = rw (drop_of_length-le ws {i = m} l)
