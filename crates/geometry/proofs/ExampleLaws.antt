-- The examples of 01 marked P hold. A bound's height is given; that it is least is a test of its two neighbours, by convexity.
use Rattle.std.proofs.Common.{◌≡◌, refl, List, [], ◌∷◌, ℕ, ◌+◌, ◌≤◌, ◌<◌, arith, lit≤, lit<, ℤ, pos, neg_ℤ, length, inr}
use Rattle.lists.specs.Basics.{All, none, also}
use Rattle.geometry.proofs.BoundLaws.{bound_exact}
use Rattle.geometry.proofs.SliceLaws.{plain_ordered}
use Rattle.geometry.specs.Points.{height_of, axis_at, axis_of, pyramid_of}
use Rattle.geometry.specs.Features.{plain, gap_of}
use Rattle.geometry.specs.Slices.{Real, side_by, slice_by, axis_no, sign_no, slice_at, least_from, least_in, bound_to, bound_of}
use Rattle.geometry.specs.Examples.{pair, bound, Holds, examples}

pair_holds : (p : List ℤ) (i h : ℕ) → pyramid_of p ≡ i → height_of p ≡ h → Holds (pair p i h)
pair_holds p i h a b = (a, b)

-- a bound within one pyramid, by the function's value
bound_holds : (q : List ℤ) (i lo hi B : ℕ) → 0 < length (plain q) → i < length (plain q) + length (plain q) → 0 < lo → lo ≤ hi → hi ≤ 1000 → bound_of (plain q) i lo i hi ≡ B → Holds (bound q i lo i hi B)
bound_holds q i lo hi B l k z o t e =
    let p : Real (length (plain q)) i lo = record { pyramid = k; height = omega arith; centre = λ w. absurd (omega arith) } in
    let r : Real (length (plain q)) i hi = record { pyramid = k; height = t; centre = λ w. absurd (omega arith) } in
    (rw e at (bound_exact (plain q) i lo i hi l (plain_ordered q) p r (inr (refl, o))), e)

abbrev asked : List ℤ
asked = pos 500 ∷ pos 0 ∷ []

-- every example of the list holds
pub figures_hold : All Holds examples
unfolding plain gap_of bound_of bound_to least_in least_from slice_at slice_by side_by axis_no sign_no height_of axis_at axis_of pyramid_of
figures_hold =
    also (pair_holds (pos 400 ∷ pos 400 ∷ []) 2 400 refl refl)
    (also (pair_holds (pos 0 ∷ pos 0 ∷ []) 2 0 refl refl)
    (also (pair_holds (pos 0 ∷ neg_ℤ (pos 1) ∷ []) 1 1 refl refl)
    (also (pair_holds (pos 0 ∷ pos 1 ∷ []) 3 1 refl refl)
    (also (pair_holds (neg_ℤ (pos 400) ∷ pos 400 ∷ []) 0 400 refl refl)
    (also (bound_holds asked 3 1 1000 125501 (lit< tt) (lit< tt) (lit< tt) (lit≤ tt) (lit≤ tt) refl)
    (also (bound_holds asked 3 1 100 170801 (lit< tt) (lit< tt) (lit< tt) (lit≤ tt) (lit≤ tt) refl)
    (also (bound_holds asked 0 1 1000 251001 (lit< tt) (lit< tt) (lit< tt) (lit≤ tt) (lit≤ tt) refl)
    (also (bound_holds asked 2 600 700 10000 (lit< tt) (lit< tt) (lit< tt) (lit≤ tt) (lit≤ tt) refl)
    none))))))))
