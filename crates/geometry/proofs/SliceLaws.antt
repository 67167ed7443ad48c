-- The closed form of a slice is the least distance to its grid points: below each of them, and reached.
use Rattle.std.proofs.Common.{◌≡◌, refl, sym, ap, ap₂, ◌∙◌, Bool, true, false, List, [], ◌∷◌, ℕ, zero, suc, ◌+◌, ◌-◌, ◌*◌, ◌≤◌, ◌<◌, arith, add-le-add, le_of_eq, ℤ, pos, negsuc, nat_abs, neg_ℤ, length, ◌≤ℤ◌}
use Rattle.std.proofs.Math.Nat.{suc_inj}
use Rattle.std.specs.Int.Signed.{≤ℤ_refl}
use Rattle.geometry.proofs.IntLaws.{neg_abs}
use Rattle.geometry.proofs.GapLaws.{gap_ge, gap_point, near, near_in, near_gap}
use Rattle.geometry.proofs.ConvexLaws.{cost_mono}
use Rattle.geometry.proofs.PairLaws.{InSide, InSlice}
use Rattle.geometry.specs.Points.{is_neg, distance}
use Rattle.geometry.specs.Features.{Feature, gap_to, cost_of, dist_to, plain, Ordered}
use Rattle.geometry.specs.Slices.{on_axis, reach_of, side_by, slice_by}

-- a number of magnitude at most h is no nearer than the reach says, and one is as near
value_below : (f : Feature) (h : ℕ) (p : ℤ) → nat_abs p ≤ h → reach_of f - suc h ≤ gap_to f p
value_below f h p l = omega (arith, gap_ge f.low f.high p)

value_gap : (f : Feature) (h : ℕ) → f.low ≤ℤ f.high → gap_to f (near h f.low) ≡ reach_of f - suc h
value_gap f h o = near_gap h f.low f.high o ∙ omega arith

-- the one number on the axis
axis_is : (c : ℤ) (s : Bool) (h : ℕ) → is_neg c ≡ s → nat_abs c ≡ h → c ≡ on_axis s h
axis_is (pos n) false h e k = ap pos k
axis_is (pos n) true h e k = let z : ◌≡◌ {A = Bool} false true = e in cc
axis_is (negsuc n) false h e k = let z : ◌≡◌ {A = Bool} true false = e in cc
axis_is (negsuc n) true h e k = ap (λ (x : ℕ). neg_ℤ (pos x)) k

-- below each point of the slice
side_below : (h : ℕ) (fs : List Feature) (p : List ℤ) → length p ≡ length fs → InSide h p → side_by (suc h) fs ≤ dist_to fs p
unfolding side_by dist_to
side_below h [] p e i = omega arith
side_below h (f ∷ fs) [] e i = absurd (let z : 0 ≡ suc (length fs) = e in omega arith)
side_below h (f ∷ fs) (p ∷ ps) e i = add-le-add (cost_mono f _ _ (value_below f h p i.0)) (side_below h fs ps (suc_inj e) i.1)

pub slice_below : (j : ℕ) (s : Bool) (h : ℕ) (fs : List Feature) (p : List ℤ) → length p ≡ length fs → InSlice j s h p → slice_by j s h fs ≤ dist_to fs p
unfolding slice_by dist_to
slice_below j s h [] p e i = omega arith
slice_below zero s h (f ∷ fs) [] e i = absurd i
slice_below (suc j) s h (f ∷ fs) [] e i = absurd i
slice_below zero s h (f ∷ fs) (p ∷ ps) e i =
    add-le-add (le_of_eq (ap (λ (x : ℤ). cost_of f (gap_to f x)) (sym (axis_is p s h i.0.0 i.0.1)))) (side_below h fs ps (suc_inj e) i.1)
slice_below (suc j) s h (f ∷ fs) (p ∷ ps) e i =
    let k : suc (h - 1) ≡ h = omega (arith, i.0) in
    add-le-add (cost_mono f _ _ (rw k at (value_below f (h - 1) p (omega (arith, i.0))))) (slice_below j s h fs ps (suc_inj e) i.1)

-- the nearest point of a slice
near_side : ℕ → List Feature → List ℤ
near_side h [] = []
near_side h (f ∷ fs) = near h f.low ∷ near_side h fs

pub near_slice : ℕ → Bool → ℕ → List Feature → List ℤ
near_slice j s h [] = []
near_slice zero s h (f ∷ fs) = on_axis s h ∷ near_side h fs
near_slice (suc j) s h (f ∷ fs) = near (h - 1) f.low ∷ near_slice j s h fs

near_side_length : (h : ℕ) (fs : List Feature) → length (near_side h fs) ≡ length fs
unfolding near_side
near_side_length h [] = refl
near_side_length h (f ∷ fs) = ap suc (near_side_length h fs)

pub near_slice_length : (j : ℕ) (s : Bool) (h : ℕ) (fs : List Feature) → length (near_slice j s h fs) ≡ length fs
unfolding near_slice
near_slice_length j s h [] = refl
near_slice_length zero s h (f ∷ fs) = ap suc (near_side_length h fs)
near_slice_length (suc j) s h (f ∷ fs) = ap suc (near_slice_length j s h fs)

near_side_in : (h : ℕ) (fs : List Feature) → InSide h (near_side h fs)
unfolding near_side
near_side_in h [] = tt
near_side_in h (f ∷ fs) = (near_in h f.low, near_side_in h fs)

-- a slice has points: height 0 only at the first axis, not below 0
abbrev pub HasPoints : ℕ → Bool → ℕ → Type 0
HasPoints j s (suc h) = Unit {0}
HasPoints zero false zero = Unit {0}
HasPoints zero true zero = ⊥
HasPoints (suc j) s zero = ⊥

on_axis_neg : (s : Bool) (h : ℕ) → HasPoints 0 s h → is_neg (on_axis s h) ≡ s
on_axis_neg false h t = refl
on_axis_neg true zero t = absurd t
on_axis_neg true (suc h) t = refl

-- the magnitude of height h on an axis
pub axis_abs : (s : Bool) (h : ℕ) → nat_abs (on_axis s h) ≡ h
axis_abs false h = refl
axis_abs true h = neg_abs h

next_axis : (j : ℕ) (s : Bool) (h : ℕ) → HasPoints (suc j) s h → (1 ≤ h) × HasPoints j s h
next_axis j s zero t = absurd t
next_axis j s (suc h) t = (omega arith, tt)

pub near_slice_in : (j : ℕ) (s : Bool) (h : ℕ) (fs : List Feature) → j < length fs → HasPoints j s h → InSlice j s h (near_slice j s h fs)
unfolding near_slice
near_slice_in j s h [] l t = absurd (let z : 1 ≤ 0 = omega arith in omega arith)
near_slice_in zero s h (f ∷ fs) l t = ((on_axis_neg s h t, axis_abs s h), near_side_in h fs)
near_slice_in (suc j) s h (f ∷ fs) l t =
    let d = next_axis j s h t in (omega (arith, near_in (h - 1) f.low, d.0), near_slice_in j s h fs (omega arith) d.1)

-- and reached
near_side_dist : (h : ℕ) (fs : List Feature) → Ordered fs → dist_to fs (near_side h fs) ≡ side_by (suc h) fs
unfolding side_by dist_to near_side
near_side_dist h [] o = refl
near_side_dist h (f ∷ fs) o = ap₂ ◌+◌ (ap (cost_of f) (value_gap f h o.0)) (near_side_dist h fs o.1)

pub near_slice_dist : (j : ℕ) (s : Bool) (h : ℕ) (fs : List Feature) → Ordered fs → HasPoints j s h → dist_to fs (near_slice j s h fs) ≡ slice_by j s h fs
unfolding slice_by dist_to near_slice
near_slice_dist j s h [] o t = refl
near_slice_dist zero s h (f ∷ fs) o t = ap₂ ◌+◌ refl (near_side_dist h fs o.1)
near_slice_dist (suc j) s h (f ∷ fs) o t =
    let d = next_axis j s h t in
    let k : suc (h - 1) ≡ h = omega (arith, d.0) in
    ap₂ ◌+◌ (ap (cost_of f) (rw k at (value_gap f (h - 1) o.0))) (near_slice_dist j s h fs o.1 d.1)

-- the unweighted distance is the squared Euclidean one
pub plain_distance : (q p : List ℤ) → dist_to (plain q) p ≡ distance q p
unfolding dist_to plain distance
plain_distance [] p = refl
plain_distance (q ∷ qs) [] = refl
plain_distance (q ∷ qs) (p ∷ ps) = let g = ap (λ (n : ℕ). n * n) (gap_point q p) in omega (arith, g, plain_distance qs ps)

pub plain_ordered : (q : List ℤ) → Ordered (plain q)
unfolding plain
plain_ordered [] = tt
plain_ordered (q ∷ qs) = (≤ℤ_refl q, plain_ordered qs)

pub plain_length : (q : List ℤ) → length (plain q) ≡ length q
unfolding plain
plain_length [] = refl
plain_length (q ∷ qs) = ap suc (plain_length qs)
