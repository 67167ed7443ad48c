-- What a distance falls and rises by from height h to h + 1 in a pyramid, as two weighted sums.
use Rattle.std.proofs.Common.{◌≡◌, refl, ap, ◌∙◌, Bool, true, false, List, [], ◌∷◌, ◌⊎◌, inl, inr, ◌≢◌, ℕ, zero, suc, max, ◌+◌, ◌*◌, ◌-◌, ◌≤◌, ◌<◌, arith, eq-eqb, ne_eqb, ltb, nat_abs, length, get_or, ◌≤ℤ◌}
use native.Mathlib.Decide.{dec_le}
use Rattle.lists.specs.Basics.{if}
use Rattle.geometry.proofs.IntLaws.{le_parts}
use Rattle.geometry.proofs.GapLaws.{axis_gap_low, axis_gap_high}
use Rattle.geometry.proofs.StoredLaws.{coord_parts, coord_magnitude}
use Rattle.geometry_slices.proofs.PackedLaws.{asked_length}
use Rattle.geometry_slices.proofs.RowLaws.{sum_add, sum_swap, square_falls, square_rises}
use Rattle.geometry_slices.proofs.TableLaws.{feature_in, feature_in_law, axis_in, slice_asked, row_on}
use Rattle.geometry.specs.Features.{Feature, gap_to, Ordered, Asks}
use Rattle.geometry.specs.Slices.{on_axis, axis_no, slice_at}
use Rattle.geometry.specs.Stored.{coord_of}
use Rattle.geometry_slices.specs.Questions.{size_of, asked_of, sum_to, row_at}
use Rattle.geometry_lanes.specs.Lanes.{own_from, from_at, odd_of, end_at, Bounded}

-- of two numbers, one of them 0, the greater one squared is the sum of the squares
square_max : (x y : ℕ) → (x ≡ 0) ⊎ (y ≡ 0) → max x y * max x y ≡ x * x + y * y
square_max x y (inl e) = let m : max x y ≡ y = omega arith in rw (m, e) (omega arith)
square_max x y (inr e) = let m : max x y ≡ x = omega arith in rw (m, e) (omega arith)

-- one gap that falls and one that rises, never both: from height to height
gap_turn : (g g' x y x' y' f r : ℕ) → g ≡ max x y → g' ≡ max x' y' → (x ≡ 0) ⊎ (y ≡ 0) → (x' ≡ 0) ⊎ (y' ≡ 0) → x * x ≡ x' * x' + f → y' * y' ≡ y * y + r → g * g + r ≡ g' * g' + f
gap_turn g g' x y x' y' f r e e' o o' u v = rw (e, e') (omega (arith, square_max x y o, square_max x' y' o', u, v))

-- numbers by themselves, so that omega meets nothing else
two_off : (x y z : ℕ) → x - (y + z) ≡ (x - y) - z
two_off x y z = omega arith

off_swap : (x y z : ℕ) → (x - y) - z ≡ (x - z) - y
off_swap x y z = omega arith

back_off : (l h k : ℕ) → h ≤ k → l - (k - h) ≡ (l + h) - k
back_off l h k o = omega arith

suc_on : (x y : ℕ) → x + suc y ≡ suc (x + y)
suc_on x y = omega arith

rise_above : (h : ℕ) → 2 * (1000 + h) + 1 ≡ 2 * h + 2001
rise_above h = omega arith

rise_below : (l h : ℕ) → l ≤ 2000 → (2 * (l + h) + 1) - 2 * 1000 ≡ (2 * h + 2001) - (4000 - 2 * l)
rise_below l h o = omega arith

-- the axis above 0, from low to high
one_zero : (x y h k : ℕ) → x ≤ k → (x - (1000 + h) ≡ 0) ⊎ ((1000 + h) - k ≡ 0)
one_zero x y h k l = by (dec_le x (1000 + h))
  where
    by : Dec (x ≤ 1000 + h) → (x - (1000 + h) ≡ 0) ⊎ ((1000 + h) - k ≡ 0)
    by (yes t) = inl (omega arith)
    by (no t) = inr (omega arith)

turn_above : (l u h g g' : ℕ) → l ≤ u → g ≡ max (l - (1000 + h)) ((1000 + h) - u) → g' ≡ max (l - (1000 + suc h)) ((1000 + suc h) - u)
    → g * g + ((2 * h + 2001) - 2 * u) ≡ g' * g' + (odd_of (l - 1000) - 2 * h)
turn_above l u h g g' o e e' =
    let a = two_off l 1000 h in
    let b = two_off l 1000 (suc h) in
    let c = suc_on 1000 h in
    let f = square_falls (l - 1000) h in
    let r = square_rises u (1000 + h) in
    let s = rise_above h in
    gap_turn g g' (l - (1000 + h)) ((1000 + h) - u) (l - (1000 + suc h)) ((1000 + suc h) - u) _ _ e e' (one_zero l 0 h u o) (one_zero l 0 (suc h) u o) (rw (a, b) f) (rw c (rw s at r))

-- and below 0
none_both : (l u h : ℕ) → l ≤ u → h ≤ 1000 → (l - (1000 - h) ≡ 0) ⊎ ((1000 - h) - u ≡ 0)
none_both l u h o k = by (dec_le l (1000 - h))
  where
    by : Dec (l ≤ 1000 - h) → (l - (1000 - h) ≡ 0) ⊎ ((1000 - h) - u ≡ 0)
    by (yes t) = inl (omega arith)
    by (no t) = inr (omega arith)

other : (x y : ℕ) → (x ≡ 0) ⊎ (y ≡ 0) → (y ≡ 0) ⊎ (x ≡ 0)
other x y (inl e) = inr e
other x y (inr e) = inl e

swap_max : (x y : ℕ) → max x y ≡ max y x
swap_max x y = omega arith

turn_below : (l u h g g' : ℕ) → l ≤ u → l ≤ 2000 → suc h ≤ 1000 → g ≡ max (l - (1000 - h)) ((1000 - h) - u) → g' ≡ max (l - (1000 - suc h)) ((1000 - suc h) - u)
    → g * g + ((2 * h + 2001) - (4000 - 2 * l)) ≡ g' * g' + (odd_of (1000 - u) - 2 * h)
turn_below l u h g g' o t k e e' =
    let a = off_swap 1000 h u in
    let b = off_swap 1000 (suc h) u in
    let c = back_off l h 1000 (omega arith) in
    let d : l - (1000 - suc h) ≡ suc (l + h) - 1000 = back_off l (suc h) 1000 k ∙ ap (λ (x : ℕ). x - 1000) (suc_on l h) in
    let f = square_falls (1000 - u) h in
    let r = square_rises 1000 (l + h) in
    let s = rise_below l h t in
    gap_turn g g' ((1000 - h) - u) (l - (1000 - h)) ((1000 - suc h) - u) (l - (1000 - suc h)) _ _ (e ∙ swap_max _ _) (e' ∙ swap_max _ _)
    (other _ _ (none_both l u h o (omega arith))) (other _ _ (none_both l u (suc h) o k)) (rw (a, b) f) (rw (c, d) (rw s at r))

-- a question's ends as they are stored
asks_at : (W : ℕ) (fs : List Feature) (m : ℕ) (z : Feature) → Asks W fs → m < length fs
    → (nat_abs (get_or fs m z).low ≤ 1000) × (nat_abs (get_or fs m z).high ≤ 1000) × ((get_or fs m z).weight ≤ W)
asks_at W [] m z r l = absurd (let y : m < 0 = l in omega arith)
asks_at W (f ∷ fs) zero z r l = r.0
asks_at W (f ∷ fs) (suc m) z r l = asks_at W fs m z r.1 (omega arith)

ordered_at : (fs : List Feature) (m : ℕ) (z : Feature) → Ordered fs → m < length fs → (get_or fs m z).low ≤ℤ (get_or fs m z).high
ordered_at [] m z r l = absurd (let y : m < 0 = l in omega arith)
ordered_at (f ∷ fs) zero z r l = r.0
ordered_at (f ∷ fs) (suc m) z r l = ordered_at fs m z r.1 (omega arith)

weighed : (w x y z : ℕ) → x ≡ y + z → w * x ≡ w * y + w * z
weighed w x y z e = ap (λ (v : ℕ). w * v) e ∙ omega arith

from_side : (a : List ℕ) (i j m : ℕ) → j ≡ axis_no (size_of a) i → m ≢ j → from_at a i m ≡ row_at a j m
unfolding from_at
from_side a i j m e n = rw (← e, ne_eqb m j n)

pub from_own : (a : List ℕ) (i j : ℕ) → j ≡ axis_no (size_of a) i → from_at a i j ≡ own_from a i j
unfolding from_at
from_own a i j e = rw (← e, eq-eqb j j refl)

module _ (a : List ℕ) (p : Bounded a) where
  pub low_le : (m : ℕ) → m < size_of a → get_or a m 0 ≤ 2000
  low_le m l =
      let z = feature_in a m in
      let r = asks_at 1000 (asked_of a) m z p.asks (omega (arith, asked_length a p.packed)) in
      let e = rw (feature_in_law a p.packed m z l) at r.0 in
      omega (arith, e, coord_magnitude (get_or a m 0))

  pub high_le : (m : ℕ) → m < size_of a → get_or a (16 + m) 0 ≤ 2000
  high_le m l =
      let z = feature_in a m in
      let r = asks_at 1000 (asked_of a) m z p.asks (omega (arith, asked_length a p.packed)) in
      let e = rw (feature_in_law a p.packed m z l) at r.1 in
      omega (arith, e, coord_magnitude (get_or a (16 + m) 0))

  pub ends_ordered : (m : ℕ) → m < size_of a → get_or a m 0 ≤ get_or a (16 + m) 0
  ends_ordered m l =
      let z = feature_in a m in
      let o = rw (feature_in_law a p.packed m z l) at (ordered_at (asked_of a) m z p.ordered (omega (arith, asked_length a p.packed))) in
      let x = coord_parts (get_or a m 0) in let y = coord_parts (get_or a (16 + m) 0) in
      omega (arith, le_parts (coord_of (get_or a m 0)) (coord_of (get_or a (16 + m) 0)) o, x.0, x.1, y.0, y.1)

  -- the axis: what its square falls and rises by
  axis_turn : (i j h : ℕ) → j < size_of a → j ≡ axis_no (size_of a) i → suc h ≤ 1000
      → gap_to (feature_in a j) (on_axis (ltb i (size_of a)) h) * gap_to (feature_in a j) (on_axis (ltb i (size_of a)) h) + ((2 * h + 2001) - end_at a i)
      ≡ gap_to (feature_in a j) (on_axis (ltb i (size_of a)) (suc h)) * gap_to (feature_in a j) (on_axis (ltb i (size_of a)) (suc h)) + (odd_of (own_from a i j) - 2 * h)
  unfolding end_at own_from
  axis_turn i j h l e k = rw (← e) (by (ltb i (size_of a)))
    where
      by : (b : Bool)
          → gap_to (feature_in a j) (on_axis b h) * gap_to (feature_in a j) (on_axis b h) + ((2 * h + 2001) - if b (4000 - 2 * get_or a j 0) (2 * get_or a (16 + j) 0))
          ≡ gap_to (feature_in a j) (on_axis b (suc h)) * gap_to (feature_in a j) (on_axis b (suc h)) + (odd_of (if b (1000 - get_or a (16 + j) 0) (get_or a j 0 - 1000)) - 2 * h)
      by true =
          turn_below (get_or a j 0) (get_or a (16 + j) 0) h _ _ (ends_ordered j l) (low_le j l) k
          (axis_gap_low (get_or a j 0) (get_or a (16 + j) 0) true h refl (omega arith)) (axis_gap_low (get_or a j 0) (get_or a (16 + j) 0) true (suc h) refl k)
      by false =
          turn_above (get_or a j 0) (get_or a (16 + j) 0) h _ _ (ends_ordered j l)
          (axis_gap_high (get_or a j 0) (get_or a (16 + j) 0) false h refl) (axis_gap_high (get_or a j 0) (get_or a (16 + j) 0) false (suc h) refl)

  -- the sides
  sides_turn : (j h : ℕ)
      → sum_to (size_of a) (λ (m : ℕ). get_or a (32 + m) 0 * ((row_at a j m - h) * (row_at a j m - h)))
      ≡ sum_to (size_of a) (λ (m : ℕ). get_or a (32 + m) 0 * ((row_at a j m - suc h) * (row_at a j m - suc h))) + sum_to (size_of a) (λ (m : ℕ). get_or a (32 + m) 0 * (odd_of (row_at a j m) - 2 * h))
  sides_turn j h =
      sum_add (size_of a) (λ (m : ℕ). get_or a (32 + m) 0 * ((row_at a j m - h) * (row_at a j m - h))) (λ (m : ℕ). get_or a (32 + m) 0 * ((row_at a j m - suc h) * (row_at a j m - suc h)))
      (λ (m : ℕ). get_or a (32 + m) 0 * (odd_of (row_at a j m) - 2 * h)) (λ m l. weighed (get_or a (32 + m) 0) _ _ _ (square_falls (row_at a j m) h))

  -- with the axis among the coordinates that fall
  falls_own : (i j h : ℕ) → j < size_of a → j ≡ axis_no (size_of a) i
      → sum_to (size_of a) (λ (m : ℕ). get_or a (32 + m) 0 * (odd_of (from_at a i m) - 2 * h))
      ≡ sum_to (size_of a) (λ (m : ℕ). get_or a (32 + m) 0 * (odd_of (row_at a j m) - 2 * h)) + get_or a (32 + j) 0 * (odd_of (own_from a i j) - 2 * h)
  falls_own i j h l e =
      let s = sum_swap (size_of a) j (λ (m : ℕ). get_or a (32 + m) 0 * (odd_of (from_at a i m) - 2 * h)) (λ (m : ℕ). get_or a (32 + m) 0 * (odd_of (row_at a j m) - 2 * h)) l
      (λ m u n. ap (λ (x : ℕ). get_or a (32 + m) 0 * (odd_of x - 2 * h)) (from_side a i j m e n)) in
      let z : odd_of (row_at a j j) - 2 * h ≡ 0 = ap (λ (x : ℕ). odd_of x - 2 * h) (row_on a j) ∙ omega arith in
      let w = ap (λ (x : ℕ). get_or a (32 + j) 0 * x) z in
      let o = ap (λ (x : ℕ). get_or a (32 + j) 0 * (odd_of x - 2 * h)) (from_own a i j e) in
      omega (arith, s, w, o)

  pub slope : (i j h : ℕ) → i < size_of a + size_of a → j ≡ axis_no (size_of a) i → suc h ≤ 1000
      → slice_at (asked_of a) i h + get_or a (32 + j) 0 * ((2 * h + 2001) - end_at a i)
      ≡ slice_at (asked_of a) i (suc h) + sum_to (size_of a) (λ (m : ℕ). get_or a (32 + m) 0 * (odd_of (from_at a i m) - 2 * h))
  slope i j h l e k =
      let u : j < size_of a = omega (arith, e, axis_in (size_of a) i l) in
      let x = ap (λ (v : ℕ). get_or a (32 + j) 0 * v) (axis_turn i j h u e k) in
      omega (arith, slice_asked a p.packed i j h l e, slice_asked a p.packed i j (suc h) l e, sides_turn j h, falls_own i j h u e, x)
