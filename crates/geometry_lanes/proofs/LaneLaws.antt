-- The lanes of the bisection: their tables, filled row by row, and that a turn keeps each lane's nearest height in its interval.
use Rattle.std.proofs.Common.{◌≡◌, refl, ap, ap₂, ◌∙◌, Bool, true, false, List, ℕ, suc, ◌+◌, ◌*◌, ◌-◌, ◌/◌, ◌≤◌, ◌<◌, arith, add-one, ltb-true, ltb-false, leb-true, leb-false, leb, ltb, get_or}
use native.Mathlib.Decide.{ℕ_discrete}
use Rattle.lists.specs.Basics.{if}
use Rattle.geometry.proofs.ConvexLaws.{Convex, rises, at_convex}
use Rattle.geometry.proofs.HeightLaws.{Bisect, bisect_low, bisect_high}
use Rattle.geometry_slices.proofs.PackedLaws.{axis_low, axis_high}
use Rattle.geometry_slices.proofs.RowLaws.{sum_ext, sum_past}
use Rattle.geometry_lanes.proofs.SlopeLaws.{slope}
use Rattle.geometry.specs.Slices.{axis_no, slice_at}
use Rattle.geometry_slices.specs.Questions.{size_of, asked_of, sum_to}
use Rattle.geometry_lanes.specs.Lanes.{from_at, odd_of, end_at, Sides, end_below, end_above, weight_of, pull_at, halved_at, Lanes}

-- one turn of a lane: the interval b .. b + s, looked at before its middle
module _ (f : ℕ → ℕ) (conv : Convex f) where
  bisect_wide : (lo hi a m : ℕ) → Bisect f lo hi a m → m < hi → f m ≤ f (m + 1) → Bisect f lo hi a (m + 1)
  bisect_wide lo hi a m s l t =
      record {
        low = s.low;
        mid = omega (arith, s.mid);
        high = omega arith;
        left = s.left;
        right = λ h u v. rw add-one (rises f conv (suc m) h (omega arith) (omega (arith, conv m, rw add-one at t)));
      }

  lane_stays : (b s m : ℕ) → 0 < s → m + 1 ≡ b + (s - s / 2) → Bisect f 0 1000 b (b + s) → f m ≤ f (m + 1) → Bisect f 0 1000 b (b + s / 2)
  lane_stays b s m z e i t = by (ℕ_discrete m (b + s / 2)) (bisect_low f conv 0 1000 b (b + s) m i (omega arith) (omega arith) t)
    where
      by : Dec (m ≡ b + s / 2) → Bisect f 0 1000 b m → Bisect f 0 1000 b (b + s / 2)
      by (yes k) j = rw k at j
      by (no k) j = let q : m + 1 ≡ b + s / 2 = omega arith in rw q at (bisect_wide 0 1000 b m j (omega (arith, i.high)) t)

  lane_moves : (b s m : ℕ) → 0 < s → m + 1 ≡ b + (s - s / 2) → Bisect f 0 1000 b (b + s) → f (m + 1) < f m → Bisect f 0 1000 (b + (s - s / 2)) (b + (s - s / 2) + s / 2)
  lane_moves b s m z e i t =
      let k : b + (s - s / 2) + s / 2 ≡ b + s = omega arith in
      rw (k, ← e) (bisect_high f conv 0 1000 b (b + s) m i (omega arith) (omega arith) t)

  lane_turn : (b s m S R : ℕ) (test : Bool) → 0 < s → m + 1 ≡ b + (s - s / 2) → Bisect f 0 1000 b (b + s) → f m + R ≡ f (m + 1) + S → leb S R ≡ test
      → Bisect f 0 1000 (if test b (b + (s - s / 2))) (if test b (b + (s - s / 2)) + s / 2)
  lane_turn b s m S R true z e i g t = lane_stays b s m z e i (omega (arith, g, leb-true S R t))
  lane_turn b s m S R false z e i g t = lane_moves b s m z e i (omega (arith, g, leb-false S R t))

-- the sides of a pyramid
side_at : (p q r : ℕ → ℕ) (d i : ℕ) (xs : List ℕ) → Sides p q d d xs → i < d + d → get_or xs i 0 ≡ if (ltb i d) (p (axis_no d i)) (q (axis_no d i))
side_at p q r d i xs s l = by (ltb i d) refl
  where
    by : (b : Bool) → ltb i d ≡ b → get_or xs i 0 ≡ if b (p (axis_no d i)) (q (axis_no d i))
    by true e = let k = ltb-true i d e in rw (← axis_low d i k) (s.below i k)
    by false e =
        let k = ltb-false i d e in
        let z : i - d + d ≡ i = omega arith in
        rw (← axis_high d i k) (rw z at (s.above (i - d) (omega arith)))

both : (b : Bool) (x : ℕ) → if b x x ≡ x
both true x = refl
both false x = refl

module _ (a falls weights owns ends : List ℕ) (n : ℕ) (v : Lanes a falls weights owns ends n) where
  own_is : (i : ℕ) → i < size_of a + size_of a → get_or owns i 0 ≡ get_or a (32 + axis_no (size_of a) i) 0
  own_is i l = side_at (weight_of a) (weight_of a) (weight_of a) (size_of a) i owns v.owning l ∙ both (ltb i (size_of a)) _

  end_is : (i : ℕ) → i < size_of a + size_of a → get_or ends i 0 ≡ end_at a i
  unfolding end_at
  end_is i l = side_at (end_below a) (end_above a) (end_below a) (size_of a) i ends v.ending l

  pulls_are : (k i t : ℕ) → size_of a ≤ k → i < size_of a + size_of a
      → sum_to k (pull_at falls weights i t) ≡ sum_to (size_of a) (λ (m : ℕ). get_or a (32 + m) 0 * (odd_of (from_at a i m) - t))
  pulls_are k i t o l =
      let e : size_of a + (k - size_of a) ≡ k = omega arith in
      let z = sum_past (k - size_of a) (size_of a) (pull_at falls weights i t)
      (λ m u w. nothing (get_or weights (i + 32 * m) 0) (get_or falls (i + 32 * m) 0) t (v.falling.past (i + 32 * m) (omega arith))) in
      rw e at z
      ∙ sum_ext (size_of a) (pull_at falls weights i t) (λ (m : ℕ). get_or a (32 + m) 0 * (odd_of (from_at a i m) - t))
      (λ m u. ap₂ (λ (x y : ℕ). x * (y - t)) (v.weighing.each m i u (omega (arith, v.cover))) (v.falling.each m i u l))
    where
      nothing : (w x t : ℕ) → x ≡ 0 → w * (x - t) ≡ 0
      nothing w x t e = let z : x - t ≡ 0 = omega arith in rw z (omega arith)

  -- the lane of pyramid i, c coordinates being summed
  pub lane_halved : (c i b s : ℕ) → size_of a ≤ c → i < size_of a + size_of a → 0 < s → Bisect (slice_at (asked_of a) i) 0 1000 b (b + s)
      → Bisect (slice_at (asked_of a) i) 0 1000 (halved_at falls weights owns ends c (s - s / 2) i b)
      (halved_at falls weights owns ends c (s - s / 2) i b + s / 2)
  lane_halved c i b s few l z k =
      let fs = asked_of a in
      let m = b + (s - s / 2) - 1 in
      let e : m + 1 ≡ b + (s - s / 2) = omega arith in
      let t : 2 * b + (2 * (s - s / 2) - 2) ≡ 2 * m = omega arith in
      let top : suc m ≤ 1000 = omega (arith, k.high) in
      let g = slope a v.asked i (axis_no (size_of a) i) m l refl top in
      let S = sum_to c (pull_at falls weights i (2 * b + (2 * (s - s / 2) - 2))) in
      let R = get_or owns i 0 * (2 * b + (2 * (s - s / 2) - 2) + 2001 - get_or ends i 0) in
      let x : S ≡ sum_to (size_of a) (λ (m' : ℕ). get_or a (32 + m') 0 * (odd_of (from_at a i m') - 2 * m)) =
      ap (λ (y : ℕ). sum_to c (pull_at falls weights i y)) t ∙ pulls_are c i (2 * m) few l in
      let y : R ≡ get_or a (32 + axis_no (size_of a) i) 0 * ((2 * m + 2001) - end_at a i) = rw (t, own_is i l, end_is i l) in
      let o : m + 1 ≡ suc m = omega arith in
      let h : slice_at fs i m + R ≡ slice_at fs i (m + 1) + S = rw o (omega (arith, g, x, y)) in
      lane_turn (slice_at fs i) (at_convex fs i) b s m S R (leb S R) z e k h refl

-- no height goes above 1,000
pub halved_room : (falls weights owns ends : List ℕ) (k i b s : ℕ) → b + s ≤ 1000 → halved_at falls weights owns ends k (s - s / 2) i b + s / 2 ≤ 1000
halved_room falls weights owns ends k i b s l =
    by (leb (sum_to k (pull_at falls weights i (2 * b + (2 * (s - s / 2) - 2)))) (get_or owns i 0 * (2 * b + (2 * (s - s / 2) - 2) + 2001 - get_or ends i 0)))
  where
    by : (t : Bool) → if t b (b + (s - s / 2)) + s / 2 ≤ 1000
    by true = omega arith
    by false = omega arith
