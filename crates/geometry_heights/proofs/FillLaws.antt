-- The tables of the lanes, filled row by row.
use Rattle.std.proofs.Common.{◌≡◌, refl, sym, ap, ◌∙◌, Bool, true, false, List, ◌≢◌, ℕ, ◌+◌, ◌*◌, ◌-◌, ◌≤◌, ◌<◌, arith, eq-eqb, ne_eqb, lt-ltb, le-ltb, ltb-false, ltb, length, get_or, set, length-set, get_or-set_same, get_or-set_other, ◌++◌, take, drop, replicate, length-append, length-take, length-drop, length-take-le, get_or-take, get_or-append-add}
use Rattle.std.proofs.Math.ListN.{get_or-append}
use Rattle.std.proofs.lemmas.List.{length-replicate, get_or-replicate}
use borrow.Rule.Slice.PartMut.{put_mid, Post-is}
use native.Mathlib.Decide.{ℕ_discrete, dec_lt}
use Rattle.lists.specs.Basics.{if, indicator}
use Rattle.geometry_slices.proofs.PackedLaws.{asked_few, axis_low, axis_high}
use Rattle.geometry_slices.proofs.TableLaws.{reach_in}
use Rattle.geometry_lanes.proofs.SlopeLaws.{low_le}
use Rattle.geometry.specs.Slices.{axis_no}
use Rattle.geometry_slices.specs.Questions.{size_of, row_at, Filled}
use Rattle.geometry_lanes.specs.Lanes.{own_from, from_at, odd_of, Bounded, Axes, Falls, Weights, Sides, side_in, Blank}

-- the row of coordinate m
pub falls_none : (a xs : List ℕ) → Blank 512 xs → Falls a xs 0
falls_none a xs b =
    record { long = b.long; small = λ x. omega (arith, b.zeros x); each = λ k i l h. absurd (let z : k < 0 = l in omega arith); past = λ x l. b.zeros x }

side_small : (t : Bool) (r : ℕ) → r ≤ 1001 → if t (odd_of r) (odd_of (r - 1)) ≤ 2001
side_small true r l = omega arith
side_small false r l = omega arith

-- off its own axis, and on it
from_off : (a : List ℕ) (i m : ℕ) → m ≢ axis_no (size_of a) i → from_at a i m ≡ get_or a (48 + m) 0 - indicator (ltb (axis_no (size_of a) i) m)
unfolding from_at row_at
from_off a i m n = rw (ne_eqb m (axis_no (size_of a) i) n)

odd_side : (r j m : ℕ) → m ≢ j → if (ltb m j) (odd_of r) (odd_of (r - 1)) ≡ odd_of (r - indicator (ltb j m))
odd_side r j m n = by (dec_lt m j)
  where
    by : Dec (m < j) → if (ltb m j) (odd_of r) (odd_of (r - 1)) ≡ odd_of (r - indicator (ltb j m))
    by (yes l) = rw (lt-ltb m j l, le-ltb j m (omega arith)) (omega arith)
    by (no l) = rw (le-ltb m j (omega arith), lt-ltb j m (omega arith))

from_low : (a : List ℕ) (m : ℕ) → m < size_of a → from_at a m m ≡ 1000 - get_or a (16 + m) 0
unfolding from_at own_from
from_low a m l = rw (← axis_low (size_of a) m l, eq-eqb m m refl, lt-ltb m (size_of a) l)

from_high : (a : List ℕ) (m : ℕ) → from_at a (m + size_of a) m ≡ get_or a m 0 - 1000
unfolding from_at own_from
from_high a m =
    let e : m + size_of a - size_of a ≡ m = omega arith in
    let x : axis_no (size_of a) (m + size_of a) ≡ m = sym (axis_high (size_of a) (m + size_of a) (omega arith)) ∙ e in
    rw (x, eq-eqb m m refl, le-ltb (m + size_of a) (size_of a) (omega arith))

axis_other : (d i m : ℕ) → i ≢ m → i ≢ m + d → i < d + d → m ≢ axis_no d i
unfolding axis_no
axis_other d i m n o l = by (ltb i d) refl
  where
    by : (b : Bool) → ltb i d ≡ b → m ≢ if b i (i - d)
    by true e = omega arith
    by false e = let k = ltb-false i d e in omega arith

pub reach_at_most : (a : List ℕ) → Bounded a → (m : ℕ) → m < size_of a → get_or a (48 + m) 0 ≤ 1001
reach_at_most a p m l = omega (arith, reach_in a p.packed m l, low_le a p m l)

module _ (a axes xs ys : List ℕ) (m n u v : ℕ) (p : Bounded a) (few : n ≤ 32) (cover : size_of a + size_of a ≤ n) (l : m < size_of a) (ax : Axes (size_of a) n axes) (f : Falls a xs m)
    (g : Filled (side_in axes m (get_or a (48 + m) 0)) (32 * m) n xs ys) (eu : u ≡ odd_of (1000 - get_or a (16 + m) 0)) (ev : v ≡ odd_of (get_or a m 0 - 1000)) where
  size_few : size_of a ≤ 16
  size_few = asked_few a p.packed

  ys_long : length ys ≡ 512
  ys_long = g.long ∙ f.long

  ys_small : (x : ℕ) → get_or ys x 0 ≤ 2001
  ys_small x = by (dec_lt x (32 * m)) (dec_lt x (32 * m + n))
    where
      by : Dec (x < 32 * m) → Dec (x < 32 * m + n) → get_or ys x 0 ≤ 2001
      by (yes s) t = omega (arith, g.before x s, f.small x)
      by (no s) (yes t) = omega (arith, g.inside x (omega arith) t, side_small (ltb m (get_or axes (x - 32 * m) 0)) (get_or a (48 + m) 0) (reach_at_most a p m l))
      by (no s) (no t) = omega (arith, g.after x (omega arith), f.small x)

  other : (x : ℕ) → x ≢ 32 * m + m → x ≢ 32 * m + m + size_of a → get_or (set (set ys (32 * m + m) u) (32 * m + m + size_of a) v) x 0 ≡ get_or ys x 0
  other x s t = get_or-set_other (set ys (32 * m + m) u) (32 * m + m + size_of a) x v 0 t ∙ get_or-set_other ys (32 * m + m) x u 0 s

  at_low : get_or (set (set ys (32 * m + m) u) (32 * m + m + size_of a) v) (32 * m + m) 0 ≡ u
  at_low =
      get_or-set_other (set ys (32 * m + m) u) (32 * m + m + size_of a) (32 * m + m) v 0 (omega arith)
      ∙ get_or-set_same ys (32 * m + m) u 0 (omega (arith, ys_long, size_few))

  at_high : get_or (set (set ys (32 * m + m) u) (32 * m + m + size_of a) v) (32 * m + m + size_of a) 0 ≡ v
  at_high = get_or-set_same (set ys (32 * m + m) u) (32 * m + m + size_of a) v 0 (omega (arith, length-set ys (32 * m + m) u, ys_long, size_few))

  zs_small : (x : ℕ) → get_or (set (set ys (32 * m + m) u) (32 * m + m + size_of a) v) x 0 ≤ 2001
  zs_small x = by (ℕ_discrete x (32 * m + m)) (ℕ_discrete x (32 * m + m + size_of a))
    where
      by : Dec (x ≡ 32 * m + m) → Dec (x ≡ 32 * m + m + size_of a) → get_or (set (set ys (32 * m + m) u) (32 * m + m + size_of a) v) x 0 ≤ 2001
      by (yes s) t = rw s (omega (arith, at_low, eu))
      by (no s) (yes t) = rw t (omega (arith, at_high, ev, low_le a p m l))
      by (no s) (no t) = omega (arith, other x s t, ys_small x)

  row_each : (i : ℕ) → i < size_of a + size_of a → get_or (set (set ys (32 * m + m) u) (32 * m + m + size_of a) v) (i + 32 * m) 0 ≡ odd_of (from_at a i m)
  row_each i h = by (ℕ_discrete i m) (ℕ_discrete i (m + size_of a))
    where
      by : Dec (i ≡ m) → Dec (i ≡ m + size_of a) → get_or (set (set ys (32 * m + m) u) (32 * m + m + size_of a) v) (i + 32 * m) 0 ≡ odd_of (from_at a i m)
      by (yes s) t = let e : m + 32 * m ≡ 32 * m + m = omega arith in rw (s, e) (at_low ∙ (eu ∙ ap odd_of (sym (from_low a m l))))
      by (no s) (yes t) = let e : m + size_of a + 32 * m ≡ 32 * m + m + size_of a = omega arith in rw (t, e) (at_high ∙ (ev ∙ ap odd_of (sym (from_high a m))))
      by (no s) (no t) =
          let o = axis_other (size_of a) i m s t h in
          let z : i + 32 * m - 32 * m ≡ i = omega arith in
          let q = rw (z, ax.each i (omega arith)) at (g.inside (i + 32 * m) (omega arith) (omega arith)) in
          other (i + 32 * m) (omega arith) (omega arith) ∙ (q ∙ (odd_side (get_or a (48 + m) 0) (axis_no (size_of a) i) m o ∙ ap odd_of (sym (from_off a i m o))))

  pub falls_more : Falls a (set (set ys (32 * m + m) u) (32 * m + m + size_of a) v) (m + 1)
  falls_more =
      record {
        long = length-set (set ys (32 * m + m) u) (32 * m + m + size_of a) v ∙ (length-set ys (32 * m + m) u ∙ ys_long);
        small = zs_small;
        each = λ k i s h. by k i s h (ℕ_discrete k m);
        past = λ x s. other x (omega (arith, size_few)) (omega (arith, size_few)) ∙ (g.after x (omega arith) ∙ f.past x (omega arith));
      }
    where
      by : (k i : ℕ) → k < m + 1 → i < size_of a + size_of a → Dec (k ≡ m) → get_or (set (set ys (32 * m + m) u) (32 * m + m + size_of a) v) (i + 32 * k) 0 ≡ odd_of (from_at a i k)
      by k i s h (yes e) = rw e (row_each i h)
      by k i s h (no e) =
          let o : i + 32 * k < 32 * m = omega arith in
          other (i + 32 * k) (omega arith) (omega arith) ∙ (g.before (i + 32 * k) o ∙ f.each k i (omega arith) h)

-- n places of the row of coordinate m, filled with its weight
module _ (a xs : List ℕ) (n m : ℕ) (few : n ≤ 32) (l : m < 16) (s : Weights a xs n m) where
  abbrev w : ℕ
  w = get_or a (32 + m) 0

  filled_row : List ℕ
  filled_row = take (32 * m) xs ++ (replicate n w ++ drop (32 * m + n) xs)

  before : length (take (32 * m) xs) ≡ 32 * m
  before = length-take-le (32 * m) xs (omega (arith, s.long))

  lane_each : (k i : ℕ) → k < m + 1 → i < n → Dec (k ≡ m) → get_or filled_row (i + 32 * k) 0 ≡ get_or a (32 + k) 0
  unfolding filled_row
  lane_each k i h o (yes e) =
      let j : i + 32 * m ≡ length (take (32 * m) xs) + i = omega (arith, before) in
      let r = replicate n w ++ drop (32 * m + n) xs in
      rw e
      (ap (λ (x : ℕ). get_or (take (32 * m) xs ++ r) x 0) j ∙ get_or-append-add (take (32 * m) xs) r i 0
      ∙ get_or-append (replicate n w) (drop (32 * m + n) xs) 0 i (omega (arith, length-replicate {A = ℕ} n w)) ∙ get_or-replicate n i w 0 o)
  lane_each k i h o (no e) =
      get_or-append (take (32 * m) xs) (replicate n w ++ drop (32 * m + n) xs) 0 (i + 32 * k) (omega (arith, before))
      ∙ get_or-take (32 * m) xs (i + 32 * k) 0 (omega arith) ∙ s.each k i (omega arith) o

  pub weights_more : (ys : List ℕ) → ys ≡ replicate (length (take (32 * m + n - 32 * m) (drop (32 * m) xs))) w → Weights a (put_mid (32 * m) (32 * m + n - 32 * m) xs ys) n (m + 1)
  unfolding filled_row
  weights_more ys e =
      let part : length (take (32 * m + n - 32 * m) (drop (32 * m) xs)) ≡ n = simp (length-take, length-drop) (omega (arith, s.long)) in
      let filled : ys ≡ replicate n w = e ∙ ap (λ (k : ℕ). replicate k w) part in
      let all : length filled_row ≡ 512 = simp (length-append, length-replicate, length-drop) (omega (arith, before, s.long)) in
      rw (Post-is (32 * m) (32 * m + n) xs (omega arith), filled) (record { long = all; each = λ k i h o. lane_each k i h o (ℕ_discrete k m) })

-- two sides
pub sides_more : (p q : ℕ → ℕ) (d m : ℕ) (xs : List ℕ) (u v : ℕ) → m < d → d ≤ 16 → u ≡ p m → v ≡ q m → Sides p q d m xs → Sides p q d (m + 1) (set (set xs m u) (m + d) v)
sides_more p q d m xs u v l few eu ev s =
    record {
      long = length-set (set xs m u) (m + d) v ∙ (length-set xs m u ∙ s.long);
      below = λ k h. low k h (ℕ_discrete k m);
      above = λ k h. high k h (ℕ_discrete k m);
    }
  where
    low : (k : ℕ) → k < m + 1 → Dec (k ≡ m) → get_or (set (set xs m u) (m + d) v) k 0 ≡ p k
    low k h (yes e) = rw e (get_or-set_other (set xs m u) (m + d) m v 0 (omega arith) ∙ (get_or-set_same xs m u 0 (omega (arith, s.long)) ∙ eu))
    low k h (no e) = get_or-set_other (set xs m u) (m + d) k v 0 (omega arith) ∙ (get_or-set_other xs m k u 0 e ∙ s.below k (omega arith))

    high : (k : ℕ) → k < m + 1 → Dec (k ≡ m) → get_or (set (set xs m u) (m + d) v) (k + d) 0 ≡ q k
    high k h (yes e) = rw e (get_or-set_same (set xs m u) (m + d) v 0 (omega (arith, length-set xs m u, s.long)) ∙ ev)
    high k h (no e) = get_or-set_other (set xs m u) (m + d) (k + d) v 0 (omega arith) ∙ (get_or-set_other xs m (k + d) u 0 (omega arith) ∙ s.above k (omega arith))
