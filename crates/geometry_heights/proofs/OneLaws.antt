-- One coordinate: the nearest height of a pyramid is that at which its axis first has the range.
use Rattle.std.proofs.Common.{◌≡◌, refl, sym, ap, ◌∙◌, Bool, true, false, List, ℕ, zero, suc, ◌+◌, ◌*◌, ◌-◌, ◌≤◌, ◌<◌, arith, le_of_eq, eqb-true, lt-ltb, le-ltb, ltb, eqb, length, get_or, set, length-set, get_or-set_same, get_or-set_other}
use native.Mathlib.Decide.{dec_lt}
use borrow.Author.Tests.{eqb-false}
use Rattle.lists.specs.Basics.{if}
use Rattle.geometry.proofs.ConvexLaws.{Convex, rises, falls, at_convex}
use Rattle.geometry.proofs.HeightLaws.{bisect_end}
use Rattle.geometry_slices.proofs.PackedLaws.{asked_length}
use Rattle.geometry_lanes.proofs.SlopeLaws.{low_le, ends_ordered, slope, from_own}
use Rattle.geometry_slices.proofs.TableLaws.{axis_in}
use Rattle.geometry.specs.Slices.{axis_no, slice_at, LeastAt, Nearest}
use Rattle.geometry_slices.specs.Questions.{size_of, asked_of, sum_to}
use Rattle.geometry_lanes.specs.Lanes.{own_from, from_at, odd_of, end_at, Bounded}

-- a height below which a convex function falls, and from which it does not
module _ (f : ℕ → ℕ) (conv : Convex f) where
  turning : (r : ℕ) → r ≤ 1000 → (r < 1000 → f r ≤ f (suc r)) → ((q : ℕ) → suc q ≡ r → f (suc q) < f q) → LeastAt f 0 1000 r
  turning r l up down =
      bisect_end f conv 0 1000 r r
      (record { low = omega arith; mid = omega arith; high = l; left = λ h u v. before h v; right = λ h u v. after h u v (dec_lt r 1000) })
      (omega arith)
    where
      before : (h : ℕ) → h < r → f r < f h
      before h v = let e : suc (r - 1) ≡ r = omega arith in rw e at (falls f conv (r - 1) h (omega arith) (down (r - 1) e))

      after : (h : ℕ) → r ≤ h → h ≤ 1000 → Dec (r < 1000) → f r ≤ f h
      after h u v (yes t) = rises f conv r h u (up t)
      after h u v (no t) = le_of_eq (ap f (let e : r ≡ h = omega arith in e))

sum_one : (f : ℕ → ℕ) → sum_to 1 f ≡ f 0
unfolding sum_to
sum_one f = omega arith

far_end : (a : List ℕ) → Bounded a → (i q : ℕ) → 0 < size_of a → axis_no (size_of a) i ≡ 0 → own_from a i 0 ≡ suc q → (2 * q + 2001) - end_at a i ≡ 0
unfolding own_from end_at
far_end a p i q l e = rw e (by (ltb i (size_of a)) (ends_ordered a p 0 l) (low_le a p 0 l))
  where
    by : (b : Bool) → get_or a 0 0 ≤ get_or a 16 0 → get_or a 0 0 ≤ 2000 → if b (1000 - get_or a 16 0) (get_or a 0 0 - 1000) ≡ suc q
        → (2 * q + 2001) - if b (4000 - 2 * get_or a 0 0) (2 * get_or a 16 0) ≡ 0
    by true o t x = omega arith
    by false o t x = omega arith

own_le : (a : List ℕ) → Bounded a → (i : ℕ) → 0 < size_of a → own_from a i 0 ≤ 1000
unfolding own_from
own_le a p i l = by (ltb i (size_of a)) (low_le a p 0 l)
  where
    by : (b : Bool) → get_or a 0 0 ≤ 2000 → if b (1000 - get_or a 16 0) (get_or a 0 0 - 1000) ≤ 1000
    by true o = omega arith
    by false o = omega arith

module _ (a : List ℕ) (p : Bounded a) (one : size_of a ≡ 1) (i : ℕ) (l : i < size_of a + size_of a) where
  axis : axis_no (size_of a) i ≡ 0
  axis = omega (arith, axis_in (size_of a) i l)

  slope_one : (h : ℕ) → suc h ≤ 1000
      → slice_at (asked_of a) i h + get_or a 32 0 * ((2 * h + 2001) - end_at a i) ≡ slice_at (asked_of a) i (suc h) + get_or a 32 0 * (odd_of (own_from a i 0) - 2 * h)
  slope_one h k =
      let s = slope a p i 0 h l (sym axis) k in
      let t = ap (λ (n : ℕ). sum_to n (λ (m : ℕ). get_or a (32 + m) 0 * (odd_of (from_at a i m) - 2 * h))) one in
      let u = sum_one (λ (m : ℕ). get_or a (32 + m) 0 * (odd_of (from_at a i m) - 2 * h)) in
      let o = ap (λ (x : ℕ). get_or a 32 0 * (odd_of x - 2 * h)) (from_own a i 0 (sym axis)) in
      omega (arith, s, t, u, o)

  pub one_height : (r : ℕ) → r ≡ if (eqb (get_or a 32 0) 0) 0 (own_from a i 0) → LeastAt (slice_at (asked_of a) i) 0 1000 r
  one_height r e = by (eqb (get_or a 32 0) 0) refl e
    where
      f : ℕ → ℕ
      f = slice_at (asked_of a) i

      none : (x : ℕ) → get_or a 32 0 ≡ 0 → get_or a 32 0 * x ≡ 0
      none x z = ap (λ (w : ℕ). w * x) z ∙ omega arith

      by : (b : Bool) → eqb (get_or a 32 0) 0 ≡ b → r ≡ if b 0 (own_from a i 0) → LeastAt (slice_at (asked_of a) i) 0 1000 r
      by true t q =
          let z = eqb-true (get_or a 32 0) 0 t in
          turning (slice_at (asked_of a) i) (at_convex (asked_of a) i) r (omega arith)
          (λ k. omega (arith, slope_one r k, none ((2 * r + 2001) - end_at a i) z, none (odd_of (own_from a i 0) - 2 * r) z))
          (λ n k. absurd (omega arith))
      by false t q =
          let w : 0 < get_or a 32 0 = omega (arith, eqb-false (get_or a 32 0) 0 t) in
          turning (slice_at (asked_of a) i) (at_convex (asked_of a) i) r (omega (arith, q, own_le a p i (omega arith)))
          (λ k. let z : odd_of (own_from a i 0) - 2 * r ≡ 0 = omega arith in omega (arith, slope_one r k, ap (λ (x : ℕ). get_or a 32 0 * x) z))
          (λ n k.
          let x : own_from a i 0 ≡ suc n = sym q ∙ sym k in
          let y : odd_of (own_from a i 0) - 2 * n ≡ 1 = ap (λ (v : ℕ). odd_of v - 2 * n) x ∙ omega arith in
          let u = far_end a p i n (omega arith) axis x in
          omega (arith, w, slope_one n (omega (arith, q, k, own_le a p i (omega arith))), ap (λ (v : ℕ). get_or a 32 0 * v) y, ap (λ (v : ℕ). get_or a 32 0 * v) u))

-- the two pyramids of one axis
own_below : (a : List ℕ) → size_of a ≡ 1 → own_from a 0 0 ≡ 1000 - get_or a 16 0
unfolding own_from
own_below a e = rw (lt-ltb 0 (size_of a) (omega arith))

own_above : (a : List ℕ) → size_of a ≡ 1 → own_from a 1 0 ≡ get_or a 0 0 - 1000
unfolding own_from
own_above a e = rw (le-ltb 1 (size_of a) (omega arith))

pub one_nearest : (a xs : List ℕ) (u v : ℕ) → Bounded a → size_of a ≡ 1 → length xs ≡ 32 → u ≡ if (eqb (get_or a 32 0) 0) 0 (1000 - get_or a 16 0)
    → v ≡ if (eqb (get_or a 32 0) 0) 0 (get_or a 0 0 - 1000)
    → Nearest (asked_of a) (set (set xs 0 u) 1 v)
one_nearest a xs u v p one n eu ev = λ i l. by i (omega (arith, asked_length a p.packed)) l
  where
    low : get_or (set (set xs 0 u) 1 v) 0 0 ≡ if (eqb (get_or a 32 0) 0) 0 (own_from a 0 0)
    low = get_or-set_other (set xs 0 u) 1 0 v 0 (omega arith) ∙ (get_or-set_same xs 0 u 0 (omega arith) ∙ (eu ∙ ap (λ (x : ℕ). if (eqb (get_or a 32 0) 0) 0 x) (sym (own_below a one))))

    high : get_or (set (set xs 0 u) 1 v) 1 0 ≡ if (eqb (get_or a 32 0) 0) 0 (own_from a 1 0)
    high = get_or-set_same (set xs 0 u) 1 v 0 (omega (arith, length-set xs 0 u)) ∙ (ev ∙ ap (λ (x : ℕ). if (eqb (get_or a 32 0) 0) 0 x) (sym (own_above a one)))

    by : (i : ℕ) → i < size_of a + size_of a → i < length (asked_of a) + length (asked_of a) → LeastAt (slice_at (asked_of a) i) 0 1000 (get_or (set (set xs 0 u) 1 v) i 0)
    by zero l k = one_height a p one 0 l _ low
    by (suc zero) l k = one_height a p one 1 l _ high
    by (suc (suc i)) l k = absurd (omega arith)
