-- The least height at which a convex function is least: found by bisection, kept by clamping; and its value.
use Rattle.std.proofs.Common.{◌≡◌, refl, ap, ℕ, zero, suc, min, max, pred, ◌+◌, ◌-◌, ◌≤◌, ◌<◌, arith, le_trans, le_of_eq, le_of_lt, le_antisymm, add-one}
use Rattle.std.proofs.Math.Decide.{dec_lt, dec_le}
use Rattle.geometry.proofs.ConvexLaws.{Convex, rises, falls}
use Rattle.geometry.specs.Slices.{LeastAt, least_from}

-- bisection of lo .. hi: the least height is in a .. b
pub record Bisect (f : ℕ → ℕ) (lo hi a b : ℕ) : Type 0 where
  pub low : lo ≤ a
  pub mid : a ≤ b
  pub high : b ≤ hi
  pub left : (h : ℕ) → lo ≤ h → h < a → f a < f h
  pub right : (h : ℕ) → b ≤ h → h ≤ hi → f b ≤ f h

module _ (f : ℕ → ℕ) (conv : Convex f) (lo hi : ℕ) where
  pub bisect_start : lo ≤ hi → Bisect f lo hi lo hi
  bisect_start l =
      record {
        low = omega arith;
        mid = l;
        high = omega arith;
        left = λ h x y. absurd (omega arith);
        right = λ h x y. le_of_eq (ap f (let e : hi ≡ h = omega arith in e));
      }

  pub bisect_low : (a b m : ℕ) → Bisect f lo hi a b → a ≤ m → m < b → f m ≤ f (m + 1) → Bisect f lo hi a m
  bisect_low a b m s x y t =
      record { low = s.low; mid = x; high = omega (arith, s.high); left = s.left; right = λ h u v. rises f conv m h u (rw add-one at t) }

  pub bisect_high : (a b m : ℕ) → Bisect f lo hi a b → a ≤ m → m < b → f (m + 1) < f m → Bisect f lo hi (m + 1) b
  bisect_high a b m s x y t =
      record {
        low = omega (arith, s.low);
        mid = omega arith;
        high = s.high;
        left = λ h u v. rw add-one (falls f conv m h (omega arith) (rw add-one at t));
        right = s.right;
      }

  pub bisect_end : (a b : ℕ) → Bisect f lo hi a b → b ≤ a → LeastAt f lo hi a
  bisect_end a b s l = record { low = s.low; high = omega (arith, s.mid, s.high); least = λ h u v. by h u v (dec_lt h a); first = s.left }
    where
      by : (h : ℕ) → lo ≤ h → h ≤ hi → Dec (h < a) → f a ≤ f h
      by h u v (yes w) = le_of_lt (s.left h u w)
      by h u v (no w) = let e : a ≡ b = omega (arith, s.mid) in le_trans (le_of_eq (ap f e)) (s.right h (omega arith) v)

-- clamping: of the least height over lo .. hi to a part of them
module _ (f : ℕ → ℕ) (conv : Convex f) where
  later : (k a : ℕ) → f a ≤ f (suc a) → f (a + k) ≤ f (suc (a + k))
  later zero a r = let e : a + 0 ≡ a = omega arith in rw e r
  later (suc k) a r = let e : a + suc k ≡ suc (a + k) = omega arith in rw e (omega (arith, conv (a + k), later k a r))

  -- above the least height the function does not fall
  over : (lo hi r a h : ℕ) → LeastAt f lo hi r → r < a → a ≤ h → h ≤ hi → f a ≤ f h
  over lo hi r a h m l k t =
      let up : f r ≤ f (suc r) = m.least (suc r) (omega (arith, m.low)) (omega arith) in
      let e : r + (a - r) ≡ a = omega arith in
      rises f conv a h k (rw e at (later (a - r) r up))

  -- below it the function falls
  under : (lo hi r a h : ℕ) → LeastAt f lo hi r → lo ≤ h → h < a → a < r → f a < f h
  under lo hi r a h m l k t =
      let e : suc (pred a) ≡ a = omega arith in
      rw e at (falls f conv (pred a) h (omega arith) (down e (dec_lt (f (suc (pred a))) (f (pred a)))))
    where
      down : suc (pred a) ≡ a → Dec (f (suc (pred a)) < f (pred a)) → f (suc (pred a)) < f (pred a)
      down e (yes w) = w
      down e (no w) =
          let g = rises f conv (pred a) r (omega arith) (omega arith) in
          absurd (omega (arith, m.first (pred a) (omega arith) (omega arith)))

  pub clamp_least : (lo hi a b r : ℕ) → LeastAt f lo hi r → lo ≤ a → a ≤ b → b ≤ hi → LeastAt f a b (max a (min r b))
  clamp_least lo hi a b r m l k t = by (dec_lt r a) (dec_lt b r)
    where
      by : Dec (r < a) → Dec (b < r) → LeastAt f a b (max a (min r b))
      by (yes u) v =
          let e : max a (min r b) ≡ a = omega arith in
          rw e (record { low = omega arith; high = k; least = λ h x y. over lo hi r a h m u x (omega arith); first = λ h x y. absurd (omega arith) })
      by (no u) (yes v) =
          let e : max a (min r b) ≡ b = omega arith in
          rw e (record { low = k; high = omega arith; least = λ h x y. at_most h x y (dec_lt h b); first = λ h x y. under lo hi r b h m (omega arith) y v })
        where
          at_most : (h : ℕ) → a ≤ h → h ≤ b → Dec (h < b) → f b ≤ f h
          at_most h x y (yes w) = le_of_lt (under lo hi r b h m (omega arith) w v)
          at_most h x y (no w) = le_of_eq (ap f (let e : b ≡ h = omega arith in e))
      by (no u) (no v) =
          let e : max a (min r b) ≡ r = omega arith in
          rw e (record { low = omega arith; high = omega arith; least = λ h x y. m.least h (omega arith) (omega arith); first = λ h x y. m.first h (omega arith) y })

-- the least value over n + 1 heights
pub from_below : (f : ℕ → ℕ) (lo n h : ℕ) → lo ≤ h → h ≤ lo + n → least_from f lo n ≤ f h
unfolding least_from
from_below f lo zero h u v = le_of_eq (ap f (let e : lo ≡ h = omega arith in e))
from_below f lo (suc n) h u v = by (from_below f (suc lo) n h) (dec_le (suc lo) h)
  where
    by : (suc lo ≤ h → h ≤ suc lo + n → least_from f (suc lo) n ≤ f h) → Dec (suc lo ≤ h) → min (f lo) (least_from f (suc lo) n) ≤ f h
    by ih (yes t) = omega (arith, ih t (omega arith))
    by ih (no t) = let e = ap f (let e : lo ≡ h = omega arith in e) in omega arith

from_above : (f : ℕ → ℕ) (lo n B : ℕ) → ((h : ℕ) → lo ≤ h → h ≤ lo + n → B ≤ f h) → B ≤ least_from f lo n
unfolding least_from
from_above f lo zero B g = g lo (omega arith) (omega arith)
from_above f lo (suc n) B g = omega (arith, g lo (omega arith) (omega arith), from_above f (suc lo) n B (λ h u v. g h (omega arith) (omega arith)))

pub least_value : (f : ℕ → ℕ) (lo hi r : ℕ) → LeastAt f lo hi r → least_from f lo (hi - lo) ≡ f r
least_value f lo hi r m =
    le_antisymm
    (from_below f lo (hi - lo) r m.low (omega (arith, m.low, m.high)))
    (from_above f lo (hi - lo) (f r) (λ h u v. m.least h u (omega (arith, m.low, m.high))))

-- some height has the least value
pub least_height : (f : ℕ → ℕ) (lo hi : ℕ) → lo ≤ hi → (r : ℕ) × (lo ≤ r) × (r ≤ hi) × (least_from f lo (hi - lo) ≡ f r)
least_height f lo hi l = from (hi - lo) lo (omega arith)
  where
    from : (n a : ℕ) → a + n ≡ hi → (r : ℕ) × (a ≤ r) × (r ≤ hi) × (least_from f a n ≡ f r)
    from zero a e = (a, omega arith, omega arith, unfold least_from in refl)
    from (suc n) a e = go (from n (suc a) (omega arith))
      where
        go : (r : ℕ) × (suc a ≤ r) × (r ≤ hi) × (least_from f (suc a) n ≡ f r) → (r : ℕ) × (a ≤ r) × (r ≤ hi) × (least_from f a (suc n) ≡ f r)
        go w = by (dec_le (f a) (least_from f (suc a) n))
          where
            by : Dec (f a ≤ least_from f (suc a) n) → (r : ℕ) × (a ≤ r) × (r ≤ hi) × (least_from f a (suc n) ≡ f r)
            by (yes t) = (a, omega arith, omega arith, unfold least_from in omega arith)
            by (no t) = (w.0, omega (arith, w.1), w.2, unfold least_from in omega (arith, w.3))

-- what the code computes for the heights a .. b of a pyramid, also where b is below a
pub clamp_value : (f : ℕ → ℕ) → Convex f → (hi a b r : ℕ) → LeastAt f 0 hi r → b ≤ hi → least_from f a (b - a) ≡ f (max a (min r b))
clamp_value f conv hi a b r m t = by (dec_le a b)
  where
    by : Dec (a ≤ b) → least_from f a (b - a) ≡ f (max a (min r b))
    by (yes l) = least_value f a b (max a (min r b)) (clamp_least f conv 0 hi a b r m (omega arith) l t)
    by (no l) =
        let e : max a (min r b) ≡ a = omega arith in
        let z : b - a ≡ 0 = omega arith in
        rw (e, z) (unfold least_from in refl)
