-- The least over a span's real pairs of the least distance to a pair's slice is the bound of the span.
use Rattle.std.proofs.Common.{◌≡◌, refl, sym, ◌∙◌, ◌⊎◌, inl, inr, ⊎_elim, ◌≢◌, Bool, true, false, List, [], ◌∷◌, ℕ, zero, suc, min, ◌+◌, ◌≤◌, ◌<◌, arith, le_trans, le_of_eq, lt-ltb, le-ltb, eq-eqb, ne_eqb, ℤ, pos, negsuc, nat_abs, length, get_or}
use Rattle.std.proofs.Math.Decide.{dec_lt, ℕ_discrete}
use Rattle.lists.specs.Basics.{if}
use Rattle.geometry.proofs.PairLaws.{InSlice, own, slice_height, slice_pyramid, slice_inside, side_of, side_range, height_range}
use Rattle.geometry.proofs.SliceLaws.{HasPoints, slice_below, near_slice, near_slice_length, near_slice_in, near_slice_dist}
use Rattle.geometry.specs.Points.{InRange, is_neg, height_of, axis_of, pyramid_of, PairLe}
use Rattle.geometry.specs.Features.{Feature, dist_to, Ordered, IsBound}
use Rattle.geometry.specs.Slices.{axis_no, sign_no, slice_at, Real, lowest_of}

-- the axis and the sign of a pyramid number made of them
number_of : (d j : ℕ) (s : Bool) → j < d → (axis_no d (if s j (j + d)) ≡ j) × (sign_no d (if s j (j + d)) ≡ s)
unfolding axis_no sign_no
number_of d j true l = (rw (lt-ltb j d l), lt-ltb j d l)
number_of d j false l = (rw (le-ltb (j + d) d (omega arith)) (omega arith), le-ltb (j + d) d (omega arith))

Back : ℕ → ℕ → Type 0
Back d i = (axis_no d i < d) × (if (sign_no d i) (axis_no d i) (axis_no d i + d) ≡ i)

number_back : (d i : ℕ) → i < d + d → Back d i
number_back d i l = by (dec_lt i d)
  where
    by : Dec (i < d) → Back d i
    by (yes p) = unfold Back axis_no sign_no in rw (lt-ltb i d p) (p, refl)
    by (no p) = unfold Back axis_no sign_no in rw (le-ltb i d (omega arith)) (omega arith, omega arith)

centre_no : (d : ℕ) → (axis_no d d ≡ 0) × (sign_no d d ≡ false)
unfolding axis_no sign_no
centre_no d = (rw (le-ltb d d (omega arith)) (omega arith), le-ltb d d (omega arith))

number_lt : (d j : ℕ) (s : Bool) → j < d → if s j (j + d) < d + d
number_lt d j true l = omega arith
number_lt d j false l = omega arith

zero_sign : (c : ℤ) → nat_abs c ≡ 0 → is_neg c ≡ false
zero_sign (pos n) e = refl
zero_sign (negsuc n) e = absurd (omega arith)

in_zero : (j : ℕ) (s : Bool) (h : ℕ) (p : List ℤ) → h ≡ 0 → InSlice j s h p → (j ≡ 0) × (s ≡ false)
in_zero j s h [] e i = absurd i
in_zero zero s h (c ∷ cs) e i = (refl, sym i.0.0 ∙ zero_sign c (i.0.1 ∙ e))
in_zero (suc j) s h (c ∷ cs) e i = absurd (omega (arith, i.0))

-- a real pair has points
has_points : (d i h : ℕ) → Real d i h → HasPoints (axis_no d i) (sign_no d i) h
has_points d i (suc h) p = tt
has_points d i zero p = rw (p.centre refl, (centre_no d).0, (centre_no d).1) tt

-- a grid point's own pair is real, and its distance is at least the slice's
module _ (fs : List Feature) (p : List ℤ) (e : length p ≡ length fs) (l : 0 < length fs) where
  mine : InSlice (axis_of p) (is_neg (get_or p (axis_of p) (pos 0))) (height_of p) p
  mine = own p (omega arith)

  number : pyramid_of p ≡ if (is_neg (get_or p (axis_of p) (pos 0))) (axis_of p) (axis_of p + length p)
  number = slice_pyramid _ _ (axis_of p) p mine

  inside : axis_of p < length p
  inside = slice_inside _ _ (axis_of p) p mine

  pub pair_below : slice_at fs (pyramid_of p) (height_of p) ≤ dist_to fs p
  unfolding slice_at
  pair_below =
      let n = number_of (length fs) (axis_of p) (is_neg (get_or p (axis_of p) (pos 0))) (omega (arith, inside)) in
      rw (number, e, n.0, n.1) (slice_below (axis_of p) (is_neg (get_or p (axis_of p) (pos 0))) (height_of p) fs p e mine)

  pub pair_real : InRange p → Real (length fs) (pyramid_of p) (height_of p)
  pair_real r = record { pyramid = rw (number, e) (number_lt (length fs) (axis_of p) (is_neg (get_or p (axis_of p) (pos 0))) (omega (arith, inside))); height = height_range p r; centre = λ z. let w = in_zero _ _ _ p z mine in number ∙ rw (w.1, w.0) (omega arith) }

-- a real pair's slice is reached by a grid point of the pair
module _ (fs : List Feature) (i h : ℕ) (r : Real (length fs) i h) where
  there : List ℤ
  there = near_slice (axis_no (length fs) i) (sign_no (length fs) i) h fs

  there_length : length there ≡ length fs
  unfolding there
  there_length = near_slice_length _ _ h fs

  there_in : InSlice (axis_no (length fs) i) (sign_no (length fs) i) h there
  unfolding there Back
  there_in = near_slice_in _ _ h fs (number_back (length fs) i r.pyramid).0 (has_points (length fs) i h r)

  there_pyramid : pyramid_of there ≡ i
  unfolding Back
  there_pyramid = slice_pyramid _ h _ there there_in ∙ rw there_length (number_back (length fs) i r.pyramid).1

  there_height : height_of there ≡ h
  there_height = slice_height _ h _ there there_in

  there_range : InRange there
  there_range = side_range h there r.height (side_of h there (le_of_eq there_height))

  there_dist : Ordered fs → dist_to fs there ≡ slice_at fs i h
  unfolding there slice_at
  there_dist o = near_slice_dist _ _ h fs o (has_points (length fs) i h r)

-- B is the least of the slices of a span's real pairs
pub record SpanLeast (fs : List Feature) (i h i' h' B : ℕ) : Type 0 where
  pub py : ℕ
  pub ht : ℕ
  pub after : PairLe i h py ht
  pub before : PairLe py ht i' h'
  pub real : Real (length fs) py ht
  pub value : B ≡ slice_at fs py ht
  pub least : (a b : ℕ) → PairLe i h a b → PairLe a b i' h' → Real (length fs) a b → B ≤ slice_at fs a b

-- and so the bound of the span
pub span_bound_law : (fs : List Feature) (i h i' h' B : ℕ) → 0 < length fs → Ordered fs → SpanLeast fs i h i' h' B → IsBound fs i h i' h' B
span_bound_law fs i h i' h' B l o s =
    record {
      point = there fs s.py s.ht s.real;
      inside =
          record {
            same = there_length fs s.py s.ht s.real;
            grid = there_range fs s.py s.ht s.real;
            after = rw (there_pyramid fs s.py s.ht s.real, there_height fs s.py s.ht s.real) s.after;
            before = rw (there_pyramid fs s.py s.ht s.real, there_height fs s.py s.ht s.real) s.before;
          };
      reached = there_dist fs s.py s.ht s.real o ∙ sym s.value;
      least = λ p x. le_trans (s.least (pyramid_of p) (height_of p) x.after x.before (pair_real fs p x.same l x.grid)) (pair_below fs p x.same l);
    }

-- B is the value of f at a height of lo .. hi, and at most every other
pub record LeastOver (f : ℕ → ℕ) (lo hi B : ℕ) : Type 0 where
  pub at : ℕ
  pub low : lo ≤ at
  pub high : at ≤ hi
  pub value : B ≡ f at
  pub least : (h : ℕ) → lo ≤ h → h ≤ hi → B ≤ f h

-- a span within one pyramid
pub span_one : (fs : List Feature) (i lo hi B : ℕ) → (m : LeastOver (slice_at fs i) lo hi B) → Real (length fs) i m.at → SpanLeast fs i lo i hi B
span_one fs i lo hi B m p =
    record {
      py = i;
      ht = m.at;
      after = inr (refl, m.low);
      before = inr (refl, m.high);
      real = p;
      value = m.value;
      least = λ a b x y z. go a b x y;
    }
  where
    go : (a b : ℕ) → PairLe i lo a b → PairLe a b i hi → B ≤ slice_at fs a b
    go a b (inl x) (inl y) = absurd (omega arith)
    go a b (inl x) (inr y) = absurd (omega (arith, y.0))
    go a b (inr x) (inl y) = absurd (omega (arith, x.0))
    go a b (inr x) (inr y) = rw (← x.0) (m.least b x.1 y.1)

-- one pyramid more: its heights from the first that has points
pub span_more : (fs : List Feature) (i h k A lo hi B : ℕ) → SpanLeast fs i h k 1000 A → i ≤ k → ((b : ℕ) → Real (length fs) (suc k) b → lo ≤ b)
    → (m : LeastOver (slice_at fs (suc k)) lo hi B) → Real (length fs) (suc k) m.at → SpanLeast fs i h (suc k) hi (min A B)
span_more fs i h k A lo hi B s l from m p = go (dec_lt B A)
  where
    split : (a b : ℕ) → PairLe a b (suc k) hi → Real (length fs) a b → (PairLe a b k 1000) ⊎ ((a ≡ suc k) × (b ≤ hi))
    split a b (inr y) w = inr y
    split a b (inl y) w = below (dec_lt a k)
      where
        below : Dec (a < k) → (PairLe a b k 1000) ⊎ ((a ≡ suc k) × (b ≤ hi))
        below (yes u) = inl (inl u)
        below (no u) = inl (inr (omega arith, w.height))

    all : (a b : ℕ) → PairLe i h a b → PairLe a b (suc k) hi → Real (length fs) a b → min A B ≤ slice_at fs a b
    all a b x y w =
        ⊎_elim
        (λ u. let t = s.least a b x u w in omega arith)
        (λ u. let t : B ≤ slice_at fs a b = rw u.0 (m.least b (from b (rw u.0 at w)) u.1) in omega arith)
        (split a b y w)

    further : (a b : ℕ) → PairLe a b k 1000 → PairLe a b (suc k) hi
    further a b (inl u) = inl (omega arith)
    further a b (inr u) = inl (omega (arith, u.0))

    go : Dec (B < A) → SpanLeast fs i h (suc k) hi (min A B)
    go (yes d) =
        record { py = suc k; ht = m.at; after = inl (omega arith); before = inr (refl, m.high); real = p; value = omega (arith, m.value); least = all }
    go (no d) =
        record { py = s.py; ht = s.ht; after = s.after; before = further s.py s.ht s.before; real = s.real; value = omega (arith, s.value); least = all }

-- the least height of a real pair
lowest_eq : (d i : ℕ) → i ≡ d → lowest_of d i ≡ 0
lowest_eq d i e = rw (eq-eqb i d e)

lowest_ne : (d i : ℕ) → i ≢ d → lowest_of d i ≡ 1
lowest_ne d i n = rw (ne_eqb i d n)

pub lowest_from : (d i h : ℕ) → Real d i h → lowest_of d i ≤ h
lowest_from d i h p = by (ℕ_discrete i d)
  where
    by : Dec (i ≡ d) → lowest_of d i ≤ h
    by (yes e) = omega (arith, lowest_eq d i e)
    by (no n) = let z : h ≢ 0 = λ e. n (p.centre e) in omega (arith, lowest_ne d i n)

pub lowest_le_one : (d i : ℕ) → lowest_of d i ≤ 1
lowest_le_one d i = by (ℕ_discrete i d)
  where
    by : Dec (i ≡ d) → lowest_of d i ≤ 1
    by (yes e) = omega (arith, lowest_eq d i e)
    by (no n) = omega (arith, lowest_ne d i n)

-- heights from the least on make real pairs
pub real_at : (d i h : ℕ) → i < d + d → lowest_of d i ≤ h → h ≤ 1000 → Real d i h
real_at d i h l k m = record { pyramid = l; height = m; centre = λ e. by e (ℕ_discrete i d) }
  where
    by : h ≡ 0 → Dec (i ≡ d) → i ≡ d
    by e (yes w) = w
    by e (no n) = absurd (omega (arith, lowest_ne d i n))

pub real_up : (d i h r : ℕ) → Real d i h → h ≤ r → r ≤ 1000 → Real d i r
real_up d i h r p l m = record { pyramid = p.pyramid; height = m; centre = λ e. p.centre (omega arith) }
