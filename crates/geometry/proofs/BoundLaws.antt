-- `bound_of` is the bound (01) of every span of two real pairs, and the only one; it is below the distance of every point of the span.
use Rattle.std.proofs.Common.{◌≡◌, refl, ◌∙◌, Bool, inl, inr, ◌≢◌, List, [], ◌∷◌, ℕ, zero, suc, min, max, ◌+◌, ◌-◌, ◌*◌, ◌≤◌, ◌<◌, arith, le_antisymm, le_trans, le_of_eq, le_refl, mul-le-mul, ℤ, pos, nat_abs, length}
use Rattle.geometry.proofs.GapLaws.{gap_le}
use Rattle.geometry.proofs.ConvexLaws.{at_convex}
use Rattle.geometry.proofs.SliceLaws.{axis_abs}
use Rattle.geometry.proofs.HeightLaws.{from_below, least_height, clamp_value}
use Rattle.geometry.proofs.SpanLaws.{SpanLeast, LeastOver, span_one, span_more, span_bound_law, lowest_from, lowest_le_one, real_at, real_up}
use Rattle.geometry.specs.Points.{PairLe}
use Rattle.geometry.specs.Features.{Feature, gap_to, cost_of, dist_to, Ordered, Asks, InSpan, IsBound}
use Rattle.geometry.specs.Slices.{on_axis, reach_of, side_by, slice_by, slice_at, axis_no, sign_no, lowest_of, last_pyramid, Real, LeastAt, least_in, bound_to, bound_of}

-- numbers by themselves, so that omega meets nothing else
reaches : (lo hi h : ℕ) → lo ≤ hi → h ≤ hi → h ≤ lo + (hi - lo)
reaches lo hi h l v = omega arith

one_on : (i n : ℕ) → i + suc n ≡ suc (i + n)
one_on i n = omega arith

no_less : (i n : ℕ) → i ≤ i + n
no_less i n = omega arith

one_back : (i n d : ℕ) → i + suc n < d + d → i + n < d + d
one_back i n d l = omega arith

suc_some : (n : ℕ) → suc n ≢ 0
suc_some n = omega arith

lowest_low : (d i : ℕ) → lowest_of d i ≤ 1000
lowest_low d i = omega (arith, lowest_le_one d i)

nothing_on : (i : ℕ) → i + 0 ≡ i
nothing_on i = omega arith

-- the least distance to a pyramid's heights lo .. hi
least_over : (fs : List Feature) (i lo hi : ℕ) → lo ≤ hi → LeastOver (slice_at fs i) lo hi (least_in fs i lo hi)
unfolding least_in
least_over fs i lo hi l =
    let w = least_height (slice_at fs i) lo hi l in
    record { at = w.0; low = w.1; high = w.2; value = w.3; least = λ h u v. from_below (slice_at fs i) lo (hi - lo) h u (reaches lo hi h l v) }

-- a span within one pyramid, and one that goes on into the next
span_start : (fs : List Feature) (i h h' : ℕ) → Real (length fs) i h → h ≤ h' → h' ≤ 1000 → SpanLeast fs i h i h' (least_in fs i h h')
span_start fs i h h' p l k =
    let m = least_over fs i h h' l in
    span_one fs i h h' (least_in fs i h h') m (real_up (length fs) i h m.at p m.low (le_trans m.high k))

span_next : (fs : List Feature) (i h k h' A : ℕ) → SpanLeast fs i h k 1000 A → i ≤ k → suc k < length fs + length fs → h' ≤ 1000 → lowest_of (length fs) (suc k) ≤ h'
    → SpanLeast fs i h (suc k) h' (min A (least_in fs (suc k) (lowest_of (length fs) (suc k)) h'))
span_next fs i h k h' A b l t u lo =
    let m = least_over fs (suc k) (lowest_of (length fs) (suc k)) h' lo in
    span_more fs i h k A (lowest_of (length fs) (suc k)) h' (least_in fs (suc k) (lowest_of (length fs) (suc k)) h') b l (λ c x. lowest_from (length fs) (suc k) c x) m
    (real_at (length fs) (suc k) m.at t m.low (le_trans m.high u))

span_step : (fs : List Feature) (i h n h' : ℕ) → i + suc n < length fs + length fs → h' ≤ 1000 → (suc n ≢ 0 → lowest_of (length fs) (i + suc n) ≤ h')
    → SpanLeast fs i h (i + n) 1000 (bound_to fs i h n 1000) → SpanLeast fs i h (i + suc n) h' (bound_to fs i h (suc n) h')
unfolding bound_to
span_step fs i h n h' l k s b =
    rw (one_on i n)
    (span_next fs i h (i + n) h' (bound_to fs i h n 1000) b (no_less i n) (rw (one_on i n) at l) k (rw (one_on i n) at (s (suc_some n))))

-- the function's value over each span that it goes through
span_to : (fs : List Feature) (i h n h' : ℕ) → Real (length fs) i h → i + n < length fs + length fs → h' ≤ 1000
    → (n ≡ 0 → h ≤ h') → (n ≢ 0 → lowest_of (length fs) (i + n) ≤ h') → SpanLeast fs i h (i + n) h' (bound_to fs i h n h')
unfolding bound_to
span_to fs i h zero h' p l k z s = rw (nothing_on i) (span_start fs i h h' p (z refl) k)
span_to fs i h (suc n) h' p l k z s =
    span_step fs i h n h' l k s (span_to fs i h n 1000 p (one_back i n (length fs) l) (le_refl 1000) (λ u. p.height) (λ u. lowest_low (length fs) (i + n)))

in_order : (i h i' h' : ℕ) → PairLe i h i' h' → i ≤ i'
in_order i h i' h' (inl l) = omega arith
in_order i h i' h' (inr e) = omega (arith, e.0)

-- a real pair is read as it is
bound_real : (fs : List Feature) (i h i' h' : ℕ) → Real (length fs) i h → Real (length fs) i' h' → bound_of fs i h i' h' ≡ bound_to fs i h (i' - i) h'
unfolding bound_of
bound_real fs i h i' h' p r =
    let a : last_pyramid (length fs) i ≡ i = omega (arith, p.pyramid) in
    let b : last_pyramid (length fs) i' ≡ i' = omega (arith, r.pyramid) in
    let c : min h 1000 ≡ h = omega (arith, p.height) in
    let d : min h' 1000 ≡ h' = omega (arith, r.height) in
    rw (a, b, c, d)

-- bound_exact: for every span of two real pairs the function's value is the bound
pub bound_exact : (fs : List Feature) (i h i' h' : ℕ) → 0 < length fs → Ordered fs → Real (length fs) i h → Real (length fs) i' h' → PairLe i h i' h'
    → IsBound fs i h i' h' (bound_of fs i h i' h')
bound_exact fs i h i' h' l v p r o =
    let e : i + (i' - i) ≡ i' = omega (arith, in_order i h i' h' o) in
    rw (bound_real fs i h i' h' p r)
    (span_bound_law fs i h i' h' (bound_to fs i h (i' - i) h') l v
    (rw e at (span_to fs i h (i' - i) h' p (omega (arith, r.pyramid)) r.height (λ z. one o z) (λ z. rw e (lowest_from (length fs) i' h' r)))))
  where
    one : PairLe i h i' h' → i' - i ≡ 0 → h ≤ h'
    one (inl u) z = absurd (omega arith)
    one (inr u) z = u.1

-- two bounds of one span are equal
bound_unique : (fs : List Feature) (i h i' h' B C : ℕ) → IsBound fs i h i' h' B → IsBound fs i h i' h' C → B ≡ C
bound_unique fs i h i' h' B C x y =
    le_antisymm
    (le_trans (x.least y.point y.inside) (le_of_eq y.reached))
    (le_trans (y.least x.point x.inside) (le_of_eq x.reached))

module _ (fs : List Feature) (i h i' h' : ℕ) (l : 0 < length fs) (v : Ordered fs) (p : Real (length fs) i h) (r : Real (length fs) i' h') (o : PairLe i h i' h') where
  -- what is the bound is the function's value
  pub bound_is : (B : ℕ) → IsBound fs i h i' h' B → B ≡ bound_of fs i h i' h'
  bound_is B b = bound_unique fs i h i' h' B (bound_of fs i h i' h') b (bound_exact fs i h i' h' l v p r o)

  -- no point of the span is nearer
  pub bound_below : (x : List ℤ) → InSpan (length fs) i h i' h' x → bound_of fs i h i' h' ≤ dist_to fs x
  bound_below x s = (bound_exact fs i h i' h' l v p r o).least x s

  -- a span within this one has no smaller bound
  pub bound_within : (a b a' b' : ℕ) → Real (length fs) a b → Real (length fs) a' b' → PairLe a b a' b' → PairLe i h a b → PairLe a' b' i' h' → bound_of fs i h i' h' ≤ bound_of fs a b a' b'
  bound_within a b a' b' s t u x w =
      let y = bound_exact fs a b a' b' l v s t u in
      let z = y.inside in
      le_trans (bound_below y.point (record { same = z.same; grid = z.grid; after = trans i h a b _ _ x z.after; before = trans _ _ a' b' i' h' z.before w })) (le_of_eq y.reached)
    where
      trans : (a b c d e f : ℕ) → PairLe a b c d → PairLe c d e f → PairLe a b e f
      trans a b c d e f (inl x) (inl y) = inl (omega arith)
      trans a b c d e f (inl x) (inr y) = inl (omega (arith, y.0))
      trans a b c d e f (inr x) (inl y) = inl (omega (arith, x.0))
      trans a b c d e f (inr x) (inr y) = inr (x.0 ∙ y.0, omega (arith, x.1, y.1))

-- how large bounds are: for a question in range with weights of at most W at most 4,000,000 W on the axis and 1,002,001 W beside it, whatever the pairs are
cost_le : (W : ℕ) (f : Feature) (g n : ℕ) → f.weight ≤ W → g ≤ n → cost_of f g ≤ W * (n * n)
cost_le W f g n v h = mul-le-mul v (mul-le-mul h h)

zero_gap : (W : ℕ) (f : Feature) (k : ℕ) → (nat_abs f.low ≤ 1000) × (nat_abs f.high ≤ 1000) × (f.weight ≤ W) → cost_of f (reach_of f - k) ≤ W * 1002001
zero_gap W f k r = cost_le W f (reach_of f - k) 1001 r.2 (omega (arith, gap_le f.low f.high (pos 0) r.0 r.1))

side_le : (W k : ℕ) (fs : List Feature) → Asks W fs → side_by k fs ≤ W * 1002001 * length fs
unfolding side_by
side_le W k [] r = omega arith
side_le W k (f ∷ fs) r = omega (arith, zero_gap W f k r.0, side_le W k fs r.1)

slice_le : (W j : ℕ) (s : Bool) (h : ℕ) (fs : List Feature) → Asks W fs → h ≤ 1000 → slice_by j s h fs ≤ W * 2997999 + W * 1002001 * length fs
unfolding slice_by
slice_le W j s h [] r t = omega arith
slice_le W zero s h (f ∷ fs) r t =
    let e = cost_le W f (gap_to f (on_axis s h)) 2000 r.0.2 (omega (arith, gap_le f.low f.high (on_axis s h) r.0.0 r.0.1, axis_abs s h)) in
    omega (arith, e, side_le W (suc h) fs r.1)
slice_le W (suc j) s h (f ∷ fs) r t = omega (arith, zero_gap W f h r.0, slice_le W j s h fs r.1 t)

to_first : (fs : List Feature) (i h n h' : ℕ) → bound_to fs i h n h' ≤ slice_at fs i h
unfolding bound_to least_in
to_first fs i h zero h' = from_below (slice_at fs i) h (h' - h) h (le_refl h) (omega arith)
to_first fs i h (suc n) h' = omega (arith, to_first fs i h n 1000)

pub bound_small : (W : ℕ) (fs : List Feature) (i h i' h' : ℕ) → Asks W fs → bound_of fs i h i' h' ≤ W * 2997999 + W * 1002001 * length fs
unfolding bound_of slice_at
bound_small W fs i h i' h' r =
    le_trans (to_first fs (last_pyramid (length fs) i) (min h 1000) (last_pyramid (length fs) i' - last_pyramid (length fs) i) (min h' 1000))
    (slice_le W (axis_no (length fs) (last_pyramid (length fs) i)) (sign_no (length fs) (last_pyramid (length fs) i)) (min h 1000) fs r (omega arith))

-- what the code computes for a pyramid: its nearest height, clamped
pub least_in_is : (fs : List Feature) (i lo hi r : ℕ) → LeastAt (slice_at fs i) 0 1000 r → hi ≤ 1000 → least_in fs i lo hi ≡ slice_at fs i (max lo (min r hi))
unfolding least_in
least_in_is fs i lo hi r m t = clamp_value (slice_at fs i) (at_convex fs i) 1000 lo hi r m t

pub bound_read : (fs : List Feature) (d p1 g1 p2 g2 i1 h1 i2 h2 : ℕ) → length fs ≡ d → i1 ≡ last_pyramid d p1 → h1 ≡ min g1 1000 → i2 ≡ last_pyramid d p2 → h2 ≡ min g2 1000
    → bound_to fs i1 h1 (i2 - i1) h2 ≡ bound_of fs p1 g1 p2 g2
unfolding bound_of
bound_read fs d p1 g1 p2 g2 i1 h1 i2 h2 e a b c k = rw (a, b, c, k, e)
