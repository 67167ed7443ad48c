-- The bound from the tables: a pyramid at some heights, the whole pyramids between the ends of a span, and the span.
use Rattle.std.proofs.Common.{◌≡◌, refl, sym, ap, ap₂, ◌∙◌, List, ℕ, zero, suc, min, max, ◌+◌, ◌-◌, ◌≤◌, ◌<◌, arith, length, get_or}
use Rattle.geometry.proofs.BoundLaws.{least_in_is}
use Rattle.geometry_slices.proofs.PackedLaws.{asked_length, asked_few}
use Rattle.geometry.specs.Features.{Feature}
use Rattle.geometry.specs.Slices.{slice_at, LeastAt, Nearest, lowest_of, least_in, bound_to}
use Rattle.geometry_slices.specs.Questions.{asked_of, Heights}
use Rattle.geometry_slices.specs.Tables.{RowsOver}
use Rattle.geometry_bounds.specs.Bounds.{least_between}

pub least_whole : (fs : List Feature) (i lo hi low r h v : ℕ) → LeastAt (slice_at fs i) 0 1000 r → hi ≤ 1000 → h ≡ max lo (min r hi) → h ≡ r → low ≤ h
    → v ≡ least_in fs i low 1000 → v ≡ least_in fs i lo hi
least_whole fs i lo hi low r h v m u e k l w =
    let a : max low (min r 1000) ≡ h = omega (arith, m.high) in
    w ∙ (least_in_is fs i low 1000 r m (omega arith) ∙ (ap (slice_at fs i) (a ∙ e) ∙ sym (least_in_is fs i lo hi r m u)))

pub least_sliced : (fs : List Feature) (i lo hi r h v : ℕ) → LeastAt (slice_at fs i) 0 1000 r → hi ≤ 1000 → h ≡ max lo (min r hi) → v ≡ slice_at fs i h → v ≡ least_in fs i lo hi
least_sliced fs i lo hi r h v m u e k = k ∙ (ap (slice_at fs i) e ∙ sym (least_in_is fs i lo hi r m u))

-- the pyramids between the ends
pub between_none : (whole : List ℕ) (b i : ℕ) → least_between whole b i 0 ≡ b
unfolding least_between
between_none whole b i = refl

pub between_more : (whole : List ℕ) (b i n : ℕ) → least_between whole b i (n + 1) ≡ min (least_between whole b i n) (get_or whole (i + 1 + n) 0)
unfolding least_between
between_more whole b i n =
    let e : n + 1 ≡ suc n = omega arith in
    let k : i + suc n ≡ i + 1 + n = omega arith in
    rw (e, k)

between_is : (fs : List Feature) (whole : List ℕ) (D i h n : ℕ) → ((k : ℕ) → k < D → get_or whole k 0 ≡ least_in fs k (lowest_of (length fs) k) 1000) → i + n < D
    → least_between whole (least_in fs i h 1000) i n ≡ bound_to fs i h n 1000
unfolding least_between bound_to
between_is fs whole D i h zero f l = refl
between_is fs whole D i h (suc n) f l = ap₂ min (between_is fs whole D i h n f (omega arith)) (f (i + suc n) l)

pub bound_one : (fs : List Feature) (i1 h1 i2 h2 v : ℕ) → i2 ≤ i1 → v ≡ least_in fs i1 h1 h2 → v ≡ bound_to fs i1 h1 (i2 - i1) h2
unfolding bound_to
bound_one fs i1 h1 i2 h2 v l e = let z : i2 - i1 ≡ 0 = omega arith in rw z e

pub bound_more : (fs : List Feature) (whole : List ℕ) (D i1 h1 i2 h2 low a b c : ℕ) → ((k : ℕ) → k < D → get_or whole k 0 ≡ least_in fs k (lowest_of (length fs) k) 1000)
    → i1 < i2 → i2 < D
    → low ≡ lowest_of (length fs) i2 → a ≡ least_in fs i1 h1 1000 → b ≡ least_between whole a i1 (i2 - i1 - 1) → c ≡ least_in fs i2 low h2 → min b c ≡ bound_to fs i1 h1 (i2 - i1) h2
unfolding bound_to
bound_more fs whole D i1 h1 i2 h2 low a b c f l k w x y z =
    let e : i2 - i1 ≡ suc (i2 - i1 - 1) = omega arith in
    let t : i1 + suc (i2 - i1 - 1) ≡ i2 = omega arith in
    let u = between_is fs whole D i1 h1 (i2 - i1 - 1) f (omega arith) in
    rw (e, t) (ap₂ min (y ∙ (ap (λ (v : ℕ). least_between whole v i1 (i2 - i1 - 1)) x ∙ u)) (z ∙ ap (λ (v : ℕ). least_in fs i2 v h2) w))

-- rows filled over heights
pub heights_over : (a xs ys : List ℕ) → Nearest (asked_of a) xs → RowsOver a xs ys → Heights a ys
heights_over a xs ys n r =
    let few = asked_few a r.rows.packed in
    let e = asked_length a r.rows.packed in
    record { rows = r.rows; nearest = λ i l. rw (r.before i (omega arith)) (n i l) }
