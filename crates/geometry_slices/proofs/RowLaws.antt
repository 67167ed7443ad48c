-- Sums by place, and a slice as one such sum over the row of its axis.
use Rattle.std.proofs.Common.{◌≡◌, refl, sym, ap, ap₂, ◌∙◌, Bool, List, [], ◌∷◌, ◌≢◌, ℕ, zero, suc, ◌+◌, ◌*◌, ◌-◌, ◌≤◌, ◌<◌, arith, suc-mul, mul-suc, eq-eqb, ne_eqb, lt-ltb, le-ltb, ltb, eqb, length, get_or}
use Rattle.std.proofs.Math.Decide.{ℕ_discrete, dec_le, dec_lt}
use Rattle.lists.specs.Basics.{if, indicator}
use Rattle.geometry.specs.Features.{Feature, gap_to, cost_of}
use Rattle.geometry.specs.Slices.{on_axis, reach_of, side_by, slice_by}
use Rattle.geometry_slices.specs.Questions.{sum_to}

-- sums
pub sum_more : (n : ℕ) (f : ℕ → ℕ) → sum_to (n + 1) f ≡ sum_to n f + f n
unfolding sum_to
sum_more n f = let e : n + 1 ≡ suc n = omega arith in rw e

pub sum_none : (f : ℕ → ℕ) → sum_to 0 f ≡ 0
unfolding sum_to
sum_none f = refl

pub sum_ext : (n : ℕ) (f g : ℕ → ℕ) → ((m : ℕ) → m < n → f m ≡ g m) → sum_to n f ≡ sum_to n g
unfolding sum_to
sum_ext zero f g e = refl
sum_ext (suc n) f g e = ap₂ (λ (a b : ℕ). a + b) (sum_ext n f g (λ m l. e m (omega arith))) (e n (omega arith))

pub sum_add : (n : ℕ) (f g k : ℕ → ℕ) → ((m : ℕ) → m < n → f m ≡ g m + k m) → sum_to n f ≡ sum_to n g + sum_to n k
unfolding sum_to
sum_add zero f g k e = omega arith
sum_add (suc n) f g k e = omega (arith, sum_add n f g k (λ m l. e m (omega arith)), e n (omega arith))

sum_first : (n : ℕ) (f : ℕ → ℕ) → sum_to (suc n) f ≡ f 0 + sum_to n (λ (m : ℕ). f (suc m))
unfolding sum_to
sum_first zero f = omega arith
sum_first (suc n) f = omega (arith, sum_first n f)

-- a sum in two parts
pub sum_parts : (k n : ℕ) (f : ℕ → ℕ) → sum_to (n + k) f ≡ sum_to n f + sum_to k (λ (m : ℕ). f (n + m))
unfolding sum_to
sum_parts zero n f = let e : n + 0 ≡ n = omega arith in rw e (omega arith)
sum_parts (suc k) n f = let e : n + suc k ≡ suc (n + k) = omega arith in rw e (omega (arith, sum_parts k n f))

-- places past n that add nothing
pub sum_past : (k n : ℕ) (f : ℕ → ℕ) → ((m : ℕ) → n ≤ m → m < n + k → f m ≡ 0) → sum_to (n + k) f ≡ sum_to n f
sum_past zero n f z = ap (λ (x : ℕ). sum_to x f) (let e : n + 0 ≡ n = omega arith in e)
sum_past (suc k) n f z =
    let e : n + suc k ≡ n + k + 1 = omega arith in
    rw e (omega (arith, sum_more (n + k) f, sum_past k n f (λ m u v. z m u (omega arith)), z (n + k) (omega arith) (omega arith)))

-- two sums that differ at place j alone
pub sum_swap : (n j : ℕ) (f g : ℕ → ℕ) → j < n → ((m : ℕ) → m < n → m ≢ j → f m ≡ g m) → sum_to n f + g j ≡ sum_to n g + f j
unfolding sum_to
sum_swap zero j f g l e = absurd (let z : j < 0 = l in omega arith)
sum_swap (suc n) j f g l e = by (λ u. sum_swap n j f g (omega arith) (λ m k v. e m (omega arith) v)) (ℕ_discrete n j)
  where
    by : (n ≢ j → sum_to n f + g j ≡ sum_to n g + f j) → Dec (n ≡ j) → sum_to n f + f n + g j ≡ sum_to n g + g n + f j
    by ih (yes u) =
        let s = sum_ext n f g (λ m k. e m (omega arith) (omega arith)) in
        let a = ap f u in let b = ap g u in
        omega arith
    by ih (no u) = omega (arith, ih u, e n (omega arith) u)

-- what a coordinate has to come down from beside axis j, by its feature
abbrev pub side_from : ℕ → ℕ → Feature → ℕ
side_from j m f = if (eqb m j) 0 (reach_of f - indicator (ltb j m))

side_sum : (h : ℕ) (fs : List Feature) (z : Feature) → side_by (suc h) fs ≡ sum_to (length fs) (λ (m : ℕ). cost_of (get_or fs m z) (reach_of (get_or fs m z) - 1 - h))
unfolding side_by sum_to
side_sum h [] z = refl
side_sum h (f ∷ fs) z =
    let e : reach_of f - suc h ≡ reach_of f - 1 - h = omega arith in
    omega (arith, ap (cost_of f) e, side_sum h fs z, sum_first (length fs) (λ (m : ℕ). cost_of (get_or (f ∷ fs) m z) (reach_of (get_or (f ∷ fs) m z) - 1 - h)))

pub from_before : (j m : ℕ) (f : Feature) → m < j → side_from j m f ≡ reach_of f
from_before j m f l = let n : m ≢ j = omega arith in rw (ne_eqb m j n, le-ltb j m (omega arith)) (omega arith)

pub from_on : (j m : ℕ) (f : Feature) → m ≡ j → side_from j m f ≡ 0
from_on j m f e = rw (eq-eqb m j e)

pub from_after : (j m : ℕ) (f : Feature) → j < m → side_from j m f ≡ reach_of f - 1
from_after j m f l = let n : m ≢ j = omega arith in rw (ne_eqb m j n, lt-ltb j m l)

later : (j m : ℕ) (f : Feature) → side_from (suc j) (suc m) f ≡ side_from j m f
later j m f = by (ℕ_discrete m j) (dec_lt m j)
  where
    by : Dec (m ≡ j) → Dec (m < j) → side_from (suc j) (suc m) f ≡ side_from j m f
    by (yes e) t = from_on (suc j) (suc m) f (ap suc e) ∙ sym (from_on j m f e)
    by (no n) (yes l) = from_before (suc j) (suc m) f (omega arith) ∙ sym (from_before j m f l)
    by (no n) (no l) = from_after (suc j) (suc m) f (omega arith) ∙ sym (from_after j m f (omega arith))

nothing : (f : Feature) (h : ℕ) → cost_of f (0 - h) ≡ 0
nothing f h = let e : 0 - h ≡ 0 = omega arith in ap (cost_of f) e ∙ omega arith

pub slice_row : (j : ℕ) (s : Bool) (h : ℕ) (fs : List Feature) (z : Feature) → j < length fs
    → slice_by j s h fs ≡ cost_of (get_or fs j z) (gap_to (get_or fs j z) (on_axis s h)) + sum_to (length fs) (λ (m : ℕ). cost_of (get_or fs m z) (side_from j m (get_or fs m z) - h))
unfolding slice_by
slice_row j s h [] z l = absurd (let y : j < 0 = l in omega arith)
slice_row zero s h (f ∷ fs) z l =
    let a = sum_first (length fs) (λ (m : ℕ). cost_of (get_or (f ∷ fs) m z) (side_from 0 m (get_or (f ∷ fs) m z) - h)) in
    let b = sum_ext (length fs) (λ (m : ℕ). cost_of (get_or fs m z) (side_from 0 (suc m) (get_or fs m z) - h)) (λ (m : ℕ). cost_of (get_or fs m z) (reach_of (get_or fs m z) - 1 - h))
    (λ m k. ap (λ (x : ℕ). cost_of (get_or fs m z) (x - h)) (from_after 0 (suc m) (get_or fs m z) (omega arith))) in
    omega (arith, a, b, nothing f h, side_sum h fs z)
slice_row (suc j) s h (f ∷ fs) z l =
    let a = sum_first (length fs) (λ (m : ℕ). cost_of (get_or (f ∷ fs) m z) (side_from (suc j) m (get_or (f ∷ fs) m z) - h)) in
    let b = sum_ext (length fs) (λ (m : ℕ). cost_of (get_or fs m z) (side_from (suc j) (suc m) (get_or fs m z) - h)) (λ (m : ℕ). cost_of (get_or fs m z) (side_from j m (get_or fs m z) - h))
    (λ m k. ap (λ (x : ℕ). cost_of (get_or fs m z) (x - h)) (later j m (get_or fs m z))) in
    let c = ap (λ (x : ℕ). cost_of f (x - h)) (from_before (suc j) 0 f (omega arith)) in
    omega (arith, a, b, c, slice_row j s h fs z (omega arith))

square_next : (k : ℕ) → suc k * suc k ≡ k * k + (2 * k + 1)
square_next k = omega (arith, suc-mul k (suc k), mul-suc k k)

-- from height h to h + 1 the square of what x has above it falls by the odd number 2x - 1 - 2h
pub square_falls : (x h : ℕ) → (x - h) * (x - h) ≡ (x - suc h) * (x - suc h) + ((2 * x - 1) - 2 * h)
square_falls x h = by (dec_le (suc h) x)
  where
    by : Dec (suc h ≤ x) → (x - h) * (x - h) ≡ (x - suc h) * (x - suc h) + ((2 * x - 1) - 2 * h)
    by (yes l) =
        let k : x - h ≡ suc (x - suc h) = omega arith in
        rw k (omega (arith, square_next (x - suc h)))
    by (no l) =
        let a : x - h ≡ 0 = omega arith in
        let b : x - suc h ≡ 0 = omega arith in
        rw (a, b) (omega arith)

-- and that of what h has above y rises by 2h + 1 - 2y
pub square_rises : (y h : ℕ) → (suc h - y) * (suc h - y) ≡ (h - y) * (h - y) + ((2 * h + 1) - 2 * y)
square_rises y h = by (dec_le y h)
  where
    by : Dec (y ≤ h) → (suc h - y) * (suc h - y) ≡ (h - y) * (h - y) + ((2 * h + 1) - 2 * y)
    by (yes l) =
        let k : suc h - y ≡ suc (h - y) = omega arith in
        rw k (omega (arith, square_next (h - y)))
    by (no l) =
        let a : suc h - y ≡ 0 = omega arith in
        let b : h - y ≡ 0 = omega arith in
        rw (a, b) (omega arith)
