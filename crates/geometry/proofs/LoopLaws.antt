-- What each turn of a loop over coordinates adds, with the coordinates from m on still to come.
use Rattle.std.proofs.Common.{◌≡◌, refl, ap, ◌∙◌, false, List, [], ◌∷◌, ◌++◌, map, ◌≢◌, ℕ, zero, suc, max, ◌+◌, ◌*◌, ◌-◌, ◌/◌, ◌%◌, ◌≤◌, ◌<◌, arith, mul-le-mul, add-one, eq-eqb, ne_eqb, leb-true, leb-false, leb, ℤ, pos, nat_abs, length, get_or, take, drop, set, replicate, drop_of_length-le, drop-cons, ◌&&◌}
use Rattle.std.proofs.Math.Seq.{take-length}
use Rattle.lists.specs.Basics.{if}
use Rattle.lists.specs.Tests.{by_cases}
use Rattle.lists.specs.Choices.{bool_cases}
use Rattle.std.specs.List.{list_all}
use Rattle.geometry.proofs.PairLaws.{axis_inside}
use Rattle.geometry.proofs.StoredLaws.{length_point, point_at, coord_gap}
use Rattle.geometry.specs.Points.{is_neg, height_of, axis_at, axis_of, pyramid_of, distance}
use Rattle.geometry.specs.Stored.{coord_of, point_of, stored, slots_of, in_range}

-- the point from coordinate m on
pub point_cons : (p : List ℕ) (m : ℕ) → m < length p → drop m (point_of p) ≡ coord_of (get_or p m 0) ∷ drop (m + 1) (point_of p)
point_cons p m l =
    rw add-one
    (drop-cons (point_of p) m (pos 0) (omega (arith, length_point p)) ∙ ap (λ (c : ℤ). c ∷ drop (suc m) (point_of p)) (point_at p m l))

pub point_end : (p : List ℕ) (m : ℕ) → length p ≤ m → drop m (point_of p) ≡ []
point_end p m l = drop_of_length-le (point_of p) {i = m} (omega (arith, length_point p))

-- the greatest lead from coordinate m on, which has number n
unfoldable pub top_lead : ℕ → List ℤ → ℕ
top_lead n [] = 0
top_lead n (c ∷ cs) = max (nat_abs c * 16 + (15 - n)) (top_lead (suc n) cs)

pub lead_more : (p : List ℕ) (m : ℕ) → m < length p
    → top_lead m (drop m (point_of p)) ≡ max (nat_abs (coord_of (get_or p m 0)) * 16 + (15 - m)) (top_lead (m + 1) (drop (m + 1) (point_of p)))
unfolding top_lead
lead_more p m l = rw (point_cons p m l, add-one)

pub lead_end : (p : List ℕ) (m : ℕ) → length p ≤ m → top_lead m (drop m (point_of p)) ≡ 0
unfolding top_lead
lead_end p m l = rw (point_end p m l)

-- it is that of the first coordinate of greatest magnitude
axis_first : (c : ℤ) (cs : List ℤ) → height_of cs ≤ nat_abs c → (height_of (c ∷ cs) ≡ nat_abs c) × (axis_at (height_of (c ∷ cs)) (c ∷ cs) ≡ 0)
unfolding height_of axis_at
axis_first c cs l = let e : max (nat_abs c) (height_of cs) ≡ nat_abs c = omega arith in (e, rw (e, eq-eqb (nat_abs c) (nat_abs c) refl))

axis_later : (c : ℤ) (cs : List ℤ) → nat_abs c < height_of cs
    → (height_of (c ∷ cs) ≡ height_of cs) × (axis_at (height_of (c ∷ cs)) (c ∷ cs) ≡ suc (axis_at (height_of cs) cs))
unfolding height_of axis_at
axis_later c cs l =
    let e : max (nat_abs c) (height_of cs) ≡ height_of cs = omega arith in
    let n : nat_abs c ≢ height_of cs = omega arith in
    (e, rw (e, ne_eqb (nat_abs c) (height_of cs) n) (ap (λ (h : ℕ). suc (axis_at h cs)) e))

lead_first : (n : ℕ) (c : ℤ) (cs : List ℤ) → height_of cs ≤ nat_abs c → top_lead (suc n) cs ≤ height_of cs * 16 + (15 - n)
    → top_lead n (c ∷ cs) ≡ height_of (c ∷ cs) * 16 + (15 - (n + axis_at (height_of (c ∷ cs)) (c ∷ cs)))
unfolding top_lead
lead_first n c cs l h = let e = axis_first c cs l in rw (e.1, e.0) (omega arith)

later_wins : (n a h j t : ℕ) → a < h → t ≡ h * 16 + (15 - (suc n + j)) → max (a * 16 + (15 - n)) t ≡ h * 16 + (15 - (n + suc j))
later_wins n a h j t l e = omega arith

lead_later : (n : ℕ) (c : ℤ) (cs : List ℤ) → nat_abs c < height_of cs → top_lead (suc n) cs ≡ height_of cs * 16 + (15 - (suc n + axis_at (height_of cs) cs))
    → top_lead n (c ∷ cs) ≡ height_of (c ∷ cs) * 16 + (15 - (n + axis_at (height_of (c ∷ cs)) (c ∷ cs)))
unfolding top_lead
lead_later n c cs l h =
    let e = axis_later c cs l in
    rw (e.1, e.0) (later_wins n (nat_abs c) (height_of cs) (axis_at (height_of cs) cs) (top_lead (suc n) cs) l h)

lead_one : (n : ℕ) (c : ℤ) → top_lead n (c ∷ []) ≡ height_of (c ∷ []) * 16 + (15 - (n + axis_at (height_of (c ∷ [])) (c ∷ [])))
unfolding top_lead height_of
lead_one n c = lead_first n c [] (omega arith) (omega arith)

pub lead_is : (n : ℕ) (c : ℤ) (cs : List ℤ) → top_lead n (c ∷ cs) ≡ height_of (c ∷ cs) * 16 + (15 - (n + axis_at (height_of (c ∷ cs)) (c ∷ cs)))
lead_is n c [] = lead_one n c
lead_is n c (a ∷ cs) =
    let ih = lead_is (suc n) a cs in
    by_cases (leb (height_of (a ∷ cs)) (nat_abs c))
    (λ t. lead_first n c (a ∷ cs) (leb-true _ _ t) (omega (arith, ih)))
    (λ t. lead_later n c (a ∷ cs) (leb-false _ _ t) ih)

pub dist_more : (q p : List ℕ) (m : ℕ) → m < length q → m < length p
    → distance (drop m (point_of q)) (drop m (point_of p))
    ≡ ((get_or q m 0 - get_or p m 0) + (get_or p m 0 - get_or q m 0)) * ((get_or q m 0 - get_or p m 0) + (get_or p m 0 - get_or q m 0)) + distance (drop (m + 1) (point_of q)) (drop (m + 1) (point_of p))
unfolding distance
dist_more q p m l k = rw (point_cons q m l, point_cons p m k, coord_gap (get_or q m 0) (get_or p m 0))

pub dist_end : (q p : List ℕ) (m : ℕ) → length q ≤ m → distance (drop m (point_of q)) (drop m (point_of p)) ≡ 0
unfolding distance
dist_end q p m l = rw (point_end q m l)

-- the test of range, of all coordinates at once
pub range_all : (p : List ℤ) → list_all (λ c. leb (nat_abs c) 1000) p ≡ in_range p
unfolding in_range
range_all [] = refl
range_all (c ∷ cs) = bool_cases (λ b. (b && list_all (λ x. leb (nat_abs x) 1000) cs) ≡ if b (in_range cs) false) (leb (nat_abs c) 1000) (λ e. range_all cs) (λ e. refl)

-- a gap of 16 bits squared
pub square_fits : (g : ℕ) → g < 65536 → g * g < 4294967296
square_fits g h = let k : g ≤ 65535 = omega arith in let s : g * g ≤ 4294836225 = mul-le-mul k k in omega arith

-- a weight of 16 bits times a square of 32
pub weight_fits : (w c : ℕ) → w < 65536 → c < 4294967296 → w * c < 281474976710656
weight_fits w c h k = let a : w ≤ 65535 = omega arith in let b : c ≤ 4294967295 = omega arith in let s : w * c ≤ 281470681677825 = mul-le-mul a b in omega arith

-- one slot more
slots_set : (m n v : ℕ) (p : List ℤ) → m < length p → v ≡ stored (get_or p m (pos 0)) → set (map stored (take m p) ++ replicate (suc n) 0) m v ≡ map stored (take (suc m) p) ++ replicate n 0
slots_set m n v [] l e = absurd (let z : m < 0 = l in omega arith)
slots_set zero n v (c ∷ cs) l e = ap (λ (x : ℕ). x ∷ replicate n 0) e
slots_set (suc m) n v (c ∷ cs) l e = ap (λ (xs : List ℕ). stored c ∷ xs) (slots_set m n v cs (omega arith) e)

pub slots_more : (p : List ℤ) (m v : ℕ) → m < length p → length p ≤ 16 → v ≡ stored (get_or p m (pos 0))
    → set (map stored (take m p) ++ replicate (16 - m) 0) m v ≡ map stored (take (m + 1) p) ++ replicate (16 - (m + 1)) 0
slots_more p m v l k e =
    let a : 16 - m ≡ suc (16 - (m + 1)) = omega arith in
    rw (a, add-one) (slots_set m (16 - suc m) v p l e)

pub slots_end : (p : List ℤ) (m : ℕ) → m ≡ length p → map stored (take m p) ++ replicate (16 - m) 0 ≡ slots_of p
unfolding slots_of
slots_end p m e = rw (e, take-length p)

-- the greatest lead of a point
pub top_is : (p : List ℕ) (r : ℕ) → 0 < length p → r ≡ top_lead 0 (point_of p) → r ≡ height_of (point_of p) * 16 + (15 - axis_of (point_of p))
unfolding axis_of point_of
top_is [] r l e = absurd (omega arith)
top_is (x ∷ xs) r l e = omega (arith, e, lead_is 0 (coord_of x) (point_of xs))

-- and its two parts
pub top_height : (t h j : ℕ) → t ≡ h * 16 + (15 - j) → t / 16 ≡ h
top_height t h j e = omega arith

pub top_axis : (t h j : ℕ) → t ≡ h * 16 + (15 - j) → j < 16 → 15 - t % 16 ≡ j
top_axis t h j e l = omega arith

-- of which the axis is a coordinate of the point
pub axis_in : (p : List ℕ) (t h : ℕ) → (0 < length p) × (length p ≤ 16) → t ≡ h * 16 + (15 - axis_of (point_of p))
    → (15 - t % 16 ≡ axis_of (point_of p)) × (15 - t % 16 < length p)
axis_in p t h r e =
    let l = axis_inside (point_of p) (omega (arith, length_point p, r)) in
    (omega (arith, length_point p), omega (arith, length_point p))

-- the first coordinate of greatest magnitude and its sign make the pyramid number
pub pyramid_is : (p : List ℕ) (j : ℕ) → j < length p → j ≡ axis_of (point_of p) → if (is_neg (coord_of (get_or p j 0))) j (j + length p) ≡ pyramid_of (point_of p)
unfolding pyramid_of
pyramid_is p j l e = rw (← e, length_point p, point_at p j l)
