-- The gap of a number from a range: on an axis, beside it, and as the code computes it.
use Rattle.std.proofs.Common.{◌≡◌, refl, sym, ap, ap₂, ◌∙◌, Bool, true, false, ℕ, zero, suc, max, ◌+◌, ◌-◌, ◌≤◌, ◌<◌, arith, le_refl, le_of_eq, ℤ, pos, negsuc, nat_abs, neg_ℤ, ◌-ℤ◌, ◌≤ℤ◌}
use Rattle.std.proofs.Math.Decide.{dec_le}
use Rattle.geometry.proofs.IntLaws.{lower, abs_parts, over_parts, gap_parts, le_parts, neg_abs}
use Rattle.geometry.proofs.StoredLaws.{coord_parts, parts_back, axis_low, axis_high}
use Rattle.geometry.specs.Features.{upper, gap_of}
use Rattle.geometry.specs.Slices.{on_axis}
use Rattle.geometry.specs.Stored.{coord_of}

pub gap_is : (l h p : ℤ) → gap_of l h p ≡ max ((upper l + lower p) - (lower l + upper p)) ((upper p + lower h) - (lower p + upper h))
unfolding gap_of
gap_is l h p = ap₂ max (over_parts l p) (over_parts p h)

-- the gap of 0 is the least magnitude in the range
pub gap_zero : (l h : ℤ) → gap_of l h (pos 0) ≡ max (upper l - lower l) (lower h - upper h)
gap_zero l h = gap_is l h (pos 0) ∙ omega arith

-- it is at most the gap of a number and its magnitude
first_ge : (lu ll pu pl : ℕ) → lu - ll ≤ ((lu + pl) - (ll + pu)) + (pu + pl)
first_ge lu ll pu pl = omega arith

second_ge : (hu hl pu pl : ℕ) → hl - hu ≤ ((pu + hl) - (pl + hu)) + (pu + pl)
second_ge hu hl pu pl = omega arith

both_ge : (a b c d n : ℕ) → a ≤ c + n → b ≤ d + n → max a b ≤ max c d + n
both_ge a b c d n x y = omega arith

pub gap_ge : (l h p : ℤ) → gap_of l h (pos 0) ≤ gap_of l h p + nat_abs p
gap_ge l h p =
    rw (gap_zero l h, gap_is l h p, abs_parts p)
    (both_ge _ _ _ _ _ (first_ge (upper l) (lower l) (upper p) (lower p)) (second_ge (upper h) (lower h) (upper p) (lower p)))

first_le : (lu ll pu pl : ℕ) → (lu + pl) - (ll + pu) ≤ lu + pl
first_le lu ll pu pl = omega arith

pub gap_le : (l h p : ℤ) → nat_abs l ≤ 1000 → nat_abs h ≤ 1000 → gap_of l h p ≤ 1000 + nat_abs p
gap_le l h p x y = rw (gap_is l h p) (omega (arith, abs_parts l, abs_parts h, abs_parts p, first_le (upper l) (lower l) (upper p) (lower p), first_le (upper p) (lower p) (upper h) (lower h)))

-- the nearest number of magnitude at most h to a range from q on: the least one
near_by : {h : ℕ} (q : ℤ) → Dec (nat_abs q ≤ h) → ℤ
near_by {h} q (yes p) = q
near_by {h} (pos a) (no f) = pos h
near_by {h} (negsuc a) (no f) = neg_ℤ (pos h)

pub near : ℕ → ℤ → ℤ
near h q = near_by q (dec_le (nat_abs q) h)

near_in_by : {h : ℕ} (q : ℤ) (d : Dec (nat_abs q ≤ h)) → nat_abs (near_by q d) ≤ h
unfolding near_by
near_in_by {h} q (yes p) = p
near_in_by {h} (pos a) (no f) = le_refl h
near_in_by {h} (negsuc a) (no f) = le_of_eq (neg_abs h)

pub near_in : (h : ℕ) (q : ℤ) → nat_abs (near h q) ≤ h
unfolding near
near_in h q = near_in_by q (dec_le (nat_abs q) h)

pub minus_parts : (h : ℕ) → (upper (neg_ℤ (pos h)) ≡ 0) × (lower (neg_ℤ (pos h)) ≡ h)
minus_parts zero = (refl, refl)
minus_parts (suc h) = (refl, refl)

inner : (lu ll hu hl h : ℕ) → lu + ll ≤ h → lu + hl ≤ ll + hu → max ((lu + ll) - (ll + lu)) ((lu + hl) - (ll + hu)) ≡ max (lu - ll) (hl - hu) - h
inner lu ll hu hl h x y =
    let a : lu - ll ≤ h = omega arith in
    let b : hl - hu ≤ h = omega arith in
    let c : (lu + ll) - (ll + lu) ≡ 0 = omega arith in
    let d : (lu + hl) - (ll + hu) ≡ 0 = omega arith in
    rw (c, d) (outside (lu - ll) (hl - hu) h a b)
  where
    outside : (a b h : ℕ) → a ≤ h → b ≤ h → 0 ≡ max a b - h
    outside a b h x y = omega arith

one_left : (a h x y : ℕ) → x ≡ 0 → y ≡ 0 → max ((a + 0) - (0 + h)) x ≡ max (a - 0) y - h
one_left a h x y c d = omega arith

above_all : (a hu hl h : ℕ) → h < a → a + hl ≤ 0 + hu → max ((a + 0) - (0 + h)) ((h + hl) - (0 + hu)) ≡ max (a - 0) (hl - hu) - h
above_all a hu hl h x y = one_left a h _ _ (omega arith) (omega arith)

other_left : (x y hu hl h : ℕ) → x ≡ 0 → y ≡ 0 → max x ((0 + hl) - (h + hu)) ≡ max y (hl - hu) - h
other_left x y hu hl h c d = omega arith

below_all : (a hu hl h : ℕ) → h < suc a → max ((0 + h) - (suc a + 0)) ((0 + hl) - (h + hu)) ≡ max (0 - suc a) (hl - hu) - h
below_all a hu hl h x = other_left _ _ hu hl h (omega arith) (omega arith)

near_gap_by : {n : ℕ} (l h : ℤ) (d : Dec (nat_abs l ≤ n)) → l ≤ℤ h → gap_of l h (near_by l d) ≡ gap_of l h (pos 0) - n
unfolding near_by
near_gap_by {n} l h (yes p) o = rw (gap_zero l h, gap_is l h l) (inner (upper l) (lower l) (upper h) (lower h) n (omega (arith, abs_parts l)) (le_parts l h o))
near_gap_by {n} (pos a) h (no f) o = rw (gap_zero (pos a) h, gap_is (pos a) h (pos n)) (above_all a (upper h) (lower h) n (omega arith) (le_parts (pos a) h o))
near_gap_by {n} (negsuc a) h (no f) o =
    let m = minus_parts n in
    rw (gap_zero (negsuc a) h, gap_is (negsuc a) h (neg_ℤ (pos n)), m.0, m.1) (below_all a (upper h) (lower h) n (omega arith))

pub near_gap : (n : ℕ) (l h : ℤ) → l ≤ℤ h → gap_of l h (near n l) ≡ gap_of l h (pos 0) - n
unfolding near
near_gap n l h o = near_gap_by l h (dec_le (nat_abs l) n) o

-- the gap of a point
pub gap_point : (c p : ℤ) → gap_of c c p ≡ nat_abs (c -ℤ p)
gap_point c p = rw (gap_is c c p, gap_parts c p) (omega arith)

-- stored numbers
pub gap_stored : (l h x : ℕ) → gap_of (coord_of l) (coord_of h) (coord_of x) ≡ max (l - x) (x - h)
gap_stored l h x =
    let a = coord_parts l in let b = coord_parts h in let c = coord_parts x in
    rw (gap_is (coord_of l) (coord_of h) (coord_of x), a.0, a.1, b.0, b.1, c.0, c.1) (ap₂ max (parts_back l x) (parts_back x h))

pub axis_gap_low : (l h : ℕ) (s : Bool) (n : ℕ) → s ≡ true → n ≤ 1000 → gap_of (coord_of l) (coord_of h) (on_axis s n) ≡ max (l - (1000 - n)) ((1000 - n) - h)
axis_gap_low l h s n e k = ap (λ (t : Bool). gap_of (coord_of l) (coord_of h) (on_axis t n)) e ∙ (ap (gap_of (coord_of l) (coord_of h)) (sym (axis_low n k)) ∙ gap_stored l h (1000 - n))

pub axis_gap_high : (l h : ℕ) (s : Bool) (n : ℕ) → s ≡ false → gap_of (coord_of l) (coord_of h) (on_axis s n) ≡ max (l - (1000 + n)) ((1000 + n) - h)
axis_gap_high l h s n e = ap (λ (t : Bool). gap_of (coord_of l) (coord_of h) (on_axis t n)) e ∙ (ap (gap_of (coord_of l) (coord_of h)) (sym (axis_high n)) ∙ gap_stored l h (1000 + n))

pub reach_stored : (l h : ℕ) → gap_of (coord_of l) (coord_of h) (pos 0) ≡ max (l - 1000) (1000 - h)
reach_stored l h = gap_stored l h 1000
