-- Stored coordinates: what a stored number's coordinate is, and that a point in range is read back as it was stored.
use Rattle.std.proofs.Common.{◌≡◌, refl, sym, ap, ap₂, ◌∙◌, Bool, true, false, List, [], ◌∷◌, ◌++◌, map, ℕ, zero, suc, ◌+◌, ◌-◌, ◌/◌, ◌≤◌, ◌<◌, arith, le-ltb, lt-ltb, ltb-true, ltb-false, le-leb, leb-true, leb, ltb, ℤ, pos, negsuc, nat_abs, ◌-ℤ◌, length, get_or, take, replicate, take_at, w16, SFits, to_z, of_z, to_z-of_z}
use Rattle.std.proofs.Math.ListN.{length-map}
use Rattle.lists.specs.Basics.{if, All, none, also}
use Rattle.lists.specs.Tests.{by_cases}
use Rattle.geometry.proofs.IntLaws.{lower, gap_pos, gap_parts}
use Rattle.geometry.specs.Features.{upper}
use Rattle.geometry.specs.Points.{InRange, is_neg}
use Rattle.geometry.specs.Slices.{on_axis}
use Rattle.geometry.specs.Stored.{coord_of, point_of, stored, slots_of, in_range}

-- a stored number below 1,000 is a coordinate below 0, one from 1,000 on is not
pub coord_low : (x : ℕ) → x < 1000 → coord_of x ≡ negsuc (999 - x)
coord_low x l = rw (lt-ltb x 1000 l) (ap negsuc (let e : 1000 - suc x ≡ 999 - x = omega arith in e))

pub coord_high : (x : ℕ) → 1000 ≤ x → coord_of x ≡ pos (x - 1000)
coord_high x l = rw (le-ltb x 1000 l)

-- with a t added that takes exactly the numbers from 1,000 on to 2^16, the carry tells whether the coordinate is below 0
pub carry_is : (x t : ℕ) → (x < 1000 → x + t < 65536) → (1000 ≤ x → 65536 ≤ x + t) → x + t < 131072 → (x + t) / 65536 ≡ if (is_neg (coord_of x)) 0 1
carry_is x t low high most = by (ltb x 1000) refl
  where
    by : (b : Bool) → ltb x 1000 ≡ b → (x + t) / 65536 ≡ if (is_neg (coord_of x)) 0 1
    by true e = let l = ltb-true x 1000 e in rw (coord_low x l) (let q : (x + t) / 65536 ≡ 0 = omega (arith, low l) in q)
    by false e = let l = ltb-false x 1000 e in rw (coord_high x l) (let q : (x + t) / 65536 ≡ 1 = omega (arith, high l, most) in q)

pub coord_parts : (x : ℕ) → (upper (coord_of x) ≡ x - 1000) × (lower (coord_of x) ≡ 1000 - x)
coord_parts x = by (ltb x 1000) refl
  where
    by : (b : Bool) → ltb x 1000 ≡ b → (upper (coord_of x) ≡ x - 1000) × (lower (coord_of x) ≡ 1000 - x)
    by true e = let l = ltb-true x 1000 e in rw (coord_low x l) (omega arith, omega arith)
    by false e = let l = ltb-false x 1000 e in rw (coord_high x l) (omega arith, omega arith)

pub coord_magnitude : (x : ℕ) → nat_abs (coord_of x) ≡ (x - 1000) + (1000 - x)
coord_magnitude x = gap_pos x 1000

-- by how much one coordinate is above another is what the numbers stored say
pub parts_back : (a b : ℕ) → ((a - 1000) + (1000 - b)) - ((1000 - a) + (b - 1000)) ≡ a - b
parts_back a b = omega arith

parts_under : (a b : ℕ) → ((1000 - a) + (b - 1000)) - ((a - 1000) + (1000 - b)) ≡ b - a
parts_under a b = omega arith

-- and so their distance
pub coord_gap : (a b : ℕ) → nat_abs (coord_of a -ℤ coord_of b) ≡ (a - b) + (b - a)
coord_gap a b =
    let x = coord_parts a in let y = coord_parts b in
    gap_parts (coord_of a) (coord_of b) ∙ rw (x.0, x.1, y.0, y.1) (ap₂ ◌+◌ (parts_back a b) (parts_under a b))

-- the number stored for height h on an axis
pub axis_low : (h : ℕ) → h ≤ 1000 → coord_of (1000 - h) ≡ on_axis true h
axis_low zero l = refl
axis_low (suc h) l = coord_low (1000 - suc h) (omega arith) ∙ ap negsuc (let e : 999 - (1000 - suc h) ≡ h = omega arith in e)

pub axis_high : (h : ℕ) → coord_of (1000 + h) ≡ on_axis false h
axis_high h = coord_high (1000 + h) (omega arith) ∙ ap pos (let e : 1000 + h - 1000 ≡ h = omega arith in e)

-- the point of stored numbers, by place
pub length_point : (xs : List ℕ) → length (point_of xs) ≡ length xs
unfolding point_of
length_point [] = refl
length_point (x ∷ xs) = ap suc (length_point xs)

pub point_at : (xs : List ℕ) (m : ℕ) → m < length xs → get_or (point_of xs) m (pos 0) ≡ coord_of (get_or xs m 0)
unfolding point_of
point_at [] m l = absurd (let z : m < 0 = l in omega arith)
point_at (x ∷ xs) zero l = refl
point_at (x ∷ xs) (suc m) l = point_at xs m (omega arith)

pub point_take : (n : ℕ) (xs : List ℕ) → point_of (take n xs) ≡ take n (point_of xs)
unfolding point_of
point_take zero xs = refl
point_take (suc n) [] = refl
point_take (suc n) (x ∷ xs) = ap (λ (l : List ℤ). coord_of x ∷ l) (point_take n xs)

-- storing and reading back
pub stored_back : (c : ℤ) → nat_abs c ≤ 1000 → coord_of (stored c) ≡ c
stored_back (pos n) h = coord_high (1000 + n) (omega arith) ∙ ap pos (let e : 1000 + n - 1000 ≡ n = omega arith in e)
stored_back (negsuc n) h = coord_low (999 - n) (omega arith) ∙ ap negsuc (let e : 999 - (999 - n) ≡ n = omega arith in e)

pub stored_le : (c : ℤ) → nat_abs c ≤ 1000 → stored c ≤ 2000
stored_le (pos n) h = omega arith
stored_le (negsuc n) h = omega arith

slots_from : (cs : List ℤ) (zs : List ℕ) → InRange cs → point_of (take (length cs) (map stored cs ++ zs)) ≡ cs
unfolding point_of
slots_from [] zs r = refl
slots_from (c ∷ cs) zs r = ap₂ (λ (x : ℤ) (l : List ℤ). x ∷ l) (stored_back c r.0) (slots_from cs zs r.1)

pub slots_back : (p : List ℤ) → InRange p → point_of (take (length p) (slots_of p)) ≡ p
unfolding slots_of
slots_back p r = slots_from p (replicate (16 - length p) 0) r

-- the first slots, as many as the point has coordinates
pub slots_own : (p : List ℤ) → take (length p) (slots_of p) ≡ map stored p
unfolding slots_of
slots_own p = take_at (map stored p) (replicate (16 - length p) 0) (length p) (length-map p stored)

-- the test of range, as a fact
in_range_by : (c : ℤ) (cs : List ℤ) (b : Bool) → leb (nat_abs c) 1000 ≡ b → (in_range cs ≡ true → InRange cs) → if b (in_range cs) false ≡ true → InRange (c ∷ cs)
in_range_by c cs true f ih g = (leb-true (nat_abs c) 1000 f, ih g)
in_range_by c cs false f ih g = absurd (let y : ◌≡◌ {A = ℕ} 0 1 = cc in omega arith)

pub in_range_law : (p : List ℤ) → in_range p ≡ true → InRange p
unfolding in_range
in_range_law [] e = tt
in_range_law (c ∷ cs) e = in_range_by c cs (leb (nat_abs c) 1000) refl (in_range_law cs) e

-- a point in range, as it is stored, stands for itself
pub point_back : (p : List ℤ) → in_range p ≡ true → point_of (map stored p) ≡ p
point_back p r = ap point_of (sym (slots_own p)) ∙ slots_back p (in_range_law p r)

pub all_stored : (p : List ℤ) → InRange p → All (λ c. c ≤ 2000) (map stored p)
all_stored [] r = none
all_stored (c ∷ cs) r = also (stored_le c r.0) (all_stored cs r.1)

-- reading and storing back: any stored number
slot_back : (x : ℕ) → stored (coord_of x) ≡ x
slot_back x =
    by_cases (ltb x 1000)
    (λ e. let h = ltb-true x 1000 e in rw e (omega arith))
    (λ e. let h = ltb-false x 1000 e in rw e (omega arith))

pub slots_point : (xs : List ℕ) → map stored (point_of xs) ≡ xs
unfolding point_of
slots_point [] = refl
slots_point (x ∷ xs) = λ i. slot_back x i ∷ slots_point xs i

pub point_ranges : {xs : List ℕ} → All (λ c. c ≤ 2000) xs → in_range (point_of xs) ≡ true
unfolding point_of in_range
point_ranges none = refl
point_ranges (also {x = x} h t) = rw (le-leb (nat_abs (coord_of x)) 1000 (omega (arith, coord_magnitude x))) (point_ranges t)

-- a coordinate as the machine holds it
pub word_fits : (c : ℤ) → nat_abs c ≤ 2000 → SFits w16 c
word_fits (pos n) h = record { sfits = omega arith }
word_fits (negsuc n) h = record { sfits = omega arith }

pub word_back : (c : ℤ) → nat_abs c ≤ 2000 → to_z w16 (of_z w16 c) ≡ c
word_back c h = to_z-of_z (word_fits c h)

pub range_at : (p : List ℤ) (m : ℕ) → InRange p → nat_abs (get_or p m (pos 0)) ≤ 1000
range_at [] m r = omega arith
range_at (c ∷ cs) zero r = r.0
range_at (c ∷ cs) (suc m) r = range_at cs m r.1
