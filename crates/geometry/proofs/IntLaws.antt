-- Laws of small signed numbers: the one place that goes by the signs.
use Rattle.std.proofs.Common.{◌≡◌, refl, ◌∙◌, Bool, true, false, cond, not, ℕ, zero, suc, ◌+◌, ◌-◌, ◌≤◌, ◌<◌, arith, T, ltb, ltb→lt, nltb→le, leb→le, ℤ, pos, negsuc, nat_abs, neg_ℤ, ◌-ℤ◌, ◌≤ℤ◌}
use Rattle.std.proofs.Math.IntN.{sub_ℕ}
use Rattle.geometry.specs.Features.{upper}

subℕ_abs' : (b : Bool) (x y : ℕ) → (T b → x < y) → (T (not b) → y ≤ x) → nat_abs (cond b (negsuc (y - suc x)) (pos (x - y))) ≡ (x - y) + (y - x)
subℕ_abs' true x y p n = let h : x < y = p tt in omega arith
subℕ_abs' false x y p n = let h : y ≤ x = n tt in omega arith

subℕ_abs : (x y : ℕ) → nat_abs (sub_ℕ x y) ≡ (x - y) + (y - x)
subℕ_abs x y = subℕ_abs' (ltb x y) x y (ltb→lt x y) (nltb→le x y)

-- the magnitude of a difference, by the signs
pub gap_pos : (a b : ℕ) → nat_abs (pos a -ℤ pos b) ≡ (a - b) + (b - a)
gap_pos a zero = omega arith
gap_pos a (suc b) = subℕ_abs a (suc b)

gap_neg_pos : (a b : ℕ) → nat_abs (negsuc a -ℤ pos b) ≡ suc a + b
gap_neg_pos a zero = subℕ_abs zero (suc a) ∙ omega arith
gap_neg_pos a (suc b) = omega arith

gap_negsuc : (a b : ℕ) → nat_abs (negsuc a -ℤ negsuc b) ≡ (a - b) + (b - a)
gap_negsuc a b = subℕ_abs (suc b) (suc a) ∙ omega arith

pub neg_abs : (h : ℕ) → nat_abs (neg_ℤ (pos h)) ≡ h
neg_abs zero = refl
neg_abs (suc h) = refl

-- how far a number is below 0, or 0; with `upper` it says the number, and what is linear in the two omega reads
abbrev pub lower : ℤ → ℕ
lower (pos n) = 0
lower (negsuc n) = suc n

pub abs_parts : (a : ℤ) → nat_abs a ≡ upper a + lower a
abs_parts (pos n) = omega arith
abs_parts (negsuc n) = omega arith

sub_upper' : (b : Bool) (x y : ℕ) → (T b → x < y) → (T (not b) → y ≤ x) → upper (cond b (negsuc (y - suc x)) (pos (x - y))) ≡ x - y
sub_upper' true x y p n = let h : x < y = p tt in omega arith
sub_upper' false x y p n = refl

sub_upper : (x y : ℕ) → upper (sub_ℕ x y) ≡ x - y
sub_upper x y = sub_upper' (ltb x y) x y (ltb→lt x y) (nltb→le x y)

pub over_parts : (a b : ℤ) → upper (a -ℤ b) ≡ (upper a + lower b) - (lower a + upper b)
over_parts (pos a) (pos zero) = omega arith
over_parts (pos a) (pos (suc b)) = sub_upper a (suc b) ∙ omega arith
over_parts (pos a) (negsuc b) = omega arith
over_parts (negsuc a) (pos zero) = sub_upper zero (suc a) ∙ omega arith
over_parts (negsuc a) (pos (suc b)) = omega arith
over_parts (negsuc a) (negsuc b) = sub_upper (suc b) (suc a) ∙ omega arith

pub gap_parts : (a b : ℤ) → nat_abs (a -ℤ b) ≡ ((upper a + lower b) - (lower a + upper b)) + ((lower a + upper b) - (upper a + lower b))
gap_parts (pos a) (pos b) = gap_pos a b ∙ omega arith
gap_parts (pos a) (negsuc b) = omega arith
gap_parts (negsuc a) (pos b) = gap_neg_pos a b ∙ omega arith
gap_parts (negsuc a) (negsuc b) = gap_negsuc a b ∙ omega arith

-- the order by the parts
pub le_parts : (a b : ℤ) → a ≤ℤ b → upper a + lower b ≤ lower a + upper b
le_parts (pos a) (pos b) t = let h : a ≤ b = leb→le a b t.le in omega arith
le_parts (pos a) (negsuc b) t = absurd t.le
le_parts (negsuc a) (pos b) t = omega arith
le_parts (negsuc a) (negsuc b) t = let h : b ≤ a = leb→le b a t.le in omega arith
