-- Small numbers with a sign, in words of 16 and of 32 bits.
use Rattle.std.proofs.Common.{◌≡◌, refl, ℕ, ◌*◌, ◌≤◌, ◌<◌, arith, mul-le-mul, ℤ, pos, negsuc, nat_abs, ◌-ℤ◌, ◌*ℤ◌, w16, w32, to_z, of_z, SFits, to_z-of_z}
use Rattle.geometry.proofs.IntLaws.{gap_pos}
use Rattle.search_leaves.specs.Columns.{most_cost}

pub fits_16 : (g : ℤ) → nat_abs g ≤ 2047 → SFits w16 g
fits_16 (pos n) h = record { sfits = omega arith }
fits_16 (negsuc n) h = record { sfits = omega arith }

pub fits_32 : (g : ℤ) → nat_abs g ≤ most_cost → SFits w32 g
fits_32 (pos n) h = record { sfits = omega arith }
fits_32 (negsuc n) h = record { sfits = omega arith }

pub back_16 : (g : ℤ) → nat_abs g ≤ 2047 → to_z w16 (of_z w16 g) ≡ g
back_16 g h = to_z-of_z (fits_16 g h)

pub back_32 : (g : ℤ) → nat_abs g ≤ most_cost → to_z w32 (of_z w32 g) ≡ g
back_32 g h = to_z-of_z (fits_32 g h)

pub self_square : (g : ℤ) → g *ℤ g ≡ pos (nat_abs g * nat_abs g)
self_square (pos n) = refl
self_square (negsuc n) = refl

pub squared_most : (n : ℕ) → n ≤ 2047 → n * n ≤ most_cost
squared_most n h = mul-le-mul h h

pub gap_most : (x y : ℕ) → x < 2048 → y < 2048 → nat_abs (pos x -ℤ pos y) ≤ 2047
gap_most x y h g = omega (arith, gap_pos x y)
