-- A mark is read back from its number. Assumes nothing.
use Rattle.std.proofs.Common.{◌≡◌, refl, ℕ, zero, suc, ◌+◌, ◌*◌, ◌/◌, ◌%◌, ◌<◌, Option, Some, arith}
use Rattle.test_model.specs.declared.marks.Mark.{Mark}
use Rattle.test_model.specs.Numbers.{mark_in, number_of_mark}

-- what is in a number above 0
above : (n : ℕ) (m : Mark) → 0 < n → n / 2 % 256 ≡ m.stage → n / 512 % 4294967296 ≡ m.stamp → mark_in n ≡ Some m
above zero m p a b = absurd (omega (arith, p))
above (suc n) m p a b = rw (a, b) refl

pub mark_numbered : (m : Mark) → m.stage < 256 → m.stamp < 4294967296 → mark_in (number_of_mark m) ≡ Some m
mark_numbered m a b = above (number_of_mark m) m (omega arith) (omega (arith, a, b)) (omega (arith, a, b))
