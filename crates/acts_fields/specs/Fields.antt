-- A field (01, "The acts program"): decimal, minus directly before, no leading zeros, no -0, in its range.
-- How a field is read; `FieldLaws` shows that a field is readable exactly if it is the decimal writing of a number in its range.
use Rattle.std.specs.Prelude.{ℕ, zero, suc, ◌+◌, ◌-◌, ◌*◌, ◌≤◌, Bool, true, false, List, [], ◌∷◌, ltb, eqb, ℤ, pos, negsuc, length, get_or, drop, Option, Some, None, option_map, option_and_then}
use Rattle.lists.specs.Basics.{if}
use Rattle.acts_fields.specs.Bytes.{minus, zero_digit, nine_digit}

-- the value a with the digit b behind it; none if b is no digit or the value is above the cap
unfoldable pub with_digit : ℕ → ℕ → ℕ → Option ℕ
with_digit cap a b = if (ltb b zero_digit) None (if (ltb nine_digit b) None (if (ltb cap (a * 10 + (b - zero_digit))) None (Some (a * 10 + (b - zero_digit)))))

-- the value a with the digits f behind it
unfoldable pub value_from : ℕ → ℕ → List ℕ → Option ℕ
value_from cap a [] = Some a
value_from cap a (b ∷ f) = option_and_then (λ v. value_from cap v f) (with_digit cap a b)

-- no digits, or a zero before another digit
unfoldable pub ill_formed : List ℕ → Bool
ill_formed f = if (eqb (length f) 0) true (if (eqb (get_or f 0 0) zero_digit) (ltb 1 (length f)) false)

-- a number from 0 to the cap
unfoldable pub natural : ℕ → List ℕ → Option ℕ
natural cap f = if (ill_formed f) None (value_from cap 0 f)

-- minus m; there is no -0
unfoldable pub negative : ℕ → Option ℤ
negative zero = None
negative (suc m) = Some (negsuc m)

-- a number from -32,768 to 32,767
unfoldable pub signed : List ℕ → Option ℤ
signed f = if (eqb (get_or f 0 0) minus) (option_and_then negative (natural 32768 (drop 1 f))) (option_map pos (natural 32767 f))

-- one of these numbers
abbrev pub Coordinate : ℤ → Type 0
Coordinate (pos n) = n ≤ 32767
Coordinate (negsuc m) = m ≤ 32767
