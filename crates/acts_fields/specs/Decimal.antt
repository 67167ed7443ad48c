-- Numbers in decimal: no leading zeros, minus directly before, no -0.
use Rattle.std.specs.Prelude.{ℕ, zero, suc, ◌+◌, ◌/◌, ◌%◌, List, [], ◌∷◌, ◌++◌, ltb, ℤ, pos, negsuc}
use Rattle.lists.specs.Basics.{if}
use Rattle.acts_fields.specs.Bytes.{minus, zero_digit}

-- the last digit of n
abbrev pub last_digit : ℕ → ℕ
last_digit n = zero_digit + n % 10

-- the digits of n, which has at most k + 1 of them
unfoldable pub decimal : ℕ → ℕ → List ℕ
decimal zero n = last_digit n ∷ []
decimal (suc k) n = if (ltb n 10) (last_digit n ∷ []) (decimal k (n / 10) ++ (last_digit n ∷ []))

-- n in decimal, for n below 10^20: every number of 64 bits
abbrev pub text : ℕ → List ℕ
text n = decimal 19 n

-- a whole number in decimal
abbrev pub signed_text : ℤ → List ℕ
signed_text (pos n) = text n
signed_text (negsuc m) = minus ∷ text (suc m)
