-- The bytes of the acts text, where a byte first stands, and bytes written into a buffer.
use Rattle.std.specs.Prelude.{ℕ, suc, ◌+◌, ◌≡◌, List, [], ◌∷◌, ◌++◌, eqb, length, take, drop}
use Rattle.std.proofs.lemmas.List.Edits.{sets}
use Rattle.lists.specs.Basics.{if}

abbrev pub newline : ℕ
newline = 10

abbrev pub space : ℕ
space = 32

abbrev pub minus : ℕ
minus = 45

-- the digit 0; the digit n is zero_digit + n
abbrev pub zero_digit : ℕ
zero_digit = 48

abbrev pub nine_digit : ℕ
nine_digit = 57

-- how many bytes stand before the first b
unfoldable pub until : ℕ → List ℕ → ℕ
until b [] = 0
until b (x ∷ l) = if (eqb x b) 0 (suc (until b l))

-- t is l with the bytes w from index at on and every other byte as before; r is the index after them
pub record Written (l t : List ℕ) (at r : ℕ) (w : List ℕ) : Type 0 where
  pub bytes : t ≡ take at l ++ w ++ drop (at + length w) l
  pub after : r ≡ at + length w

-- the same by single stores, as the code goes; `Written` follows where w fits
pub record Stored (l t : List ℕ) (at r : ℕ) (w : List ℕ) : Type 0 where
  pub bytes : t ≡ sets l at w
  pub after : r ≡ at + length w
