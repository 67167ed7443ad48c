-- Numbers in bytes, little-endian, once over the width; bytes stored in a list.
use Rattle.std.specs.Prelude.{List, [], ◌∷◌, ℕ, zero, suc, ◌+◌, ◌*◌, ◌/◌, ◌%◌, get_or, set}

-- the byte at an index, 0 past the end; an element counts modulo 256, so that what is read fits its type whatever the list
abbrev pub byte_at : List ℕ → ℕ → ℕ
byte_at s at = get_or s at 0 % 256

-- the number whose n bytes begin at an index, the lowest first
unfoldable pub le_at : ℕ → List ℕ → ℕ → ℕ
le_at zero s at = 0
le_at (suc n) s at = byte_at s at + 256 * le_at n s (at + 1)

-- the n lowest bytes of v, the lowest first
unfoldable pub le_bytes : ℕ → ℕ → List ℕ
le_bytes zero v = []
le_bytes (suc n) v = v % 256 ∷ le_bytes n (v / 256)

-- s with the bytes vs stored from index at on
unfoldable pub put : List ℕ → ℕ → List ℕ → List ℕ
put s at [] = s
put s at (v ∷ vs) = put (set s at v) (at + 1) vs
