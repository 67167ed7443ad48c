-- Lists by their length.
use Rattle.std.specs.Prelude.{◌≡◌, refl, List, [], ◌∷◌, map, ℕ, zero, suc, length, get_or, replicate}
use Rattle.std.proofs.Common.{sym, ◌∙◌, arith}
use Rattle.std.proofs.lemmas.List.{length-map}

-- a list has as many elements as what it is mapped to
pub unmapped : {X Y : Type 0} (g : X → Y) (l : List X) (n : ℕ) → length (map g l) ≡ n → length l ≡ n
unmapped g l n e = sym (length-map l g) ∙ e

pub length_none : {A : Type 0} (xs : List A) → length xs ≡ 0 → xs ≡ []
length_none [] h = refl
length_none (x ∷ xs) h = absurd (omega arith)

-- a list of zeros has 0 at each place, and behind its end
pub zero_at : (n q : ℕ) → get_or {A = ℕ} (replicate n 0) q 0 ≡ 0
zero_at zero q = refl
zero_at (suc n) zero = refl
zero_at (suc n) (suc q) = zero_at n q
