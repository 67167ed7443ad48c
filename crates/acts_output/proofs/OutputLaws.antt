-- What is stored of a line of output, each law in the form of a branch of the code.
use Rattle.std.proofs.Common.{◌≡◌, refl, ◌≢◌, ◌⊎◌, inl, inr, List, [], ◌∷◌, ℕ, zero, suc, ◌+◌, ◌-◌, ◌/◌, ◌≤◌, ◌<◌, length, set, arith}
use Rattle.acts_fields.specs.Decimal.{last_digit, decimal}
use Rattle.acts_fields.specs.Bytes.{Written, Stored}
use Rattle.acts_output.specs.Output.{field, result_line}
use Rattle.acts_fields.proofs.StoreLaws.{decimal_small, decimal_more, then, written}

decimal_last : (k n : ℕ) → k ≡ 0 → decimal k n ≡ last_digit n ∷ []
unfolding decimal
decimal_last zero n e = refl
decimal_last (suc k) n e = absurd (omega (arith, e))

pub digit_put : (l : List ℕ) (at n d : ℕ) → d ≡ last_digit n → Stored l (set l at d) at (at + 1) (last_digit n ∷ [])
digit_put l at n d e = rw e (record { bytes = refl; after = refl })

-- the one digit of a number that has one, or may have one
pub last_put : (l t : List ℕ) (at r k n : ℕ) → (k ≡ 0) ⊎ ((k ≢ 0) × (n < 10)) → Stored l t at r (last_digit n ∷ []) → Stored l t at r (decimal k n)
last_put l t at r k n (inl h) p = rw (decimal_last k n h) p
last_put l t at r k n (inr h) p = rw (decimal_small k n h.1) p

pub more_put : (l s t : List ℕ) (at e r k n : ℕ) → k ≢ 0 → 10 ≤ n → Stored l s at e (decimal (k - 1) (n / 10)) → Stored s t e r (last_digit n ∷ []) → Stored l t at r (decimal k n)
more_put l s t at e r k n h i p q = rw (decimal_more k n h i) (then l s t at e r (decimal (k - 1) (n / 10)) (last_digit n ∷ []) p q)

pub field_put : (l s : List ℕ) (at e n b : ℕ) → Stored l s at e (decimal 19 n) → Stored l (set s e b) at (e + 1) (field n b)
unfolding field
field_put l s at e n b p = then l s (set s e b) at e (e + 1) (decimal 19 n) (b ∷ []) p (record { bytes = refl; after = refl })

pub result_put : (l s t u v w : List ℕ) (at a b c e r line code id dist leaves : ℕ) → r ≤ length l → Stored l s at a (field line 32) → Stored s t a b (field code 32)
    → Stored t u b c (field id 32) → Stored u v c e (field dist 32) → Stored v w e r (field leaves 10) → Written l w at r (result_line line code id dist leaves)
unfolding result_line
result_put l s t u v w at a b c e r line code id dist leaves h p q x y z =
    written l w at r _ h (then l s w at a r _ _ p (then s t w a b r _ _ q (then t u w b c r _ _ x (then u v w c e r _ _ y z))))
