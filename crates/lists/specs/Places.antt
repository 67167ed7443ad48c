-- Elements by their places: what holds at each place, and at how many places a number stands.
use Rattle.std.specs.Prelude.{◌≡◌, refl, ◌≢◌, List, [], ◌∷◌, ℕ, zero, suc, ◌<◌, eqb, length, get_or}
use Rattle.std.proofs.Common.{sym, ap, arith, eqb-true, eq-eqb}
use Rattle.lists.specs.Basics.{indicator, All, none, also}
use Rattle.lists.specs.Counts.{mult}
use Rattle.lists.specs.Tests.{by_cases}

-- what holds at each place holds of each element
pub all_places : {A : Type 0} {P : A → Type 0} (d : A) (xs : List A) → ((i : ℕ) → i < length xs → P (get_or xs i d)) → All P xs
all_places d [] h = none
all_places d (x ∷ xs) h = also (h 0 (omega arith)) (all_places d xs (λ i l. h (suc i) (omega arith)))

-- a place of x
pub record Somewhere (x : ℕ) (xs : List ℕ) : Type 0 where
  pub at : ℕ
  pub within : at < length xs
  pub is : get_or xs at 0 ≡ x

-- a place of x other than i
pub record Elsewhere (x : ℕ) (xs : List ℕ) (i : ℕ) : Type 0 where
  pub at : ℕ
  pub within : at < length xs
  pub apart : at ≢ i
  pub is : get_or xs at 0 ≡ x

pub somewhere : (x : ℕ) (xs : List ℕ) → 0 < mult x xs → Somewhere x xs
unfolding mult
somewhere x [] h = absurd (omega arith)
somewhere x (y ∷ ys) h =
    by_cases (eqb x y) (λ e. record { at = 0; within = omega arith; is = sym (eqb-true x y e) })
    (λ e. let s = somewhere x ys (omega (arith, ap indicator e)) in record { at = suc s.at; within = let q = s.within in omega arith; is = s.is })

pub elsewhere : (x : ℕ) (xs : List ℕ) (i : ℕ) → get_or xs i 0 ≡ x → i < length xs → 1 < mult x xs → Elsewhere x xs i
unfolding mult
elsewhere x [] i e l h = absurd (omega arith)
elsewhere x (y ∷ ys) zero e l h =
    let s = somewhere x ys (omega (arith, ap indicator (eq-eqb x y (sym e)))) in
    record { at = suc s.at; within = let q = s.within in omega arith; apart = omega arith; is = s.is }
elsewhere x (y ∷ ys) (suc i) e l h =
    by_cases (eqb x y) (λ d. record { at = 0; within = omega arith; apart = omega arith; is = sym (eqb-true x y d) })
    (λ d. let s = elsewhere x ys i e (omega arith) (omega (arith, ap indicator d)) in
    record { at = suc s.at; within = let q = s.within in omega arith; apart = omega (arith, s.apart); is = s.is })

pub once : (x : ℕ) (xs : List ℕ) (i : ℕ) → i < length xs → get_or xs i 0 ≡ x → 0 < mult x xs
unfolding mult
once x [] i h e = absurd (omega arith)
once x (y ∷ ys) zero h e = rw (eq-eqb x y (sym e)) (omega arith)
once x (y ∷ ys) (suc i) h e = let q = once x ys i (omega arith) e in omega arith

pub twice : (x : ℕ) (xs : List ℕ) (i k : ℕ) → i < length xs → k < length xs → k ≢ i → get_or xs i 0 ≡ x → get_or xs k 0 ≡ x → 1 < mult x xs
unfolding mult
twice x [] i k h g n e d = absurd (omega arith)
twice x (y ∷ ys) zero zero h g n e d = absurd (n refl)
twice x (y ∷ ys) zero (suc k) h g n e d = let q = once x ys k (omega arith) d in rw (eq-eqb x y (sym e)) (omega arith)
twice x (y ∷ ys) (suc i) zero h g n e d = let q = once x ys i (omega arith) e in rw (eq-eqb x y (sym d)) (omega arith)
twice x (y ∷ ys) (suc i) (suc k) h g n e d = let q = twice x ys i k (omega arith) (omega arith) (omega (arith, n)) e d in omega arith
