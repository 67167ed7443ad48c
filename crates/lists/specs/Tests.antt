-- Proofs by by_cases of a test, and by comparison of two numbers.
use Rattle.std.specs.Prelude.{◌≡◌, refl, Bool, true, false, ◌≢◌, ℕ, zero, suc, ◌≤◌, ◌<◌, ltb, eqb}
use Rattle.std.proofs.Common.{ap, arith, ltb-true, ltb-false, eqb-true}
use Rattle.std.proofs.lemmas.Bool.{eqb-false}
use Rattle.lists.specs.Basics.{indicator}

-- by by_cases of a test, with its equation
pub by_cases : {P : Type 0} (b : Bool) → (b ≡ true → P) → (b ≡ false → P) → P
by_cases true t f = t refl
by_cases false t f = f refl

-- m is n, or another number
pub decide : {P : Type 0} (m n : ℕ) → (m ≡ n → P) → (m ≢ n → P) → P
decide m n t f = by_cases (eqb m n) (λ e. t (eqb-true m n e)) (λ e. f (eqb-false m n e))

pub false_true : {P : Type 0} → false ≡ true → P
false_true e = let z : ◌≡◌ {A = ℕ} 0 1 = ap indicator e in absurd (omega arith)

-- m is below n, the same, or above
pub three : {P : Type 0} (m n : ℕ) → (m < n → P) → (m ≡ n → P) → (n < m → P) → P
three m n l e g =
    by_cases (ltb m n) (λ t. l (ltb-true m n t))
    (λ t. by_cases (ltb n m) (λ u. g (ltb-true n m u))
    (λ u. e (let p : n ≤ m = ltb-false m n t in let q : m ≤ n = ltb-false n m u in omega arith)))

-- a number from 1 on is one more than another
pub from_one : (P : ℕ → Type 0) → ((j : ℕ) → P (suc j)) → (k : ℕ) → 1 ≤ k → P k
from_one P h zero g = absurd (omega arith)
from_one P h (suc j) g = h j
