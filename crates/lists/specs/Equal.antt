-- The test of equal lists of numbers.
use Rattle.std.specs.Prelude.{◌≡◌, refl, Bool, true, false, List, [], ◌∷◌, ℕ, eqb}
use Rattle.std.proofs.Common.{eqb-true, eq-eqb}
use Rattle.lists.specs.Basics.{if}
use Rattle.lists.specs.Tests.{by_cases, false_true}

unfoldable pub same : List ℕ → List ℕ → Bool
same [] [] = true
same [] (y ∷ ys) = false
same (x ∷ xs) [] = false
same (x ∷ xs) (y ∷ ys) = if (eqb x y) (same xs ys) false

pub same_is : (xs ys : List ℕ) → same xs ys ≡ true → xs ≡ ys
unfolding same
same_is [] [] e = refl
same_is [] (y ∷ ys) e = false_true e
same_is (x ∷ xs) [] e = false_true e
same_is (x ∷ xs) (y ∷ ys) e =
    by_cases (eqb x y)
    (λ t. let g : same xs ys ≡ true = rw t at e in let h : x ≡ y = eqb-true x y t in let s : xs ≡ ys = same_is xs ys g in λ i. h i ∷ s i)
    (λ t. false_true (rw t at e))

pub is_same : (xs : List ℕ) → same xs xs ≡ true
unfolding same
is_same [] = refl
is_same (x ∷ xs) = rw (eq-eqb x x refl) (is_same xs)
