-- Sums over the numbers of a list, by the parts of its members.
use Rattle.std.specs.Prelude.{◌≡◌, ◌≢◌, ◌⊎◌, ℕ, ◌+◌, ◌≤◌, ◌<◌, eqb}
use Rattle.std.proofs.Math.Path.{refl, sym, ap}
use Rattle.std.proofs.Common.{◌∙◌, eq-eqb}
use Rattle.std.proofs.Math.Logic.{inl, inr}
use mathlib.Core.List.{List, [], ◌∷◌, ◌++◌}
use native.Mathlib.Omega.{arith}
use Rattle.lists.specs.Basics.{indicator}
use Rattle.lists.specs.Counts.{mult, mult_append, mult_self, mult_not}
use Rattle.lists.specs.Sorting.{sum}
use Rattle.lists.specs.ConcatMapLaws.{sum_append}
use Rattle.lists.specs.Tests.{decide}

module _ (f : ℕ → ℕ) where
  -- a member's part is in the sum, and so are those of two members
  pub sum_one : (xs : List ℕ) (p : ℕ) → 0 < mult p xs → f p ≤ sum f xs
  unfolding sum mult
  sum_one [] p h = absurd (omega arith)
  sum_one (x ∷ xs) p h =
      decide p x
      (λ e. let g : f p ≡ f x = ap f e in omega arith)
      (λ n. let m : mult p (x ∷ xs) ≡ mult p xs = mult_not p x xs n in let ih : f p ≤ sum f xs = sum_one xs p (omega arith) in omega arith)

  pub sum_two : (xs : List ℕ) (p q : ℕ) → 0 < mult p xs → 0 < mult q xs → p ≢ q → f p + f q ≤ sum f xs
  unfolding sum mult
  sum_two [] p q h g n = absurd (omega arith)
  sum_two (x ∷ xs) p q h g n =
      decide p x
      (λ e. let a : f p ≡ f x = ap f e in let m : mult q (x ∷ xs) ≡ mult q xs = mult_not q x xs (λ c. n (e ∙ sym c)) in
      let b : f q ≤ sum f xs = sum_one xs q (omega arith) in omega arith)
      (λ np. let m : mult p (x ∷ xs) ≡ mult p xs = mult_not p x xs np in decide q x
      (λ e. let a : f q ≡ f x = ap f e in let b : f p ≤ sum f xs = sum_one xs p (omega arith) in omega arith)
      (λ nq. let k : mult q (x ∷ xs) ≡ mult q xs = mult_not q x xs nq in
      let ih : f p + f q ≤ sum f xs = sum_two xs p q (omega arith) (omega arith) n in omega arith))

  -- where only p has a part, and that at most 1, the sum is at most p's number
  pub sum_only : (p : ℕ) (xs : List ℕ) → f p ≤ 1 → ((q : ℕ) → 0 < mult q xs → q ≢ p → f q ≡ 0) → sum f xs ≤ mult p xs
  unfolding sum mult
  sum_only p [] h g = omega arith
  sum_only p (x ∷ xs) h g =
      let ih : sum f xs ≤ mult p xs = sum_only p xs h (λ q m n. g q (omega arith) n) in
      decide x p
      (λ e. let a : f x ≡ f p = ap f e in let b : indicator (eqb p x) ≡ 1 = ap indicator (eq-eqb p x (sym e)) in omega arith)
      (λ n. let z : f x ≡ 0 = g x (omega (arith, mult_self x xs)) n in omega arith)

  pub sum_zero : (xs : List ℕ) → ((q : ℕ) → 0 < mult q xs → f q ≡ 0) → sum f xs ≡ 0
  unfolding sum mult
  sum_zero [] g = refl
  sum_zero (x ∷ xs) g =
      let ih : sum f xs ≡ 0 = sum_zero xs (λ q m. g q (omega arith)) in
      let z : f x ≡ 0 = g x (omega (arith, mult_self x xs)) in omega arith

  -- some member other than p has a part, or none has
  pub sum_other : (p : ℕ) (xs : List ℕ) → ((q : ℕ) × (0 < mult q xs) × (q ≢ p) × (0 < f q)) ⊎ ((q : ℕ) → 0 < mult q xs → q ≢ p → f q ≡ 0)
  unfolding mult
  sum_other p [] = inr (λ q h. absurd (omega arith))
  sum_other p (x ∷ xs) = more (sum_other p xs)
    where
      more : ((q : ℕ) × (0 < mult q xs) × (q ≢ p) × (0 < f q)) ⊎ ((q : ℕ) → 0 < mult q xs → q ≢ p → f q ≡ 0)
          → ((q : ℕ) × (0 < mult q (x ∷ xs)) × (q ≢ p) × (0 < f q)) ⊎ ((q : ℕ) → 0 < mult q (x ∷ xs) → q ≢ p → f q ≡ 0)
      more (inl r) = let m : 0 < mult r.0 xs = r.1 in inl (r.0, omega arith, r.2, r.3)
      more (inr g) =
          decide x p
          (λ e. inr (λ q h n. g q (omega (arith, mult_not q x xs (λ z. n (z ∙ e)), h)) n))
          (λ n. decide (f x) 0
          (λ z. inr (λ q h d. decide q x (λ i. ap f i ∙ z) (λ k. g q (omega (arith, mult_not q x xs k, h)) d)))
          (λ z. inl (x, omega (arith, mult_self x xs), n, omega (arith, z))))

  -- some member has a part, or none has
  pub sum_some : (xs : List ℕ) → ((p : ℕ) × (0 < mult p xs) × (0 < f p)) ⊎ ((q : ℕ) → 0 < mult q xs → f q ≡ 0)
  unfolding mult
  sum_some [] = inr (λ q h. absurd (omega arith))
  sum_some (x ∷ xs) = more (sum_some xs)
    where
      more : ((p : ℕ) × (0 < mult p xs) × (0 < f p)) ⊎ ((q : ℕ) → 0 < mult q xs → f q ≡ 0)
          → ((p : ℕ) × (0 < mult p (x ∷ xs)) × (0 < f p)) ⊎ ((q : ℕ) → 0 < mult q (x ∷ xs) → f q ≡ 0)
      more (inl r) = let m : 0 < mult r.0 xs = r.1 in inl (r.0, omega arith, r.2)
      more (inr g) =
          decide (f x) 0
          (λ e. inr (λ q h. decide q x (λ i. ap f i ∙ e) (λ n. let m : mult q (x ∷ xs) ≡ mult q xs = mult_not q x xs n in g q (omega arith))))
          (λ n. inl (x, omega (arith, mult_self x xs), omega (arith, n)))

-- ---- lists with the same members have the same sums

split : (x : ℕ) (ys : List ℕ) → 0 < mult x ys → (ls : List ℕ) × (bs : List ℕ) × (ys ≡ ls ++ (x ∷ bs))
unfolding mult
split x [] h = absurd (omega arith)
split x (y ∷ ys) h =
    decide x y (λ e. ([], ys, ap (λ (z : ℕ). z ∷ ys) (sym e)))
    (λ n. let r = split x ys (omega (arith, mult_not x y ys n)) in (y ∷ r.0, r.1, ap (λ (z : List ℕ). y ∷ z) r.2))

pub sum_members : (f : ℕ → ℕ) (xs ys : List ℕ) → ((q : ℕ) → mult q xs ≡ mult q ys) → sum f xs ≡ sum f ys
unfolding sum mult
sum_members f [] [] h = refl
sum_members f [] (y ∷ ys) h = absurd (omega (arith, h y, mult_self y ys))
sum_members f (x ∷ xs) ys h =
    let r = split x ys (omega (arith, h x, mult_self x xs)) in
    let ls : List ℕ = r.0 in
    let bs : List ℕ = r.1 in
    let ih : sum f xs ≡ sum f (ls ++ bs) =
    sum_members f xs (ls ++ bs) (λ q. omega (arith, h q, ap (mult q) r.2, mult_append q ls (x ∷ bs), mult_append q ls bs)) in
    omega (arith, ap (sum f) r.2, sum_append f ls (x ∷ bs), sum_append f ls bs)
