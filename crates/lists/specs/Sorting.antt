-- Lists in the order of a test: elements that pass and how many, sums, insertion, sorting, the first k.
use Rattle.std.specs.Prelude.{◌≡◌, Bool, true, false, ℕ, ◌+◌}
use mathlib.Core.List.{List, [], ◌∷◌}
use Rattle.std.proofs.Math.ListN.{take}
use Rattle.lists.specs.Basics.{if, indicator, All}

-- the elements that pass, in their order
unfoldable pub filter : {A : Type 0} → (A → Bool) → List A → List A
filter p [] = []
filter p (x ∷ xs) = if (p x) (x ∷ filter p xs) (filter p xs)

-- how many elements pass
unfoldable pub count : {A : Type 0} → (A → Bool) → List A → ℕ
count p [] = 0
count p (x ∷ xs) = indicator (p x) + count p xs

-- the sum of f over the elements
unfoldable pub sum : {A : Type 0} → (A → ℕ) → List A → ℕ
sum f [] = 0
sum f (x ∷ xs) = f x + sum f xs

-- `before` is a strict total order
pub record Order {A : Type 0} (before : A → A → Bool) : Type 0 where
  pub asym : (a b : A) → before a b ≡ true → before b a ≡ false
  -- if a is not before b, then b is before all that a is before
  pub through : (a b c : A) → before a b ≡ false → before a c ≡ true → before b c ≡ true
  pub same : (a b : A) → before a b ≡ false → before b a ≡ false → a ≡ b

module _ {A : Type 0} (before : A → A → Bool) where
  -- x put in behind the elements that are before it
  unfoldable pub insert_by : A → List A → List A
  insert_by x [] = x ∷ []
  insert_by x (y ∷ ys) = if (before y x) (y ∷ insert_by x ys) (x ∷ y ∷ ys)

  -- the elements in order; for a strict total order the list that stands for what occurs how often
  unfoldable pub sort : List A → List A
  unfolding insert_by
  sort [] = []
  sort (x ∷ xs) = insert_by x (sort xs)

  -- each of xs put in, first to last
  unfoldable pub insert_all : List A → List A → List A
  unfolding insert_by
  insert_all [] s = s
  insert_all (x ∷ xs) s = insert_all xs (insert_by x s)

  -- x put in, and the first k kept
  unfoldable pub offer : ℕ → A → List A → List A
  unfolding insert_by
  offer k x s = take k (insert_by x s)

  -- each of xs offered, first to last
  unfoldable pub offer_all : ℕ → List A → List A → List A
  unfolding offer
  offer_all k [] s = s
  offer_all k (x ∷ xs) s = offer_all k xs (offer k x s)

  -- no element is before an earlier one
  pub data Sorted : List A → Type 0 where
    end : Sorted []
    next : {x : A} {xs : List A} → All (λ y. before y x ≡ false) xs → Sorted xs → Sorted (x ∷ xs)
