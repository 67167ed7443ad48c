-- The first and the last element of a list, and strictly ascending lists of numbers.
use Rattle.std.specs.Prelude.{◌≡◌, ℕ, ◌<◌, length}
use Rattle.std.proofs.Math.Path.{refl}
use mathlib.Core.List.{List, [], ◌∷◌, ◌++◌, map}
use Rattle.std.proofs.Common.{arith}

-- the first element, and the last; d where there is none
unfoldable pub head_or : {A : Type 0} → A → List A → A
head_or d [] = d
head_or d (x ∷ xs) = x

unfoldable pub last_or : {A : Type 0} → A → List A → A
last_or d [] = d
last_or d (x ∷ xs) = last_or x xs

-- each element is below the next
pub data Ascending : List ℕ → Type 0 where
  none : Ascending []
  one : {x : ℕ} → Ascending (x ∷ [])
  more : {x y : ℕ} {xs : List ℕ} → x < y → Ascending (y ∷ xs) → Ascending (x ∷ y ∷ xs)

module _ {A : Type 0} where
  pub head_append : (d : A) (xs ys : List A) → 0 < length xs → head_or d (xs ++ ys) ≡ head_or d xs
  unfolding head_or
  head_append d [] ys l = absurd (omega arith)
  head_append d (x ∷ xs) ys l = refl

  pub last_append : (d : A) (xs ys : List A) → last_or d (xs ++ ys) ≡ last_or (last_or d xs) ys
  unfolding last_or
  last_append d [] ys = refl
  last_append d (x ∷ xs) ys = last_append x xs ys

  -- the default is not looked at
  pub last_any : (d e : A) (xs : List A) → 0 < length xs → last_or d xs ≡ last_or e xs
  unfolding last_or
  last_any d e [] l = absurd (omega arith)
  last_any d e (x ∷ xs) l = refl

  pub last_map : {B : Type 0} (f : A → B) (d : A) (xs : List A) → last_or (f d) (map f xs) ≡ f (last_or d xs)
  unfolding last_or
  last_map f d [] = refl
  last_map f d (x ∷ xs) = last_map f x xs

pub asc_tail : {x : ℕ} {xs : List ℕ} → Ascending (x ∷ xs) → Ascending xs
asc_tail one = none
asc_tail (more l a) = a

pub asc_left : (xs ys : List ℕ) → Ascending (xs ++ ys) → Ascending xs
asc_left [] ys a = none
asc_left (x ∷ []) ys a = one
asc_left (x ∷ y ∷ xs) ys (more l a) = more l (asc_left (y ∷ xs) ys a)

pub asc_right : (xs ys : List ℕ) → Ascending (xs ++ ys) → Ascending ys
asc_right [] ys a = a
asc_right (x ∷ xs) ys a = asc_right xs ys (asc_tail a)
