-- Choices by a test, and lists: what holds of each element, joined lists, counting up.
use Rattle.std.specs.Prelude.{◌≡◌, refl, Bool, true, false, List, [], ◌∷◌, ◌++◌, ℕ, zero, suc, ◌+◌, ◌<◌, length, get_or, set}
use Rattle.std.proofs.Common.{ap, append_assoc, arith, length-append, get_or-set_same, get_or-set_other}
use Rattle.std.proofs.Math.Decide.{ℕ_discrete}

-- the first of two values if the test holds, else the second
abbrev pub if {ℓ} : {A : Type ℓ} → Bool → A → A → A
if true a b = a
if false a b = b

-- 1 if the test holds, else 0
abbrev pub indicator : Bool → ℕ
indicator true = 1
indicator false = 0

-- P holds of each element
pub data All {A : Type 0} (P : A → Type 0) : List A → Type 0 where
  none : All P []
  also : {x : A} {xs : List A} → P x → All P xs → All P (x ∷ xs)

-- the lists f x, joined
unfoldable pub concat_map {ℓ} : {A : Type 0} {B : Type ℓ} → (A → List B) → List A → List B
concat_map f [] = []
concat_map f (x ∷ xs) = f x ++ concat_map f xs

-- f at 0, 1, .. up to n - 1
unfoldable pub tabulate {ℓ} : {A : Type ℓ} → ℕ → (ℕ → A) → List A
tabulate zero f = []
tabulate (suc n) f = tabulate n f ++ (f n ∷ [])

-- a, a + 1, .. : n of them
unfoldable pub range_from : ℕ → ℕ → List ℕ
range_from a zero = []
range_from a (suc n) = a ∷ range_from (suc a) n

module _ {A : Type 0} {P : A → Type 0} where
  pub all_head : {x : A} {xs : List A} → All P (x ∷ xs) → P x
  all_head (also h t) = h

  pub all_tail : {x : A} {xs : List A} → All P (x ∷ xs) → All P xs
  all_tail (also h t) = t

  pub all_append : {xs ys : List A} → All P xs → All P ys → All P (xs ++ ys)
  all_append none g = g
  all_append (also h t) g = also h (all_append t g)

  pub all_left : (xs ys : List A) → All P (xs ++ ys) → All P xs
  all_left [] ys g = none
  all_left (x ∷ xs) ys (also h t) = also h (all_left xs ys t)

  pub all_right : (xs ys : List A) → All P (xs ++ ys) → All P ys
  all_right [] ys g = g
  all_right (x ∷ xs) ys (also h t) = all_right xs ys t

pub all_map : {A : Type 0} {P Q : A → Type 0} → ((x : A) → P x → Q x) → {xs : List A} → All P xs → All Q xs
all_map f none = none
all_map f (also h t) = also (f _ h) (all_map f t)

pub concat_map_append {ℓ} : {A : Type 0} {B : Type ℓ} (f : A → List B) (xs ys : List A) → concat_map f (xs ++ ys) ≡ concat_map f xs ++ concat_map f ys
unfolding concat_map
concat_map_append f [] ys = refl
concat_map_append f (x ∷ xs) ys = rw (concat_map_append f xs ys, append_assoc)

pub length_tabulate {ℓ} : {A : Type ℓ} (n : ℕ) (f : ℕ → A) → length (tabulate n f) ≡ n
unfolding tabulate
length_tabulate zero f = refl
length_tabulate (suc n) f = omega (arith, length-append (tabulate n f) (f n ∷ []), length_tabulate n f)

pub length_range_from : (a n : ℕ) → length (range_from a n) ≡ n
unfolding range_from
length_range_from a zero = refl
length_range_from a (suc n) = ap suc (length_range_from (suc a) n)

-- what holds of each element below i, and of the one stored at i, holds below i + 1
pub below_stored {ℓ} : {A : Type ℓ} (P : ℕ → A → Type 0) (l : List A) (i : ℕ) (v d : A) → i < length l → ((k : ℕ) → k < i → P k (get_or l k d)) → P i v → (k : ℕ) → k < i + 1 → P k (get_or (set l i v) k d)
below_stored P l i v d h f p k lt = by (ℕ_discrete k i)
  where
    by : Dec (k ≡ i) → P k (get_or (set l i v) k d)
    by (yes e) = rw (e, get_or-set_same l i v d h) p
    by (no n) = rw (get_or-set_other l i k v d n) (f k (omega arith))
