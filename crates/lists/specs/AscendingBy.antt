-- Lists that ascend strictly by a number of their elements: insertion, and what lies before and behind a place.
use Rattle.std.specs.Prelude.{◌≡◌, Bool, ltb}
use Rattle.std.proofs.Math.Path.{refl, ap}
use mathlib.Core.List.{List, [], ◌∷◌, ◌++◌, map}
use Prim.Native.Nat.{ℕ, suc, ◌+◌, ◌≤◌, ◌<◌}
use native.Mathlib.Omega.{arith}
use Rattle.std.proofs.Math.ListN.{length}
use borrow.Author.Tests.{ltb-true, ltb-false, lt-ltb, le-ltb}
use Rattle.lists.specs.Basics.{if, All, none, also, all_left, all_right, all_map}
use Rattle.lists.specs.Ascending.{Ascending, none, one, more}
use Rattle.lists.specs.Sorting.{insert_by}
use Rattle.lists.specs.Choices.{bool_cases}

module _ {A : Type 0} (f : A → ℕ) where
  -- each element is below all behind it
  pub data AscendingBy : List A → Type 0 where
    end : AscendingBy []
    step : {x : A} {xs : List A} → All (λ y. f x < f y) xs → AscendingBy xs → AscendingBy (x ∷ xs)

  -- in the order of f
  abbrev pub lower : A → A → Bool
  lower x y = ltb (f x) (f y)

  rise_from : (x : A) (xs : List A) → Ascending (f x ∷ map f xs) → All (λ y. f x < f y) xs
  rise_from x [] a = none
  rise_from x (y ∷ ys) (more l a) = also l (all_map (λ z (g : f y < f z). omega arith) (rise_from y ys a))

  pub rising_of : (xs : List A) → Ascending (map f xs) → AscendingBy xs
  rising_of [] a = end
  rising_of (x ∷ []) a = step none end
  rising_of (x ∷ y ∷ ys) (more l a) = step (rise_from x (y ∷ ys) (more l a)) (rising_of (y ∷ ys) a)

  pub ascending_of : {xs : List A} → AscendingBy xs → Ascending (map f xs)
  ascending_of end = none
  ascending_of (step none end) = one
  ascending_of (step (also l h) r) = more l (ascending_of r)

  pub rising_left : (xs ys : List A) → AscendingBy (xs ++ ys) → AscendingBy xs
  rising_left [] ys r = end
  rising_left (x ∷ xs) ys (step h t) = step (all_left xs ys h) (rising_left xs ys t)

  pub rising_right : (xs ys : List A) → AscendingBy (xs ++ ys) → AscendingBy ys
  rising_right [] ys r = r
  rising_right (x ∷ xs) ys (step h t) = rising_right xs ys t

  -- each element of the left part is below any of the right
  pub rising_cross : (xs ys : List A) → AscendingBy (xs ++ ys) → (y : A) → ((P : A → Type 0) → All P ys → P y) → All (λ x. f x < f y) xs
  rising_cross [] ys r y g = none
  rising_cross (x ∷ xs) ys (step h t) y g = also (g (λ z. f x < f z) (all_right xs ys h)) (rising_cross xs ys t y g)

  -- ---- insertion

  pub ins_left : (k : A) {xs : List A} (ys : List A) → All (λ x. f x < f k) xs → insert_by lower k (xs ++ ys) ≡ xs ++ insert_by lower k ys
  unfolding insert_by
  ins_left k ys none = refl
  ins_left k ys (also {x = x} h t) = rw (lt-ltb (f x) (f k) h) (ap (λ (l : List A). x ∷ l) (ins_left k ys t))

  pub ins_right : (k : A) (xs : List A) {ys : List A} → All (λ x. f k < f x) ys → insert_by lower k (xs ++ ys) ≡ insert_by lower k xs ++ ys
  unfolding insert_by
  ins_right k [] none = refl
  ins_right k [] (also {x = y} h t) = let g : f k ≤ f y = omega arith in rw (le-ltb (f y) (f k) g)
  ins_right k (x ∷ xs) {ys} h =
      bool_cases (λ c. if c (x ∷ insert_by lower k (xs ++ ys)) (k ∷ x ∷ (xs ++ ys)) ≡ if c (x ∷ insert_by lower k xs) (k ∷ x ∷ xs) ++ ys) (ltb (f x) (f k))
      (λ e. ap (λ (l : List A). x ∷ l) (ins_right k xs h)) (λ e. refl)

  pub ins_all : {P : A → Type 0} (k : A) {xs : List A} → P k → All P xs → All P (insert_by lower k xs)
  unfolding insert_by
  ins_all k p none = also p none
  ins_all {P} k p (also {x = x} {xs = xs} h t) =
      bool_cases (λ c. All P (if c (x ∷ insert_by lower k xs) (k ∷ x ∷ xs))) (ltb (f x) (f k)) (λ e. also h (ins_all k p t)) (λ e. also p (also h t))

  pub length_ins : (k : A) (xs : List A) → length (insert_by lower k xs) ≡ suc (length xs)
  unfolding insert_by
  length_ins k [] = refl
  length_ins k (x ∷ xs) =
      bool_cases (λ c. length (if c (x ∷ insert_by lower k xs) (k ∷ x ∷ xs)) ≡ suc (suc (length xs))) (ltb (f x) (f k)) (λ e. ap suc (length_ins k xs)) (λ e. refl)

  -- a number that is new keeps the list rising
  pub ins_rising : (k : A) {xs : List A} → All (λ x. f x ≡ f k → ⊥) xs → AscendingBy xs → AscendingBy (insert_by lower k xs)
  unfolding insert_by
  ins_rising k n end = step none end
  ins_rising k (also ne n) (step {x = x} {xs = xs} h t) =
      bool_cases (λ c. AscendingBy (if c (x ∷ insert_by lower k xs) (k ∷ x ∷ xs))) (ltb (f x) (f k))
      (λ e. step (ins_all k (ltb-true (f x) (f k) e) h) (ins_rising k n t))
      (λ e. let l : f k ≤ f x = ltb-false (f x) (f k) e in
      let g : f k < f x = omega (arith, ne) in
      step (also g (all_map (λ y (w : f x < f y). omega arith) h)) (step h t))

-- each number is above all behind it
pub data Descending : List ℕ → Type 0 where
  low : Descending []
  down : {x : ℕ} {xs : List ℕ} → All (λ y. y < x) xs → Descending xs → Descending (x ∷ xs)
