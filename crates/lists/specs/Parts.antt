-- Parts of a list: its first and last elements, one element or two neighbours replaced, and what is joined from them.
use Rattle.std.specs.Prelude.{◌≡◌, refl, ℕ, zero, suc, ◌+◌, ◌<◌, length, take, get_or, set}
use Rattle.std.proofs.Math.Path.{ap}
use Rattle.std.proofs.Common.{◌∙◌, arith, length-append, length-take, length-drop, drop-cons}
use mathlib.Core.List.{List, [], ◌∷◌, ◌++◌, map}
use Rattle.std.proofs.Math.ListN.{drop}
use Rattle.std.proofs.Math.Seq.{split_at}
use Rattle.std.proofs.lemmas.List.{set_split}
use Rattle.lists.specs.Basics.{All, none, also, concat_map, concat_map_append, all_append}
use Rattle.lists.specs.Ascending.{head_or, last_or}
use Rattle.lists.specs.Tabulated.{all_take}

module _ {A : Type 0} {P : A → Type 0} where
  pub all_drop : (i : ℕ) {xs : List A} → All P xs → All P (drop i xs)
  all_drop zero a = a
  all_drop (suc i) none = none
  all_drop (suc i) (also h t) = all_drop i t

  pub all_set : (i : ℕ) {xs : List A} (x : A) → P x → All P xs → All P (set xs i x)
  all_set i x p none = none
  all_set zero x p (also h t) = also p t
  all_set (suc i) x p (also h t) = also h (all_set i x p t)

  pub head_of : (d : A) {xs : List A} → 0 < length xs → All P xs → P (head_or d xs)
  unfolding head_or
  head_of d l none = absurd (omega arith)
  head_of d l (also h t) = h

  pub last_of : (d : A) {xs : List A} → 0 < length xs → All P xs → P (last_or d xs)
  unfolding last_or
  last_of d l none = absurd (omega arith)
  last_of d l (also h none) = h
  last_of d l (also {x = x} h (also g t)) = last_of x (omega arith) (also g t)

  -- the element at i replaced by ys
  pub all_replaced : (i : ℕ) {ys xs : List A} → All P ys → All P xs → All P (take i xs ++ (ys ++ drop (suc i) xs))
  all_replaced i g h = all_append (all_take i h) (all_append g (all_drop (suc i) h))

pub length_replaced : {A : Type 0} (i : ℕ) (ys xs : List A) → i < length xs → length (take i xs ++ (ys ++ drop (suc i) xs)) + 1 ≡ length xs + length ys
length_replaced i ys xs h =
    omega (arith, length-append (take i xs) (ys ++ drop (suc i) xs), length-append ys (drop (suc i) xs), length-take i xs, length-drop (suc i) xs)

module _ {A B : Type 0} (f : A → B) where
  pub map_take : (n : ℕ) (xs : List A) → take n (map f xs) ≡ map f (take n xs)
  map_take zero xs = refl
  map_take (suc n) [] = refl
  map_take (suc n) (x ∷ xs) = ap (λ (z : List B). f x ∷ z) (map_take n xs)

  pub map_drop : (n : ℕ) (xs : List A) → drop n (map f xs) ≡ map f (drop n xs)
  map_drop zero xs = refl
  map_drop (suc n) [] = refl
  map_drop (suc n) (x ∷ xs) = map_drop n xs

  pub map_set : (ts : List A) (i : ℕ) (x : A) → set (map f ts) i (f x) ≡ map f (set ts i x)
  map_set [] i x = refl
  map_set (t ∷ ts) zero x = refl
  map_set (t ∷ ts) (suc i) x = ap (λ (z : List B). f t ∷ z) (map_set ts i x)

module _ {A B : Type 0} (f : A → List B) where
  pub concat_map_three : (xs ys zs : List A) → concat_map f (xs ++ (ys ++ zs)) ≡ concat_map f xs ++ (concat_map f ys ++ concat_map f zs)
  concat_map_three xs ys zs = concat_map_append f xs (ys ++ zs) ∙ ap (λ (z : List B). concat_map f xs ++ z) (concat_map_append f ys zs)

  pub concat_map_split : (ts : List A) (i : ℕ) (d : A) → i < length ts → concat_map f ts ≡ concat_map f (take i ts) ++ (f (get_or ts i d) ++ concat_map f (drop (suc i) ts))
  unfolding concat_map
  concat_map_split ts i d h = ap (concat_map f) (split_at ts i d h) ∙ concat_map_append f (take i ts) (get_or ts i d ∷ drop (suc i) ts)

  pub concat_map_set : (ts : List A) (i : ℕ) (x : A) → i < length ts → concat_map f (set ts i x) ≡ concat_map f (take i ts) ++ (f x ++ concat_map f (drop (suc i) ts))
  unfolding concat_map
  concat_map_set ts i x h = ap (concat_map f) (set_split ts i x h) ∙ concat_map_append f (take i ts) (x ∷ drop (suc i) ts)

  -- two neighbours
  pub concat_map_pair : (ts : List A) (j : ℕ) (d : A) → suc j < length ts
      → concat_map f ts ≡ concat_map f (take j ts) ++ (f (get_or ts j d) ++ (f (get_or ts (suc j) d) ++ concat_map f (drop (suc (suc j)) ts)))
  unfolding concat_map
  concat_map_pair ts j d h =
      concat_map_split ts j d (omega arith)
      ∙ ap (λ (z : List A). concat_map f (take j ts) ++ (f (get_or ts j d) ++ concat_map f z)) (drop-cons ts (suc j) d h)
