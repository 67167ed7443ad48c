-- Laws of joined lists, of what holds of each element, and of sums.
use Rattle.std.specs.Prelude.{◌≡◌, Bool, ◌&&◌, ℕ, zero, suc, ◌+◌, ◌≤◌, ◌<◌, length, get_or, take}
use Rattle.std.proofs.Math.Path.{refl, ap₂}
use Rattle.std.proofs.Common.{ap}
use mathlib.Core.List.{List, [], ◌∷◌, ◌++◌, map}
use native.Mathlib.Omega.{arith}
use Rattle.std.proofs.Math.ListN.{length-append}
use Rattle.lists.specs.Basics.{All, none, also, concat_map, range_from, all_append}
use Rattle.lists.specs.Sorting.{filter, count, sum, insert_by, insert_all, sort}
use Rattle.lists.specs.SortingLaws.{count_append}
use Rattle.lists.specs.Tests.{by_cases}

module _ {A : Type 0} where
  pub all_both : {P Q : A → Type 0} {xs : List A} → All P xs → All Q xs → All (λ x. P x × Q x) xs
  all_both none none = none
  all_both (also h t) (also g u) = also (h, g) (all_both t u)

  pub all_every : {P : A → Type 0} → ((x : A) → P x) → (xs : List A) → All P xs
  all_every h [] = none
  all_every h (x ∷ xs) = also (h x) (all_every h xs)

  pub all_mapped : {B : Type 0} {P : B → Type 0} (f : A → B) (xs : List A) → All (λ x. P (f x)) xs → All P (map f xs)
  all_mapped f [] none = none
  all_mapped f (x ∷ xs) (also h a) = also h (all_mapped f xs a)

  pub map_append : {B : Type 0} (f : A → B) (xs ys : List A) → map f (xs ++ ys) ≡ map f xs ++ map f ys
  map_append f [] ys = refl
  map_append {B = B} f (x ∷ xs) ys = ap (λ (r : List B). f x ∷ r) (map_append f xs ys)

  pub sum_append : (f : A → ℕ) (xs ys : List A) → sum f (xs ++ ys) ≡ sum f xs + sum f ys
  unfolding sum
  sum_append f [] ys = omega arith
  sum_append f (x ∷ xs) ys = let h = sum_append f xs ys in omega arith

  pub sum_same : {f g : A → ℕ} (xs : List A) → All (λ x. f x ≡ g x) xs → sum f xs ≡ sum g xs
  unfolding sum
  sum_same [] none = refl
  sum_same (x ∷ xs) (also h a) = ap₂ (λ (u v : ℕ). u + v) h (sum_same xs a)

  pub sum_ins : (before : A → A → Bool) (f : A → ℕ) (x : A) (s : List A) → sum f (insert_by before x s) ≡ f x + sum f s
  unfolding sum insert_by
  sum_ins before f x [] = refl
  sum_ins before f x (y ∷ ys) = by_cases (before y x) (λ e. rw e (let h = sum_ins before f x ys in omega arith)) (λ e. rw e)

  pub sum_ins_all : (before : A → A → Bool) (f : A → ℕ) (xs s : List A) → sum f (insert_all before xs s) ≡ sum f xs + sum f s
  unfolding sum insert_all
  sum_ins_all before f [] s = omega arith
  sum_ins_all before f (x ∷ xs) s = let h = sum_ins_all before f xs (insert_by before x s) in let g = sum_ins before f x s in omega arith

  pub sum_sort : (before : A → A → Bool) (f : A → ℕ) (xs : List A) → sum f (sort before xs) ≡ sum f xs
  unfolding sum sort
  sum_sort before f [] = refl
  sum_sort before f (x ∷ xs) = let h = sum_sort before f xs in let g = sum_ins before f x (sort before xs) in omega arith

module _ {A B : Type 0} where
  pub all_concat_map : {P : B → Type 0} (f : A → List B) (xs : List A) → All (λ x. All P (f x)) xs → All P (concat_map f xs)
  unfolding concat_map
  all_concat_map f [] none = none
  all_concat_map f (x ∷ xs) (also h a) = all_append h (all_concat_map f xs a)

  pub concat_map_same : {f g : A → List B} (xs : List A) → All (λ x. f x ≡ g x) xs → concat_map f xs ≡ concat_map g xs
  unfolding concat_map
  concat_map_same [] none = refl
  concat_map_same (x ∷ xs) (also h a) = ap₂ (λ (u v : List B). u ++ v) h (concat_map_same xs a)

  pub length_concat_map : (f : A → List B) (xs : List A) → length (concat_map f xs) ≡ sum (λ x. length (f x)) xs
  unfolding concat_map sum
  length_concat_map f [] = refl
  length_concat_map f (x ∷ xs) = let h = length_concat_map f xs in let g = length-append (f x) (concat_map f xs) in omega arith

  pub count_concat_map : (p : B → Bool) (f : A → List B) (xs : List A) → count p (concat_map f xs) ≡ sum (λ x. count p (f x)) xs
  unfolding concat_map count sum
  count_concat_map p f [] = refl
  count_concat_map p f (x ∷ xs) = let h = count_concat_map p f xs in let g = count_append p (f x) (concat_map f xs) in omega arith

pub count_filter : {A : Type 0} (p q : A → Bool) (xs : List A) → count p (filter q xs) ≡ count (λ x. q x && p x) xs
unfolding count filter
count_filter p q [] = refl
count_filter p q (x ∷ xs) = let h = count_filter p q xs in by_cases (q x) (λ e. simp e (omega arith)) (λ e. simp e (omega arith))

-- lists that hold something, joined
pub concat_map_some : {A B : Type 0} (f : A → List B) (xs : List A) → 0 < length xs → All (λ x. 0 < length (f x)) xs → 0 < length (concat_map f xs)
unfolding concat_map
concat_map_some f [] g a = absurd (omega arith)
concat_map_some f (x ∷ xs) g (also p a) = rw (length-append (f x) (concat_map f xs)) (omega arith)
