-- How many elements at the front of a list pass a test, and what is put in or taken out there.
use Rattle.std.specs.Prelude.{◌≡◌, refl, Bool, true, false, not, ℕ, zero, suc, ◌+◌, ◌≤◌, ◌<◌, length, get_or, take, drop}
use Rattle.std.proofs.Common.{sym, ◌∙◌, add-one, length-take, drop_of_length-le, drop-cons, get_or-take}
use Rattle.std.proofs.Math.Path.{ap}
use mathlib.Core.List.{List, [], ◌∷◌, ◌++◌}
use native.Mathlib.Omega.{arith}
use Rattle.lists.specs.Basics.{if}
use Rattle.lists.specs.Sorting.{insert_by}
use Rattle.lists.specs.Tests.{by_cases}

module _ {A : Type 0} (t : A → Bool) where
  unfoldable pub leading : List A → ℕ
  leading [] = 0
  leading (x ∷ xs) = if (t x) (suc (leading xs)) 0

  pub leading_le : (xs : List A) → leading xs ≤ length xs
  unfolding leading
  leading_le [] = omega arith
  leading_le (x ∷ xs) = by_cases (t x) (λ e. rw e (omega (arith, leading_le xs))) (λ e. rw e (omega arith))

  -- A loop that has passed i of the elements xs: it goes on at one that passes the test, and stops at one that does not, or at the end.
  at_next : (d : A) (xs : List A) (i : ℕ) → i < length xs → leading (drop i xs) ≡ if (t (get_or xs i d)) (suc (leading (drop (suc i) xs))) 0
  unfolding leading
  at_next d xs i h = rw (drop-cons xs i d h)

  -- the elements are the first n of some slots; c is what is counted, and j of it has been
  module _ (d : A) (slots : List A) (n c j i : ℕ) (e : c ≡ j + leading (drop i (take n slots))) where
    pub leading_step : i < n → i < length slots → t (get_or slots i d) ≡ true → c ≡ j + 1 + leading (drop (i + 1) (take n slots))
    leading_step h k p =
        let g : t (get_or (take n slots) i d) ≡ true = ap t (get_or-take n slots i d h) ∙ p in
        let f : leading (drop i (take n slots)) ≡ suc (leading (drop (suc i) (take n slots))) =
        at_next d (take n slots) i (omega (arith, length-take n slots)) ∙ rw g in
        rw (add-one i) (omega (arith, e, f))

    pub leading_stop : i < n → i < length slots → t (get_or slots i d) ≡ false → j ≡ c
    leading_stop h k p =
        let g : t (get_or (take n slots) i d) ≡ false = ap t (get_or-take n slots i d h) ∙ p in
        let f : leading (drop i (take n slots)) ≡ 0 = at_next d (take n slots) i (omega (arith, length-take n slots)) ∙ rw g in
        omega (arith, e, f)

    pub leading_end : length (take n slots) ≤ i → j ≡ c
    unfolding leading
    leading_end h =
        let f : leading (drop i (take n slots)) ≡ 0 = ap leading (drop_of_length-le (take n slots) {i = i} h) in
        omega (arith, e, f)

-- what is put into its place in an order stands behind the elements that come before it
pub ins_leading : {A : Type 0} (before : A → A → Bool) (x : A) (xs : List A)
    → take (leading (λ y. before y x) xs) xs ++ (x ∷ drop (leading (λ y. before y x) xs) xs) ≡ insert_by before x xs
unfolding leading insert_by
ins_leading before x [] = refl
ins_leading {A} before x (y ∷ ys) = by_cases (before y x) (λ e. rw e (ap (λ (l : List A). y ∷ l) (ins_leading before x ys))) (λ e. rw e)
