-- Numbers that ascend. Assumes nothing.
use Rattle.std.proofs.Common.{◌≡◌, refl, sym, ap, ◌∙◌, subst, Bool, List, [], ◌∷◌, ◌++◌, map, append_assoc, ℕ, ◌+◌, ◌-◌, ◌≤◌, ◌<◌, arith, ltb, eqb, length, get_or, take, length-append, eq-eqb, ne_eqb, ltb-true, ltb-false}
use Rattle.lists.specs.Basics.{if, concat_map, concat_map_append}
use Rattle.lists.specs.Ascending.{Ascending, one, head_or, last_or, last_append}
use Rattle.lists.specs.AscendingLaws.{head_no, last_no, asc_append, asc_cross}
use Rattle.lists.specs.ConcatMapLaws.{map_append}
use Rattle.lists.specs.Tests.{by_cases}
use Rattle.sound_faults.specs.Prefixes.{take_more, take_next}
use Rattle.sound_keys.specs.Judged.{AscendingSpan}

-- ---- NUMBERS THAT ASCEND

pub ascending_start : AscendingSpan [] 0 0
unfolding head_or
ascending_start = record { ascends = Ascending.none; first = refl; last = λ h. absurd (omega arith); empty = λ h. refl }

-- the first number is the next one, where there was none before
ascending_first : (xs : List ℕ) (f n x g : ℕ) → AscendingSpan xs f n → g ≡ if (eqb n 0) x f → g ≡ head_no (xs ++ (x ∷ []))
unfolding head_or
ascending_first [] f n x g r e = e ∙ ap (λ (t : Bool). if t x f) (eq-eqb n 0 (r.empty refl))
ascending_first (y ∷ ys) f n x g r e = e ∙ ap (λ (t : Bool). if t x f) (ne_eqb n 0 (λ z. absurd (omega (arith, z, r.last (omega arith))))) ∙ r.first

pub ascending_step : (xs : List ℕ) (f n x g : ℕ) → AscendingSpan xs f n → n ≤ x → g ≡ if (eqb n 0) x f → AscendingSpan (xs ++ (x ∷ [])) g (x + 1)
unfolding head_or last_or
ascending_step xs f n x g r h e =
    record {
      ascends = asc_append xs (x ∷ []) r.ascends one (λ a b. omega (arith, r.last a));
      first = ascending_first xs f n x g r e;
      last = λ l. omega (arith, last_append 0 xs (x ∷ []));
      empty = λ l. absurd (omega (arith, length-append xs (x ∷ [])));
    }

-- past the first item neither the number of items nor the number after the last is 0
pub later_items : (i x : ℕ) → eqb (i + 1) 0 ≡ eqb (x + 1) 0
later_items i x = ne_eqb (i + 1) 0 (λ z. absurd (omega (arith, z))) ∙ sym (ne_eqb (x + 1) 0 (λ z. absurd (omega (arith, z))))

-- a number below n ends it
pub ascending_stop : (xs : List ℕ) (f n x : ℕ) (ys : List ℕ) → AscendingSpan xs f n → x < n → ¬ Ascending (xs ++ (x ∷ ys))
unfolding head_or
ascending_stop xs f n x ys r h a =
    by_cases (ltb 0 (length xs))
    (λ e. let l : 0 < length xs = ltb-true 0 (length xs) e in omega (arith, asc_cross xs (x ∷ ys) l (omega arith) a, r.last l))
    (λ e. omega (arith, r.empty (omega (arith, ltb-false 0 (length xs) e))))

-- the last one
pub ascending_last : (xs : List ℕ) (f n : ℕ) → AscendingSpan xs f n → n - 1 ≡ last_no xs
unfolding last_or
ascending_last [] f n r = omega (arith, r.empty refl)
ascending_last (x ∷ xs) f n r = omega (arith, r.last (omega arith))

-- the same of numbers f x of the elements x of a list
module _ {A : Type 0} (f : A → ℕ) (d : A) (xs : List A) where
  pub ranks_step : (i k n x g : ℕ) → i < length xs → x ≡ f (get_or xs i d) → AscendingSpan (map f (take i xs)) k n → n ≤ x → g ≡ if (eqb n 0) x k
      → AscendingSpan (map f (take (i + 1) xs)) g (x + 1)
  ranks_step i k n x g h e r l w =
      rw (take_more d xs i h, map_append f (take i xs) (get_or xs i d ∷ []))
      (subst (λ (y : ℕ). AscendingSpan (map f (take i xs) ++ (y ∷ [])) g (x + 1)) e (ascending_step (map f (take i xs)) k n x g r l w))

  pub ranks_stop : (i k n m x : ℕ) → i < m → m ≤ length xs → x ≡ f (get_or xs i d) → AscendingSpan (map f (take i xs)) k n → x < n → ¬ Ascending (map f (take m xs))
  ranks_stop i k n m x h g e r l a =
      let w = take_next d xs i m h g in
      ascending_stop (map f (take i xs)) k n (f (get_or xs i d)) (map f w.0) r (omega arith)
      (subst Ascending (ap (map f) w.1 ∙ map_append f (take i xs) (get_or xs i d ∷ w.0)) a)

-- and of two numbers each, x and y
module _ {A : Type 0} (f : A → List ℕ) (d : A) (xs : List A) where
  one_pair : (i x y : ℕ) → i < length xs → f (get_or xs i d) ≡ x ∷ y ∷ [] → concat_map f (take (i + 1) xs) ≡ (concat_map f (take i xs) ++ (x ∷ [])) ++ (y ∷ [])
  unfolding concat_map
  one_pair i x y h e =
      ap (concat_map f) (take_more d xs i h) ∙ concat_map_append f (take i xs) (get_or xs i d ∷ [])
      ∙ ap (λ (r : List ℕ). concat_map f (take i xs) ++ (r ++ [])) e ∙ sym (append_assoc (concat_map f (take i xs)) (x ∷ []) (y ∷ []))

  next_pair : (i m x y : ℕ) → i < m → m ≤ length xs → f (get_or xs i d) ≡ x ∷ y ∷ [] → (zs : List ℕ) × (concat_map f (take m xs) ≡ concat_map f (take i xs) ++ (x ∷ y ∷ zs))
  unfolding concat_map
  next_pair i m x y h g e =
      let w = take_next d xs i m h g in
      (concat_map f w.0, ap (concat_map f) w.1 ∙ concat_map_append f (take i xs) (get_or xs i d ∷ w.0) ∙ ap (λ (r : List ℕ). concat_map f (take i xs) ++ (r ++ concat_map f w.0)) e)

  pub pairs_step : (i k n x y g : ℕ) → i < length xs → f (get_or xs i d) ≡ x ∷ y ∷ [] → AscendingSpan (concat_map f (take i xs)) k n → n ≤ x → x < y → g ≡ if (eqb n 0) x k
      → AscendingSpan (concat_map f (take (i + 1) xs)) g (y + 1)
  pairs_step i k n x y g h e r l m w =
      let same : g ≡ if (eqb (x + 1) 0) y g = sym (ap (λ (t : Bool). if t y g) (ne_eqb (x + 1) 0 (λ z. absurd (omega (arith, z))))) in
      subst (λ (zs : List ℕ). AscendingSpan zs g (y + 1)) (sym (one_pair i x y h e))
      (ascending_step (concat_map f (take i xs) ++ (x ∷ [])) g (x + 1) y g (ascending_step (concat_map f (take i xs)) k n x g r l w) (omega arith) same)

  pub pairs_stop : (i k n m x y : ℕ) → i < m → m ≤ length xs → f (get_or xs i d) ≡ x ∷ y ∷ [] → AscendingSpan (concat_map f (take i xs)) k n → x < n → ¬ Ascending (concat_map f (take m xs))
  pairs_stop i k n m x y h g e r l a =
      let w = next_pair i m x y h g e in
      ascending_stop (concat_map f (take i xs)) k n x (y ∷ w.0) r l (subst Ascending w.1 a)

  pub pair_stop : (i k n m x y : ℕ) → i < m → m ≤ length xs → f (get_or xs i d) ≡ x ∷ y ∷ [] → AscendingSpan (concat_map f (take i xs)) k n → n ≤ x → y ≤ x → ¬ Ascending (concat_map f (take m xs))
  pair_stop i k n m x y h g e r l t a =
      let w = next_pair i m x y h g e in
      ascending_stop (concat_map f (take i xs) ++ (x ∷ [])) (if (eqb n 0) x k) (x + 1) y w.0 (ascending_step (concat_map f (take i xs)) k n x (if (eqb n 0) x k) r l refl) (omega arith)
      (subst Ascending (w.1 ∙ sym (append_assoc (concat_map f (take i xs)) (x ∷ []) (y ∷ w.0))) a)
