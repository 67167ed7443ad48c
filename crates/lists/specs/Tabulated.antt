-- Lists given by index, and elements written out one after the other at equal width.
use Rattle.std.specs.Prelude.{◌≡◌, get_or, set, take, drop}
use Rattle.std.proofs.Math.Path.{refl, ap}
use Rattle.std.proofs.Common.{sym, ◌∙◌, add-one, eq-or-lt_of_le, mul-suc, le_of_suc-le-suc, not-suc-le-zero, take_all, drop-cons}
use mathlib.Core.List.{List, [], ◌∷◌, ◌++◌, append_assoc, append-nil}
use Rattle.std.proofs.Math.Logic.{⊎_elim}
use Prim.Native.Nat.{ℕ, zero, suc, ◌+◌, ◌*◌, ◌≤◌, ◌<◌}
use Rattle.std.proofs.Math.Nat.{add_comm}
use native.Mathlib.Omega.{arith}
use Rattle.std.proofs.Math.ListN.{length, length-append, get_or-append}
use Rattle.std.proofs.Math.Seq.{take-suc-set, take-suc, take-append-le, drop-append-add}
use Rattle.std.proofs.lemmas.List.{get_or_at}
use Rattle.lists.specs.Basics.{concat_map, concat_map_append, tabulate, length_tabulate, All, none, also}

-- ---- a list by index

module _ {ℓ} {A : Type ℓ} where
  -- a loop that fills a list by index: a store at i takes it from i elements to i + 1
  pub tabulate_more : (f : ℕ → A) (xs : List A) (i : ℕ) (a : A) → i < length xs → take i xs ≡ tabulate i f → a ≡ f i → take (i + 1) (set xs i a) ≡ tabulate (i + 1) f
  unfolding tabulate
  tabulate_more f xs i a h e q = rw (add-one, take-suc-set xs i a h, e, q)

  -- and at n elements it is done
  pub tabulate_done : (f : ℕ → A) (n : ℕ) (xs : List A) (i : ℕ) → i ≤ n → n ≤ i → length xs ≡ n → take i xs ≡ tabulate i f → xs ≡ tabulate n f
  tabulate_done f n xs i h k e t =
      let same : i ≡ n = omega arith in
      sym (take_all n xs (omega arith)) ∙ rw same at t

  pub tabulate_ext : (n : ℕ) (f g : ℕ → A) → ((i : ℕ) → i < n → f i ≡ g i) → tabulate n f ≡ tabulate n g
  unfolding tabulate
  tabulate_ext zero f g h = refl
  tabulate_ext (suc n) f g h = rw (tabulate_ext n f g (λ i k. h i (omega arith)), h n (omega arith))

  pub get_d_tabulate : (n : ℕ) (f : ℕ → A) (i : ℕ) (d : A) → i < n → get_or (tabulate n f) i d ≡ f i
  unfolding tabulate
  get_d_tabulate zero f i d h = absurd (not-suc-le-zero h)
  get_d_tabulate (suc n) f i d h =
      ⊎_elim (λ (e : i ≡ n). rw e (get_or_at (tabulate n f) (f n) [] d n (length_tabulate n f)))
      (λ (k : i < n). get_or-append (tabulate n f) (f n ∷ []) d i (rw (length_tabulate n f) k) ∙ get_d_tabulate n f i d k)
      (eq-or-lt_of_le (le_of_suc-le-suc h))

  pub take_tabulate : (n m : ℕ) (f : ℕ → A) → n ≤ m → take n (tabulate m f) ≡ tabulate n f
  unfolding tabulate
  take_tabulate n zero f h = let z : n ≡ 0 = omega arith in rw z
  take_tabulate n (suc m) f h =
      ⊎_elim (λ (e : n ≡ suc m). rw e (take_all (suc m) (tabulate m f ++ (f m ∷ [])) (omega (arith, length-append (tabulate m f) (f m ∷ []), length_tabulate m f))))
      (λ (k : n < suc m). take-append-le n (tabulate m f) (f m ∷ []) (omega (arith, length_tabulate m f)) ∙ take_tabulate n m f (omega arith))
      (eq-or-lt_of_le h)

  -- the first m elements of a list, one by one
  pub tabulate_take : (xs : List A) (d : A) (m : ℕ) → m ≤ length xs → tabulate m (λ i. get_or xs i d) ≡ take m xs
  unfolding tabulate
  tabulate_take xs d zero h = refl
  tabulate_take xs d (suc m) h = rw (tabulate_take xs d m (omega arith), take-suc xs m d (omega arith))

module _ {A : Type 0} {P : A → Type 0} where
  pub all_last : {xs : List A} (x : A) → All P xs → P x → All P (xs ++ (x ∷ []))
  all_last x none p = also p none
  all_last x (also q t) p = also q (all_last x t p)

  pub all_take : (i : ℕ) {xs : List A} → All P xs → All P (take i xs)
  all_take zero a = none
  all_take (suc i) none = none
  all_take (suc i) (also h t) = also h (all_take i t)

  pub all_at : {xs : List A} → All P xs → (i : ℕ) (d : A) → i < length xs → P (get_or xs i d)
  all_at none i d h = absurd (not-suc-le-zero h)
  all_at (also p t) zero d h = p
  all_at (also p t) (suc i) d h = all_at t i d (le_of_suc-le-suc h)

  pub all_tabulate : (n : ℕ) (f : ℕ → A) → ((i : ℕ) → P (f i)) → All P (tabulate n f)
  unfolding tabulate
  all_tabulate zero f h = none
  all_tabulate (suc n) f h = all_last (f n) (all_tabulate n f h) (h n)

-- ---- elements at equal width

module _ {ℓ} {A : Type 0} {B : Type ℓ} (e : A → List B) (k : ℕ) (w : (x : A) → length (e x) ≡ k) where
  pub length_concat_map : (xs : List A) → length (concat_map e xs) ≡ k * length xs
  unfolding concat_map
  length_concat_map [] = omega arith
  length_concat_map (x ∷ xs) = length-append (e x) (concat_map e xs) ∙ rw (w x, length_concat_map xs) (omega arith)

  pub concat_map_drop : (m : ℕ) (xs : List A) (t : List B) → m ≤ length xs → drop (k * m) (concat_map e xs ++ t) ≡ concat_map e (drop m xs) ++ t
  unfolding concat_map
  concat_map_drop zero xs t h = let z : k * 0 ≡ 0 = omega arith in rw z
  concat_map_drop (suc m) [] t h = absurd (not-suc-le-zero h)
  concat_map_drop (suc m) (x ∷ xs) t h =
      let z : k * suc m ≡ length (e x) + k * m = rw (w x) (mul-suc k m ∙ add_comm (k * m) k) in
      rw (z, append_assoc (e x) (concat_map e xs) t, drop-append-add (e x) (concat_map e xs ++ t) (k * m)) (concat_map_drop m xs t (le_of_suc-le-suc h))

  -- what element m is written as comes first once the m before it are gone
  pub concat_map_at : (m : ℕ) (xs : List A) (t : List B) (d : A) → m < length xs
      → drop (k * m) (concat_map e xs ++ t) ≡ e (get_or xs m d) ++ (concat_map e (drop (suc m) xs) ++ t)
  unfolding concat_map
  concat_map_at m xs t d h =
      concat_map_drop m xs t (omega arith) ∙ ap (λ (l : List A). concat_map e l ++ t) (drop-cons xs m d h) ∙ append_assoc (e (get_or xs m d)) (concat_map e (drop (suc m) xs)) t

  -- one element more at the end
  pub concat_map_more : (m : ℕ) (f : ℕ → A) → concat_map e (tabulate (m + 1) f) ≡ concat_map e (tabulate m f) ++ e (f m)
  unfolding tabulate concat_map
  concat_map_more m f = rw (add-one) (concat_map_append e (tabulate m f) (f m ∷ []) ∙ ap (λ (u : List B). concat_map e (tabulate m f) ++ u) (append-nil (e (f m))))
