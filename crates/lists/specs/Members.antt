-- Elements of a list by their places, and numbers by how often they stand in it.
use Rattle.std.specs.Prelude.{◌≡◌, refl, ◌≢◌, ◌⊎◌, List, [], ◌∷◌, ◌++◌, map, ℕ, zero, suc, ◌+◌, ◌≤◌, ◌<◌, eqb, length, get_or}
use Rattle.std.proofs.Common.{sym, ap, subst, inl, inr, arith, eqb-true, eq-eqb}
use Rattle.std.proofs.lemmas.Bool.{eqb-false}
use Rattle.lists.specs.Basics.{indicator, All, none, also, concat_map, all_left, all_right}
use Rattle.lists.specs.Counts.{mult, mult_append, mult_self, mult_not}
use Rattle.lists.specs.Tests.{by_cases, decide}

-- x is the i-th of xs, counted from 0
pub data At {A : Type 0} : List A → ℕ → A → Type 0 where
  here : {x : A} {xs : List A} → At (x ∷ xs) 0 x
  next : {x y : A} {xs : List A} {i : ℕ} → At xs i y → At (x ∷ xs) (suc i) y

-- ---- places

module _ {A : Type 0} where
  pub all_spot : {P : A → Type 0} {xs : List A} {i : ℕ} {x : A} → All P xs → At xs i x → P x
  all_spot none a = elim a [ ]
  all_spot (also h t) here = h
  all_spot (also h t) (next a) = all_spot t a

  pub spots_all : {P : A → Type 0} (xs : List A) → ((i : ℕ) (x : A) → At xs i x → P x) → All P xs
  spots_all [] f = none
  spots_all (x ∷ xs) f = also (f 0 x here) (spots_all xs (λ i y a. f (suc i) y (next a)))

  pub spot_below : {xs : List A} {i : ℕ} {x : A} → At xs i x → i < length xs
  spot_below here = omega arith
  spot_below (next {xs = xs} {i = i} a) = let ih : i < length xs = spot_below a in omega arith

  pub spot_get : {xs : List A} {i : ℕ} {x : A} (d : A) → At xs i x → get_or xs i d ≡ x
  spot_get d here = refl
  spot_get d (next a) = spot_get d a

  pub get_spot : (xs : List A) (i : ℕ) (d : A) → i < length xs → At xs i (get_or xs i d)
  get_spot [] i d h = absurd (omega arith)
  get_spot (x ∷ xs) zero d h = here
  get_spot (x ∷ xs) (suc i) d h = next (get_spot xs i d (omega arith))

  pub spot_map : {B : Type 0} (f : A → B) {xs : List A} {i : ℕ} {x : A} → At xs i x → At (map f xs) i (f x)
  spot_map f here = here
  spot_map f (next a) = next (spot_map f a)

  pub map_spot : {B : Type 0} (f : A → B) (xs : List A) {i : ℕ} {y : B} → At (map f xs) i y → (x : A) × At xs i x × (y ≡ f x)
  map_spot f [] a = elim a [ ]
  map_spot f (x ∷ xs) here = (x, here, refl)
  map_spot f (x ∷ xs) (next a) = let r = map_spot f xs a in (r.0, next r.1, r.2)

  pub all_concat_map_spot : {B : Type 0} {P : B → Type 0} (f : A → List B) {xs : List A} {i : ℕ} {x : A} → At xs i x → All P (concat_map f xs) → All P (f x)
  unfolding concat_map
  all_concat_map_spot f (here {x = x} {xs = xs}) h = all_left (f x) (concat_map f xs) h
  all_concat_map_spot f (next {x = x} {xs = xs} a) h = all_concat_map_spot f a (all_right (f x) (concat_map f xs) h)

-- ---- how often

pub mult_spot : {xs : List ℕ} {i x : ℕ} → At xs i x → 1 ≤ mult x xs
unfolding mult
mult_spot (here {x = x} {xs = xs}) = omega (arith, mult_self x xs)
mult_spot (next {x = y} {xs = xs} a) = let ih : 1 ≤ mult _ xs = mult_spot a in omega arith

-- with an equation between the two numbers, so that the cases can be told apart
mult_two_as : {xs : List ℕ} {i j x y : ℕ} → At xs i x → At xs j y → x ≡ y → i ≢ j → 2 ≤ mult x xs
unfolding mult
mult_two_as here here e h = absurd (h refl)
mult_two_as (here {x = x} {xs = xs}) (next {y = y} b) e h =
    let g : 1 ≤ mult x xs = subst (λ (z : ℕ). 1 ≤ mult z xs) (sym e) (mult_spot b) in omega (arith, mult_self x xs)
mult_two_as (next {y = y} {xs = xs} a) (here {x = x}) e h =
    let g : 1 ≤ mult y xs = mult_spot a in
    omega (arith, ap indicator (eq-eqb y x e))
mult_two_as (next {y = y} {xs = xs} a) (next b) e h =
    let ih : 2 ≤ mult y xs = mult_two_as a b e (λ (z : _ ≡ _). h (ap suc z)) in omega arith

pub mult_two : {xs : List ℕ} {i j x : ℕ} → At xs i x → At xs j x → i ≢ j → 2 ≤ mult x xs
mult_two a b h = mult_two_as a b refl h

pub mult_find : (q : ℕ) (xs : List ℕ) → 0 < mult q xs → (i : ℕ) × At xs i q
unfolding mult
mult_find q [] h = absurd (omega arith)
mult_find q (x ∷ xs) h =
    decide q x (λ e. (0, subst (λ (z : ℕ). At (x ∷ xs) 0 z) (sym e) here))
    (λ n. let r = mult_find q xs (omega (arith, mult_not q x xs n)) in (suc r.0, next r.1))

pub mult_find_two : (q : ℕ) (xs : List ℕ) → 2 ≤ mult q xs → (i : ℕ) × (j : ℕ) × At xs i q × At xs j q × (i ≢ j)
unfolding mult
mult_find_two q [] h = absurd (omega arith)
mult_find_two q (x ∷ xs) h =
    decide q x
    (λ e. let r = mult_find q xs (omega (arith, ap indicator (eq-eqb q x e))) in
    (0, suc r.0, subst (λ (z : ℕ). At (x ∷ xs) 0 z) (sym e) here, next r.1, λ z. absurd (omega arith)))
    (λ n. let r = mult_find_two q xs (omega (arith, mult_not q x xs n)) in
    (suc r.0, suc r.1, next r.2, next r.3, λ z. r.4 (omega arith)))

-- ---- joined lists

pub concat_map_in : {A : Type 0} (f : A → List ℕ) (q : ℕ) {ts : List A} {i : ℕ} {t : A} → At ts i t → 0 < mult q (f t) → 0 < mult q (concat_map f ts)
unfolding concat_map
concat_map_in f q (here {x = t} {xs = ts}) h = omega (arith, mult_append q (f t) (concat_map f ts))
concat_map_in f q (next {x = t} {xs = ts} a) h =
    let ih : 0 < mult q (concat_map f ts) = concat_map_in f q a h in omega (arith, mult_append q (f t) (concat_map f ts))

pub concat_map_find : {A : Type 0} (f : A → List ℕ) (q : ℕ) (ts : List A) → 0 < mult q (concat_map f ts) → (i : ℕ) × (t : A) × At ts i t × (0 < mult q (f t))
unfolding mult concat_map
concat_map_find f q [] h = absurd (omega arith)
concat_map_find f q (t ∷ ts) h =
    decide (mult q (f t)) 0
    (λ e. let r = concat_map_find f q ts (omega (arith, mult_append q (f t) (concat_map f ts))) in (suc r.0, r.1, next r.2, r.3))
    (λ n. (0, t, here, omega (arith, n)))
