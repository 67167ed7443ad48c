-- Ascending lists, joined and by their ends.
use Rattle.std.specs.Prelude.{List, [], ◌∷◌, ◌++◌, ◌⊎◌, ℕ, zero, suc, ◌+◌, ◌≤◌, ◌<◌, ltb, length, get_or}
use Rattle.std.proofs.Common.{inl, inr, arith, ltb-true, ltb-false}
use Rattle.lists.specs.Ascending.{head_or, last_or, Ascending, none, one, more, asc_tail}
use Rattle.lists.specs.Tests.{by_cases}

-- the first and the last number; 0 where there is none
abbrev pub head_no : List ℕ → ℕ
head_no = head_or 0

abbrev pub last_no : List ℕ → ℕ
last_no = last_or 0

pub asc_append : (xs ys : List ℕ) → Ascending xs → Ascending ys → (0 < length xs → 0 < length ys → last_no xs < head_no ys) → Ascending (xs ++ ys)
unfolding head_or last_or
asc_append [] ys h g l = g
asc_append (x ∷ []) [] h g l = one
asc_append (x ∷ []) (y ∷ ys) h g l = more (l (omega arith) (omega arith)) g
asc_append (x ∷ y ∷ xs) ys (more m h) g l = more m (asc_append (y ∷ xs) ys h g (λ a b. l (omega arith) b))

-- the last of the first list is below the first of the second
pub asc_cross : (xs ys : List ℕ) → 0 < length xs → 0 < length ys → Ascending (xs ++ ys) → last_no xs < head_no ys
unfolding head_or last_or
asc_cross [] ys a b h = absurd (omega arith)
asc_cross (x ∷ xs) [] a b h = absurd (omega arith)
asc_cross (x ∷ []) (y ∷ ys) a b (more m h) = m
asc_cross (x ∷ z ∷ xs) (y ∷ ys) a b (more m h) = asc_cross (z ∷ xs) (y ∷ ys) (omega arith) b h

pub asc_ends : (xs : List ℕ) → 2 ≤ length xs → Ascending xs → head_no xs < last_no xs
unfolding head_or last_or
asc_ends [] l h = absurd (omega arith)
asc_ends (x ∷ []) l h = absurd (omega arith)
asc_ends (x ∷ y ∷ []) l (more m h) = m
asc_ends (x ∷ y ∷ z ∷ xs) l (more m h) =
    let ih : y < last_or y (z ∷ xs) = asc_ends (y ∷ z ∷ xs) (omega arith) h in omega arith

-- a list ascends or not
head_less : {x y : ℕ} {xs : List ℕ} → Ascending (x ∷ y ∷ xs) → x < y
head_less (more l a) = l

pub ascends? : (xs : List ℕ) → Ascending xs ⊎ (Ascending xs → ⊥)
ascends? [] = inl none
ascends? (x ∷ []) = inl one
ascends? (x ∷ y ∷ xs) =
    by_cases (ltb x y)
    (λ e. again (ltb-true x y e) (ascends? (y ∷ xs)))
    (λ e. inr (λ a. omega (arith, head_less a, ltb-false x y e)))
  where
    again : x < y → Ascending (y ∷ xs) ⊎ (Ascending (y ∷ xs) → ⊥) → Ascending (x ∷ y ∷ xs) ⊎ (Ascending (x ∷ y ∷ xs) → ⊥)
    again l (inl a) = inl (more l a)
    again l (inr n) = inr (λ a. n (asc_tail a))
