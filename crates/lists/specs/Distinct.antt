-- Lists in which no element stands twice.
use Rattle.std.specs.Prelude.{refl, ◌≢◌, List, [], ◌∷◌, ℕ, zero, suc, ◌≤◌, ◌<◌, length, get_or}
use Rattle.std.proofs.Common.{sym, ◌∙◌, arith}
use Rattle.lists.specs.Basics.{All}
use Rattle.lists.specs.Tests.{three}
use Rattle.lists.specs.Counts.{mult}
use Rattle.lists.specs.Tabulated.{all_at}
use Rattle.lists.specs.Places.{all_places, somewhere, elsewhere, twice}

-- each element differs from all behind it
pub data Distinct {A : Type 0} : List A → Type 0 where
  done : Distinct []
  apart : {x : A} {xs : List A} → All (λ y. x ≢ y) xs → Distinct xs → Distinct (x ∷ xs)

-- elements at two places differ
pub distinct_places : {A : Type 0} (d : A) {xs : List A} → Distinct xs
    → (i k : ℕ) → i < length xs → k < length xs → k ≢ i → get_or xs k d ≢ get_or xs i d
distinct_places d done i k a b n e = omega arith
distinct_places d (apart h t) zero zero a b n e = n refl
distinct_places d (apart h t) zero (suc k) a b n e = all_at h k d (omega arith) (sym e)
distinct_places d (apart h t) (suc i) zero a b n e = all_at h i d (omega arith) e
distinct_places d (apart h t) (suc i) (suc k) a b n e = distinct_places d t i k (omega arith) (omega arith) (omega (arith, n)) e

pub places_distinct : {A : Type 0} (d : A) (xs : List A)
    → ((i k : ℕ) → i < length xs → k < length xs → k ≢ i → get_or xs k d ≢ get_or xs i d) → Distinct xs
places_distinct d [] h = done
places_distinct d (x ∷ xs) h =
    apart (all_places d xs (λ i l e. h (suc i) 0 (omega arith) (omega arith) (omega arith) e))
    (places_distinct d xs (λ i k a b n. h (suc i) (suc k) (omega arith) (omega arith) (omega (arith, n))))
