-- A whole text (01, "The acts program"): its first line, and its lines of values one after the other.
use Rattle.std.specs.Prelude.{◌≡◌, List, [], ◌∷◌, ◌++◌, ℕ, ◌+◌, Some, None}
use Rattle.acts_text.specs.Input.{lines_of}
use Rattle.acts_step.specs.Steps.{Steps, Begins}

-- lines n, n + 1, .. of values on index b of d features: they leave index c and print t
pub data Runs (d : ℕ) : List ℕ → ℕ → List (List ℕ) → List ℕ → List ℕ → Type 0 where
  end : {b : List ℕ} {n : ℕ} → Runs d b n [] b []
  next : {b m c s t l : List ℕ} {ls : List (List ℕ)} {n : ℕ} → Steps d b n l m s → Runs d m (n + 1) ls c t → Runs d b n (l ∷ ls) c (s ++ t)

-- the first line of an input; of an empty one, an empty line
abbrev pub first_of : List (List ℕ) → List ℕ
first_of [] = []
first_of (l ∷ ls) = l

abbrev pub later_of : List (List ℕ) → List (List ℕ)
later_of [] = []
later_of (l ∷ ls) = ls

-- the input i, with an index of the bytes b: it leaves index c and prints t
pub data Prints (b i c t : List ℕ) : Type 0 where
  ends : Begins b (first_of (lines_of i)) None c t → Prints b i c t
  goes : (d : ℕ) (made s u : List ℕ) → Begins b (first_of (lines_of i)) (Some d) made s → Runs d made 2 (later_of (lines_of i)) c u → t ≡ s ++ u → Prints b i c t
