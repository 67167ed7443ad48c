-- Questions with a narrower choice of candidates, and reading on past a list: definitions.
use Rattle.std.specs.Prelude.{◌≡◌, Bool, true, ◌&&◌, ℕ}
use mathlib.Core.List.{List, [], ◌∷◌, ◌++◌}
use Rattle.lists.specs.Basics.{All}
use Rattle.search_theory.specs.Nearest.{Ranking, nearest}

-- the same question with candidates narrowed to those that pass p too
abbrev pub narrowed : {A : Type 0} → Ranking A → (A → Bool) → Ranking A
narrowed r p = record { cost = r.cost; tie = r.tie; passes = λ x. r.passes x && p x }

-- past m x: row x comes after the mark m in row order
module _ {A : Type 0} (past : A → A → Bool) where
  -- the mark that a list leaves: its last row; an empty list leaves the mark p as it was
  unfoldable pub mark_last : (A → Bool) → List A → A → Bool
  mark_last p [] = p
  mark_last p (x ∷ []) = past x
  mark_last p (x ∷ y ∷ ys) = mark_last p (y ∷ ys)

  -- the lists for the numbers ks, each of rows past the last row of the one before, joined; p: the mark to begin with
  unfoldable pub read_on : Ranking A → (A → Bool) → List ℕ → List A → List A
  unfolding nearest mark_last
  read_on r p [] xs = []
  read_on r p (k ∷ ks) xs = nearest (narrowed r p) k xs ++ read_on r (mark_last p (nearest (narrowed r p) k xs)) ks xs

  -- each row is past every earlier one
  pub data Strict : List A → Type 0 where
    end : Strict []
    next : {x : A} {xs : List A} → All (λ y. past x y ≡ true) xs → Strict xs → Strict (x ∷ xs)

-- no mark
abbrev pub unmarked : {A : Type 0} → A → Bool
unmarked x = true
