-- A question whose cost is known only from a least to a greatest value (02, Q-11): definitions.
-- r's cost is the greatest squared distance, so that the k-th of it is the request's G; `least` is the least one.
use Rattle.std.specs.Prelude.{Bool, ◌&&◌, List, ℕ}
use Rattle.lists.specs.Sorting.{filter, sort}
use Rattle.lists.specs.Orders.{by}
use Rattle.search_theory.specs.Nearest.{Ranking, in_set}

module _ {A : Type 0} (r : Ranking A) (least : A → ℕ) (k : ℕ) where
  -- x may be among the k nearest: it passes, and its least cost is at most the k-th greatest cost among xs, if there is a k-th
  abbrev pub may_be : List A → A → Bool
  may_be xs x = r.passes x && in_set r k xs (least x)

  -- the candidates among ys that may be, by least cost and then by the tie rule
  unfoldable pub within_reach : List A → List A → List A
  unfolding filter sort
  within_reach xs ys = sort (by least r.tie) (filter (may_be xs) ys)
