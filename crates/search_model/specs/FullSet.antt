-- What 01 calls for, which knows no stages and no dates: the nearest of all live records, by a tie rule, and the set of leaves that goes with them.
use Rattle.std.specs.Prelude.{Bool, ◌&&◌, List, [], ◌∷◌, ◌++◌, map, ℕ, suc, ltb, length}
use Rattle.lists.specs.Sorting.{count}
use Rattle.search_theory.specs.Nearest.{Ranking, nearest, in_set}
use Rattle.search_rows.specs.declared.Row.{Row}
use Rattle.pagestore.specs.Store.{View}
use Rattle.tree_model.specs.Trees.{Item, leaves_of}
use Rattle.search_model.specs.Asked.{Asked}
use Rattle.search_model.specs.Branches.{row_of}
use Rattle.search_model.specs.Visit.{Answer}
use Rattle.search_model.specs.Questions.{leaf_bound}

-- a row for each record of leaves, the first of them at position p
unfoldable pub all_rows_from : Asked → ℕ → List (Item 1) → List Row
unfolding row_of
all_rows_from q p [] = []
all_rows_from q p (t ∷ ts) = map (row_of q p) t.1 ++ all_rows_from q (suc p) ts

-- for each live record
unfoldable pub all_rows : View → Asked → List Row
unfolding all_rows_from
all_rows v q = all_rows_from q 0 (leaves_of v)

-- 01's set of leaves, rows ranked by r
unfoldable pub in_plain_set : Ranking Row → View → Asked → Item 1 → Bool
unfolding all_rows leaf_bound
in_plain_set r v q t = ltb 0 (length t.1) && in_set r q.k (all_rows v q) (leaf_bound v.d q t)

-- 01's answer, rows ranked by r
abbrev pub plain_due : Ranking Row → View → Asked → Answer
plain_due r v q = record { rows = nearest r q.k (all_rows v q); leaves = count (in_plain_set r v q) (leaves_of v) }
