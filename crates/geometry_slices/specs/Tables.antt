-- How the tables of a question are filled.
use Rattle.std.specs.Prelude.{◌≡◌, List, ℕ, ◌+◌, ◌-◌, ◌≤◌, ◌<◌, ltb, eqb, length, get_or}
use Rattle.lists.specs.Basics.{if, indicator}
use Rattle.geometry.specs.Numbers.{max_features}
use Rattle.geometry_slices.specs.Questions.{reaches_from, rows_place, row_from, small_reach, near_places, Rows}

-- what is stored at place x of near for the row of axis j, from the reaches
abbrev pub row_in : List ℕ → ℕ → ℕ → ℕ → ℕ
row_in reach j x y = if (eqb (x - row_from j) j) 0 (get_or reach (x - row_from j) 0 - indicator (ltb j (x - row_from j)))

-- 0, 1, .. 15
pub record Counted (r : List ℕ) : Type 0 where
  pub long : length r ≡ max_features
  pub each : (m : ℕ) → m < max_features → get_or r m 0 ≡ m

-- the reaches of the question in a
pub record Reached (a r : List ℕ) : Type 0 where
  pub long : length r ≡ max_features
  pub each : (m : ℕ) → m < max_features → get_or r m 0 ≡ get_or a (reaches_from + m) 0

-- what rows of n places are filled from, and room for them
pub record RowRoom (reach places : List ℕ) (n : ℕ) (near : List ℕ) : Type 0 where
  pub few : n ≤ max_features
  pub reaches : length reach ≡ max_features
  pub counted : Counted places
  pub room : length near ≡ near_places

-- ys has the rows of d axes, and before them what xs has
pub record Rowed (reach : List ℕ) (d n : ℕ) (xs ys : List ℕ) : Type 0 where
  pub long : length ys ≡ length xs
  pub before : (x : ℕ) → x < rows_place → get_or ys x 0 ≡ get_or xs x 0
  pub row : (j m : ℕ) → j < d → m < n → get_or ys (row_from j + m) 0 ≡ row_in reach j (row_from j + m) 0

-- ys has the rows and the flag of the question in a, and before them what xs has
pub record RowsOver (a xs ys : List ℕ) : Type 0 where
  pub rows : Rows a ys
  pub before : (x : ℕ) → x < rows_place → get_or ys x 0 ≡ get_or xs x 0

-- n places of near from a place on, small enough to be summed without weights
pub record Squares (near : List ℕ) (at n : ℕ) : Type 0 where
  pub few : n ≤ max_features
  pub room : at + n ≤ length near
  pub small : (m : ℕ) → m < n → get_or near (at + m) 0 < small_reach
