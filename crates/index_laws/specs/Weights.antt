-- Q-1, channel weights: the questions that the laws of weights speak of.
use Rattle.std.specs.Prelude.{Bool, ℕ, ltb, ℤ, length, replicate}
use mathlib.Core.List.{List}
use Rattle.calendar.specs.Days.{Days}
use Rattle.tree_model.specs.Trees.{Item}
use Rattle.index_query.specs.Asking.{unweighed, weighed, Question}

-- ---- ONES

-- a point's question without weights, and with a weight of 1 for each coordinate
module _ (p : List ℤ) (k stages : ℕ) (days : Days) where
  abbrev pub unweighted : Question
  unweighted = record { point = p; weights = unweighed; k = k; stages = stages; days = days }

  abbrev pub by_ones : Question
  by_ones = record { point = p; weights = weighed (replicate (length p) 1); k = k; stages = stages; days = days }

-- ---- ZEROS

-- a leaf that holds records
abbrev pub holds_records : Item 1 → Bool
holds_records t = ltb 0 (length t.1)

-- what is asked, by weights that the laws (`zeros_read`) take to be all 0
module _ (p : List ℤ) (ws : List ℕ) (k stages : ℕ) (days : Days) where
  abbrev pub by_zeros : Question
  by_zeros = record { point = p; weights = weighed ws; k = k; stages = stages; days = days }
