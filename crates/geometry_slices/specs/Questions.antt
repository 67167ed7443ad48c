-- A question as the code holds it: a list of numbers for each part, coordinates as they are stored.
use Rattle.std.specs.Prelude.{◌≡◌, List, [], ◌∷◌, ℕ, zero, suc, max, ◌+◌, ◌*◌, ◌-◌, ◌≤◌, ◌<◌, leb, ltb, eqb, length, get_or, take, drop}
use Rattle.lists.specs.Basics.{if, indicator}
use Rattle.geometry.specs.Numbers.{max_features, max_coordinate}
use Rattle.geometry.specs.Features.{Feature}
use Rattle.geometry.specs.Slices.{Nearest, lowest_of, least_in}
use Rattle.geometry.specs.Stored.{coord_of}

-- the question that stored ranges and their weights stand for
unfoldable pub features_of : List ℕ → List ℕ → List ℕ → List Feature
features_of [] hs ws = []
features_of (l ∷ ls) [] ws = []
features_of (l ∷ ls) (h ∷ hs) [] = []
features_of (l ∷ ls) (h ∷ hs) (w ∷ ws) = record { low = coord_of l; high = coord_of h; weight = w } ∷ features_of ls hs ws

-- `reach_of` of each coordinate, from the stored numbers
abbrev pub reach_at : ℕ → ℕ → ℕ
reach_at l h = suc (max (l - max_coordinate) (max_coordinate - h))

unfoldable pub reaches_of : List ℕ → List ℕ → List ℕ
reaches_of [] hs = []
reaches_of (l ∷ ls) [] = []
reaches_of (l ∷ ls) (h ∷ hs) = reach_at l h ∷ reaches_of ls hs

-- what is lent for a question: at most `max_features` ranges with their weights, and their reaches, computed once
pub record Prepared (low high weight reach : List ℕ) : Type 0 where
  pub few : length low ≤ max_features
  pub highs : length high ≡ length low
  pub weights : length weight ≡ length low
  pub alike : length reach ≡ length low
  pub reaches : reach ≡ reaches_of low high

-- a question as one list: low ends from place 0 on, high ends, weights and reaches from the places named here; the last part ends the list
abbrev pub highs_from : ℕ
highs_from = max_features

abbrev pub weights_from : ℕ
weights_from = 2 * max_features

abbrev pub reaches_from : ℕ
reaches_from = 3 * max_features

abbrev pub asked_places : ℕ
asked_places = 4 * max_features

abbrev pub size_of : List ℕ → ℕ
size_of a = length a - reaches_from

abbrev pub part_from : ℕ → List ℕ → List ℕ
part_from s a = take (size_of a) (drop s a)

unfoldable pub asked_of : List ℕ → List Feature
asked_of a = features_of (part_from 0 a) (part_from highs_from a) (part_from weights_from a)

pub record Packed (a : List ℕ) : Type 0 where
  pub whole : length a ≡ reaches_from + size_of a
  pub parts : Prepared (part_from 0 a) (part_from highs_from a) (part_from weights_from a) (part_from reaches_from a)

-- r holds the question of these ranges and weights: its list is lent up to the last reach
pub record LaidOut (low high weight r : List ℕ) : Type 0 where
  pub places : length r ≡ asked_places
  pub packed : Packed (take (reaches_from + length low) r)
  pub same : asked_of (take (reaches_from + length low) r) ≡ features_of low high weight

-- a coordinate without weight: it is 1. A reach below 2,048 (those of coordinates in range are at most 1,001) lets sums fit narrower words
abbrev pub small_reach : ℕ
small_reach = 2048

abbrev pub NoWeight : ℕ → ℕ → Type 0
NoWeight weight reach = (weight ≡ 1) × (reach < small_reach)

-- the first n coordinates of a question, or all, are so
abbrev pub UnweightedTo : List ℕ → ℕ → Type 0
UnweightedTo a n = (m : ℕ) → m < n → NoWeight (get_or a (weights_from + m) 0) (get_or a (reaches_from + m) 0)

abbrev pub Unweighted : List ℕ → Type 0
Unweighted a = UnweightedTo a (size_of a)

-- the places of the table of whole pyramids
abbrev pub whole_places : ℕ
whole_places = 2 * max_features

-- f 0 + .. + f (n - 1)
unfoldable pub sum_to : ℕ → (ℕ → ℕ) → ℕ
sum_to zero f = 0
sum_to (suc n) f = sum_to n f + f n

-- what coordinate m has to come down from beside axis j: magnitudes before the axis stay below the height; nothing on the axis, and past
-- the last
unfoldable pub row_at : List ℕ → ℕ → ℕ → ℕ
row_at a j m = if (eqb m j) 0 (get_or a (reaches_from + m) 0 - indicator (ltb j m))

-- where the rows stand in near, after the heights, where that of axis j does, and how many of its places are summed
abbrev pub rows_place : ℕ
rows_place = 2 * max_features

abbrev pub row_from : ℕ → ℕ
row_from j = rows_place + max_features * j

abbrev pub width_of : ℕ → ℕ
width_of d = if (leb d 1) 0 (if (leb d 4) 4 (if (leb d 8) 8 max_features))

-- behind the rows near has a flag: 1 says that the question is unweighted, another number nothing; so many places near has
abbrev pub unweighted_place : ℕ
unweighted_place = rows_place + max_features * max_features

abbrev pub near_places : ℕ
near_places = unweighted_place + 1

-- what place m of a row that stands at a place of near costs at height h
abbrev pub row_cost : List ℕ → List ℕ → ℕ → ℕ → ℕ → ℕ
row_cost a near at h m = get_or a (weights_from + m) 0 * ((get_or near (at + m) 0 - h) * (get_or near (at + m) 0 - h))

-- and without a weight
abbrev pub row_square : List ℕ → ℕ → ℕ → ℕ → ℕ
row_square near at h m = (get_or near (at + m) 0 - h) * (get_or near (at + m) 0 - h)

-- ys is xs with g of each place and of what was there stored in n places, from a place on
pub record Filled (g : ℕ → ℕ → ℕ) (at n : ℕ) (xs ys : List ℕ) : Type 0 where
  pub long : length ys ≡ length xs
  pub inside : (x : ℕ) → at ≤ x → x < at + n → get_or ys x 0 ≡ g x (get_or xs x 0)
  pub before : (x : ℕ) → x < at → get_or ys x 0 ≡ get_or xs x 0
  pub after : (x : ℕ) → at + n ≤ x → get_or ys x 0 ≡ get_or xs x 0

-- a question, and in near the row of each axis and the flag
pub record Rows (a near : List ℕ) : Type 0 where
  pub packed : Packed a
  pub places : length near ≡ near_places
  pub row : (j m : ℕ) → j < size_of a → m < width_of (size_of a) → get_or near (row_from j + m) 0 ≡ row_at a j m
  pub unweighted : get_or near unweighted_place 0 ≡ 1 → Unweighted a

-- and, from place 0 of near on, the nearest height of each of its pyramids
pub record Heights (a near : List ℕ) : Type 0 where
  pub rows : Rows a near
  pub nearest : Nearest (asked_of a) near

-- the least distance to each whole pyramid
abbrev pub Wholes : List ℕ → List ℕ → Type 0
Wholes a whole = (i : ℕ) → i < size_of a + size_of a → get_or whole i 0 ≡ least_in (asked_of a) i (lowest_of (length (asked_of a)) i) max_coordinate
