-- The nearest heights of all pyramids at once: what stands in the lanes, one for each pyramid, and what a turn of the bisection does to
-- them.
use Rattle.std.specs.Prelude.{◌≡◌, Bool, List, ℕ, ◌+◌, ◌*◌, ◌-◌, ◌/◌, ◌≤◌, ◌<◌, leb, ltb, eqb, length, get_or}
use Rattle.lists.specs.Basics.{if}
use Rattle.geometry.specs.Numbers.{max_features, max_coordinate, max_weight}
use Rattle.geometry.specs.Features.{Ordered, Asks}
use Rattle.geometry.specs.Slices.{axis_no}
use Rattle.geometry_slices.specs.Questions.{highs_from, weights_from, size_of, asked_of, Packed, sum_to, row_at, Filled}

-- what coordinate m has to come down from in pyramid i, on its axis too, and what its square falls by from height 0 to 1
unfoldable pub own_from : List ℕ → ℕ → ℕ → ℕ
own_from a i m = if (ltb i (size_of a)) (max_coordinate - get_or a (highs_from + m) 0) (get_or a m 0 - max_coordinate)

unfoldable pub from_at : List ℕ → ℕ → ℕ → ℕ
from_at a i m = if (eqb m (axis_no (size_of a) i)) (own_from a i m) (row_at a (axis_no (size_of a) i) m)

abbrev pub odd_of : ℕ → ℕ
odd_of x = 2 * x - 1

-- twice the far end of the axis, towards the pyramid, as it is stored
unfoldable pub end_at : List ℕ → ℕ → ℕ
end_at a i = if (ltb i (size_of a)) (4 * max_coordinate - 2 * get_or a (axis_no (size_of a) i) 0) (2 * get_or a (highs_from + axis_no (size_of a) i) 0)

-- a question as the lanes need it
pub record Bounded (a : List ℕ) : Type 0 where
  pub packed : Packed a
  pub asks : Asks max_weight (asked_of a)
  pub ordered : Ordered (asked_of a)

-- a table of the lanes has a row of so many places for each coordinate
abbrev pub max_lanes : ℕ
max_lanes = 2 * max_features

abbrev pub table_places : ℕ
table_places = max_lanes * max_features

-- the tables of the lanes: for coordinate m, in its row, what falls in each pyramid, and the weight; for each pyramid its axis, the axis'
-- weight and its end
pub record Axes (d n : ℕ) (axes : List ℕ) : Type 0 where
  pub long : length axes ≡ max_lanes
  pub each : (i : ℕ) → i < n → get_or axes i 0 ≡ axis_no d i

-- what the rows of the lanes are filled from
pub record Aligned (a axes : List ℕ) (n : ℕ) : Type 0 where
  pub asked : Bounded a
  pub lined : Axes (size_of a) n axes
  pub few : n ≤ max_lanes
  pub cover : size_of a + size_of a ≤ n

pub record Falls (a falls : List ℕ) (m : ℕ) : Type 0 where
  pub long : length falls ≡ table_places
  pub small : (x : ℕ) → get_or falls x 0 ≤ 2001
  pub each : (k i : ℕ) → k < m → i < size_of a + size_of a → get_or falls (i + max_lanes * k) 0 ≡ odd_of (from_at a i k)
  pub past : (x : ℕ) → max_lanes * m ≤ x → get_or falls x 0 ≡ 0

pub record Weights (a weights : List ℕ) (n m : ℕ) : Type 0 where
  pub long : length weights ≡ table_places
  pub each : (k i : ℕ) → k < m → i < n → get_or weights (i + max_lanes * k) 0 ≡ get_or a (weights_from + k) 0

-- xs has p k at place k and q k at place d + k, for k below m
pub record Sides (p q : ℕ → ℕ) (d m : ℕ) (xs : List ℕ) : Type 0 where
  pub long : length xs ≡ max_lanes
  pub below : (k : ℕ) → k < m → get_or xs k 0 ≡ p k
  pub above : (k : ℕ) → k < m → get_or xs (k + d) 0 ≡ q k

-- what a function answers for coordinate m, of d, is p m and q m
abbrev pub Gives : (ℕ → ℕ × ℕ → Type 0) → ℕ → (ℕ → ℕ) → (ℕ → ℕ) → Type 0
Gives answers d p q = (m : ℕ) (r : ℕ × ℕ) → m < d → answers m r → (r.0 ≡ p m) × (r.1 ≡ q m)

abbrev pub end_below : List ℕ → ℕ → ℕ
end_below a k = 4 * max_coordinate - 2 * get_or a k 0

abbrev pub end_above : List ℕ → ℕ → ℕ
end_above a k = 2 * get_or a (highs_from + k) 0

abbrev pub weight_of : List ℕ → ℕ → ℕ
weight_of a k = get_or a (weights_from + k) 0

-- the weight of each lane's axis, and its end
abbrev pub Owns : List ℕ → List ℕ → Type 0
Owns a owns = Sides (weight_of a) (weight_of a) (size_of a) (size_of a) owns

abbrev pub Ends : List ℕ → List ℕ → Type 0
Ends a ends = Sides (end_below a) (end_above a) (size_of a) (size_of a) ends

-- what a lane of falls gets in the row of coordinate m, from the lane's axis and the coordinate's reach
abbrev pub side_in : List ℕ → ℕ → ℕ → ℕ → ℕ → ℕ
side_in axes m reach x y = if (ltb m (get_or axes (x - max_lanes * m) 0)) (odd_of reach) (odd_of (reach - 1))

-- what coordinate m of a lane pulls, t being twice the height
abbrev pub pull_at : List ℕ → List ℕ → ℕ → ℕ → ℕ → ℕ
pull_at falls weights i t m = get_or weights (i + max_lanes * m) 0 * (get_or falls (i + max_lanes * m) 0 - t)

-- and what it falls by alone: what it pulls where its weight is 1
abbrev pub fall_at : List ℕ → ℕ → ℕ → ℕ → ℕ
fall_at falls i t m = get_or falls (i + max_lanes * m) 0 - t

-- n lanes without weights: each coordinate pulls what it falls by
abbrev pub UnweightedLanes : List ℕ → List ℕ → ℕ → Type 0
UnweightedLanes falls weights n = (i t m : ℕ) → i < n → pull_at falls weights i t m ≡ fall_at falls i t m

-- a lane after a turn: it stays where the distance does not fall from height h + step - 1 on, summed over k coordinates
abbrev pub settled_at : ℕ → ℕ → ℕ → ℕ → ℕ → ℕ → ℕ
settled_at sum weight end t step h = if (leb sum (weight * (t + 2001 - end))) h (h + step)

-- lane i after a turn, where its coordinates pull g i t at twice a height t
abbrev pub turned_at : (ℕ → ℕ → ℕ) → List ℕ → List ℕ → ℕ → ℕ → ℕ → ℕ
turned_at g owns ends step i h = settled_at (g i (2 * h + (2 * step - 2))) (get_or owns i 0) (get_or ends i 0) (2 * h + (2 * step - 2)) step h

-- what a function answers in n lanes is g
abbrev pub Sums : (ℕ → ℕ → ℕ → Type 0) → ℕ → (ℕ → ℕ → ℕ) → Type 0
Sums answers n g = (i t s : ℕ) → i < n → answers i t s → s ≡ g i t

abbrev pub halved_at : List ℕ → List ℕ → List ℕ → List ℕ → ℕ → ℕ → ℕ → ℕ → ℕ
halved_at falls weights owns ends k step i h =
    settled_at (sum_to k (pull_at falls weights i (2 * h + (2 * step - 2)))) (get_or owns i 0) (get_or ends i 0) (2 * h + (2 * step - 2)) step h

abbrev pub Halved : List ℕ → List ℕ → List ℕ → List ℕ → ℕ → ℕ → ℕ → List ℕ → List ℕ → Type 0
Halved falls weights owns ends k step n xs ys = Filled (halved_at falls weights owns ends k step) 0 n xs ys

-- how many coordinates are summed for n lanes with weights
abbrev pub summed : ℕ → ℕ
summed n = if (leb n 8) 4 (if (leb n 16) 8 16)

-- and for lanes that may have none: more than 8 of these sum all sixteen
abbrev pub summed_in : Bool → ℕ → ℕ
summed_in unweighted n = if (leb n 8) 4 (if unweighted 16 (summed n))

-- lanes that a turn may move: tables as long as they are, what falls bounded, and no height above the greatest after the turn
pub record Movable (falls weights owns ends : List ℕ) (n step : ℕ) (heights : List ℕ) : Type 0 where
  pub few : n ≤ max_lanes
  pub some : 0 < step
  pub short : step ≤ max_coordinate
  pub falling : length falls ≡ table_places
  pub weighing : length weights ≡ table_places
  pub owning : length owns ≡ max_lanes
  pub ending : length ends ≡ max_lanes
  pub long : length heights ≡ max_lanes
  pub small : (x : ℕ) → get_or falls x 0 ≤ 2001
  pub room : (i : ℕ) → i < n → get_or heights i 0 + step ≤ max_coordinate

-- of these, what a turn needs whatever the coordinates pull
pub record Turnable (owns ends : List ℕ) (n step : ℕ) (heights : List ℕ) : Type 0 where
  pub few : n ≤ max_lanes
  pub some : 0 < step
  pub short : step ≤ max_coordinate
  pub owning : length owns ≡ max_lanes
  pub ending : length ends ≡ max_lanes
  pub long : length heights ≡ max_lanes
  pub room : (i : ℕ) → i < n → get_or heights i 0 + step ≤ max_coordinate

-- the tables of n lanes
pub record Lanes (a falls weights owns ends : List ℕ) (n : ℕ) : Type 0 where
  pub asked : Bounded a
  pub few : n ≤ max_lanes
  pub cover : size_of a + size_of a ≤ n
  pub enough : size_of a ≤ summed n
  pub falling : Falls a falls (size_of a)
  pub weighing : Weights a weights n (size_of a)
  pub owning : Owns a owns
  pub ending : Ends a ends

-- how many lanes d coordinates take: those of 2d pyramids, and up to a multiple of 8
abbrev pub lanes_of : ℕ → ℕ
lanes_of d = (d + 3) / 4 * 8

-- n zeros
pub record Blank (n : ℕ) (xs : List ℕ) : Type 0 where
  pub long : length xs ≡ n
  pub zeros : (x : ℕ) → get_or xs x 0 ≡ 0
