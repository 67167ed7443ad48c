-- What the bound of a span is computed from.
use Rattle.std.specs.Prelude.{◌≡◌, List, ℕ, zero, suc, min, ◌+◌, ◌≤◌, ◌<◌, length, get_or}
use Rattle.geometry.specs.Numbers.{max_coordinate, max_weight}
use Rattle.geometry.specs.Features.{Ordered, Asks}
use Rattle.geometry_slices.specs.Questions.{size_of, asked_of, Packed, near_places, whole_places, Heights, Wholes}

-- a question with coordinates, in range, and room for its tables
pub record Preparable (a near whole : List ℕ) : Type 0 where
  pub some : 0 < size_of a
  pub packed : Packed a
  pub asks : Asks max_weight (asked_of a)
  pub ordered : Ordered (asked_of a)
  pub places : length near ≡ near_places
  pub wholes : length whole ≡ whole_places

-- a question with coordinates, and its tables
pub record Ready (a near whole : List ℕ) : Type 0 where
  pub some : 0 < size_of a
  pub heights : Heights a near
  pub wholes : length whole ≡ whole_places
  pub least : Wholes a whole

-- the ends of a span as they are read: pyramids of d coordinates, heights of at most the greatest
pub record Spanned (d i h i' h' : ℕ) : Type 0 where
  pub first : i < d + d
  pub last : i' < d + d
  pub low : h ≤ max_coordinate
  pub high : h' ≤ max_coordinate

-- the least of b and n of the least distances to whole pyramids, those after pyramid i
unfoldable pub least_between : List ℕ → ℕ → ℕ → ℕ → ℕ
least_between whole b i zero = b
least_between whole b i (suc n) = min (least_between whole b i n) (get_or whole (i + suc n) 0)
