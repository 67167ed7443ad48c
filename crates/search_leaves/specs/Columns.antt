-- The distances of a leaf's records together, coordinate by coordinate.
use Rattle.std.specs.Prelude.{◌≡◌, Bool, true, not, List, ℕ, zero, suc, ◌+◌, ◌-◌, ◌*◌, ◌≤◌, ◌<◌, ltb, length, get_or, drop}
use Rattle.lists.specs.Basics.{All}
use Rattle.geometry.specs.Points.{distance}
use Rattle.geometry.specs.Features.{weighted_distance}
use Rattle.geometry.specs.Stored.{point_of}
use Rattle.geometry.specs.Numbers.{max_features, max_weight}
use Rattle.pagestore_page.specs.declared.Record.{Record}
use Rattle.pagestore_page.specs.Layout.{leaf_of, no_record, max_items, page_size}
use Rattle.search_rows.specs.declared.Row.{Row}
use Rattle.search_rows.specs.Held.{behind_all}

-- the record in slot r of a leaf page, and its coordinates, as stored
abbrev pub record_in : List ℕ → ℕ → Record
record_in page r = get_or (leaf_of page).records r no_record

abbrev pub coords_at : List ℕ → ℕ → List ℕ
coords_at page r = (record_in page r).coords

-- what the coordinates from m on add to the squared distance of record r from the asked point
unfoldable pub cost_from : List ℕ → List ℕ → ℕ → ℕ → ℕ
unfolding distance point_of
cost_from page q m r = distance (drop m (point_of q)) (drop m (point_of (coords_at page r)))

-- and with weights
unfoldable pub weighted_from : List ℕ → List ℕ → List ℕ → ℕ → ℕ → ℕ
unfolding weighted_distance point_of
weighted_from page ws q m r = weighted_distance (drop m ws) (drop m (point_of q)) (drop m (point_of (coords_at page r)))

-- the square of the gap of two stored coordinates; of two below 2,048 it is at most `most_cost`
unfoldable pub gap_square : ℕ → ℕ → ℕ
gap_square x y = ((x - y) + (y - x)) * ((x - y) + (y - x))

abbrev pub most_cost : ℕ
most_cost = 4190209

-- with a weight of 1,000
abbrev pub most_weighted : ℕ
most_weighted = 4190209000

-- a leaf page, an asked point whose coordinates are as stored, and n of the page's 16 slots
pub record Sized (page q : List ℕ) (n : ℕ) : Type 0 where
  pub bytes : length page ≡ page_size
  pub most : length q ≤ max_features
  pub ranges : All (λ c. c < 2048) q
  pub few : n ≤ max_items

-- the sums of the first n records hold what their first m coordinates cost; left: what those from a place on cost a record; most: the most
-- that one does
pub record SumsBy (left : ℕ → ℕ → ℕ) (most : ℕ) (page q : List ℕ) (m n : ℕ) (sums : List ℕ) : Type 0 where
  pub sized : Sized page q n
  pub within : m ≤ length q
  pub slots : length sums ≡ max_items
  pub each : (r : ℕ) → r < n → get_or sums r 0 + left m r ≡ left 0 r
  pub low : (r : ℕ) → r < n → get_or sums r 0 ≤ most * m

-- without weights
abbrev pub Sums : List ℕ → List ℕ → ℕ → ℕ → List ℕ → Type 0
Sums page q m n sums = SumsBy (cost_from page q) most_cost page q m n sums

-- and with one of at most 1,000 for each coordinate
pub record WeightedSums (page ws q : List ℕ) (m n : ℕ) (sums : List ℕ) : Type 0 where
  pub by : SumsBy (weighted_from page ws q) most_weighted page q m n sums
  pub number : length ws ≡ length q
  pub light : All (λ x. x ≤ max_weight) ws

-- what n coordinates from m on cost
unfoldable pub cost_span : List ℕ → List ℕ → ℕ → ℕ → ℕ → ℕ
cost_span page q m zero r = 0
cost_span page q m (suc n) r = gap_square (get_or q m 0) (get_or (coords_at page r) m 0) + cost_span page q (suc m) n r

-- of four runs of s coordinates the first m each are added: what is left to add
unfoldable pub quarters_left : List ℕ → List ℕ → ℕ → ℕ → ℕ → ℕ
unfolding cost_span cost_from
quarters_left page q s m r =
    ((cost_span page q m (s - m) r + cost_span page q (m + s) (s - m) r)
    + (cost_span page q (m + s + s) (s - m) r + cost_span page q (m + s + s + s) (s - m) r)) + cost_from page q (4 * s) r

-- the sums hold what those cost
pub record Quarters (page q : List ℕ) (s m n : ℕ) (sums : List ℕ) : Type 0 where
  pub sized : Sized page q n
  pub within : 4 * s ≤ length q
  pub turns : m ≤ s
  pub slots : length sums ≡ max_items
  pub each : (r : ℕ) → r < n → get_or sums r 0 + quarters_left page q s m r ≡ cost_from page q 0 r
  pub low : (r : ℕ) → r < n → get_or sums r 0 ≤ most_cost * (4 * m)

-- a row of record i of a leaf page at a position, with its stamp
abbrev pub row_at : List ℕ → ℕ → ℕ → ℕ → Row
row_at page i distance position = record { distance = distance; id = (record_in page i).id; stamp = (record_in page i).stamp; position = position }

-- a sum that is not beyond a limit
abbrev pub not_past : ℕ → ℕ → Bool
not_past limit x = not (ltb limit x)

-- a row farther than the limit, in 32 bits, is behind all k rows
abbrev pub BehindPast : List ℕ → ℕ → ℕ → ℕ → Type 0
BehindPast highs n k limit = (x : ℕ) → x < 4294967296 → limit < x → behind_all highs n k x ≡ true
