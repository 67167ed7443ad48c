-- Rows held in two arrays: their upper words, and their lower words.
use Rattle.std.specs.Prelude.{◌≡◌, Bool, true, false, List, [], ◌∷◌, ℕ, ◌-◌, ◌≤◌, ◌<◌, ltb, eqb, length, get_or, take, drop}
use Rattle.lists.specs.Basics.{if}
use Rattle.lists.specs.Sorting.{Sorted}
use Rattle.lists.specs.Sorting as sorting
use Rattle.search_rows.specs.declared.Row.{Row}
use Rattle.search_rows.specs.Rows.{row_order, row_of, distance_in}

-- the rows of upper and lower words, one of each
unfoldable pub rows_of : List ℕ → List ℕ → List Row
rows_of [] lows = []
rows_of (h ∷ highs) [] = []
rows_of (h ∷ highs) (l ∷ lows) = row_of h l ∷ rows_of highs lows

-- the first n of them
abbrev pub rows_in : List ℕ → List ℕ → ℕ → List Row
rows_in highs lows n = take n (rows_of highs lows)

-- the arrays hold n rows in row order, and have room for k
pub record Held (highs lows : List ℕ) (n k : ℕ) : Type 0 where
  pub few : n ≤ k
  pub room : k ≤ length highs
  pub room_lows : k ≤ length lows
  pub sorted : Sorted row_order (rows_in highs lows n)

-- r rows are held after row x was offered to n of them, of which k are kept; what lies past them is as before
pub record Offered (highs lows : List ℕ) (n k : ℕ) (x : Row) (r : ℕ) (highs' lows' : List ℕ) : Type 0 where
  pub held : Held highs' lows' r k
  pub rows : rows_in highs' lows' r ≡ sorting.offer row_order k x (rows_in highs lows n)
  pub past : (drop r highs' ≡ drop r highs) × (drop r lows' ≡ drop r lows)

-- whether the row before index i is not before row x; there is none before index 0
pub record GivesWay (highs lows : List ℕ) (i : ℕ) (x : Row) (r : Bool) : Type 0 where
  pub gives : r ≡ true → (0 < i) × (row_order (row_of (get_or highs (i - 1) 0) (get_or lows (i - 1) 0)) x ≡ false)
  pub stays : r ≡ false → 0 < i → row_order (row_of (get_or highs (i - 1) 0) (get_or lows (i - 1) 0)) x ≡ true

-- there are k rows, and the k-th is nearer than a distance
abbrev pub behind_all : List ℕ → ℕ → ℕ → ℕ → Bool
behind_all highs n k distance = if (ltb n k) false (if (eqb k 0) false (ltb (distance_in (get_or highs (k - 1) 0)) distance))
