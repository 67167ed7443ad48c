-- What offering the records of a leaf does to the rows held.
use Rattle.std.specs.Prelude.{◌≡◌, Bool, List, ℕ, ◌<◌, min, length, replicate}
use Rattle.lists.specs.Sorting as sorting
use Rattle.pagestore_page.specs.Layout.{leaf_of, max_items, page_size}
use Rattle.pagestore.specs.Store.{leaf_at, records_in}
use Rattle.search_rows.specs.declared.Row.{Row}
use Rattle.search_rows.specs.Rows.{distances, positions, row_order}
use Rattle.search_rows.specs.Held.{rows_in, Held}
use Rattle.search_model.specs.declared.Choice.{Choice}
use Rattle.search_model.specs.Asked.{Asked, distance_to, candidate, asking, asking_point, AskedPoint}
use Rattle.search_model.specs.Branches.{rows_among}
use Rattle.search_leaves.specs.Columns.{record_in}

-- the rows xs are offered to the n rows held, of which k are kept; r are held then
pub record OfferedAll (highs lows : List ℕ) (n k : ℕ) (xs : List Row) (r : ℕ) (highs' lows' : List ℕ) : Type 0 where
  pub held : Held highs' lows' r k
  pub rows : rows_in highs' lows' r ≡ sorting.offer_all row_order k xs (rows_in highs lows n)

-- those of the candidates in a leaf page, for a point and its weights
abbrev pub OfferedPart : List ℕ → List ℕ → List ℕ → ℕ → List ℕ → List ℕ → ℕ → ℕ → Choice → ℕ → List ℕ → List ℕ → Type 0
OfferedPart page ws q position highs lows n k c r highs' lows' =
    OfferedAll highs lows n k (rows_among (asking_point ws q k c) position (records_in (leaf_of page))) r highs' lows'

-- what offering them asks for
pub record LeafOffers (page ws q : List ℕ) (position : ℕ) (highs lows : List ℕ) (n k : ℕ) : Type 0 where
  pub bytes : length page ≡ page_size
  pub point : AskedPoint ws q
  pub placed : position < positions
  pub held : Held highs lows n k

-- every weight is 1
abbrev pub ones : List ℕ → List ℕ
ones q = replicate (length q) 1

-- and in the leaf at a page of the index
abbrev pub OfferedLeaf : List ℕ → ℕ → List ℕ → ℕ → List ℕ → List ℕ → ℕ → ℕ → Choice → ℕ → List ℕ → List ℕ → Type 0
OfferedLeaf index page asked position highs lows n k c r highs' lows' =
    OfferedAll highs lows n k (rows_among (asking asked k c) position (records_in (leaf_at index page))) r highs' lows'

-- r says whether the record in slot i of a leaf page is a candidate, whatever else is asked
abbrev pub Tells : List ℕ → ℕ → Choice → Bool → Type 0
Tells page i c r = (q : Asked) → q.choice ≡ c → r ≡ candidate q (record_in page i)

-- what offering the first records of a leaf page asks for; pre and post: for which of them a distance is told, and which
pub record Offers (pre : ℕ → Type 0) (post : ℕ → ℕ → Type 0) (page : List ℕ) (count position : ℕ) (highs lows : List ℕ) (n k : ℕ) : Type 0 where
  pub bytes : length page ≡ page_size
  pub number : count ≡ min (leaf_of page).count max_items
  pub placed : position < positions
  pub held : Held highs lows n k
  pub told : (i : ℕ) → i < count → pre i
  pub near : (i d : ℕ) → i < count → post i d → d < distances

-- those of them that are candidates are offered, at those distances from whatever is asked
pub record OfferedRecords (post : ℕ → ℕ → Type 0) (page : List ℕ) (count position : ℕ) (highs lows : List ℕ) (n k : ℕ)
    (c : Choice) (r : ℕ) (highs' lows' : List ℕ) : Type 0 where
  pub held : Held highs' lows' r k
  pub rows : (q : Asked) → q.choice ≡ c → ((i d : ℕ) → i < count → post i d → d ≡ distance_to q (record_in page i))
      → rows_in highs' lows' r ≡ sorting.offer_all row_order k (rows_among q position (records_in (leaf_of page))) (rows_in highs lows n)
