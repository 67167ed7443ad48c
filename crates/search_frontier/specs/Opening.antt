-- What opening an inner page does to the frontier.
use Rattle.std.specs.Prelude.{◌≡◌, List, ℕ, ◌+◌, ◌≤◌, length}
use Rattle.lists.specs.Sorting.{insert_all}
use Rattle.pagestore_page.specs.declared.Entry.{Entry}
use Rattle.pagestore.specs.Store.{inner_at, entries_in}
use Rattle.search_heap.specs.Heap.{Heap}
use Rattle.search_model.specs.declared.Choice.{Choice}
use Rattle.search_model.specs.Asked.{Seekable, Asked, span_bound, asking}
use Rattle.search_model.specs.Branches.{last_place, before, branch_of, branches}
use Rattle.search_frontier.specs.Keys.{key_of, most_bound, frontier}

-- the bound of an entry's span, however many rows are asked for and of whichever records
pub record SpanBound (asked : List ℕ) (e : Entry) (r : ℕ) : Type 0 where
  pub is : (k : ℕ) (c : Choice) → r ≡ span_bound (asking asked k c) e.first e.last
  pub small : r ≤ most_bound

-- and the key of its branch
abbrev pub EntryKey : List ℕ → List ℕ → ℕ → ℕ → Entry → ℕ → Type 0
EntryKey index asked l at e r = (k : ℕ) (c : Choice) → r ≡ key_of (branch_of index (asking asked k c) l at e)

-- a frontier of n branches with room for those of an inner page, whose children are of a level and begin at a position
pub record Opens (slots : List ℕ) (n : ℕ) (index asked : List ℕ) (level place page : ℕ) : Type 0 where
  pub seekable : Seekable asked
  pub low : level ≤ 3
  pub first : place ≤ last_place
  pub heap : Heap n slots
  pub room : n + length (entries_in (inner_at index page)) ≤ length slots

-- these branches are put in; r are there then
pub record Opened (slots : List ℕ) (n : ℕ) (index : List ℕ) (q : Asked) (level place page r : ℕ) (slots' : List ℕ) : Type 0 where
  pub number : r ≡ n + length (entries_in (inner_at index page))
  pub heap : Heap r slots'
  pub branches : frontier r slots' ≡ insert_all before (branches index q level place (entries_in (inner_at index page))) (frontier n slots)

abbrev pub OpenedAny : List ℕ → ℕ → List ℕ → List ℕ → ℕ → ℕ → ℕ → ℕ → List ℕ → Type 0
OpenedAny slots n index asked l place page r slots' = (k : ℕ) (c : Choice) → Opened slots n index (asking asked k c) l place page r slots'
