-- A leaf moved to a new page.
use Rattle.std.specs.Prelude.{List, ℕ}
use Rattle.pagestore.specs.Store.{leaf_at, records_in, set_leaf, page_taken, take_page, free_page}

-- the index when the leaf of page p stands at the page taken, and p is free
unfoldable pub moved_to : List ℕ → ℕ → List ℕ
moved_to b p = free_page (set_leaf (take_page b) (page_taken b) (records_in (leaf_at b p))) p
