-- When a record may be inserted.
use Rattle.std.specs.Prelude.{◌≡◌, List, map, ℕ, ◌≤◌, ◌<◌, length}
use Rattle.lists.specs.Counts.{mult}
use Rattle.pagestore_page.specs.declared.Record.{Record}
use Rattle.pagestore_page.specs.Fits.{RecordFits}
use Rattle.pagestore.specs.Store.{free_at, view_of}
use Rattle.tree_model.specs.Trees.{ident_of, live}
use Rattle.tree_model.specs.Sound.{RecordOk}
use Rattle.tree_core.specs.Insertion.{pages_wanted}

-- the record r may be inserted: it can be stored, is in range, its identifier is not live, there is room for it, and for the pages that it wants
pub record MayInsert (b : List ℕ) (r : Record) : Type 0 where
  pub fits : RecordFits r
  pub ranges : RecordOk (view_of b).d r
  pub new : mult r.id (map ident_of (live (view_of b))) ≡ 0
  pub room : (view_of b).total < 65535
  pub free : pages_wanted b r ≤ length (free_at b)
