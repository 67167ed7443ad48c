-- What a page can hold: the values of the stored types, of a coordinate 11 bits. All that is read from an index fits.
use Rattle.std.specs.Prelude.{◌≡◌, ◌^◌, ◌<◌, length}
use Rattle.lists.specs.Basics.{All}
use Rattle.geometry.specs.declared.Key.{Key}
use Rattle.pagestore_page.specs.declared.Record.{Record}
use Rattle.pagestore_page.specs.declared.Entry.{Entry}

pub record RecordFits (r : Record) : Type 0 where
  pub id : r.id < 2 ^ 32
  pub stage : r.stage < 2 ^ 8
  pub stamp : r.stamp < 2 ^ 32
  pub slots : length r.coords ≡ 16
  pub coords : All (λ c. c < 2 ^ 11) r.coords

pub record KeyFits (k : Key) : Type 0 where
  pub pyramid : k.pyramid.0 < 2 ^ 8
  pub height : k.height.0 < 2 ^ 16
  pub id : k.id < 2 ^ 32

pub record EntryFits (e : Entry) : Type 0 where
  pub child : e.child < 2 ^ 32
  pub first : KeyFits e.first
  pub last : KeyFits e.last
