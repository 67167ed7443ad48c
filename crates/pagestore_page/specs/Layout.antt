-- What the bytes of one page hold, and the bytes that are written for it. docs/LAYOUT.md has the offsets as a table.
use Rattle.std.specs.Prelude.{List, [], ◌∷◌, ◌++◌, ℕ, zero, suc, ◌+◌, ◌-◌, ◌*◌, ◌%◌, length, get_or, take, replicate}
use Rattle.lists.specs.Basics.{tabulate, concat_map}
use Rattle.geometry.specs.declared.Key.{Key}
use Rattle.pagestore_bytes.specs.Bytes.{byte_at, le_at, le_bytes, put}
use Rattle.pagestore_page.specs.declared.Record.{Record}
use Rattle.pagestore_page.specs.declared.Leaf.{Leaf}
use Rattle.pagestore_page.specs.declared.Entry.{Entry}
use Rattle.pagestore_page.specs.declared.Inner.{Inner}
use Rattle.geometry.specs.Numbers.{max_features}

-- the bytes of a page, and the items, records or entries, that it has room for
abbrev pub page_size : ℕ
page_size = 1024

abbrev pub max_items : ℕ
max_items = 16

-- a key, 8 bytes: identifier, height, pyramid, one unused; read as one number they are in key order
unfoldable pub key_at : List ℕ → ℕ → Key
key_at s at = record { pyramid = record { 0 = byte_at s (at + 6) }; height = record { 0 = le_at 2 s (at + 4) }; id = le_at 4 s at }

unfoldable pub key_bytes : Key → List ℕ
key_bytes k = le_bytes 4 k.id ++ (le_bytes 2 k.height.0 ++ (k.pyramid.0 ∷ 0 ∷ []))

-- an inner entry, 20 bytes: child, first key, last key
unfoldable pub entry_at : List ℕ → ℕ → Entry
entry_at s at = record { child = le_at 4 s at; first = key_at s (at + 4); last = key_at s (at + 12) }

unfoldable pub entry_bytes : Entry → List ℕ
entry_bytes e = le_bytes 4 e.child ++ (key_bytes e.first ++ key_bytes e.last)

-- a leaf holds its records by columns: where the stages begin, one byte each, the coordinates, the width of their columns, and where the
-- identifiers and the stamps begin
abbrev pub stages_from : ℕ
stages_from = 16

abbrev pub columns : ℕ
columns = 32

abbrev pub column_width : ℕ
column_width = 32

abbrev pub idents : ℕ
idents = 576

abbrev pub stamps_from : ℕ
stamps_from = 640

-- of a coordinate's two bytes 11 bits count
abbrev pub coord_room : ℕ
coord_room = 2048

-- coordinate m of record i, and the record's identifier, stage and stamp
abbrev pub coord_at : ℕ → ℕ → ℕ
coord_at m i = columns + column_width * m + 2 * i

abbrev pub ident_at : ℕ → ℕ
ident_at i = idents + 4 * i

abbrev pub stage_at : ℕ → ℕ
stage_at i = stages_from + i

abbrev pub stamp_at : ℕ → ℕ
stamp_at i = stamps_from + 4 * i

-- record i of a leaf, and the leaf
unfoldable pub record_at : List ℕ → ℕ → Record
record_at s i = record {
  id = le_at 4 s (ident_at i);
  stage = byte_at s (stage_at i);
  stamp = le_at 4 s (stamp_at i);
  coords = tabulate max_features (λ m. le_at 2 s (coord_at m i) % coord_room);
}

unfoldable pub leaf_of : List ℕ → Leaf
leaf_of s = record { count = byte_at s 1; records = tabulate max_items (record_at s) }

-- a page with the first m coordinates of record i stored, with its identifier, stage and stamp, with that record, and with records from i on
unfoldable pub put_coords : ℕ → List ℕ → ℕ → List ℕ → List ℕ
put_coords zero s i cs = s
put_coords (suc m) s i cs = put (put_coords m s i cs) (coord_at m i) (le_bytes 2 (get_or cs m 0 % coord_room))

unfoldable pub put_label : List ℕ → ℕ → Record → List ℕ
put_label s i r = put (put (put s (ident_at i) (le_bytes 4 r.id)) (stage_at i) (r.stage ∷ [])) (stamp_at i) (le_bytes 4 r.stamp)

unfoldable pub put_record : List ℕ → ℕ → Record → List ℕ
unfolding put_label
put_record s i r = put_coords max_features (put_label s i r) i r.coords

unfoldable pub put_records : List ℕ → ℕ → List Record → List ℕ
put_records s i [] = s
put_records s i (r ∷ rs) = put_records (put_record s i r) (i + 1) rs

-- the 1,024 bytes of a leaf with the count n and nothing else, and those written for a leaf (a page has room for 16 items; more are not written)
unfoldable pub blank_leaf : ℕ → List ℕ
blank_leaf n = put (replicate page_size 0) 0 (0 ∷ n ∷ 0 ∷ 0 ∷ [])

unfoldable pub leaf_bytes : List Record → List ℕ
leaf_bytes rs = put_records (blank_leaf (length (take max_items rs))) 0 (take max_items rs)

-- an inner page: level, count, two unused bytes, then 16 slots: where they begin, and their size
abbrev pub entries_from : ℕ
entries_from = 4

abbrev pub entry_size : ℕ
entry_size = 20

unfoldable pub inner_of : List ℕ → Inner
inner_of s = record { level = byte_at s 0; count = byte_at s 1; entries = tabulate max_items (λ i. entry_at s (entries_from + entry_size * i)) }

-- the link of a freed page to the page freed before it, and where it stands
abbrev pub link_place : ℕ
link_place = 4

unfoldable pub link_of : List ℕ → ℕ
link_of s = le_at 4 s link_place

-- the 1,024 bytes written for an inner page: its entries, and zeros up to the end
unfoldable pub entries_bytes : ℕ → List Entry → List ℕ
entries_bytes level es = (level ∷ length es ∷ 0 ∷ 0 ∷ []) ++ (concat_map entry_bytes es ++ replicate (page_size - entries_from - entry_size * length es) 0)

unfoldable pub inner_bytes : ℕ → List Entry → List ℕ
inner_bytes level es = entries_bytes level (take max_items es)

-- a freed page reads as an empty leaf
unfoldable pub freed_bytes : ℕ → List ℕ
freed_bytes next = (0 ∷ 0 ∷ 0 ∷ 0 ∷ []) ++ (le_bytes 4 next ++ replicate (page_size - 8) 0)

-- what stands where there is no item
abbrev pub no_record : Record
no_record = record { id = 0; stage = 0; stamp = 0; coords = [] }

abbrev pub no_key : Key
no_key = record { pyramid = record { 0 = 0 }; height = record { 0 = 0 }; id = 0 }

abbrev pub no_entry : Entry
no_entry = record { child = 0; first = no_key; last = no_key }

-- the items of a page: as many as its count says, but at most the 16 that there are
abbrev pub records_in : Leaf → List Record
records_in l = take l.count l.records

abbrev pub entries_in : Inner → List Entry
entries_in n = take n.count n.entries
