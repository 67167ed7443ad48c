-- Trees by their levels, and the tree that the pages of an index hold. Nothing here speaks of bytes.
use Rattle.std.specs.Prelude.{◌≡◌, List, [], ◌∷◌, map, ℤ, ℕ, zero, suc, length, take}
use Rattle.lists.specs.Basics.{All, concat_map}
use Rattle.lists.specs.Ascending.{head_or, last_or}
use Rattle.geometry.specs.declared.Key.{Key}
use Rattle.geometry.specs.Keys.{key_number}
use Rattle.geometry.specs.Points.{pyramid_of, height_of}
use Rattle.geometry.specs.Stored.{point_of}
use Rattle.pagestore_page.specs.declared.Record.{Record}
use Rattle.pagestore_page.specs.declared.Entry.{Entry}
use Rattle.pagestore.specs.Store.{Page, leaf, inner, records_of, entries_of, View}

-- RECORDS

-- a record's point: the first d of its coordinate slots
abbrev pub point_in : ℕ → Record → List ℤ
point_in d r = point_of (take d r.coords)

-- its key (01): pyramid, height, identifier
unfoldable pub key_of : ℕ → Record → Key
key_of d r = record { pyramid = record { 0 = pyramid_of (point_in d r) }; height = record { 0 = height_of (point_in d r) }; id = r.id }

-- its place in the order of keys, as a number
unfoldable pub rank_of : ℕ → Record → ℕ
rank_of d r = key_number (key_of d r)

abbrev pub ident_of : Record → ℕ
ident_of r = r.id

-- the first and the last key of some records
unfoldable pub no_record : Record
no_record = record { id = 0; stage = 0; stamp = 0; coords = [] }

unfoldable pub first_key : ℕ → List Record → Key
first_key d rs = key_of d (head_or no_record rs)

unfoldable pub last_key : ℕ → List Record → Key
last_key d rs = key_of d (last_or no_record rs)

-- TREES

-- the least and the greatest number of items of a page
abbrev pub min_items : ℕ
min_items = 8

-- an item of level 0 is a record; an item of level l + 1 is a page of level l with its items
abbrev pub Item : ℕ → Type 0
Item zero = Record
Item (suc l) = ℕ × List (Item l)

-- the records of an item, in order
unfoldable pub records : (l : ℕ) → Item l → List Record
records zero r = r ∷ []
records (suc l) t = concat_map (records l) t.1

-- its pages
unfoldable pub pages : (l : ℕ) → Item l → List ℕ
pages zero r = []
pages (suc l) t = t.0 ∷ concat_map (pages l) t.1

-- its leaves, each a page with its records; a leaf's position (01) is its place in this list
unfoldable pub leaves : (l : ℕ) → Item (suc l) → List (Item 1)
leaves zero t = t ∷ []
leaves (suc l) t = concat_map (leaves l) t.1

-- an inner entry gives a child with its first and last key
unfoldable pub entry_of : ℕ → (l : ℕ) → Item (suc l) → Entry
entry_of d l t = record { child = t.0; first = first_key d (records (suc l) t); last = last_key d (records (suc l) t) }

-- the page that holds items of level l
unfoldable pub node : ℕ → (l : ℕ) → List (Item l) → Page
node d zero rs = leaf (length rs) rs
node d (suc l) ts = inner l (length ts) (map (entry_of d l) ts)

-- the pages of an index hold the item: levels, counts and entries are right
unfoldable pub Rep : (l : ℕ) → View → Item l → Type 0
Rep zero v r = Unit {0}
Rep (suc l) v t = (v.page t.0 ≡ node v.d l t.1) × All (Rep l v) t.1

-- THE TREE OF AN INDEX

-- what stands at page p, read as a page of level l
unfoldable pub tree_at : (l : ℕ) → View → ℕ → Item (suc l)
tree_at zero v p = (p, records_of (v.page p))
tree_at (suc l) v p = (p, map (λ e. tree_at l v e.child) (entries_of (v.page p)))

unfoldable pub tree_of : (v : View) → Item (suc v.level)
tree_of v = tree_at v.level v v.root

-- the records that it holds (01: the live points of a sound index), in key order
unfoldable pub live : View → List Record
live v = records (suc v.level) (tree_of v)

-- its leaves by position
unfoldable pub leaves_of : View → List (Item 1)
leaves_of v = leaves v.level (tree_of v)
