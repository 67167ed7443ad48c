-- The page store: what an index holds, whatever its bytes are, and what each operation leaves. Nothing above this crate sees a byte:
-- the definitions without a mark open only to the modules below this one. Of these, RangeLaws, PageLaws, ChainLaws, FreeLaws, TakeLaws, NewLaws and
-- CountLaws say all that is used of them above; StretchLaws is for the proofs of this crate, and for a caller of `stretch`.
use Rattle.std.specs.Prelude.{◌≡◌, Bool, false, ◌&&◌, List, [], ◌∷◌, ◌++◌, ℕ, zero, suc, ◌+◌, ◌-◌, ◌*◌, ◌/◌, min, ltb, leb, eqb, length, take, drop, replicate}
use Rattle.lists.specs.Basics.{if, range_from}
use Rattle.pagestore_bytes.specs.Bytes.{byte_at, le_at, le_bytes, put}
use Rattle.pagestore_page.specs.Layout.{page_size, leaf_of, inner_of, link_of, leaf_bytes, inner_bytes, freed_bytes}
pub use Rattle.pagestore_page.specs.Layout.{records_in, entries_in}
use Rattle.pagestore_page.specs.declared.Record.{Record}
use Rattle.pagestore_page.specs.declared.Leaf.{Leaf}
use Rattle.pagestore_page.specs.declared.Entry.{Entry}
use Rattle.pagestore_page.specs.declared.Inner.{Inner}
pub mod RangeLaws
pub mod StretchLaws
pub mod PageLaws
pub mod ChainLaws
pub mod FreeLaws
pub mod TakeLaws
pub mod NewLaws
pub mod CountLaws

-- ---- PAGES

-- the pages of the longest index
abbrev pub max_pages : ℕ
max_pages = 16384

-- the whole pages lent
unfoldable pub pages_in : List ℕ → ℕ
pages_in b = min (length b / page_size) max_pages

-- is p a page of the index other than the header
unfoldable pub in_range : List ℕ → ℕ → Bool
in_range b p = ltb 0 p && ltb p (pages_in b)

-- the bytes of page p: its own stretch of the index; none if p is out of range
pub stretch : List ℕ → ℕ → List ℕ
stretch b p = if (in_range b p) (take page_size (drop (p * page_size) b)) []

-- the index with 1,024 bytes written into the stretch of page p; as it was if p is out of range
pub set_stretch : List ℕ → ℕ → List ℕ → List ℕ
set_stretch b p xs = if (in_range b p) (take (p * page_size) b ++ (xs ++ drop (p * page_size + page_size) b)) b

-- what page p holds: as a leaf, as an inner page, its level byte and its count byte, and its link if it is freed
pub leaf_at : List ℕ → ℕ → Leaf
leaf_at b p = leaf_of (stretch b p)

pub inner_at : List ℕ → ℕ → Inner
inner_at b p = inner_of (stretch b p)

pub level_at : List ℕ → ℕ → ℕ
level_at b p = byte_at (stretch b p) 0

pub count_at : List ℕ → ℕ → ℕ
count_at b p = byte_at (stretch b p) 1

pub link_at : List ℕ → ℕ → ℕ
link_at b p = link_of (stretch b p)

-- the index with a leaf of the records rs at page p, and with an inner page; the first 16 items are written
pub set_leaf : List ℕ → ℕ → List Record → List ℕ
set_leaf b p rs = set_stretch b p (leaf_bytes rs)

pub set_inner : List ℕ → ℕ → ℕ → List Entry → List ℕ
set_inner b p level es = set_stretch b p (inner_bytes level es)

-- a page as one value, with the count as stored: a leaf, or an inner page over pages of level l
pub data Page : Type 0 where
  leaf : (count : ℕ) → List Record → Page
  inner : (l count : ℕ) → List Entry → Page

-- its level, the count as stored, and its items
abbrev pub level_of : Page → ℕ
level_of (leaf n rs) = 0
level_of (inner l n es) = suc l

abbrev pub fill_of : Page → ℕ
fill_of (leaf n rs) = n
fill_of (inner l n es) = n

abbrev pub records_of : Page → List Record
records_of (leaf n rs) = rs
records_of (inner l n es) = []

abbrev pub entries_of : Page → List Entry
entries_of (leaf n rs) = []
entries_of (inner l n es) = es

unfoldable pub page_by : ℕ → Leaf → Inner → Page
page_by zero l n = leaf l.count (records_in l)
page_by (suc k) l n = inner k n.count (entries_in n)

unfoldable pub page_at : List ℕ → ℕ → Page
page_at b p = page_by (level_at b p) (leaf_at b p) (inner_at b p)

unfoldable pub set_page : List ℕ → ℕ → Page → List ℕ
set_page b p (leaf n rs) = set_leaf b p rs
set_page b p (inner l n es) = set_inner b p (suc l) es

-- ---- THE HEADER

-- the header's fields: length in pages, d, the root's page and level, the total of records, the page freed last, the lowest page never used
pub data Field : Type 0 where
  size : Field
  features : Field
  root : Field
  level : Field
  total : Field
  freed : Field
  fresh : Field

-- each has four bytes of room
abbrev pub offset : Field → ℕ
offset size = 0
offset features = 4
offset root = 8
offset level = 12
offset total = 16
offset freed = 20
offset fresh = 24

-- and uses one or four of them
abbrev pub width : Field → ℕ
width size = 4
width features = 1
width root = 4
width level = 1
width total = 4
width freed = 4
width fresh = 4

-- two different fields: `refl` shows it of any two that are named
abbrev pub Apart : Field → Field → Type 0
Apart f g = eqb (offset f) (offset g) ≡ false

-- the number of w bytes at an offset of the header, and the index with another one there; in fewer than 1,024 bytes 0, and no change
pub number_at : ℕ → ℕ → List ℕ → ℕ
number_at w at b = if (leb page_size (length b)) (le_at w b at) 0

pub set_number : ℕ → ℕ → List ℕ → ℕ → List ℕ
set_number w at b v = if (leb page_size (length b)) (put b at (le_bytes w v)) b

abbrev pub field_at : Field → List ℕ → ℕ
field_at f b = number_at (width f) (offset f) b

abbrev pub set_field : Field → List ℕ → ℕ → List ℕ
set_field f b v = set_number (width f) (offset f) b v

-- ---- FREE PAGES

-- the pages met on a chain of links, up to a link that is out of range, at most n of them
pub chain : ℕ → List ℕ → ℕ → List ℕ
chain zero b p = []
chain (suc n) b p = if (in_range b p) (p ∷ chain n b (link_at b p)) []

-- the link at which that chain ends
pub chain_end : ℕ → List ℕ → ℕ → ℕ
chain_end zero b p = p
chain_end (suc n) b p = if (in_range b p) (chain_end n b (link_at b p)) p

-- the freed pages, the last freed first; at most as many links are followed as there are pages
unfoldable pub freed_at : List ℕ → List ℕ
freed_at b = chain (pages_in b) b (field_at freed b)

-- 0, unless the chain of freed pages is damaged
unfoldable pub rest_at : List ℕ → ℕ
rest_at b = chain_end (pages_in b) b (field_at freed b)

-- the pages never used
unfoldable pub fresh_at : List ℕ → List ℕ
fresh_at b = if (in_range b (field_at fresh b)) (range_from (field_at fresh b) (pages_in b - field_at fresh b)) []

-- the pages in the order in which they will be taken
unfoldable pub free_at : List ℕ → List ℕ
free_at b = freed_at b ++ fresh_at b

-- a new page is the most recently freed one, else the lowest never used, else 0
unfoldable pub page_taken : List ℕ → ℕ
page_taken b =
    if (in_range b (field_at freed b)) (field_at freed b)
    (if (in_range b (field_at fresh b)) (field_at fresh b) 0)

-- the index when that page has been taken
unfoldable pub take_page : List ℕ → List ℕ
take_page b =
    if (in_range b (field_at freed b)) (set_field freed b (link_at b (field_at freed b)))
    (if (in_range b (field_at fresh b)) (set_field fresh b (field_at fresh b + 1)) b)

-- the index with a link to the page n at the freed page p
pub set_link : List ℕ → ℕ → ℕ → List ℕ
set_link b p n = set_stretch b p (freed_bytes n)

-- the index when page p has been freed: it links to the page freed before it
unfoldable pub free_page : List ℕ → ℕ → List ℕ
free_page b p = if (in_range b p) (set_field freed (set_link b p (field_at freed b)) p) b

-- ---- A NEW INDEX

pub clear_header : List ℕ → List ℕ
clear_header b = if (leb page_size (length b)) (replicate page_size 0 ++ drop page_size b) b

unfoldable pub set_fields : List ℕ → List (Field × ℕ) → List ℕ
set_fields b [] = b
set_fields b (x ∷ xs) = set_fields (set_field x.0 b x.1) xs

-- the header anew, page 1 an empty root leaf, the rest as lent; the fields that are not named are 0
unfoldable pub new_index : List ℕ → ℕ → List ℕ
new_index b d =
    set_leaf (set_fields (clear_header b) ((size, pages_in b) ∷ (features, d) ∷ (root, 1) ∷ (fresh, 2) ∷ [])) 1 []

-- ---- THE VIEW: all that the layers above see of an index

pub record View : Type 0 where
  pub lent : ℕ  -- bytes lent
  pub count : ℕ  -- whole pages lent
  pub size : ℕ  -- the header's length, in pages
  pub d : ℕ
  pub root : ℕ
  pub level : ℕ  -- of the root, by the header
  pub total : ℕ
  pub fresh : ℕ  -- the lowest page never used
  pub freed : List ℕ  -- the freed pages, the last freed first
  pub rest : ℕ  -- 0, unless their chain is damaged
  pub page : ℕ → Page

unfoldable pub view_of : List ℕ → View
view_of b =
    record {
      lent = length b;
      count = pages_in b;
      size = field_at size b;
      d = field_at features b;
      root = field_at root b;
      level = field_at level b;
      total = field_at total b;
      fresh = field_at fresh b;
      freed = freed_at b;
      rest = rest_at b;
      page = page_at b;
    }
