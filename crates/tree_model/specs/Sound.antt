-- Sound (01, "The tree"): what an index has to be.
use Rattle.std.specs.Prelude.{◌≡◌, Bool, ◌&&◌, List, ◌++◌, map, ℕ, zero, suc, ◌-◌, ◌*◌, ◌%◌, ◌≤◌, ltb, length, take}
use Rattle.lists.specs.Basics.{All, indicator, range_from}
use Rattle.lists.specs.Counts.{mult}
use Rattle.lists.specs.Ascending.{Ascending}
use Rattle.pagestore_page.specs.declared.Record.{Record}
use Rattle.pagestore.specs.Store.{View, view_of}
use Rattle.tree_model.specs.Trees.{min_items, Item, pages, rank_of, ident_of, Rep, tree_of, live}
use Rattle.pagestore_page.specs.Layout.{max_items, page_size}
use Rattle.geometry.specs.Numbers.{max_features}

-- the most records of an index
abbrev pub max_points : ℕ
max_points = 65535

-- a permitted number of bytes: 2 to 16,384 whole pages
pub record Permitted (bytes : ℕ) : Type 0 where
  pub whole : bytes % 1024 ≡ 0
  pub low : 2048 ≤ bytes
  pub high : bytes ≤ 16777216

-- the number of a page other than the header
abbrev pub is_page : View → ℕ → Bool
is_page v p = ltb 0 p && ltb p v.count

-- the pages never used
abbrev pub fresh_pages : View → List ℕ
fresh_pages v = range_from v.fresh (v.count - v.fresh)

-- the root holds 0 to 16 records or 2 to 16 children
unfoldable pub RootFilled : (l : ℕ) → Item (suc l) → Type 0
RootFilled zero t = length t.1 ≤ max_items
RootFilled (suc l) t = (2 ≤ length t.1) × (length t.1 ≤ max_items)

-- each other page holds 8 to 16 items
unfoldable pub Filled : (l : ℕ) → Item l → Type 0
Filled zero r = Unit {0}
Filled (suc l) t = (min_items ≤ length t.1) × (length t.1 ≤ max_items) × All (Filled l) t.1

-- the last of the six stages (02): 0 wake, 1 to 3 the N stages, 4 REM, 5 unscored
abbrev pub max_stage : ℕ
max_stage = 5

-- identifier, stage and coordinates in range (a slot holds 1,000 more than its coordinate); a stamp may be any number of 32 bits
pub record RecordOk (d : ℕ) (r : Record) : Type 0 where
  pub ident : 1 ≤ r.id
  pub stage : r.stage ≤ max_stage
  pub coords : All (λ c. c ≤ 2000) (take d r.coords)

pub record Sound (v : View) : Type 0 where
  pub lent : Permitted v.lent
  pub size : v.size * page_size ≡ v.lent
  pub d : (1 ≤ v.d) × (v.d ≤ max_features)
  -- levels and entries, by the tree that the pages hold
  pub rep : Rep (suc v.level) v (tree_of v)
  pub root_fill : RootFilled v.level (tree_of v)
  pub fills : All (Filled v.level) (tree_of v).1
  pub order : Ascending (map (rank_of v.d) (live v))
  pub ranges : All (RecordOk v.d) (live v)
  pub distinct : (i : ℕ) → mult i (map ident_of (live v)) ≤ 1
  pub total : v.total ≡ length (live v)
  pub most : v.total ≤ max_points
  -- the chain of freed pages ends, and the never used pages begin within the index
  pub chain : v.rest ≡ 0
  pub fresh : (1 ≤ v.fresh) × (v.fresh ≤ v.count)
  -- each page but the header is just once in the tree, freed or never used, and no other number is
  pub once : (p : ℕ) → mult p (pages (suc v.level) (tree_of v) ++ (v.freed ++ fresh_pages v)) ≡ indicator (is_page v p)

-- a sound index, by its bytes
abbrev pub SoundIndex : List ℕ → Type 0
SoundIndex b = Sound (view_of b)
