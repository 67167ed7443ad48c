-- What is right of an index where no link of it is faulty: the header, the freed pages, the root and the entries.
use Rattle.std.specs.Prelude.{◌≡◌, ◌⊎◌, List, ℕ, suc, ◌*◌, ◌≤◌, ◌<◌}
use Rattle.lists.specs.Basics.{All}
use Rattle.lists.specs.Counts.{mult}
use Rattle.lists.specs.Ascending.{Ascending}
use Rattle.pagestore_page.specs.declared.Entry.{Entry}
use Rattle.pagestore.specs.Store.{level_of, records_of, View}
use Rattle.tree_model.specs.Sound.{RecordOk}
use Rattle.sound_faults.specs.Faults.{IsPage, Features, Freed, RootFill, NodeFill, first_key_in, last_key_in, ranks_in, Reached, EntryAt}
use Rattle.pagestore_page.specs.Layout.{page_size}

-- the header's fields, each by itself
pub record HeaderFine (v : View) : Type 0 where
  pub size : v.size * page_size ≡ v.lent
  pub features : Features v
  pub fresh : (1 ≤ v.fresh) × (v.fresh ≤ v.count)
  pub root : IsPage v v.root
  pub root_fresh : v.root < v.fresh
  pub level : level_of (v.page v.root) ≡ v.level

-- the freed pages
pub record FreedFine (v : View) : Type 0 where
  pub chain : v.rest ≡ 0
  pub once : (q : ℕ) → mult q v.freed ≤ 1
  pub used : (q : ℕ) → Freed v q → q < v.fresh

-- what every followed page hangs from
pub record Grounded (v : View) : Type 0 where
  pub header : HeaderFine v
  pub freed : FreedFine v
  pub root_freed : mult v.root v.freed ≡ 0
  pub root_fill : RootFill (v.page v.root)

-- an entry of page p with no fault but for other entries that name its child
pub record EntryFine (v : View) (p : ℕ) (e : Entry) : Type 0 where
  pub range : IsPage v e.child
  pub level : suc (level_of (v.page e.child)) ≡ level_of (v.page p)
  pub fill : NodeFill (v.page e.child)
  pub first : e.first ≡ first_key_in v.d (v.page e.child)
  pub last : e.last ≡ last_key_in v.d (v.page e.child)
  pub root : ¬ (e.child ≡ v.root)
  pub freed : mult e.child v.freed ≡ 0
  pub fresh : e.child < v.fresh

-- all links
pub record Linked (v : View) : Type 0 where
  pub ground : Grounded v
  pub fine : (p i : ℕ) (e : Entry) → EntryAt v p i e → EntryFine v p e
  pub alone : (p i q j : ℕ) (e f : Entry) → EntryAt v p i e → EntryAt v q j f → e.child ≡ f.child → (p ≡ q) × (i ≡ j)

-- a followed page, by itself
pub record PageFine (v : View) (p : ℕ) : Type 0 where
  pub order : Ascending (ranks_in v.d (v.page p))
  pub records : All (RecordOk v.d) (records_of (v.page p))

-- a page is in the tree, freed or never used
abbrev pub InState : View → ℕ → Type 0
InState v p = Reached v p ⊎ (Freed v p ⊎ (v.fresh ≤ p))

-- ps are the followed pages, each once
pub record Followed (v : View) (ps : List ℕ) : Type 0 where
  pub once : (q : ℕ) → mult q ps ≤ 1
  pub reached : (q : ℕ) → 0 < mult q ps → Reached v q
  pub all : (q : ℕ) → Reached v q → 0 < mult q ps
