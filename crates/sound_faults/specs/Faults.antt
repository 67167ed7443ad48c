-- Where soundness fails (01, "The tree", last paragraph), rule by rule. Over the page store's views alone.
use Rattle.std.specs.Prelude.{◌≡◌, List, [], ◌∷◌, map, ℕ, suc, ◌*◌, ◌≤◌, ◌<◌, length}
use Rattle.lists.specs.Basics.{concat_map}
use Rattle.lists.specs.Ascending.{head_or, last_or, Ascending}
use Rattle.lists.specs.Counts.{mult}
use Rattle.lists.specs.Members.{At}
use Rattle.geometry.specs.declared.Key.{Key}
use Rattle.geometry.specs.Keys.{key_number}
use Rattle.geometry.specs.Numbers.{max_features}
use Rattle.pagestore_page.specs.declared.Record.{Record}
use Rattle.pagestore_page.specs.declared.Entry.{Entry}
use Rattle.pagestore_page.specs.Layout.{no_entry, max_items, page_size}
use Rattle.pagestore.specs.Store.{Page, leaf, inner, level_of, fill_of, records_of, entries_of, View}
use Rattle.tree_model.specs.Trees.{rank_of, first_key, last_key, live, min_items}
use Rattle.tree_model.specs.Sound.{RecordOk, max_points}

-- ---- NUMBERS OF THE FORMAT: bytes of a page; records or entries of one; features; the greatest magnitude of a coordinate; points

-- ---- PAGES

-- in range: a page of the index other than the header
abbrev pub IsPage : View → ℕ → Type 0
IsPage v p = (0 < p) × (p < v.count)

-- d: 1 to 16
abbrev pub Features : View → Type 0
Features v = (1 ≤ v.d) × (v.d ≤ max_features)

abbrev pub Freed : View → ℕ → Type 0
Freed v p = 0 < mult p v.freed

-- never used
abbrev pub Fresh : View → ℕ → Type 0
Fresh v p = IsPage v p × (v.fresh ≤ p)

-- the root holds 0 to 16 records or 2 to 16 children
abbrev pub RootFill : Page → Type 0
RootFill (leaf n rs) = n ≤ max_items
RootFill (inner l n es) = (2 ≤ n) × (n ≤ max_items)

-- any other page 8 to 16
abbrev pub NodeFill : Page → Type 0
NodeFill x = (min_items ≤ fill_of x) × (fill_of x ≤ max_items)

-- the first and the last key that a page holds: its records' or its entries'
abbrev pub first_key_in : ℕ → Page → Key
first_key_in d (leaf n rs) = first_key d rs
first_key_in d (inner l n es) = (head_or no_entry es).first

abbrev pub last_key_in : ℕ → Page → Key
last_key_in d (leaf n rs) = last_key d rs
last_key_in d (inner l n es) = (last_or no_entry es).last

-- the keys in a page, as numbers, in the order in which they stand: of an inner page each entry's first and last
abbrev pub ends : Entry → List ℕ
ends e = key_number e.first ∷ key_number e.last ∷ []

abbrev pub ranks_in : ℕ → Page → List ℕ
ranks_in d (leaf n rs) = map (rank_of d) rs
ranks_in d (inner l n es) = concat_map ends es

-- ---- THE PAGES THAT ARE FOLLOWED

-- there is a root page to look at. Where d is wrong records cannot be read, and nothing else is judged.
pub record Rooted (v : View) : Type 0 where
  pub features : Features v
  pub range : IsPage v v.root

-- the root unless it is wrongly filled, and where an entry of a followed page leads, in range, to a page one level lower and rightly filled
pub data Reached (v : View) : ℕ → Type 0 where
  root : Rooted v → RootFill (v.page v.root) → Reached v v.root
  entry : {p i : ℕ} {e : Entry} → Reached v p → At (entries_of (v.page p)) i e
      → IsPage v e.child → suc (level_of (v.page e.child)) ≡ level_of (v.page p) → NodeFill (v.page e.child)
      → Reached v e.child

-- e is the i-th entry of the followed page p
pub record EntryAt (v : View) (p i : ℕ) (e : Entry) : Type 0 where
  pub reached : Reached v p
  pub at : At (entries_of (v.page p)) i e

-- r is the i-th record of the followed leaf p
pub record RecordAt (v : View) (p i : ℕ) (r : Record) : Type 0 where
  pub reached : Reached v p
  pub at : At (records_of (v.page p)) i r

-- ---- FAULTY ENTRIES

-- page p is a parent with an entry whose child has another first or last key, a level not one lower or a wrong fill, or that leads out of range or to
-- a page also named by another entry, the root link, the freed or the never used
pub data EntryFault (v : View) (p : ℕ) : Type 0 where
  first : {i : ℕ} {e : Entry} → EntryAt v p i e → ¬ (e.first ≡ first_key_in v.d (v.page e.child)) → EntryFault v p
  last : {i : ℕ} {e : Entry} → EntryAt v p i e → ¬ (e.last ≡ last_key_in v.d (v.page e.child)) → EntryFault v p
  level : {i : ℕ} {e : Entry} → EntryAt v p i e → ¬ (suc (level_of (v.page e.child)) ≡ level_of (v.page p)) → EntryFault v p
  fill : {i : ℕ} {e : Entry} → EntryAt v p i e → ¬ NodeFill (v.page e.child) → EntryFault v p
  range : {i : ℕ} {e : Entry} → EntryAt v p i e → ¬ IsPage v e.child → EntryFault v p
  named : {i q j : ℕ} {e f : Entry} → EntryAt v p i e → EntryAt v q j f → ¬ ((p ≡ q) × (i ≡ j)) → e.child ≡ f.child → EntryFault v p
  root : {i : ℕ} {e : Entry} → EntryAt v p i e → e.child ≡ v.root → EntryFault v p
  freed : {i : ℕ} {e : Entry} → EntryAt v p i e → Freed v e.child → EntryFault v p
  fresh : {i : ℕ} {e : Entry} → EntryAt v p i e → Fresh v e.child → EntryFault v p

-- no entry and no root fill is faulty
pub record NoFault (v : View) : Type 0 where
  pub features : Features v
  pub root_fill : Rooted v → RootFill (v.page v.root)
  pub entries : (p : ℕ) → ¬ EntryFault v p

-- ---- WHERE SOUNDNESS FAILS

pub data FailsAt (v : View) : ℕ → Type 0 where
  -- at the header: length, d, root link, total (with the greatest number of points), any fault of the freed and the never used pages
  size : ¬ (v.size * page_size ≡ v.lent) → FailsAt v 0
  features : ¬ Features v → FailsAt v 0
  root_range : ¬ IsPage v v.root → FailsAt v 0
  root_level : ¬ (level_of (v.page v.root) ≡ v.level) → FailsAt v 0
  root_freed : Freed v v.root → FailsAt v 0
  root_fresh : Fresh v v.root → FailsAt v 0
  total : NoFault v → ¬ (v.total ≡ length (live v)) → FailsAt v 0
  most : NoFault v → max_points < length (live v) → FailsAt v 0
  chain : ¬ (v.rest ≡ 0) → FailsAt v 0
  freed_twice : (q : ℕ) → 1 < mult q v.freed → FailsAt v 0
  freed_fresh : (q : ℕ) → Freed v q → Fresh v q → FailsAt v 0
  fresh : ¬ ((1 ≤ v.fresh) × (v.fresh ≤ v.count)) → FailsAt v 0
  -- a repeated identifier, at each leaf holding it
  repeated : {p i q j : ℕ} {r s : Record} → RecordAt v p i r → RecordAt v q j s → ¬ ((p ≡ q) × (i ≡ j)) → r.id ≡ s.id → FailsAt v p
  -- a faulty entry, at the parent
  entry : {p : ℕ} → EntryFault v p → FailsAt v p
  -- a page in no state, at itself
  state : {p : ℕ} → NoFault v → IsPage v p → ¬ Reached v p → ¬ Freed v p → ¬ Fresh v p → FailsAt v p
  -- anything else at the page with the bad field: the root's fill, the order of keys, a record's identifier, stage or coordinates
  root_fill : Rooted v → ¬ RootFill (v.page v.root) → FailsAt v v.root
  order : {p : ℕ} → Reached v p → ¬ Ascending (ranks_in v.d (v.page p)) → FailsAt v p
  field : {p i : ℕ} {r : Record} → RecordAt v p i r → ¬ RecordOk v.d r → FailsAt v p
