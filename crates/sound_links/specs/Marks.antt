-- Marks of pages: those that are followed, and those that are freed.
use Rattle.std.specs.Prelude.{◌≡◌, List, [], ◌∷◌, ◌++◌, ℕ, zero, suc, ◌-◌, ◌≤◌, ◌<◌, eqb, length, get_or}
use Rattle.lists.specs.Basics.{if}
use Rattle.lists.specs.Counts.{mult}
use Rattle.lists.specs.Members.{At}
use Rattle.pagestore_page.specs.declared.Entry.{Entry}
use Rattle.pagestore.specs.Store.{level_of, entries_of, View, view_of, chain, chain_end}
use Rattle.sound_faults.specs.Faults.{IsPage, NodeFill, Freed, Reached}
use Rattle.sound_faults.specs.Linked.{FreedFine}

-- page q is marked in m, which has a place for each page
abbrev pub Marked : List ℕ → ℕ → Type 0
Marked m q = get_or m q 0 ≡ 1

-- nothing is marked
pub record Clear (v : View) (m : List ℕ) : Type 0 where
  pub size : v.count ≤ length m
  pub none : (q : ℕ) → get_or m q 0 ≡ 0

-- ---- THE FOLLOWED PAGES

-- page c may be followed from a page of level `above`
pub record Follows (v : View) (above c : ℕ) : Type 0 where
  pub range : IsPage v c
  pub level : suc (level_of (v.page c)) ≡ above
  pub fill : NodeFill (v.page c)

-- page q is marked in m as followed: its mark is not 0
abbrev pub Seen : List ℕ → ℕ → Type 0
Seen m q = 0 < get_or m q 0

-- each such page is followed and marked with 1 more than its level, and what it leads to is marked
pub record Marks (v : View) (m : List ℕ) : Type 0 where
  pub size : v.count ≤ length m
  pub reached : (q : ℕ) → Seen m q → Reached v q
  pub level : (q : ℕ) → Seen m q → get_or m q 0 ≡ suc (level_of (v.page q))
  pub closed : (p i : ℕ) (e : Entry) → Seen m p → At (entries_of (v.page p)) i e → Follows v (level_of (v.page p)) e.child → Seen m e.child

-- before page, of level l, is marked
pub record Ready (v : View) (m : List ℕ) (page l : ℕ) : Type 0 where
  pub marks : Marks v m
  pub reached : Reached v page
  pub level : level_of (v.page page) ≡ l

-- after it
pub record Grown (v : View) (m m' : List ℕ) (page : ℕ) : Type 0 where
  pub size : length m' ≡ length m
  pub marks : Marks v m'
  pub keep : (q : ℕ) → Seen m q → Seen m' q
  pub done : Seen m' page

-- in between: what its entries before the i-th lead to is marked
pub record Going (v : View) (m m' : List ℕ) (page i : ℕ) : Type 0 where
  pub size : length m' ≡ length m
  pub marks : Marks v m'
  pub keep : (q : ℕ) → Seen m q → Seen m' q
  pub kids : (j : ℕ) (e : Entry) → j < i → At (entries_of (v.page page)) j e → Follows v (level_of (v.page page)) e.child → Seen m' e.child

-- the marked pages are the followed ones, each with 1 more than its level
pub record MarksAre (v : View) (m : List ℕ) : Type 0 where
  pub size : v.count ≤ length m
  pub reached : (q : ℕ) → Seen m q → Reached v q
  pub all : (q : ℕ) → Reached v q → get_or m q 0 ≡ suc (level_of (v.page q))

-- the marked pages below k, the highest first
unfoldable pub marked_to : List ℕ → ℕ → List ℕ
marked_to m zero = []
marked_to m (suc k) = if (eqb (get_or m k 0) 0) (marked_to m k) (k ∷ marked_to m k)

-- ---- THE FREED PAGES

pub record FreedMarks (v : View) (m : List ℕ) : Type 0 where
  pub size : v.count ≤ length m
  pub freed : (q : ℕ) → Marked m q → Freed v q
  pub other : (q : ℕ) → ¬ Marked m q → mult q v.freed ≡ 0

-- they have no fault, and are marked
pub record FreedOk (v : View) (m : List ℕ) : Type 0 where
  pub marks : FreedMarks v m
  pub fine : FreedFine v

-- after k links of the chain of the index b, at link q
pub record Walked (b m : List ℕ) (k q : ℕ) : Type 0 where
  pub done : List ℕ
  pub freed : (view_of b).freed ≡ done ++ chain ((view_of b).count - k) b q
  pub rest : (view_of b).rest ≡ chain_end ((view_of b).count - k) b q
  pub size : (view_of b).count ≤ length m
  pub marked : (c : ℕ) → Marked m c → 0 < mult c done
  pub other : (c : ℕ) → ¬ Marked m c → mult c done ≡ 0
  pub once : (c : ℕ) → mult c done ≤ 1
  pub used : (c : ℕ) → 0 < mult c done → IsPage (view_of b) c × (c < (view_of b).fresh)
