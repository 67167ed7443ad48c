-- What is kept of the followed pages, what their entries are held to, and the pages in no state.
use Rattle.std.specs.Prelude.{◌≡◌, Bool, ◌⊎◌, List, ℕ, ◌+◌, ◌*◌, ◌≤◌, ◌<◌, length, get_or, Result, MatchResult}
use Rattle.lists.specs.AscendingLaws.{head_no, last_no}
use Rattle.geometry.specs.Keys.{key_number}
use Rattle.pagestore_page.specs.declared.Entry.{Entry}
use Rattle.sound_keys.specs.declared.Ends.{Ends}
use Rattle.sound_pages.specs.declared.Survey.{Survey}
use Rattle.pagestore.specs.Store.{View, view_of}
use Rattle.sound_faults.specs.declared.Fault.{Fault}
use Rattle.sound_faults.specs.Faults.{IsPage, Freed, Fresh, ranks_in, Reached, EntryAt, EntryFault, FailsAt}
use Rattle.sound_faults.specs.Linked.{EntryFine, PageFine, InState}
use Rattle.lists.specs.Judges.{Judges}
use Rattle.sound_links.specs.Marks.{Marked, Seen, MarksAre, FreedMarks}
use Rattle.pagestore_page.specs.Layout.{max_items}

-- where nothing is kept of a page
abbrev pub no_ends : Ends
no_ends = record { first = 0; last = 0 }

-- the followed pages below k are fine, each by itself, and their first and last keys are kept as numbers
pub record PagesFine (v : View) (ends : List Ends) (k : ℕ) : Type 0 where
  pub pages : (q : ℕ) → q < k → Reached v q → PageFine v q
  pub room : v.count ≤ length ends
  pub first : (q : ℕ) → q < k → Reached v q → (get_or ends q no_ends).first ≡ head_no (ranks_in v.d (v.page q))
  pub last : (q : ℕ) → q < k → Reached v q → (get_or ends q no_ends).last ≡ last_no (ranks_in v.d (v.page q))

-- page p judged by itself, its ends kept where it is fine
abbrev pub PageKept : View → ℕ → List Ends → Result (Unit {0}) Fault → Type 0
PageKept v p ends r = MatchResult r (λ _. PagesFine v ends (p + 1)) (λ f. (f.page ≡ p) × FailsAt v p)

-- ---- ENTRIES

-- e is an entry of the followed page p
pub record HasEntry (v : View) (p : ℕ) (e : Entry) : Type 0 where
  pub place : ℕ
  pub at : EntryAt v p place e

-- what entries are held to
pub record Known (v : View) (m f : List ℕ) (ends : List Ends) : Type 0 where
  pub marks : MarksAre v m
  pub freed : FreedMarks v f
  pub pages : PagesFine v ends v.count
  pub fresh : v.fresh ≤ v.count

abbrev pub Surveyed : Survey → Type 0
Surveyed s = Known (view_of s.index.now) s.marks.now s.freed.now s.ends.now

-- an entry gives the first and the last key that are kept of its child
pub record EndsKept (e : Entry) (kept : Ends) : Type 0 where
  pub first : key_number e.first ≡ kept.first
  pub last : key_number e.last ≡ kept.last

-- the entries before place k have no fault and name different pages, which are marked in m; the j-th entry of page q is at place 16 q + j
pub record Named (v : View) (m : List ℕ) (k : ℕ) : Type 0 where
  pub size : v.count ≤ length m
  pub by : (c : ℕ) → Marked m c → (q : ℕ) × (j : ℕ) × (f : Entry) × EntryAt v q j f × (f.child ≡ c) × (max_items * q + j < k)
  pub fine : (q j : ℕ) (f : Entry) → EntryAt v q j f → max_items * q + j < k → EntryFine v q f
  pub marked : (q j : ℕ) (f : Entry) → EntryAt v q j f → max_items * q + j < k → Marked m f.child
  pub alone : (q j q' j' : ℕ) (f f' : Entry) → EntryAt v q j f → EntryAt v q' j' f' → max_items * q + j < k → max_items * q' + j' < k → f.child ≡ f'.child → (q ≡ q') × (j ≡ j')

-- the entries of page p judged, those of the pages below it being named; and those of all pages
abbrev pub EntriesJudged : View → ℕ → List ℕ → Bool → Type 0
EntriesJudged v p named = Judges (Named v named (max_items * (p + 1))) (EntryFault v p)

abbrev pub ParentsJudged : View → List ℕ → Result (Unit {0}) Fault → Type 0
ParentsJudged v named r = MatchResult r (λ _. Named v named (max_items * v.count)) (λ f. (0 < f.page) × FailsAt v f.page)

-- ---- STATES

-- a page in no state
pub record Lost (v : View) (p : ℕ) : Type 0 where
  pub range : IsPage v p
  pub reached : ¬ Reached v p
  pub freed : ¬ Freed v p
  pub fresh : ¬ Fresh v p

-- the page at a place is followed or freed; and no page is lost
abbrev pub StateJudged : List ℕ → List ℕ → ℕ → Bool → Type 0
StateJudged marks freed at = Judges (Seen marks at ⊎ Marked freed at) ((¬ Seen marks at) × (¬ Marked freed at))

abbrev pub StatesJudged : View → Result (Unit {0}) Fault → Type 0
StatesJudged v r = MatchResult r (λ _. (q : ℕ) → IsPage v q → InState v q) (λ f. Lost v f.page)
