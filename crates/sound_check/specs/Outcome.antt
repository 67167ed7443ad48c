-- What the check answers.
use Rattle.std.specs.Prelude.{◌≡◌, List, ℕ, ◌≤◌, length, Result, MatchResult}
use Rattle.pagestore.specs.Store.{View, view_of}
use Rattle.tree_model.specs.Sound.{Permitted, SoundIndex, max_points}
use Rattle.tree_model.specs.Trees.{live}
use Rattle.sound_faults.specs.declared.Fault.{Fault}
use Rattle.sound_faults.specs.Faults.{IsPage, RootFill, Reached, FailsAt}
use Rattle.sound_faults.specs.Linked.{HeaderFine, Linked, PageFine, InState}
use Rattle.sound_links.specs.Marks.{Marked, Clear, MarksAre, FreedOk}
use Rattle.sound_keys.specs.declared.Ends.{Ends}
use Rattle.sound_visit.specs.Collect.{Gathered}

-- the header, the freed pages and the root have no fault
pub record Start (v : View) (f : List ℕ) : Type 0 where
  pub header : HeaderFine v
  pub freed : FreedOk v f
  pub root_freed : ¬ Marked f v.root
  pub root_fill : RootFill (v.page v.root)

-- the header, the freed pages and the root judged; the marked pages are the followed ones
abbrev pub GroundJudged : View → List ℕ → List ℕ → Result (Unit {0}) Fault → Type 0
GroundJudged v m f r = MatchResult r (λ _. Start v f × MarksAre v m) (λ e. FailsAt v e.page)

-- nothing has a fault but, it may be, identifiers; the marked pages are the followed ones
pub record Counted (v : View) (m : List ℕ) : Type 0 where
  pub linked : Linked v
  pub fine : (p : ℕ) → Reached v p → PageFine v p
  pub state : (p : ℕ) → IsPage v p → InState v p
  pub marks : MarksAre v m
  pub total : v.total ≡ length (live v)
  pub most : v.total ≤ max_points

-- room for what is kept of the followed pages, and for the identifiers; nothing is marked as named
pub record Lent (v : View) (n : List ℕ) (e : List Ends) (i h : List ℕ) : Type 0 where
  pub named : Clear v n
  pub ends : v.count ≤ length e
  pub ids : v.total ≤ max_points → v.total ≤ length i
  pub holders : length h ≡ length i

-- no page and no link has a fault; n records have been counted
pub record Whole (v : View) (m f : List ℕ) (n : ℕ) (i h : List ℕ) : Type 0 where
  pub start : Start v f
  pub marks : MarksAre v m
  pub linked : Linked v
  pub fine : (p : ℕ) → Reached v p → PageFine v p
  pub points : Gathered v m v.count n i h
  pub ids : v.total ≤ max_points → v.total ≤ length i
  pub holders : length h ≡ length i

-- check-sound: Ok for a sound index (of a permitted length), else a page at which soundness fails
abbrev pub Verdict : List ℕ → Result (Unit {0}) Fault → Type 0
Verdict b r = MatchResult r (λ _. Permitted (length b) → SoundIndex b) (λ e. FailsAt (view_of b) e.page)
