-- What is shown of a page that is judged by itself.
use Rattle.std.specs.Prelude.{◌≡◌, List, map, ℕ, suc, ◌<◌, length, Option, MatchOption}
use Rattle.lists.specs.AscendingLaws.{head_no, last_no}
use Rattle.lists.specs.Ascending.{Ascending}
use Rattle.lists.specs.Members.{At}
use Rattle.lists.specs.Basics.{All, concat_map}
use Rattle.pagestore_page.specs.declared.Record.{Record}
use Rattle.pagestore_page.specs.declared.Entry.{Entry}
use Rattle.pagestore.specs.Store.{View}
use Rattle.tree_model.specs.Trees.{rank_of}
use Rattle.tree_model.specs.Sound.{RecordOk}
use Rattle.sound_faults.specs.Faults.{ends, ranks_in, FailsAt}
use Rattle.sound_faults.specs.Linked.{PageFine}
use Rattle.sound_keys.specs.declared.Ends.{Ends}

-- the records of a leaf, by themselves
pub record RecordsFine (d : ℕ) (rs : List Record) : Type 0 where
  pub order : Ascending (map (rank_of d) rs)
  pub ranges : All (RecordOk d) rs

pub data RecordsBad (d : ℕ) (rs : List Record) : Type 0 where
  order : ¬ Ascending (map (rank_of d) rs) → RecordsBad d rs
  field : (i : ℕ) (r : Record) → At rs i r → ¬ RecordOk d r → RecordsBad d rs

-- xs ascends from f, and goes on ascending with a further number exactly if that is n or above
pub record AscendingSpan (xs : List ℕ) (f n : ℕ) : Type 0 where
  pub ascends : Ascending xs
  pub first : f ≡ head_no xs
  pub last : 0 < length xs → n ≡ suc (last_no xs)
  pub empty : length xs ≡ 0 → n ≡ 0

-- ---- A PAGE BY ITSELF

-- a test that shows P, with the first and the last of the numbers xs, or Q
abbrev pub Spans : Type 0 → Type 0 → List ℕ → Option Ends → Type 0
Spans P Q xs r = MatchOption r Q (λ e. P × (e.first ≡ head_no xs) × (e.last ≡ last_no xs))

-- a leaf's records, an inner page's entries, and the followed page p
abbrev pub LeafJudged : ℕ → List Record → Option Ends → Type 0
LeafJudged d rs = Spans (RecordsFine d rs) (RecordsBad d rs) (map (rank_of d) rs)

abbrev pub InnerJudged : List Entry → Option Ends → Type 0
InnerJudged es = Spans (Ascending (concat_map ends es)) (¬ Ascending (concat_map ends es)) (concat_map ends es)

abbrev pub PageJudged : View → ℕ → Option Ends → Type 0
PageJudged v p = Spans (PageFine v p) (FailsAt v p) (ranks_in v.d (v.page p))
