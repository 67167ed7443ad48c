-- What it means that a question is answered: demands 2 and 3, of the live records and the leaves of a sound index.
use Rattle.std.specs.Prelude.{◌≡◌, true, ◌&&◌, ◌↔◌, List, map, ℕ, length, take, ℤ}
use Rattle.lists.specs.Basics.{All}
use Rattle.lists.specs.Sorting.{count, filter, sort}
use Rattle.calendar.specs.Days.{undated, Passes}
use Rattle.calendar.specs.Counting.{window_of, in_window}
use Rattle.geometry.specs.Features.{dist_to}
use Rattle.pagestore_page.specs.declared.Record.{Record}
use Rattle.pagestore.specs.Store.{view_of}
use Rattle.tree_model.specs.Trees.{point_in, live, leaves_of}
use Rattle.tree_model.specs.Sound.{SoundIndex}
use Rattle.search_theory.specs.Nearest.{nearest}
use Rattle.search_rows.specs.Rows.{newest_first}
use Rattle.search_model.specs.Asked.{in_stages, full_set, distance_to}
use Rattle.search_model.specs.Visit.{Answer as Found, ranking}
use Rattle.search_model.specs.Questions.{live_candidates, Called, rows_of, to_read}
use Rattle.index_query.specs.Asking.{Question, sought, distance_by, bare, bare_of}

-- f answers the question w on index b
pub record Answers (b : List ℕ) (w : Question) (f : Found) : Type 0 where
  -- the k nearest of the rows of the live candidates, or all of them if there are fewer
  pub rows : f.rows ≡ nearest ranking w.k (rows_of (view_of b) (sought w))
  -- by distance, then by later stamp, then by lower identifier (02, Q-9)
  pub order : f.rows ≡ take w.k (sort newest_first (rows_of (view_of b) (sought w)))
  -- the rows of the live candidates are one for each live record that is looked for, with its distance from what is asked, and its stamp
  pub each : map bare (rows_of (view_of b) (sought w)) ≡ map (bare_of w) (live_candidates (view_of b) (sought w))
  -- looked for are the live records whose stage is in the set and whose stamp in the window (02); with the full set and no dates each of them is
  pub among : live_candidates (view_of b) (sought w) ≡ filter (λ r. in_stages w.stages r.stage && in_window (window_of w.days) r.stamp) (live (view_of b))
  pub full : w.stages ≡ full_set → w.days ≡ undated → live_candidates (view_of b) (sought w) ≡ live (view_of b)
  -- a stamp lies in the window just if the date of its recording day is from the first to the last (02, Q-4), or no dates are given
  pub days : (s : ℕ) → Passes w.days s ↔ (in_window (window_of w.days) s ≡ true)
  -- a record's distance is the squared distance from the point, with weights the sum of weight times squared difference (02, Q-1), as is
  -- that of any point of the grid
  pub squared : (r : Record) → distance_to (sought w) r ≡ distance_by w.weights w.point (point_in (length w.point) r)
  pub grid : (x : List ℤ) → dist_to (sought w).features x ≡ distance_by w.weights w.point x
  -- the number of leaves in demand 3's set
  pub leaves : f.leaves ≡ count (to_read (view_of b) (sought w)) (leaves_of (view_of b))
  -- these are the leaves holding records whose span has a grid point in range no farther from the point than the last row, or all of
  -- them when fewer than k candidates live
  pub set : All (λ t. (to_read (view_of b) (sought w) t ≡ true → Called (view_of b) (sought w) t)
      × (Called (view_of b) (sought w) t → to_read (view_of b) (sought w) t ≡ true)) (leaves_of (view_of b))

-- where nothing is known of the index: it does if the index is sound
abbrev pub AnswersIfSound : List ℕ → Question → Found → Type 0
AnswersIfSound b w f = SoundIndex b → Answers b w f
