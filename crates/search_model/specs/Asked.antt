-- What is asked, as one value, and what it means: how far a record is, whether it is looked for at all, and the bound of a span; the
-- order of rows is `row_order`, of the crate search_rows. Every statement about a question goes over this value.
use Rattle.std.specs.Prelude.{◌≡◌, Bool, ◌&&◌, None, List, ℕ, ◌+◌, ◌*◌, ◌/◌, ◌%◌, ◌^◌, ◌≤◌, eqb, length, take, ℤ}
use Rattle.lists.specs.Basics.{All, indicator}
use Rattle.calendar.specs.Days.{undated}
use Rattle.calendar.specs.Counting.{window_of, in_window}
use Rattle.geometry.specs.declared.Key.{Key}
use Rattle.geometry.specs.Features.{Feature, dist_to, plain, weighted, Ordered}
use Rattle.geometry.specs.Slices.{bound_of}
use Rattle.geometry_slices.specs.Questions.{weights_from, size_of, part_from, asked_of, Packed}
use Rattle.geometry.specs.Stored.{point_of}
use Rattle.geometry.specs.Numbers.{max_features, max_weight}
use Rattle.pagestore_page.specs.declared.Record.{Record}
use Rattle.tree_model.specs.Trees.{point_in}
use Rattle.search_model.specs.declared.Choice.{Choice}

-- the features asked for, one for each coordinate, how many rows, and which records
pub record Asked : Type 0 where
  pub features : List Feature
  pub k : ℕ
  pub choice : Choice

-- the distance of a record from what is asked: squared, and weighted
unfoldable pub distance_to : Asked → Record → ℕ
distance_to q r = dist_to q.features (point_in (length q.features) r)

-- a point without weights, how many rows, and which records
abbrev pub plainly : List ℤ → ℕ → Choice → Asked
plainly p k c = record { features = plain p; k = k; choice = c }

-- a set of six marks (02), bit s for stage s
abbrev pub set_of : (ℕ → Bool) → ℕ
set_of mark =
    indicator (mark 0) + 2 * indicator (mark 1) + 4 * indicator (mark 2) + 8 * indicator (mark 3) + 16 * indicator (mark 4) + 32 * indicator (mark 5)

-- whether the stage s is in a set: its mark (`marks_read`)
unfoldable pub in_stages : ℕ → ℕ → Bool
in_stages set s = eqb (set / 2 ^ s % 2) 1

-- the set of all six
abbrev pub full_set : ℕ
full_set = 63

-- whether a record is looked for: its stage is in the set, and its stamp in the window (02)
unfoldable pub candidate : Asked → Record → Bool
unfolding in_stages in_window
candidate q r = in_stages q.choice.stages r.stage && in_window q.choice.window r.stamp

-- a choice that leaves out no record of a sound index: the full set, and no dates
abbrev pub LeavesOutNone : Choice → Type 0
LeavesOutNone c = (c.stages ≡ full_set) × (c.window ≡ None)

abbrev pub every_record : Choice
every_record = record { stages = full_set; window = window_of undated }

-- the bound (01) of the span from a first to a last key
unfoldable pub span_bound : Asked → Key → Key → ℕ
span_bound q f l = bound_of q.features f.pyramid.0 f.height.0 l.pyramid.0 l.height.0

-- q can be asked of an index of d features
pub record Askable (d : ℕ) (q : Asked) : Type 0 where
  pub same : length q.features ≡ d
  pub ordered : Ordered q.features

-- ---- AS THE CODE HOLDS IT

-- a question as one list (`ask`), how many rows, and which records
abbrev pub asking : List ℕ → ℕ → Choice → Asked
asking asked k c = record { features = asked_of asked; k = k; choice = c }

-- a point whose coordinates are as stored, with their weights
abbrev pub asking_point : List ℕ → List ℕ → ℕ → Choice → Asked
asking_point ws p k c = record { features = weighted ws (point_of p); k = k; choice = c }

-- a point that can be asked: 1 to 16 coordinates in range, as stored, and a weight of at most 1,000 for each
pub record AskedPoint (ws p : List ℕ) : Type 0 where
  pub some : 1 ≤ length p
  pub most : length p ≤ max_features
  pub ranges : All (λ c. c ≤ 2000) p
  pub number : length ws ≡ length p
  pub light : All (λ x. x ≤ max_weight) ws

-- the point of a question that is one list: its low ends
abbrev pub low_ends : List ℕ → List ℕ
low_ends asked = take (size_of asked) asked

-- and its weights
abbrev pub weights_in : List ℕ → List ℕ
weights_in asked = part_from weights_from asked

-- a question, as one list, that can be searched for: a point
pub record Seekable (asked : List ℕ) : Type 0 where
  pub packed : Packed asked
  pub point : AskedPoint (weights_in asked) (low_ends asked)
  pub is : asked_of asked ≡ weighted (weights_in asked) (point_of (low_ends asked))
