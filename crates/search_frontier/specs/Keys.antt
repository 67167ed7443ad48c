-- A branch as one number, as the frontier's heap holds it.
use Rattle.std.specs.Prelude.{List, map, ℕ, ◌+◌, ◌*◌, ◌-◌, ◌/◌, ◌%◌, ◌≤◌, ◌<◌}
use Rattle.search_heap.specs.Heap.{held}
use Rattle.search_model.specs.Numbers.{max_level}
use Rattle.search_model.specs.Branches.{Branch, last_place}
use Rattle.pagestore.specs.Store.{max_pages}

-- how many levels and positions there are
abbrev pub levels : ℕ
levels = 5

abbrev pub places : ℕ
places = 8192

-- Mixed radix: pages, levels (the highest first), positions, and the bound above them. So a bound of weighted features (`most_bound`)
-- leaves the key in 64 bits.
abbrev pub key_of : Branch → ℕ
key_of x = ((x.bound * places + x.place) * levels + (max_level - x.level)) * max_pages + x.page

-- no bound of 16 features of weights up to 1,000 is above this (`bound_small`)
abbrev pub most_bound : ℕ
most_bound = 19030015000

-- the fields of a branch fit a key
pub record Fits (x : Branch) : Type 0 where
  pub bound : x.bound ≤ most_bound
  pub place : x.place ≤ last_place
  pub level : x.level ≤ max_level
  pub page : x.page < max_pages

-- and back, field by field
abbrev pub bound_in : ℕ → ℕ
bound_in key = key / max_pages / levels / places

abbrev pub place_in : ℕ → ℕ
place_in key = key / max_pages / levels % places

abbrev pub level_in : ℕ → ℕ
level_in key = max_level - key / max_pages % levels

abbrev pub number_in : ℕ → ℕ
number_in key = key % max_pages

unfoldable pub branch_in : ℕ → Branch
branch_in key = record { bound = bound_in key; place = place_in key; level = level_in key; page = number_in key }

-- the branches of the first n keys of a heap, in order
abbrev pub frontier : ℕ → List ℕ → List Branch
frontier n slots = map branch_in (held n slots)
