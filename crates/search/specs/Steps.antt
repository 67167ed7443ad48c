-- What the visit and the search do.
use Rattle.std.specs.Prelude.{◌≡◌, ◌≢◌, Bool, true, false, List, ℕ, ◌+◌, ◌*◌, ◌-◌, ◌≤◌, ◌<◌, length, take, get_or}
use Rattle.pagestore.specs.Store.{view_of, level, inner_at, entries_in, field_at}
use Rattle.tree_model.specs.Sound.{SoundIndex}
use Rattle.search_rows.specs.Held.{rows_in, behind_all, Held}
use Rattle.search.specs.declared.Query.{Query}
use Rattle.search.specs.declared.Seen.{Seen}
use Rattle.search_frontier.specs.Keys.{bound_in, level_in, number_in}
use Rattle.geometry_bounds.specs.Bounds.{Ready}
use Rattle.search_model.specs.Numbers.{max_level}
use Rattle.search_model.specs.Asked.{Seekable, Asked, Askable, asking}
use Rattle.search_model.specs.Visit.{full_room, Answer, answer_of, room, visited, found}
use Rattle.search_model.specs.Questions.{answer_due, unread_pages, AgreeBut}
use Rattle.geometry.specs.Numbers.{max_features}

-- what a visit is lent: room for branches and for k rows
pub record Visits (index asked near whole : List ℕ) (k : ℕ) (slots highs lows : List ℕ) : Type 0 where
  pub seekable : Seekable asked
  pub ready : Ready asked near whole
  pub low : field_at level index ≤ max_level
  pub one : 1 ≤ k
  pub room : length slots ≡ room index
  pub room_highs : k ≤ length highs
  pub room_lows : k ≤ length lows

-- a turn of the visit: n branches in the frontier, and rows, of which k are kept
pub record Turns (slots : List ℕ) (n : ℕ) (highs : List ℕ) (rows k : ℕ) : Type 0 where
  pub fits : n ≤ length slots
  pub size : length slots ≤ full_room
  pub one : 1 ≤ k
  pub few : rows ≤ k
  pub room : k ≤ length highs

-- the key of the first branch
abbrev pub first_slot : List ℕ → ℕ
first_slot slots = get_or slots 0 0

-- how many branches it gives, with those behind it, if it is an inner page
abbrev pub widened : List ℕ → List ℕ → ℕ → ℕ
widened index slots n = length (entries_in (inner_at index (number_in (first_slot slots)))) + (n - 1)

-- the first branch is taken
pub record Goes (index slots : List ℕ) (n : ℕ) (highs : List ℕ) (rows k steps : ℕ) : Type 0 where
  pub left : 0 < steps
  pub some : 0 < n
  pub near : behind_all highs rows k (bound_in (first_slot slots)) ≡ false
  pub room : level_in (first_slot slots) ≢ 0 → widened index slots n ≤ length slots

-- or the visit ends: no step is left, no branch, the bound of the first exceeds the k-th distance, or there is no room for what it gives
pub data Ends (index slots : List ℕ) (n : ℕ) (highs : List ℕ) (rows k steps : ℕ) : Type 0 where
  spent : steps ≡ 0 → Ends index slots n highs rows k steps
  empty : n ≡ 0 → Ends index slots n highs rows k steps
  far : 0 < steps → 0 < n → behind_all highs rows k (bound_in (first_slot slots)) ≡ true → Ends index slots n highs rows k steps
  full : 0 < steps → 0 < n → behind_all highs rows k (bound_in (first_slot slots)) ≡ false → level_in (first_slot slots) ≢ 0
      → length slots < widened index slots n → Ends index slots n highs rows k steps

-- r says which
pub record GoesOn (index slots : List ℕ) (n : ℕ) (highs : List ℕ) (rows k steps : ℕ) (r : Bool) : Type 0 where
  pub goes : r ≡ true → Goes index slots n highs rows k steps
  pub ends : r ≡ false → Ends index slots n highs rows k steps

-- the answer in arrays of rows, of which some are held
abbrev pub answer_in : List ℕ → List ℕ → Seen → Answer
answer_in highs lows r = record { rows = rows_in highs lows r.rows; leaves = r.leaves }

-- the visit has been made: its rows are held, and its leaves counted
pub record Visited (index : List ℕ) (q : Asked) (highs lows : List ℕ) (r : Seen) : Type 0 where
  pub held : Held highs lows r.rows q.k
  pub answer : answer_in highs lows r ≡ answer_of (visited index q)

-- a question for k rows, with room for them
pub record Looks (asked : List ℕ) (k : ℕ) (highs lows : List ℕ) : Type 0 where
  pub seekable : Seekable asked
  pub one : 1 ≤ k
  pub room_highs : k ≤ length highs
  pub room_lows : k ≤ length lows

-- a question by value
abbrev pub asks : Query → Asked
asks w = asking (take (3 * max_features + w.d) w.features) w.k w.choice

-- and with room for its rows
pub record Searches (w : Query) (highs lows : List ℕ) : Type 0 where
  pub slots : length w.features ≡ 4 * max_features
  pub few : w.d ≤ max_features
  pub looked : Looks (take (3 * max_features + w.d) w.features) w.k highs lows

-- What the search by itself promises of the bytes lent, with no check of them.
pub record Searched (index : List ℕ) (q : Asked) (highs lows : List ℕ) (r : Seen) : Type 0 where
  -- for any bytes
  pub answer : answer_in highs lows r ≡ found index q
  pub few : r.rows ≤ q.k
  -- Demand 3: for every sound index of which these are the bytes, but for the pages of the leaves left unread, the rows are the
  -- k nearest of its candidates, and the leaves read are as many as its set has.
  pub sound : (b : List ℕ) → SoundIndex b → Askable (view_of b).d q → AgreeBut (unread_pages (view_of b) q) b index
      → answer_in highs lows r ≡ answer_due (view_of b) q
