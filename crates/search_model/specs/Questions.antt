-- What demands 2 and 3 call for, of the tree that an index holds: its rows, and the set of leaves to be read.
use Rattle.std.specs.Prelude.{◌≡◌, Bool, true, not, ◌&&◌, ◌⊎◌, List, [], ◌∷◌, ◌++◌, map, ℕ, suc, ◌/◌, ◌≤◌, ◌<◌, ltb, ℤ, length, get_or}
use Rattle.lists.specs.Basics.{if}
use Rattle.lists.specs.Counts.{mult}
use Rattle.lists.specs.Sorting.{filter, count, sort}
use Rattle.geometry.specs.Features.{Feature, dist_to, InSpan}
use Rattle.search_theory.specs.Nearest.{Ranking, nearest, last_cost, in_set}
use Rattle.search_rows.specs.declared.Row.{Row}
use Rattle.pagestore_page.specs.declared.Record.{Record}
use Rattle.pagestore.specs.Store.{View}
use Rattle.tree_model.specs.Trees.{Item, first_key, last_key, live, leaves_of}
use Rattle.search_model.specs.Asked.{Asked, candidate, span_bound}
use Rattle.search_model.specs.Branches.{Branch, before, rows_among}
use Rattle.search_model.specs.Visit.{ranking, Answer, placed}
use Rattle.pagestore_page.specs.Layout.{page_size}

-- the rows of leaves, the first of them at position p
unfoldable pub rows_from : Asked → ℕ → List (Item 1) → List Row
unfolding rows_among
rows_from q p [] = []
rows_from q p (t ∷ ts) = rows_among q p t.1 ++ rows_from q (suc p) ts

-- the rows of all live candidates, each with the position of its leaf
unfoldable pub rows_of : View → Asked → List Row
unfolding rows_from
rows_of v q = rows_from q 0 (leaves_of v)

-- the bound (01) of a leaf: that of the span from its first record's pair to its last's
unfoldable pub leaf_bound : ℕ → Asked → Item 1 → ℕ
unfolding span_bound
leaf_bound d q t = span_bound q (first_key d t.1) (last_key d t.1)

-- the live records that are looked for
abbrev pub live_candidates : View → Asked → List Record
live_candidates v q = filter (candidate q) (live v)

-- Demand 3's set, rows ranked by r: the leaves holding records whose bound is at most the distance of the last row that demand 2 calls
-- for, or all of these when fewer than k candidates live.
unfoldable pub to_read_by : Ranking Row → View → Asked → Item 1 → Bool
unfolding rows_of leaf_bound
to_read_by r v q t = ltb 0 (length t.1) && in_set r q.k (rows_of v q) (leaf_bound v.d q t)

-- the answer that demands 2 and 3 call for: the k nearest rows, and as many leaves as the set has
abbrev pub due_by : Ranking Row → View → Asked → Answer
due_by r v q = record { rows = nearest r q.k (rows_of v q); leaves = count (to_read_by r v q) (leaves_of v) }

-- both by row order
abbrev pub to_read : View → Asked → Item 1 → Bool
to_read = to_read_by ranking

abbrev pub answer_due : View → Asked → Answer
answer_due = due_by ranking

-- The same set in the letter's own words (`set_points`). The span of the records rs has a whole-number point, within the coordinate
-- range, no farther from what is asked than m:
pub record Near (d : ℕ) (fs : List Feature) (rs : List Record) (m : ℕ) : Type 0 where
  pub point : List ℤ
  pub inside :
      InSpan (length fs) (first_key d rs).pyramid.0 (first_key d rs).height.0 (last_key d rs).pyramid.0 (last_key d rs).height.0 point
  pub near : dist_to fs point ≤ m

-- the distance of the last row that demand 2 calls for
abbrev pub last_distance : View → Asked → ℕ
last_distance v q = last_cost ranking (nearest ranking q.k (rows_of v q))

-- a leaf that demand 3 calls for: it holds records, and fewer than k candidates live or its span has such a point
pub record Called (v : View) (q : Asked) (t : Item 1) : Type 0 where
  pub some : 0 < length t.1
  pub reach : (length (live_candidates v q) < q.k) ⊎ Near v.d q.features t.1 (last_distance v q)

-- the leaf at position p as the search takes it, by (bound, position)
unfoldable pub leaf_branch : Asked → ℕ → ℕ → Item 1 → Branch
unfolding leaf_bound
leaf_branch q d p t = record { bound = leaf_bound d q t; place = p; level = 0; page = t.0 }

-- those of the set, the first leaf at position p
unfoldable pub set_from : View → Asked → ℕ → List (Item 1) → List Branch
unfolding to_read_by leaf_branch
set_from v q p [] = []
set_from v q p (t ∷ ts) = if (to_read v q t) (leaf_branch q v.d p t ∷ set_from v q (suc p) ts) (set_from v q (suc p) ts)

-- the leaves of the set in the order in which they are read, each by its position and its page
unfoldable pub reading_order : View → Asked → List (ℕ × ℕ)
unfolding set_from sort
reading_order v q = map placed (sort before (set_from v q 0 (leaves_of v)))

-- the pages of the leaves left unread
unfoldable pub unread_pages : View → Asked → List ℕ
unfolding to_read_by filter
unread_pages v q = map (λ t. t.0) (filter (λ t. not (to_read v q t)) (leaves_of v))

-- Demand 3's exchange, leaf by leaf: a leaf of the set keeps its records, any other one their number, its first key and its last key
pub record Kept (d : ℕ) (read : Bool) (t u : Item 1) : Type 0 where
  pub same : read ≡ true → u.1 ≡ t.1
  pub number : length u.1 ≡ length t.1
  pub first : first_key d u.1 ≡ first_key d t.1
  pub last : last_key d u.1 ≡ last_key d t.1
  -- and nothing more: an exchanged record may have any stage (02; `exchange_any_stage`) and any stamp

pub data Exchanged (d : ℕ) (read : Item 1 → Bool) : List (Item 1) → List (Item 1) → Type 0 where
  end : Exchanged d read [] []
  next : {t u : Item 1} {ts us : List (Item 1)} → Kept d (read t) t u → Exchanged d read ts us → Exchanged d read (t ∷ ts) (u ∷ us)

-- c has the length of the index b and its bytes, but for those of the pages ps
pub record AgreeBut (ps b c : List ℕ) : Type 0 where
  pub lent : length c ≡ length b
  pub bytes : (i : ℕ) → mult (i / page_size) ps ≡ 0 → get_or c i 0 ≡ get_or b i 0
