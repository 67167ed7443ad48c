-- The search by itself, as a function of the bytes lent and of what is asked.
use Rattle.std.specs.Prelude.{Bool, true, ◌||◌, List, [], ◌∷◌, map, ℕ, ◌*◌, eqb, leb, ltb, length}
use Rattle.lists.specs.Basics.{if}
use Rattle.lists.specs.Sorting.{filter, insert_all, offer_all}
use Rattle.pagestore.specs.Store.{level, total, pages_in, field_at}
use Rattle.search_theory.specs.Nearest.{Ranking, Outcome, exceeds}
use Rattle.search_theory.specs.Frontier.{seek}
use Rattle.search_rows.specs.declared.Row.{Row}
use Rattle.search_rows.specs.Rows.{by_distance}
use Rattle.search_model.specs.Numbers.{max_level}
use Rattle.search_model.specs.Asked.{Asked, span_bound}
use Rattle.search_model.specs.Branches.{Branch, branch_bound, before, is_leaf, page_in, branches, opened, kids, root_branch, rows_among, rows_at}

-- rows go by distance, then by later stamp, then by identifier; all rows are candidates'
abbrev pub ranking : Ranking Row
ranking = by_distance (λ x. true)

-- the answer to a question: the rows, and the number of leaves read
pub record Answer : Type 0 where
  pub rows : List Row
  pub leaves : ℕ

abbrev pub answer_of : Outcome Row Branch → Answer
answer_of o = record { rows = o.rows; leaves = length o.read }

-- numbers of records, and the room that so many call for
abbrev pub few_records : ℕ
few_records = 1024

abbrev pub some_records : ℕ
some_records = 4096

abbrev pub many_records : ℕ
many_records = 16384

abbrev pub small_room : ℕ
small_room = 128

abbrev pub middle_room : ℕ
middle_room = 512

abbrev pub large_room : ℕ
large_room = 2048

abbrev pub full_room : ℕ
full_room = 8192

-- How many branches the frontier has room for: no more than there are leaves, and a leaf but the root has 8 records or more.
abbrev pub room_for : ℕ → ℕ
room_for n = if (leb n few_records) small_room (if (leb n some_records) middle_room (if (leb n many_records) large_room full_room))

unfoldable pub room : List ℕ → ℕ
room b = room_for (field_at total b)

-- The visit from the root on. As many steps are taken at most as twice the pages: in a sound index they and the room are enough.
unfoldable pub visited : List ℕ → Asked → Outcome Row Branch
unfolding seek exceeds filter insert_all offer_all span_bound page_in branches opened rows_among room
visited b q = seek ranking branch_bound (rows_at b q) before is_leaf (kids b q) q.k (room b) (2 * pages_in b) (root_branch b ∷ []) []

-- nothing is read where the header's total is 0 (01), or where the root's level is above the highest: no sound index has such a root
unfoldable pub reads_none : List ℕ → Bool
reads_none b = eqb (field_at total b) 0 || ltb max_level (field_at level b)

-- what the search finds in the index b of what is asked
unfoldable pub found : List ℕ → Asked → Answer
unfolding visited reads_none
found b q = if (reads_none b) (record { rows = []; leaves = 0 }) (answer_of (visited b q))

-- a leaf by its position and its page
abbrev pub placed : Branch → ℕ × ℕ
placed x = (x.place, x.page)

-- the leaves that are read for it, in the order of reading
unfoldable pub leaves_read : List ℕ → Asked → List (ℕ × ℕ)
unfolding visited reads_none
leaves_read b q = if (reads_none b) [] (map placed (visited b q).read)
