-- The refusal table (01): for each act its numbers in their order, each with what has to hold or else that number is returned.
-- Laid beside the table: a number's condition says the contrary of "given when".
use Rattle.std.specs.Prelude.{◌≡◌, true, ◌⊎◌, List, [], ◌∷◌, map, ℕ, ◌≤◌, ◌<◌, ℤ, length}
use Rattle.lists.specs.Counts.{mult}
use Rattle.calendar.specs.Days.{Days, InCalendars, InOrder}
use Rattle.geometry.specs.Stored.{slots_of, in_range}
use Rattle.geometry.specs.Numbers.{max_features}
use Rattle.pagestore_page.specs.declared.Record.{Record}
use Rattle.pagestore.specs.Store.{view_of, free_at}
use Rattle.tree_model.specs.Trees.{ident_of, live}
use Rattle.tree_model.specs.Sound.{Permitted, SoundIndex, max_points, max_stage}
use Rattle.tree_core.specs.Insertion.{pages_wanted}
use Rattle.search_model.specs.Asked.{full_set}
use Rattle.index_query.specs.Asking.{Question, Light, Suited, max_rows}
use Rattle.index_refusals.specs.declared.Epoch.{Epoch}

-- a number with its condition
abbrev pub Rule : Type 1
Rule = ℕ × Type 0

-- n is the number of the first rule whose condition fails, or 0 where none fails
abbrev pub First : List Rule → ℕ → Type 0
First [] n = n ≡ 0
First (rule ∷ rules) n = ((n ≡ rule.0) × ¬ rule.1) ⊎ (rule.1 × First rules n)

-- the numbers of rules, in their order
abbrev pub numbers : List Rule → List ℕ
numbers [] = []
numbers (rule ∷ rules) = rule.0 ∷ numbers rules

-- the record that an insert brings: the epoch's identifier, stage and stamp, and its point as it is stored
abbrev pub record_of : Epoch → List ℤ → Record
record_of e p = record { id = e.id; stage = e.stage; stamp = e.stamp; coords = slots_of p }

-- how often the identifier i is live: once or not at all
abbrev pub live_times : List ℕ → ℕ → ℕ
live_times b i = mult i (map ident_of (live (view_of b)))

-- the numbers, by the words of include/epoch_index.h; 12 is none of them (Q-7)

abbrev pub bad_length : ℕ
bad_length = 1

abbrev pub unsound : ℕ
unsound = 2

abbrev pub bad_features : ℕ
bad_features = 3

abbrev pub bad_coordinate : ℕ
bad_coordinate = 4

abbrev pub zero_id : ℕ
zero_id = 5

abbrev pub already_live : ℕ
already_live = 6

abbrev pub not_live : ℕ
not_live = 7

abbrev pub full : ℕ
full = 8

abbrev pub no_pages : ℕ
no_pages = 9

abbrev pub bad_k : ℕ
bad_k = 10

abbrev pub few_rows : ℕ
few_rows = 11

abbrev pub bad_weight : ℕ
bad_weight = 14

abbrev pub bad_stage : ℕ
bad_stage = 15

abbrev pub bad_stage_set : ℕ
bad_stage_set = 16

abbrev pub bad_date : ℕ
bad_date = 17

abbrev pub dates_reversed : ℕ
dates_reversed = 18

-- b: the bytes lent. d: features. e: an epoch. i: an identifier. p: a point. w: a question. n: rows lent.

abbrev pub make_rules : ℕ → ℕ → List Rule
make_rules bytes d =
    (bad_length, Permitted bytes)
    ∷ (bad_features, (1 ≤ d) × (d ≤ max_features))
    ∷ []

abbrev pub insert_rules : List ℕ → Epoch → List ℤ → List Rule
insert_rules b e p =
    (bad_length, Permitted (length b))
    ∷ (unsound, SoundIndex b)
    ∷ (bad_features, length p ≡ (view_of b).d)
    ∷ (bad_coordinate, in_range p ≡ true)
    ∷ (zero_id, 1 ≤ e.id)
    ∷ (bad_stage, e.stage ≤ max_stage)
    ∷ (already_live, live_times b e.id ≡ 0)
    ∷ (full, length (live (view_of b)) < max_points)
    ∷ (no_pages, pages_wanted b (record_of e p) ≤ length (free_at b))
    ∷ []

abbrev pub delete_rules : List ℕ → ℕ → List Rule
delete_rules b i =
    (bad_length, Permitted (length b))
    ∷ (unsound, SoundIndex b)
    ∷ (zero_id, 1 ≤ i)
    ∷ (not_live, 0 < live_times b i)
    ∷ []

-- those of the recording days that a question names (02, Q-4)
abbrev pub day_rules : Days → List Rule
day_rules days =
    (bad_date, InCalendars days)
    ∷ (dates_reversed, InOrder days)
    ∷ []

-- those of a question that look at no index and not at its point or its weights
abbrev pub asked_rules : Question → ℕ → List Rule
asked_rules w n =
    (bad_k, (1 ≤ w.k) × (w.k ≤ max_rows))
    ∷ (few_rows, w.k ≤ n)
    ∷ (bad_stage_set, (1 ≤ w.stages) × (w.stages ≤ full_set))
    ∷ day_rules w.days

abbrev pub question_rules : List ℕ → Question → ℕ → List Rule
question_rules b w n =
    (bad_length, Permitted (length b))
    ∷ (unsound, SoundIndex b)
    ∷ (bad_features, Suited (view_of b).d w)
    ∷ (bad_coordinate, in_range w.point ≡ true)
    ∷ (bad_weight, Light w.weights)
    ∷ asked_rules w n

abbrev pub check_rules : List ℕ → List Rule
check_rules b =
    (bad_length, Permitted (length b))
    ∷ (unsound, SoundIndex b)
    ∷ []
