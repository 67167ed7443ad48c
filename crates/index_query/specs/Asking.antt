-- What a caller asks, and what is asked of the search for it.
use Rattle.std.specs.Prelude.{◌≡◌, Bool, true, false, List, ℕ, ◌+◌, ◌≤◌, ℤ, length, take, replicate, Option, None, Some}
use Rattle.lists.specs.Basics.{All}
use Rattle.calendar.specs.declared.Date.{Date}
use Rattle.calendar.specs.Days.{Days, undated, days_if}
use Rattle.calendar.specs.Counting.{window_of}
use Rattle.geometry.specs.Points.{distance}
use Rattle.geometry.specs.Features.{Feature, plain, weighted, weighted_distance}
use Rattle.geometry.specs.Stored.{in_range}
use Rattle.geometry.specs.Numbers.{max_features, max_weight}
use Rattle.pagestore_page.specs.declared.Record.{Record}
use Rattle.search_rows.specs.declared.Row.{Row}
use Rattle.search_model.specs.declared.Choice.{Choice}
use Rattle.search.specs.declared.Query.{Query}
use Rattle.search_model.specs.Asked.{Asked, distance_to, Seekable}
use Rattle.search.specs.Steps.{asks}
use Rattle.index_query.specs.declared.Criteria.{Criteria}

-- the most rows that a question may ask for
abbrev pub max_rows : ℕ
max_rows = 64

-- the weights that a question carries, if it carries any (02, Q-1)
pub data Weights : Type 0 where
  unweighed : Weights
  weighed : List ℕ → Weights

-- as many as code is given them, if it is
abbrev pub weights_of : Option (List ℕ) → Weights
weights_of None = unweighed
weights_of (Some ws) = weighed ws

-- whether they are carried is a flag
abbrev pub weights_if : Bool → List ℕ → Weights
weights_if false ws = unweighed
weights_if true ws = weighed ws

-- the k nearest of a point, by the weights carried, of the stages in a set (02), six marks, bit s for stage s, and of the recording days named
pub record Question : Type 0 where
  pub point : List ℤ
  pub weights : Weights
  pub k : ℕ
  pub stages : ℕ
  pub days : Days

-- without weights and without dates
abbrev pub nearest_of : List ℤ → ℕ → ℕ → Question
nearest_of p k stages = record { point = p; weights = unweighed; k = k; stages = stages; days = undated }

-- as code is given it: the point and the weights in slices, and the rest
abbrev pub question_of : List ℤ → List ℕ → Criteria → Question
question_of p ws c = record { point = p; weights = weights_if c.weighted ws; k = c.k; stages = c.stages; days = days_if c.dated c.dates }

-- the criteria of a question without weights and without dates: `question_of p ws (nearest_by k stages)` is `nearest_of p k stages`
abbrev pub no_date : Date
no_date = record { year = 0; month = 0; day = 0 }

abbrev pub nearest_by : ℕ → ℕ → Criteria
nearest_by k stages = record { k = k; stages = stages; weighted = false; dated = false; dates = record { first = no_date; last = no_date } }

-- which records are looked for
abbrev pub choice_of : Question → Choice
choice_of w = record { stages = w.stages; window = window_of w.days }

-- each coordinate by itself: its gap has the weight carried for it, and without weights the weight 1
abbrev pub features_by : Weights → List ℤ → List Feature
features_by unweighed p = plain p
features_by (weighed ws) p = weighted ws p

-- the weights laid out for n features: those carried, or ones
abbrev pub laid_weights : ℕ → Weights → List ℕ
laid_weights n unweighed = replicate n 1
laid_weights n (weighed ws) = ws

-- what is asked of the search
abbrev pub sought : Question → Asked
sought w = record { features = features_by w.weights w.point; k = w.k; choice = choice_of w }

-- the distance of two points that it goes by
abbrev pub distance_by : Weights → List ℤ → List ℤ → ℕ
distance_by unweighed q p = distance q p
distance_by (weighed ws) q p = weighted_distance ws q p

-- there are as many weights as features, and none is above 1,000, where any are carried
abbrev pub AsMany : ℕ → Weights → Type 0
AsMany d unweighed = Unit {0}
AsMany d (weighed ws) = length ws ≡ d

abbrev pub Light : Weights → Type 0
Light unweighed = Unit {0}
Light (weighed ws) = All (λ x. x ≤ max_weight) ws

-- w suits an index of d features: it has so many coordinates, and so many weights
abbrev pub Suited : ℕ → Question → Type 0
Suited d w = (length w.point ≡ d) × AsMany d w.weights

-- a row without its position
abbrev pub bare : Row → ℕ × ℕ × ℕ
bare x = (x.distance, x.stamp, x.id)

-- a record's distance from what is asked, its stamp and its identifier
abbrev pub bare_of : Question → Record → ℕ × ℕ × ℕ
bare_of w r = (distance_to (sought w) r, r.stamp, r.id)

-- what can be searched for
pub record Searchable (w : Question) : Type 0 where
  pub features : 1 ≤ length w.point
  pub most : length w.point ≤ max_features
  pub ranges : in_range w.point ≡ true
  pub weights : AsMany (length w.point) w.weights
  pub light : Light w.weights
  pub some : 1 ≤ w.k
  pub few : w.k ≤ max_rows

-- the query that the search is handed for it
pub record QueryFor (w : Question) (r : Query) : Type 0 where
  pub slots : length r.features ≡ 64
  pub few : r.d ≤ max_features
  pub seekable : Seekable (take (48 + r.d) r.features)
  pub is : asks r ≡ sought w
