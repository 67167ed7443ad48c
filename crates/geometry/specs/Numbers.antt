-- The numbers that points and questions are bounded by.
use Rattle.std.specs.Prelude.{ℕ}

-- the most features of an index
abbrev pub max_features : ℕ
max_features = 16

-- the greatest magnitude of a coordinate, which a stored coordinate has added to it
abbrev pub max_coordinate : ℕ
max_coordinate = 1000

-- the greatest weight of a feature
abbrev pub max_weight : ℕ
max_weight = 1000
