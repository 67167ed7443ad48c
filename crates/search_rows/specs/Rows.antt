-- Rows, row order, and a row in two words.
use Rattle.std.specs.Prelude.{Bool, ℕ, ◌+◌, ◌*◌, ◌-◌, ◌/◌, ◌%◌, ◌<◌}
use Rattle.lists.specs.Orders.{by, by_higher, lower}
use Rattle.search_theory.specs.Nearest.{Ranking}
use Rattle.search_rows.specs.declared.Row.{Row}

abbrev pub distance : Row → ℕ
distance x = x.distance

abbrev pub stamp : Row → ℕ
stamp x = x.stamp

abbrev pub id : Row → ℕ
id x = x.id

abbrev pub position : Row → ℕ
position x = x.position

-- The lower identifier: 01's tie rule in demand 2. Position comes last and makes the order total: in a sound index identifiers
-- are distinct, so it never decides.
abbrev pub id_order : Row → Row → Bool
id_order = by id (lower position)

-- The tie rule since Q-9 (02): the later stamp, then the lower identifier.
abbrev pub tie_order : Row → Row → Bool
tie_order = by_higher stamp id_order

-- The same without position, in Q-9's words: by later stamp, then by lower identifier.
abbrev pub newest_tie : Row → Row → Bool
newest_tie = by_higher stamp (lower id)

-- row order: by distance, equal distances by the tie rule
abbrev pub row_order : Row → Row → Bool
row_order = by distance tie_order

-- The same in Q-9's words. It is also the order of a mark, a distance, a stamp and an identifier (02, Q-6).
abbrev pub newest_first : Row → Row → Bool
newest_first = by distance newest_tie

-- how a question ranks rows of which those that pass are candidates
abbrev pub by_distance : (Row → Bool) → Ranking Row
by_distance passes = record { cost = distance; tie = tie_order; passes = passes }

-- how 01 ranks them, which knows no stamps
abbrev pub by_identifier : (Row → Bool) → Ranking Row
by_identifier passes = record { cost = distance; tie = id_order; passes = passes }

-- ---- A ROW IN TWO WORDS
-- One behind the other: the distance, the age, of which the lower word has the last 4 bits, the identifier, and the position. So the
-- words of rows, compared as one number, are in row order.

-- the latest stamp, and how far from it a stamp is: the later, the lower
abbrev pub latest : ℕ
latest = 4294967295

abbrev pub age_of : ℕ → ℕ
age_of stamp = latest - stamp

abbrev pub age : Row → ℕ
age x = age_of x.stamp

-- in the words there is room for so many distances, last bits of an age, identifiers and positions; its first bits have as much as a position
abbrev pub distances : ℕ
distances = 68719476736

abbrev pub ages : ℕ
ages = 16

abbrev pub ids : ℕ
ids = 4294967296

abbrev pub positions : ℕ
positions = 268435456

-- the upper word, and the lower
abbrev pub high_of : Row → ℕ
high_of x = x.distance * positions + age x / ages

abbrev pub low_of : Row → ℕ
low_of x = (age x % ages * ids + x.id) * positions + x.position

-- the distance of a row whose upper word is known
abbrev pub distance_in : ℕ → ℕ
distance_in high = high / positions

abbrev pub row_of : ℕ → ℕ → Row
row_of high low = record {
  distance = distance_in high;
  id = low / positions % ids;
  stamp = latest - (high % positions * ages + low / positions / ids);
  position = low % positions;
}

-- a row that two words hold
pub record FitsWords (x : Row) : Type 0 where
  pub near : x.distance < distances
  pub placed : x.position < positions
