-- What a question says of each coordinate, the distance by it, and the bound of a span (01, "Pyramid and height"; 02, Q-1 and Q-11).
use Rattle.std.specs.Prelude.{◌≡◌, List, [], ◌∷◌, ℕ, max, ◌+◌, ◌*◌, ◌≤◌, ℤ, pos, negsuc, nat_abs, ◌-ℤ◌, length, ◌≤ℤ◌}
use Rattle.geometry.specs.Numbers.{max_coordinate}
use Rattle.geometry.specs.Points.{InRange, height_of, pyramid_of, PairLe}

-- one coordinate of a question: any value from low to high (a point has low = high), and the weight of its squared gap
pub record Feature : Type 0 where
  pub low : ℤ
  pub high : ℤ
  pub weight : ℕ

-- a number, or 0 where it is below 0
abbrev pub upper : ℤ → ℕ
upper (pos n) = n
upper (negsuc n) = 0

-- the gap of p from low .. high: the greatest of 0, low - p and p - high
unfoldable pub gap_of : ℤ → ℤ → ℤ → ℕ
gap_of low high p = max (upper (low -ℤ p)) (upper (p -ℤ high))

abbrev pub gap_to : Feature → ℤ → ℕ
gap_to f p = gap_of f.low f.high p

-- what a gap costs: the weight times its square
abbrev pub cost_of : Feature → ℕ → ℕ
cost_of f g = f.weight * (g * g)

-- the distance of a point from what is asked: what the gaps of its coordinates cost
unfoldable pub dist_to : List Feature → List ℤ → ℕ
dist_to [] ps = 0
dist_to (f ∷ fs) [] = 0
dist_to (f ∷ fs) (p ∷ ps) = cost_of f (gap_to f p) + dist_to fs ps

-- the unweighted question for a point: every weight is 1
unfoldable pub plain : List ℤ → List Feature
plain [] = []
plain (c ∷ cs) = record { low = c; high = c; weight = 1 } ∷ plain cs

-- the question for a point with a weight for each coordinate (02, Q-1)
unfoldable pub weighted : List ℕ → List ℤ → List Feature
weighted [] cs = []
weighted (w ∷ ws) [] = []
weighted (w ∷ ws) (c ∷ cs) = record { low = c; high = c; weight = w } ∷ weighted ws cs

-- "the sum of weight times squared difference" (02, Q-1)
unfoldable pub weighted_distance : List ℕ → List ℤ → List ℤ → ℕ
weighted_distance [] qs ps = 0
weighted_distance (w ∷ ws) [] ps = 0
weighted_distance (w ∷ ws) (q ∷ qs) [] = 0
weighted_distance (w ∷ ws) (q ∷ qs) (p ∷ ps) = w * (nat_abs (q -ℤ p) * nat_abs (q -ℤ p)) + weighted_distance ws qs ps

-- no range is empty
abbrev pub Ordered : List Feature → Type 0
Ordered [] = Unit {0}
Ordered (f ∷ fs) = (f.low ≤ℤ f.high) × Ordered fs

-- what may be asked: values in range, weights of at most W (`max_weight`; 1 without weights)
abbrev pub Asks : ℕ → List Feature → Type 0
Asks W [] = Unit {0}
Asks W (f ∷ fs) = ((nat_abs f.low ≤ max_coordinate) × (nat_abs f.high ≤ max_coordinate) × (f.weight ≤ W)) × Asks W fs

-- p is a grid point of d coordinates, in range, whose pair is in the span from the pair (i, h) to the pair (i', h')
pub record InSpan (d i h i' h' : ℕ) (p : List ℤ) : Type 0 where
  pub same : length p ≡ d
  pub grid : InRange p
  pub after : PairLe i h (pyramid_of p) (height_of p)
  pub before : PairLe (pyramid_of p) (height_of p) i' h'

-- B is the bound, for the question fs, of the span: a point of the span has that distance, and none has a smaller one
pub record IsBound (fs : List Feature) (i h i' h' B : ℕ) : Type 0 where
  pub point : List ℤ
  pub inside : InSpan (length fs) i h i' h' point
  pub reached : dist_to fs point ≡ B
  pub least : (p : List ℤ) → InSpan (length fs) i h i' h' p → B ≤ dist_to fs p
