-- The nearest rows, and the visit of leaves in order of their bounds: definitions.
-- A: a row, what a question sees of a record. L: a leaf.
use Rattle.std.specs.Prelude.{Bool, ◌&&◌, ◌||◌, ℕ, ◌-◌, ◌≤◌, length, get_or}
use mathlib.Core.List.{List, [], ◌∷◌, map}
use Rattle.std.proofs.Math.ListN.{take}
use Rattle.std.proofs.Math.Dec.{ltb, leb}
use Rattle.lists.specs.Basics.{if, All}
use Rattle.lists.specs.Sorting.{filter, sort, offer_all}
use Rattle.lists.specs.Orders.{by}

-- How a question ranks rows: by cost (01: squared distance), equal costs by a tie rule (demand 2, Q-9: later stamp, then lower identifier).
-- Only rows that pass are candidates. (The search hands over the rows of candidates alone, so there all rows pass.)
pub record Ranking (A : Type 0) : Type 0 where
  pub cost : A → ℕ
  pub tie : A → A → Bool
  pub passes : A → Bool

-- whether x costs at most m
abbrev pub at_most : {A : Type 0} → (A → ℕ) → ℕ → A → Bool
at_most cost m x = leb (cost x) m

module _ {A : Type 0} (r : Ranking A) where
  -- row order
  abbrev pub row_order : A → A → Bool
  row_order = by r.cost r.tie

  -- the candidates among xs, in row order
  unfoldable pub candidates : List A → List A
  unfolding filter sort
  candidates xs = sort row_order (filter r.passes xs)

  -- the k nearest, nearest first, or all candidates if there are fewer
  unfoldable pub nearest : ℕ → List A → List A
  unfolding candidates
  nearest k xs = take k (candidates xs)

  -- the k-th cost of a list of rows, 0 where there is none
  unfoldable pub kth : ℕ → List A → ℕ
  kth k rows = get_or (map r.cost rows) (k - 1) 0

  -- the cost of the last row
  abbrev pub last_cost : List A → ℕ
  last_cost rows = kth (length rows) rows

  -- b exceeds the k-th cost: there are k rows, and the k-th costs less than b
  unfoldable pub exceeds : ℕ → ℕ → List A → Bool
  unfolding kth
  exceeds k b rows = leb k (length rows) && ltb (kth k rows) b

  -- Demand 3's set, for the question of the k nearest of xs: a leaf is in it if its bound b is at most the cost of the
  -- last row that demand 2 calls for, or if there are fewer than k candidates.
  unfoldable pub in_set : ℕ → List A → ℕ → Bool
  unfolding nearest kth
  in_set k xs b = ltb (length (nearest k xs)) k || leb b (last_cost (nearest k xs))

-- what a visit gives: the rows found, and the leaves read, in the order of reading
pub record Outcome (A L : Type 0) : Type 0 where
  pub rows : List A
  pub read : List L

-- leaf l read before the leaves of o
abbrev pub reading : {A L : Type 0} → L → Outcome A L → Outcome A L
reading l o = record { rows = o.rows; read = l ∷ o.read }

-- leaf l holds no row that costs less than its bound
abbrev pub Floor : {A L : Type 0} → Ranking A → (L → ℕ) → (L → List A) → L → Type 0
Floor r bound rows l = All (λ x. bound l ≤ r.cost x) (rows l)

-- bound: of a leaf for the question. rows: of the records in a leaf.
module _ {A L : Type 0} (r : Ranking A) (bound : L → ℕ) (rows : L → List A) (k : ℕ) where
  -- the candidates of leaf l offered to the k best rows so far
  abbrev pub offered : L → List A → List A
  offered l s = offer_all (row_order r) k (filter r.passes (rows l)) s

  -- leaves read in the order given until the next bound exceeds the k-th cost found; s: the k best rows so far
  unfoldable pub visit : List L → List A → Outcome A L
  unfolding exceeds filter offer_all
  visit [] s = record { rows = s; read = [] }
  visit (l ∷ ls) s = if (exceeds r k (bound l) s) (record { rows = s; read = [] }) (reading l (visit ls (offered l s)))

  -- 01's visit: the leaves taken by bound, equal bounds by `tie` (01: by position)
  unfoldable pub best_first : (L → L → Bool) → List L → Outcome A L
  unfolding visit sort
  best_first tie ls = visit (sort (by bound tie) ls) []
