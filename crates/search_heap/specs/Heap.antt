-- A min-heap in the first n elements of a list, each with four children, and what push and pop do to it.
use Rattle.std.specs.Prelude.{ℕ, ◌+◌, ◌*◌, ◌-◌, ◌≤◌, ◌<◌, ◌≡◌, List, ◌∷◌, length, get_or, take, drop, ltb}
use Rattle.lists.specs.Sorting.{sort, insert_by}

-- j is a child of p among the first n
pub record Child (n p j : ℕ) : Type 0 where
  pub low : 4 * p + 1 ≤ j
  pub high : j ≤ 4 * p + 4
  pub within : j < n

-- each of the first n is at most its children
pub record Heap (n : ℕ) (a : List ℕ) : Type 0 where
  pub fits : n ≤ length a
  pub ordered : (p j : ℕ) → Child n p j → get_or a p 0 ≤ get_or a j 0

-- the first n in rising order: what a heap holds, whatever its layout
abbrev pub held : ℕ → List ℕ → List ℕ
held n a = sort ltb (take n a)

-- x is put into the heap of n in a: r are in b then. A full list takes nothing
pub record Pushed (n x : ℕ) (a : List ℕ) (r : ℕ) (b : List ℕ) : Type 0 where
  pub heap : Heap r b
  pub room : n < length a → (r ≡ n + 1) × (held (n + 1) b ≡ insert_by ltb x (held n a)) × (drop (n + 1) b ≡ drop (n + 1) a)
  pub full : length a ≤ n → (r ≡ n) × (b ≡ a)

-- r, the least, is taken out of the heap of n in a
pub record Popped (n : ℕ) (a : List ℕ) (r : ℕ) (b : List ℕ) : Type 0 where
  pub heap : Heap (n - 1) b
  pub top : r ≡ get_or a 0 0
  pub least : held n a ≡ r ∷ held (n - 1) b
  pub rest : drop (n - 1) b ≡ drop (n - 1) a
