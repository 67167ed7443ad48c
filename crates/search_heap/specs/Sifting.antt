-- A number on its way down or up in a heap.
use Rattle.std.specs.Prelude.{ℕ, ◌≤◌, ◌<◌, ◌≡◌, ◌≢◌, List, length, get_or, drop, set, ltb}
use Rattle.lists.specs.Basics.{if}
use Rattle.search_heap.specs.Heap.{Child, Heap, held}

-- a heap but for h, which may be above its children; these are at least what is above h
pub record Sinking (n h : ℕ) (a : List ℕ) : Type 0 where
  pub fits : n ≤ length a
  pub place : h < n
  pub except : (p j : ℕ) → p ≢ h → Child n p j → get_or a p 0 ≤ get_or a j 0
  pub over : (p j : ℕ) → Child n p h → Child n h j → get_or a p 0 ≤ get_or a j 0

-- a heap but for h, which may be below its parent; its children are at least what is above h
pub record Rising (n h : ℕ) (a : List ℕ) : Type 0 where
  pub fits : n ≤ length a
  pub place : h < n
  pub except : (p j : ℕ) → j ≢ h → Child n p j → get_or a p 0 ≤ get_or a j 0
  pub over : (p j : ℕ) → Child n p h → Child n h j → get_or a p 0 ≤ get_or a j 0

-- that of the places i and j which holds the lower number
abbrev pub lower_of : List ℕ → ℕ → ℕ → ℕ
lower_of a i j = if (ltb (get_or a j 0) (get_or a i 0)) j i

-- c is a place, from `from` on and before `to`, that holds the least number there
pub record LeastIn (from to : ℕ) (a : List ℕ) (c : ℕ) : Type 0 where
  pub low : from ≤ c
  pub high : c < to
  pub least : (j : ℕ) → from ≤ j → j < to → get_or a c 0 ≤ get_or a j 0

-- a, with x put at h, has become the heap b
pub record Sifted (n h x : ℕ) (a b : List ℕ) : Type 0 where
  pub heap : Heap n b
  pub same : held n b ≡ held n (set a h x)
  pub rest : drop n b ≡ drop n a
