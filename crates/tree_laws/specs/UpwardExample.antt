-- 01's example: d = 1, identifiers 1, 2, .. at 1, 2, .., inserted upward into a new index.
use Rattle.std.specs.Prelude.{◌≡◌, pos, length}
use mathlib.Core.List.{List, [], ◌∷◌, map}
use Prim.Native.Nat.{ℕ, zero, suc, ◌-◌, ◌≤◌}
use Rattle.lists.specs.Basics.{tabulate, range_from}
use Rattle.geometry.specs.Stored.{slots_of}
use Rattle.pagestore_page.specs.declared.Record.{Record}
use Rattle.pagestore.specs.Store.{pages_in, free_at, new_index, view_of}
use Rattle.tree_model.specs.Trees.{live}
use Rattle.tree_model.specs.Sound.{Permitted, SoundIndex}
use Rattle.tree_model.specs.Inserting.{Shape}
use Rattle.tree_core.specs.Insertion.{insert_into}
use Rattle.tree_laws.specs.Wholes.{shape_at}
use Rattle.tree_laws.specs.DeletePromises.{delete_ident}

-- identifier n at n
abbrev pub numbered : ℕ → Record
numbered n = record { id = n; stage = 0; stamp = 0; coords = slots_of (pos n ∷ []) }

-- 1, 2, .. up to n
abbrev pub up_to : ℕ → List Record
up_to n = tabulate n (λ i. numbered (suc i))

-- the index after n insertions
unfoldable pub upward : List ℕ → ℕ → List ℕ
upward b zero = new_index b 1
upward b (suc n) = insert_into (upward b n) (numbered (suc n))

-- UP TO 16: ONE LEAF

pub record Upward (b : List ℕ) (n : ℕ) : Type 0 where
  pub sound : SoundIndex (upward b n)
  pub shape : ◌≡◌ {A = Shape} (shape_at (upward b n)) (0, (1, up_to n))
  pub records_are : live (view_of (upward b n)) ≡ up_to n
  pub free : free_at (upward b n) ≡ range_from 2 (pages_in b - 2)
  pub features : (view_of (upward b n)).d ≡ 1

-- THE 17TH, AND DELETING IT

-- the leaves 1..9 at page 1 and 10..17 at page 2, below the root at page 3
unfoldable pub split_shape : Shape
split_shape = (1, (3, (1, map numbered (range_from 1 9)) ∷ (2, map numbered (range_from 10 8)) ∷ []))

-- the leaves 1..8 and 9..16
unfoldable pub rebalanced_shape : Shape
rebalanced_shape = (1, (3, (1, map numbered (range_from 1 8)) ∷ (2, map numbered (range_from 9 8)) ∷ []))

module _ (b : List ℕ) (lent : Permitted (length b)) (four : 4 ≤ pages_in b) where
  abbrev pub sixteen : List ℕ
  sixteen = delete_ident (upward b 17) 17

  abbrev pub fifteen : List ℕ
  fifteen = delete_ident (delete_ident (upward b 17) 17) 16
