-- Whether an index holds a record in the leaf to which its key leads; no other leaf is looked at. Nothing is assumed of the bytes.
use Rattle.std.specs.Prelude.{Bool, false, List, [], ◌∷◌, ℕ, zero, suc, eqb, take}
use Rattle.lists.specs.Basics.{if}
use Rattle.lists.specs.Equal.{same}
use Rattle.pagestore_page.specs.declared.Record.{Record}
use Rattle.pagestore.specs.Store.{features, root, level, leaf_at, inner_at, records_in, entries_in, field_at}
use Rattle.tree_model.specs.Trees.{rank_of}
use Rattle.tree_model.specs.Inserting.{choose}
use Rattle.tree_core.specs.Entries.{child_at}

-- the leaf to which rank k leads from page p of level l: at each inner page the child that an insertion would choose
unfoldable pub leaf_for : ℕ → List ℕ → ℕ → ℕ → ℕ
leaf_for zero b p k = p
leaf_for (suc l) b p k = let es = entries_in (inner_at b p) in leaf_for l b (child_at es (choose k es)) k

-- two records have the same point: their first d slots
unfoldable pub same_point : ℕ → Record → Record → Bool
same_point d x y = same (take d x.coords) (take d y.coords)

-- the first of some records that has x's identifier has x's point
unfoldable pub held_among : ℕ → Record → List Record → Bool
held_among d x [] = false
held_among d x (r ∷ rs) = if (eqb r.id x.id) (same_point d r x) (held_among d x rs)

-- those of the leaf to which x's key leads
unfoldable pub holds_at : List ℕ → Record → Bool
holds_at b x =
    let d = field_at features b in
    held_among d x (records_in (leaf_at b (leaf_for (field_at level b) b (field_at root b) (rank_of d x))))
