-- Deletion (tree_model `Deleting`) on the bytes of an index. Nothing is assumed of them.
use Rattle.std.specs.Prelude.{List, [], ◌∷◌, ◌++◌, ℕ, zero, suc, ◌-◌, leb, eqb, length, take, drop, set}
use Rattle.lists.specs.Basics.{if}
use Rattle.pagestore_page.specs.declared.Record.{Record}
use Rattle.pagestore_page.specs.declared.Entry.{Entry}
use Rattle.pagestore.specs.Store.{features, root, level, total, leaf_at, inner_at, records_in, entries_in, set_leaf, set_inner, field_at, set_field, free_page}
use Rattle.tree_model.specs.Trees.{min_items, rank_of}
use Rattle.tree_model.specs.Inserting.{choose}
use Rattle.tree_model.specs.Deleting.{delete_record, rebalanced_items, left_of}
use Rattle.tree_core.specs.Entries.{child_at, leaf_entry, inner_entry}
use Rattle.tree_core.specs.Insertion.{Rewritten, write_inner}

-- the index after a deletion below a page, the page's entry, and how many items it has left
pub record Deleted : Type 0 where
  pub bytes : List ℕ
  pub entry : Entry
  pub count : ℕ

-- REBALANCING

-- the lists at the pages p and q; those that have merged go to the left page p, and the right page q is freed
unfoldable pub put_rebalanced : {A : Type 0} → (List ℕ → ℕ → List A → List ℕ) → (ℕ → List A → Entry) → List ℕ → ℕ → ℕ → List (List A) → Rewritten
put_rebalanced write entry b p q [] = record { bytes = b; entries = [] }
put_rebalanced write entry b p q (us ∷ []) = record { bytes = free_page (write b p us) q; entries = entry p us ∷ [] }
put_rebalanced write entry b p q (us ∷ vs ∷ ws) = record { bytes = write (write b p us) q vs; entries = entry p us ∷ entry q vs ∷ [] }

-- the neighbours p and q of level l
unfoldable pub rebalanced_pages : ℕ → ℕ → List ℕ → ℕ → ℕ → Rewritten
rebalanced_pages d zero b p q = put_rebalanced set_leaf (leaf_entry d) b p q (rebalanced_items (records_in (leaf_at b p)) (records_in (leaf_at b q)))
rebalanced_pages d (suc l) b p q = put_rebalanced (write_inner (suc l)) inner_entry b p q (rebalanced_items (entries_in (inner_at b p)) (entries_in (inner_at b q)))

-- DELETION BELOW A PAGE

-- the inner page p of level l, left with the entries es
abbrev pub leave : ℕ → List ℕ → ℕ → List Entry → Deleted
leave l b p es = record { bytes = set_inner b p l es; entry = inner_entry p es; count = length es }

-- the page p of level h with the entries es, when its child at place i, of level l, has been rebalanced with its partner
unfoldable pub rebalanced_below : ℕ → ℕ → ℕ → List ℕ → ℕ → List Entry → ℕ → Deleted
rebalanced_below d l h b p es i =
    let j = left_of i (length es) in
    let v = rebalanced_pages d l b (child_at es j) (child_at es (suc j)) in
    leave h v.bytes p (take j es ++ (v.entries ++ drop (suc (suc j)) es))

-- the page p over children of level l, with the entries es; o is what a deletion has left of child i, which takes its partner if it has fewer than 8
unfoldable pub fix_underflow : ℕ → ℕ → ℕ → List Entry → ℕ → Deleted → Deleted
fix_underflow d l p es i o =
    let fs = set es i o.entry in
    if (leb min_items o.count) (leave (suc l) o.bytes p fs) (rebalanced_below d l (suc l) o.bytes p fs i)

-- the record r deleted below page p of level l
unfoldable pub delete_at : ℕ → ℕ → List ℕ → ℕ → Record → Deleted
delete_at d zero b p r =
    let rs = delete_record r.id (records_in (leaf_at b p)) in record { bytes = set_leaf b p rs; entry = leaf_entry d p rs; count = length rs }
delete_at d (suc l) b p r =
    let es = entries_in (inner_at b p) in
    let i = choose (rank_of d r) es in
    fix_underflow d l p es i (delete_at d l b (child_at es i) r)

-- DELETION FROM AN INDEX

-- an inner root p of level l, left with n children: with one, it gives way to it and is freed
unfoldable pub collapse_root : ℕ → List ℕ → ℕ → ℕ → List ℕ
collapse_root zero b p n = b
collapse_root (suc l) b p n = if (eqb n 1) (free_page (set_field level (set_field root b (child_at (entries_in (inner_at b p)) 0)) l) p) b

-- the index with one record fewer in its total
unfoldable pub take_from_total : List ℕ → List ℕ
take_from_total b = set_field total b (field_at total b - 1)

-- the index with the record r deleted
unfoldable pub delete_from : List ℕ → Record → List ℕ
delete_from b r =
    let o = delete_at (field_at features b) (field_at level b) b (field_at root b) r in
    take_from_total (collapse_root (field_at level b) o.bytes (field_at root b) o.count)
