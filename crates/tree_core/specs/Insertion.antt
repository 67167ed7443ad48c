-- Insertion (tree_model `Inserting`) on the bytes of an index. Nothing is assumed of them.
use Rattle.std.specs.Prelude.{List, [], ◌∷◌, ℕ, zero, suc, ◌+◌, ◌%◌, ◌^◌, leb, eqb, length, take, drop}
use Rattle.lists.specs.Basics.{if, indicator}
use Rattle.pagestore_page.specs.declared.Record.{Record}
use Rattle.pagestore_page.specs.declared.Entry.{Entry}
use Rattle.pagestore.specs.Store.{features, root, level, total, leaf_at, inner_at, count_at, records_in, entries_in, set_leaf, set_inner, field_at, set_field, page_taken, take_page}
use Rattle.tree_model.specs.Trees.{rank_of}
use Rattle.tree_model.specs.Inserting.{choose, replaced, insert_record}
use Rattle.tree_core.specs.Entries.{child_at, leaf_entry, inner_entry}
use Rattle.pagestore_page.specs.Layout.{max_items}

-- the index after the items of a page or two have been written anew, and the entries of the pages that hold them: one, or two neighbours
pub record Rewritten : Type 0 where
  pub bytes : List ℕ
  pub entries : List Entry

-- The items xs at page p. A page that would hold 17 keeps the first 9; the last 8 go to a new page on the right.
unfoldable pub put : {A : Type 0} → (List ℕ → ℕ → List A → List ℕ) → (ℕ → List A → Entry) → List ℕ → ℕ → List A → Rewritten
put write entry b p xs =
    if (leb (length xs) max_items)
    (record { bytes = write b p xs; entries = entry p xs ∷ [] })
    (record {
      bytes = write (write (take_page b) p (take 9 xs)) (page_taken b) (drop 9 xs);
      entries = entry p (take 9 xs) ∷ entry (page_taken b) (drop 9 xs) ∷ [];
    })

-- the write of an inner page of level l
abbrev pub write_inner : ℕ → List ℕ → ℕ → List Entry → List ℕ
write_inner l b p es = set_inner b p l es

-- the record r inserted below page p of level l: into the leaf, or below the child that is chosen, whose entries then take its place
unfoldable pub insert_at : ℕ → ℕ → List ℕ → ℕ → Record → Rewritten
insert_at d zero b p r = put set_leaf (leaf_entry d) b p (insert_record d r (records_in (leaf_at b p)))
insert_at d (suc l) b p r =
    let es = entries_in (inner_at b p) in
    let i = choose (rank_of d r) es in
    let o = insert_at d l b (child_at es i) r in
    put (write_inner (suc l)) inner_entry o.bytes p (replaced i o.entries es)

-- a split root gets a new root above it; l is the level of the old one
unfoldable pub grow_root : ℕ → List ℕ → List Entry → List ℕ
grow_root l b [] = b
grow_root l b (e ∷ []) = b
grow_root l b (e ∷ f ∷ es) =
    let n = page_taken b in
    let h = (l + 1) % 256 in
    set_field level (set_field root (set_inner (take_page b) n h (e ∷ f ∷ [])) n) h

-- the index with one record more in its total
unfoldable pub add_to_total : List ℕ → List ℕ
add_to_total b = set_field total b ((field_at total b + 1) % 2 ^ 32)

-- the index with the record r inserted
unfoldable pub insert_into : List ℕ → Record → List ℕ
insert_into b r =
    let o = insert_at (field_at features b) (field_at level b) b (field_at root b) r in
    add_to_total (grow_root (field_at level b) o.bytes o.entries)

-- PAGES WANTED

-- the full pages in an unbroken run upward from the leaf that an insertion of rank k comes to, up to page p of level l
unfoldable pub full_run : ℕ → List ℕ → ℕ → ℕ → ℕ
full_run zero b p k = indicator (leb max_items (count_at b p))
full_run (suc l) b p k =
    let es = entries_in (inner_at b p) in
    let n = full_run l b (child_at es (choose k es)) k in
    if (eqb n (suc l)) (n + indicator (leb max_items (count_at b p))) n

-- pages wanted by an insertion: those, plus one if the run takes in the root
unfoldable pub pages_wanted : List ℕ → Record → ℕ
pages_wanted b r =
    let n = full_run (field_at level b) b (field_at root b) (rank_of (field_at features b) r) in
    n + indicator (eqb n (field_at level b + 1))
