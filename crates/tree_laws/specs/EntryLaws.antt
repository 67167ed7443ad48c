-- The entries that the code makes are those of the tree.
use Rattle.std.specs.Prelude.{◌≡◌, List, map, ℕ, suc, ◌<◌, length}
use Rattle.std.proofs.Common.{sym, ap, ◌∙◌}
use Rattle.lists.specs.Basics.{All, none, also, concat_map}
use Rattle.lists.specs.Ascending.{head_or, last_or, head_append, last_append, last_any}
use Rattle.pagestore_page.specs.declared.Record.{Record}
use Rattle.pagestore_page.specs.declared.Entry.{Entry}
use Rattle.tree_model.specs.Trees.{Item, records, no_record, key_of, first_key, last_key, entry_of}
use Rattle.tree_model.specs.TreeLaws.{concat_map_records}
use Rattle.tree_core.specs.Entries.{leaf_entry, inner_entry}
use Rattle.tree_laws.specs.Shapes.{Ok, records_some}
use Rattle.tree_laws.specs.KeysFit.{no_key_law}
use Rattle.pagestore_page.specs.Layout.{no_entry}

pub leaf_entry_law : (d q : ℕ) (rs : List Record) → leaf_entry d q rs ≡ entry_of d 0 (q, rs)
unfolding leaf_entry entry_of records
leaf_entry_law d q rs = ap (λ (xs : List Record). record { child = q; first = first_key d xs; last = last_key d xs }) (sym (concat_map_records rs))

firsts : (d l : ℕ) {ts : List (Item (suc l))} → All (Ok (suc l)) ts → (head_or no_entry (map (entry_of d l) ts)).first ≡ first_key d (concat_map (records (suc l)) ts)
unfolding head_or entry_of first_key concat_map
firsts d l none = sym (no_key_law d)
firsts d l (also {x = t} {xs = ts} o h) = ap (key_of d) (sym (head_append no_record (records (suc l) t) (concat_map (records (suc l)) ts) (records_some (suc l) t o)))

lasts : (d l : ℕ) (e : Entry) (r : Record) {ts : List (Item (suc l))} → e.last ≡ key_of d r → All (Ok (suc l)) ts
    → (last_or e (map (entry_of d l) ts)).last ≡ key_of d (last_or r (concat_map (records (suc l)) ts))
unfolding last_or concat_map last_key entry_of
lasts d l e r h none = h
lasts d l e r h (also {x = t} {xs = ts} o a) =
    lasts d l (entry_of d l t) (last_or r (records (suc l) t)) (go (records (suc l) t) (records_some (suc l) t o)) a
    ∙ ap (key_of d) (sym (last_append r (records (suc l) t) (concat_map (records (suc l)) ts)))
  where
    go : (xs : List Record) → 0 < length xs → last_key d xs ≡ key_of d (last_or r xs)
    go xs n = ap (key_of d) (last_any no_record r xs n)

pub inner_entry_law : (d l q : ℕ) (ts : List (Item (suc l))) → All (Ok (suc l)) ts → inner_entry q (map (entry_of d l) ts) ≡ entry_of d (suc l) (q, ts)
unfolding inner_entry entry_of records last_key
inner_entry_law d l q ts o = λ i. record { child = q; first = firsts d l o i; last = lasts d l no_entry no_record (sym (no_key_law d)) o i }
