-- What an index holds, read from its bytes: its records, the one of an identifier, its leaves as the inner pages give them. Nothing is assumed of the bytes.
use Rattle.std.specs.Prelude.{List, [], ◌∷◌, ℕ, zero, suc, eqb, replicate}
use Rattle.lists.specs.Basics.{concat_map}
use Rattle.lists.specs.Ascending.{head_or}
use Rattle.lists.specs.Sorting.{filter, sum}
use Rattle.pagestore_page.specs.declared.Record.{Record}
use Rattle.pagestore_page.specs.declared.Entry.{Entry}
use Rattle.pagestore.specs.Store.{root, level, leaf_at, inner_at, records_in, entries_in, field_at}

-- the records below page p of level l, in order
unfoldable pub records_under : ℕ → List ℕ → ℕ → List Record
records_under zero b p = records_in (leaf_at b p)
records_under (suc l) b p = concat_map (λ e. records_under l b e.child) (entries_in (inner_at b p))

-- the records of identifier i
abbrev pub with_ident : ℕ → List Record → List Record
with_ident i rs = filter (λ r. eqb r.id i) rs

-- in the place of a record, where there is none: identifier 0
abbrev pub blank : Record
blank = record { id = 0; stage = 0; stamp = 0; coords = replicate 16 0 }

-- the record of identifier i below page p of level l, or the blank
unfoldable pub find_under : ℕ → List ℕ → ℕ → ℕ → Record
find_under l b p i = head_or blank (with_ident i (records_under l b p))

-- the record of identifier i, or the blank if i is not live
unfoldable pub find_in : List ℕ → ℕ → Record
find_in b i = find_under (field_at level b) b (field_at root b) i

-- LEAVES, without reading one

-- the leaves below an entry whose child has level l, in key order: page, first key and last key of each
unfoldable pub leaf_entries : ℕ → List ℕ → Entry → List Entry
leaf_entries zero b e = e ∷ []
leaf_entries (suc l) b e = concat_map (leaf_entries l b) (entries_in (inner_at b e.child))

-- how many there are below page p of level l
unfoldable pub leaf_count : ℕ → List ℕ → ℕ → ℕ
leaf_count zero b p = 1
leaf_count (suc l) b p = sum (λ e. leaf_count l b e.child) (entries_in (inner_at b p))
