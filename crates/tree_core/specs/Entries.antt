-- Entries of inner pages: the child of each, and the one that a page is given.
use Rattle.std.specs.Prelude.{List, map, ℕ, get_or}
use Rattle.lists.specs.Ascending.{head_or, last_or}
use Rattle.pagestore_page.specs.declared.Record.{Record}
use Rattle.pagestore_page.specs.declared.Entry.{Entry}
use Rattle.tree_model.specs.Trees.{first_key, last_key}
use Rattle.pagestore_page.specs.Layout.{no_entry}

-- the child at place i; no page where there is none
unfoldable pub child_at : List Entry → ℕ → ℕ
child_at es i = get_or (map (λ e. e.child) es) i 0

-- the entry of page p: with the records rs, and with the entries es
unfoldable pub leaf_entry : ℕ → ℕ → List Record → Entry
leaf_entry d p rs = record { child = p; first = first_key d rs; last = last_key d rs }

unfoldable pub inner_entry : ℕ → List Entry → Entry
inner_entry p es = record { child = p; first = (head_or no_entry es).first; last = (last_or no_entry es).last }
