-- Space set free is used again: the pages given up by a deletion are the first that an insertion takes.
use Rattle.std.specs.Prelude.{◌≡◌, List, ◌++◌, map, ℕ, ◌+◌, ◌<◌, drop}
use Rattle.std.proofs.Common.{ap, ◌∙◌, arith}
use Rattle.lists.specs.Basics.{indicator}
use Rattle.lists.specs.Counts.{mult, mult_append}
use Rattle.pagestore_page.specs.declared.Record.{Record}
use Rattle.pagestore.specs.Store.{in_range, free_at, view_of}
use Rattle.pagestore.specs.Store.RangeLaws.{range_same}
use Rattle.tree_model.specs.Trees.{ident_of, live}
use Rattle.tree_model.specs.Sound.{SoundIndex}
use Rattle.tree_core.specs.Insertion.{insert_into, pages_wanted}
use Rattle.tree_laws.specs.Wholes.{tree_pages, sound_whole}
use Rattle.tree_laws.proofs.InsertPromises.{insert_pages}
use Rattle.tree_laws.specs.DeletePromises.{delete_ident, pages_given, delete_sound, delete_pages, delete_length}
use Rattle.tree_laws.specs.InsertPromises.{MayInsert}

-- what a deletion gives up is taken by the next insertion, before all else
pub space_reused : (b : List ℕ) (i : ℕ) (r : Record) → SoundIndex b → 0 < mult i (map ident_of (live (view_of b))) → MayInsert (delete_ident b i) r
    → free_at (insert_into (delete_ident b i) r) ≡ drop (pages_wanted (delete_ident b i) r) (pages_given b i ++ free_at b)
space_reused b i r s h m = insert_pages (delete_ident b i) r (delete_sound b i s h) m ∙ ap (drop (pages_wanted (delete_ident b i) r)) (delete_pages b i s h)

-- a deletion gives up pages of the tree, and leaves the others in it
pub pages_given_law : (b : List ℕ) (i : ℕ) → SoundIndex b → 0 < mult i (map ident_of (live (view_of b))) → (q : ℕ) → mult q (tree_pages b) ≡ mult q (pages_given b i) + mult q (tree_pages (delete_ident b i))
pages_given_law b i s h q =
    let old = (sound_whole b s).own q in
    let new = (sound_whole (delete_ident b i) (delete_sound b i s h)).own q in
    let same : indicator (in_range (delete_ident b i) q) ≡ indicator (in_range b q) = ap indicator (range_same b (delete_ident b i) q (delete_length b i s h)) in
    let left : mult q (free_at (delete_ident b i)) ≡ mult q (pages_given b i) + mult q (free_at b) = ap (mult q) (delete_pages b i s h) ∙ mult_append q (pages_given b i) (free_at b) in
    omega arith
