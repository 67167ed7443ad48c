-- What a deletion promises: the index is sound again, its records are the old ones without the one deleted, and the pages given up are the next to be taken.
use Rattle.std.specs.Prelude.{◌≡◌, List, ◌++◌, map, ℕ, ◌+◌, ◌-◌, ◌<◌, length}
use Rattle.std.proofs.Math.Path.{refl}
use Rattle.std.proofs.Common.{ap, ◌∙◌, subst, arith}
use Rattle.lists.specs.Basics.{All, all_map}
use Rattle.lists.specs.Counts.{mult}
use Rattle.lists.specs.AscendingBy.{Descending}
use Rattle.pagestore_page.specs.declared.Record.{Record}
use Rattle.pagestore.specs.Store.{features, root, level, total, fresh, field_at, level_at, fresh_at, free_at, view_of}
use Rattle.pagestore.specs.Store.PageLaws.{SamePage, same_trans, page_field, field_other}
use Rattle.pagestore.specs.Store.FreeLaws.{fresh_same}
use Rattle.tree_model.specs.Trees.{rank_of, ident_of, tree_of, live}
use Rattle.tree_model.specs.Sound.{SoundIndex}
use Rattle.tree_model.specs.Deleting.{delete_record, deleted_tree}
use Rattle.tree_model.specs.Inserting.{Shape}
use Rattle.tree_core.specs.Deletion.{delete_at, collapse_root, take_from_total, delete_from}
use Rattle.tree_core.specs.Lookup.{find_in}
use Rattle.tree_laws.specs.DeleteTree.{Known}
use Rattle.tree_laws.specs.DeleteRoot.{given_root, delete_root, root_others, root_unused}
use Rattle.tree_laws.specs.LevelLaws.{given_root_below}
use Rattle.tree_laws.specs.Wholes.{Whole, shape_at, tree_pages, sound_whole, sound_right, view_d}
use Rattle.tree_laws.specs.Depth.{level_small}
use Rattle.tree_laws.specs.Header.{Changed, total_changed, changed_sound}
use Rattle.tree_laws.specs.Idents.{del_all, del_one, ident_del}
use Rattle.tree_laws.specs.LookupPromises.{find_ident, find_only}

-- the index with the record of identifier i deleted
abbrev pub delete_ident : List ℕ → ℕ → List ℕ
delete_ident b i = delete_from b (find_in b i)

-- the pages that this gives up, the last freed first
unfoldable pub pages_given : List ℕ → ℕ → List ℕ
pages_given b i = given_root (view_of b).d (view_of b).level (find_in b i) (tree_of (view_of b))

-- an identifier that is live in a sound index
module _ (b : List ℕ) (i : ℕ) (s : SoundIndex b) (h : 0 < mult i (map ident_of (live (view_of b)))) where
  abbrev d : ℕ
  d = (view_of b).d

  abbrev r : Record
  r = find_in b i

  w : Whole (view_of b).d b (view_of b).level (tree_of (view_of b))
  w = sound_whole b s

  known : All (Known (view_of b).d (find_in b i)) (live (view_of b))
  known = all_map (λ x (f : x.id ≡ i → x ≡ find_in b i) g. ap (rank_of d) (f (g ∙ find_ident b i s h))) (find_only b i s)

  small : (view_of b).level < 256
  small = omega (arith, level_small b (view_of b).level (tree_of (view_of b)) w.ok w.own)

  abbrev collapsed : List ℕ
  collapsed = collapse_root (field_at level b) (delete_at (field_at features b) (field_at level b) b (field_at root b) (find_in b i)).bytes (field_at root b) (delete_at (field_at features b) (field_at level b) b (field_at root b) (find_in b i)).count

  found : Changed d b collapsed (deleted_tree (view_of b).d (find_in b i) (shape_at b)) (delete_record (find_in b i).id (live (view_of b))) (pages_given b i ++ free_at b)
  unfolding live pages_given
  found = rw (w.features_are, w.level_is, w.root_is) (delete_root d b r (view_of b).level (tree_of (view_of b)) small w known)

  changed : Changed d b collapsed (deleted_tree (view_of b).d (find_in b i) (shape_at b)) (delete_record i (live (view_of b))) (pages_given b i ++ free_at b)
  changed = subst (λ (j : ℕ). Changed d b collapsed (deleted_tree (view_of b).d (find_in b i) (shape_at b)) (delete_record j (live (view_of b))) (pages_given b i ++ free_at b)) (find_ident b i s h) found

  shorter : length (delete_record i (live (view_of b))) + 1 ≡ length (live (view_of b))
  shorter = del_one i (live (view_of b)) h

  count : field_at total collapsed - 1 ≡ length (delete_record i (live (view_of b)))
  count = omega (arith, changed.others total refl refl refl refl, (sound_right b s).total_is, shorter)

  -- the index is sound again
  pub delete_sound : SoundIndex (delete_ident b i)
  unfolding delete_from take_from_total
  delete_sound =
      let rt = sound_right b s in
      changed_sound (field_at total collapsed - 1) rt changed (del_all i rt.ranges) (λ j. omega (arith, ident_del i j (live (view_of b)), rt.distinct j)) count
      (omega (arith, shorter, rt.most))

  -- its records are the old ones without the one of that identifier
  pub delete_live : live (view_of (delete_ident b i)) ≡ delete_record i (live (view_of b))
  unfolding delete_from take_from_total
  delete_live = (total_changed (field_at total collapsed - 1) changed).0

  -- no page is wanted, and those given up come before the pages that were free
  pub delete_pages : free_at (delete_ident b i) ≡ pages_given b i ++ free_at b
  unfolding delete_from take_from_total
  delete_pages = (total_changed (field_at total collapsed - 1) changed).1

  -- lower levels first: from the last freed back, their levels fall
  pub delete_order : Descending (map (level_at b) (pages_given b i))
  unfolding pages_given
  delete_order = (given_root_below d (view_of b).level b r (tree_of (view_of b)) w.ok w.held).falling

  -- level and tree: a child left with 7 is rebalanced with its partner, an inner root with one child gives way
  pub delete_shape : ◌≡◌ {A = Shape} (shape_at (delete_ident b i)) (deleted_tree (view_of b).d (find_in b i) (shape_at b))
  unfolding delete_from take_from_total
  delete_shape = (total_changed (field_at total collapsed - 1) changed).4

  pub delete_length : length (delete_ident b i) ≡ length b
  unfolding delete_from take_from_total
  delete_length = (total_changed (field_at total collapsed - 1) changed).2

  pub delete_features : (view_of (delete_ident b i)).d ≡ (view_of b).d
  unfolding delete_from take_from_total
  delete_features = view_d (delete_ident b i) ∙ (total_changed (field_at total collapsed - 1) changed).3

  -- no page outside the tree changes
  others : (q : ℕ) → mult q (tree_pages b) ≡ 0 → SamePage b collapsed q
  unfolding live
  others q z = rw (w.features_are, w.level_is, w.root_is) (root_others d b r (view_of b).level (tree_of (view_of b)) small w known q z)

  pub delete_others : (q : ℕ) → mult q (tree_pages b) ≡ 0 → SamePage b (delete_ident b i) q
  unfolding delete_from take_from_total
  delete_others q z = same_trans (others q z) (page_field total collapsed (field_at total collapsed - 1) q)

  -- and the pages never used are the same
  unused : field_at fresh collapsed ≡ field_at fresh b
  unfolding live
  unused = rw (w.features_are, w.level_is, w.root_is) (root_unused d b r (view_of b).level (tree_of (view_of b)) small w known)

  pub delete_unused : fresh_at (delete_ident b i) ≡ fresh_at b
  unfolding delete_from take_from_total
  delete_unused = fresh_same b (delete_ident b i) delete_length (field_other total fresh collapsed (field_at total collapsed - 1) refl ∙ unused)
