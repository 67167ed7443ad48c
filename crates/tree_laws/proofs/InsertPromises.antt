-- What an insertion promises: the index is sound again, its records are the old ones with the new one in key order, and the pages taken are those wanted.
use Rattle.std.specs.Prelude.{◌≡◌, refl, List, ℕ, suc, ◌+◌, ◌%◌, ◌^◌, ◌<◌, eqb, length, drop}
use Rattle.std.proofs.Math.Path.{sym, ap}
use Rattle.std.proofs.Common.{◌∙◌, arith, add-one}
use Rattle.std.proofs.Math.ListN.{get_or}
use Rattle.lists.specs.Basics.{indicator}
use Rattle.lists.specs.AscendingBy.{AscendingBy, ins_all, length_ins, ins_rising}
use Rattle.pagestore_page.specs.declared.Record.{Record}
use Rattle.pagestore.specs.Store.{features, root, level, total, field_at, set_field, level_of, level_at, free_at, view_of}
use Rattle.pagestore.specs.Store.PageLaws.{page_level, page_field}
use Rattle.tree_model.specs.Trees.{rank_of, tree_of, live}
use Rattle.tree_model.specs.Sound.{SoundIndex}
use Rattle.tree_model.specs.Inserting.{insert_record, Shape, inserted_tree, run_of}
use Rattle.tree_core.specs.Insertion.{insert_at, grow_root, add_to_total, insert_into, pages_wanted}
use Rattle.tree_laws.specs.InsertSim.{full_run_law}
use Rattle.tree_laws.specs.InsertRoot.{insert_root}
use Rattle.tree_laws.specs.InsertOrder.{order_of}
use Rattle.tree_laws.specs.Wholes.{Whole, shape_at, sound_whole, sound_right, root_fit, view_d}
use Rattle.tree_laws.specs.Depth.{level_small}
use Rattle.tree_laws.specs.Header.{Changed, total_changed, changed_sound}
use Rattle.tree_laws.specs.Idents.{rank_new, distinct_ins}
use Rattle.tree_laws.specs.InsertPromises.{MayInsert}

-- the pages wanted, by the tree: its run of full pages, plus one if that takes in the root
pub pages_wanted_law : (b : List ℕ) (r : Record) → SoundIndex b
    → let n = run_of (view_of b).d (view_of b).level (rank_of (view_of b).d r) (tree_of (view_of b)) in pages_wanted b r ≡ n + indicator (eqb n (suc (view_of b).level))
unfolding pages_wanted
pages_wanted_law b r s =
    let w = sound_whole b s in
    rw (w.features_are, w.level_is, w.root_is, full_run_law (view_of b).d (view_of b).level b (rank_of (view_of b).d r) (tree_of (view_of b)) w.ok w.held, add-one (view_of b).level) refl

module _ (b : List ℕ) (r : Record) (s : SoundIndex b) (m : MayInsert b r) where
  abbrev d : ℕ
  d = (view_of b).d

  abbrev l : ℕ
  l = (view_of b).level

  w : Whole (view_of b).d b (view_of b).level (tree_of (view_of b))
  w = sound_whole b s

  abbrev run : ℕ
  run = run_of (view_of b).d (view_of b).level (rank_of (view_of b).d r) (tree_of (view_of b))

  wanted : pages_wanted b r ≡ run + indicator (eqb run (suc (view_of b).level))
  wanted = pages_wanted_law b r s

  rise : AscendingBy (rank_of (view_of b).d) (insert_record (view_of b).d r (live (view_of b)))
  unfolding live
  rise = ins_rising (rank_of d) r (rank_new d r (live (view_of b)) m.fits (root_fit l (tree_of (view_of b)) w.ok) m.new) w.order

  changed : Changed d b (grow_root (field_at level b) (insert_at (field_at features b) (field_at level b) b (field_at root b) r).bytes (insert_at (field_at features b) (field_at level b) b (field_at root b) r).entries)
      (inserted_tree d r (free_at b) (shape_at b)) (insert_record d r (live (view_of b))) (drop (pages_wanted b r) (free_at b))
  unfolding live
  changed =
      let v = level_small b l (tree_of (view_of b)) w.ok w.own in
      rw (wanted, w.features_are, w.level_is, w.root_is)
      (insert_root d b r l (tree_of (view_of b)) (omega arith) m.fits w (rw wanted at m.free) rise)

  abbrev grown : List ℕ
  grown = grow_root (field_at level b) (insert_at (field_at features b) (field_at level b) b (field_at root b) r).bytes (insert_at (field_at features b) (field_at level b) b (field_at root b) r).entries

  few : length (live (view_of b)) < 65535
  unfolding view_of
  few = let g : field_at total b < 65535 = m.room in omega (arith, (sound_right b s).total_is)

  abbrev rs : List Record
  rs = insert_record (view_of b).d r (live (view_of b))

  longer : length (insert_record (view_of b).d r (live (view_of b))) ≡ suc (length (live (view_of b)))
  longer = length_ins (rank_of d) r (live (view_of b))

  count : ((field_at total grown + 1) % 2 ^ 32) ≡ length rs
  count =
      let e = changed.others total refl refl refl refl in
      omega (arith, (sound_right b s).total_is, longer, few)

  -- the index is sound again
  pub insert_sound : SoundIndex (insert_into b r)
  unfolding insert_into add_to_total
  insert_sound =
      let rt = sound_right b s in
      changed_sound ((field_at total grown + 1) % 2 ^ 32) rt changed (ins_all (rank_of d) r m.ranges rt.ranges) (distinct_ins d r (live (view_of b)) m.new rt.distinct) count
      (omega (arith, longer, few))

  -- its records are the old ones with the new one in key order
  pub insert_live : live (view_of (insert_into b r)) ≡ insert_record (view_of b).d r (live (view_of b))
  unfolding insert_into add_to_total
  insert_live = (total_changed ((field_at total grown + 1) % 2 ^ 32) changed).0

  -- the pages taken are exactly those wanted: the first ones of the free pages
  pub insert_pages : free_at (insert_into b r) ≡ drop (pages_wanted b r) (free_at b)
  unfolding insert_into add_to_total
  insert_pages = (total_changed ((field_at total grown + 1) % 2 ^ 32) changed).1

  -- lower levels first: the page at place k of the free pages is the new one of level k, so that a new root takes its page last
  pub insert_order : (k : ℕ) → k < pages_wanted b r → level_at (insert_into b r) (get_or (free_at b) k 0) ≡ k
  unfolding insert_into add_to_total live
  insert_order k h =
      let v = level_small b l (tree_of (view_of b)) w.ok w.own in
      let q = get_or (free_at b) k 0 in
      sym (page_level (set_field total grown ((field_at total grown + 1) % 2 ^ 32)) q) ∙ ap level_of (page_field total grown ((field_at total grown + 1) % 2 ^ 32) q).page
      ∙ rw (w.features_are, w.level_is, w.root_is)
      (order_of d b r l (tree_of (view_of b)) (omega arith) m.fits w (rw wanted at m.free) rise k (rw wanted at h))

  -- level and tree: a page of 17 is cut after the first 9, a split root gets a new one above it
  pub insert_shape : ◌≡◌ {A = Shape} (shape_at (insert_into b r)) (inserted_tree (view_of b).d r (free_at b) (shape_at b))
  unfolding insert_into add_to_total
  insert_shape = (total_changed ((field_at total grown + 1) % 2 ^ 32) changed).4

  pub insert_features : (view_of (insert_into b r)).d ≡ (view_of b).d
  unfolding insert_into add_to_total
  insert_features = view_d (insert_into b r) ∙ (total_changed ((field_at total grown + 1) % 2 ^ 32) changed).3
