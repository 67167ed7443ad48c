-- Insertion takes its pages by level: the leaf's new page first, the new root last.
use Rattle.std.specs.Prelude.{◌≡◌, Bool, ◌≢◌, ltb, drop}
use Rattle.std.proofs.Math.Path.{refl, sym, ap}
use Rattle.std.proofs.Common.{◌∙◌}
use Rattle.std.proofs.Math.Bool.{true}
use mathlib.Core.List.{List, [], ◌∷◌, map}
use Prim.Native.Nat.{ℕ, suc, ◌+◌, ◌-◌, ◌≤◌, ◌<◌}
use native.Mathlib.Omega.{arith}
use Rattle.std.proofs.Math.Dec.{eqb}
use Rattle.std.proofs.Math.ListN.{length, get_or, length-drop}
use Rattle.std.proofs.Math.Seq.{get_or-drop}
use borrow.Author.Tests.{lt-ltb, ltb-true, ltb-false, eqb-true}
use Rattle.lists.specs.Basics.{if, indicator, All, none, also, concat_map}
use Rattle.lists.specs.Choices.{indicator_le, indicator_true}
use Rattle.lists.specs.Counts.{mult, mult_self, absent}
use Rattle.lists.specs.AscendingBy.{AscendingBy}
use Rattle.lists.specs.Tests.{by_cases}
use Rattle.pagestore_page.specs.declared.Record.{Record}
use Rattle.pagestore_page.specs.Fits.{RecordFits}
use Rattle.pagestore.specs.Store.{page_at, level_of, set_page, features, field_at, in_range, free_at, take_page}
use Rattle.pagestore.specs.Store.PageLaws.{page_other}
use Rattle.pagestore.specs.Store.TakeLaws.{page_take}
use Rattle.tree_model.specs.Trees.{Item, records, pages, rank_of, entry_of, node}
use Rattle.tree_model.specs.TreeLaws.{level_node}
use Rattle.tree_model.specs.Inserting.{insert_record, insert_tree, run_of}
use Rattle.tree_core.specs.Insertion.{insert_at, grow_root}
use Rattle.tree_laws.specs.InsertTree.{Res, one, two, insert_records, insert_res, insert_took}
use Rattle.tree_laws.specs.Frames.{Held}
use Rattle.tree_laws.specs.InsertSim.{first_rest}
use Rattle.tree_laws.specs.InsertRoot.{new_whole, grow_two, sim, free_o, own_o}
use Rattle.tree_laws.specs.Wholes.{Whole}
use Rattle.tree_laws.specs.Header.{set_root, root_page}
use Rattle.tree_laws.specs.LevelLaws.{pages_of, pages_of_le, kids_level, held_level, insert_level}

module _ (d : ℕ) (b : List ℕ) (r : Record) (l : ℕ) (t : Item (suc l)) (v : l < 255) (hr : RecordFits r) (w : Whole d b l t)
    (room : run_of d l (rank_of d r) t + indicator (eqb (run_of d l (rank_of d r) t) (suc l)) ≤ length (free_at b))
    (rise : AscendingBy (rank_of d) (insert_record d r (records (suc l) t))) where
  abbrev run : ℕ
  run = run_of d l (rank_of d r) t

  abbrev c : List ℕ
  c = (insert_at d l b t.0 r).bytes

  -- the page at place k of the free pages is now in the tree, at level k
  there : (k : ℕ) → k < run → 0 < mult (get_or (free_at b) k 0) (concat_map (pages_of k (suc l)) (insert_tree d l r (free_at b) t).trees)
  there k h =
      let q = get_or (free_at b) k 0 in
      let e : mult q (if (ltb k run) (q ∷ []) []) ≡ mult q (q ∷ []) = ap (λ (z : Bool). mult q (if z (q ∷ []) [])) (lt-ltb k run h) in
      omega (arith, insert_level d l r k q (free_at b) t w.ok, mult_self q [])

  below : (k : ℕ) → k < run → level_of (page_at c (get_or (free_at b) k 0)) ≡ k
  below k h = kids_level d (suc l) c k (get_or (free_at b) k 0) (held_level d (suc l) c k (get_or (free_at b) k 0)) (sim d b r l t v hr w room rise).held (there k h)

  -- it is none of the pages that are free then
  taken : (k : ℕ) → k < run → mult (get_or (free_at b) k 0) (free_at c) ≡ 0
  taken k h =
      let q = get_or (free_at b) k 0 in
      omega (arith, there k h, pages_of_le k q (suc l) (insert_tree d l r (free_at b) t).trees, own_o d b r l t v hr w room rise q, indicator_le (in_range c q))

  grown : (ts : List (Item (suc l))) → ts ≡ (insert_tree d l r (free_at b) t).trees → Res l ts → All (Held d (suc l) c) ts
      → ((q : ℕ) → mult q (concat_map (pages (suc l)) ts) + mult q (free_at c) ≡ indicator (in_range c q))
      → concat_map (records (suc l)) ts ≡ insert_record d r (records (suc l) t)
      → (k : ℕ) → k < run + indicator (eqb run (suc l)) → level_of (page_at (grow_root l c (map (entry_of d l) ts)) (get_or (free_at b) k 0)) ≡ k
  unfolding grow_root records concat_map Held
  grown ts e (one {t = a} ra) held own rs k h =
      let n : 1 ≡ length (insert_tree d l r (free_at b) t).trees = ap (λ (z : List (Item (suc l))). length z) e in
      below k (omega (arith, (insert_took d l r (free_at b) t w.ok).trees))
  grown ts e (two {t = a} {u = u} oa ou) held own rs k h =
      let sm = sim d b r l t v hr w room rise in
      let f0 = free_o d b r l t v hr w room rise in
      let tk = insert_took d l r (free_at b) t w.ok in
      let m : 2 ≡ length (insert_tree d l r (free_at b) t).trees = ap (λ (z : List (Item (suc l))). length z) e in
      let sp : eqb run (suc l) ≡ true = indicator_true (eqb run (suc l)) (omega (arith, tk.trees)) in
      let same : run ≡ suc l = eqb-true run (suc l) sp in
      let len : length (free_at c) ≡ length (free_at b) - run = ap (λ (y : List ℕ). length y) f0 ∙ length-drop run (free_at b) in
      let fr = first_rest (free_at c) (omega (arith, room, ap indicator sp)) in
      let n = get_or (free_at c) 0 0 in
      let x = node d (suc l) (a ∷ u ∷ []) in
      let ft : field_at features c ≡ d = sm.kept.field features refl refl ∙ w.features_are in
      let nw = new_whole d l c a u n (drop 1 (free_at c)) fr (omega arith) sm.kept.well (also oa (also ou none)) own held ft (rw rs rise) in
      let n-is : n ≡ get_or (free_at b) run 0 = ap (λ (y : List ℕ). get_or y 0 0) f0 ∙ get_or-drop run (free_at b) 0 0 ∙ ap (λ (y : ℕ). get_or (free_at b) y 0) (let z : run + 0 ≡ run = omega arith in z) in
      rw (grow_two d l c a u v)
      (by_cases (ltb k run)
      (λ g. let lt : k < run = ltb-true k run g in
      let q = get_or (free_at b) k 0 in
      let ne : q ≢ n = absent q n (drop 1 (free_at c)) (ap (mult q) (sym fr) ∙ taken k lt) in
      ap level_of ((root_page (set_page (take_page c) n x) n (suc l) q).page ∙ (page_other (take_page c) n x q ne).page ∙ (page_take c q).page) ∙ below k lt)
      (λ g. let ke : k ≡ run = let ge : run ≤ k = ltb-false k run g in omega (arith, indicator_le (eqb run (suc l))) in
      ap (λ (y : ℕ). level_of (page_at (set_root (set_page (take_page c) n x) n (suc l)) y)) (ap (λ (y : ℕ). get_or (free_at b) y 0) ke ∙ sym n-is)
      ∙ ap level_of nw.held.0 ∙ level_node d (suc l) (a ∷ u ∷ []) ∙ sym (ke ∙ same)))

  pub order_of : (k : ℕ) → k < run + indicator (eqb run (suc l)) → level_of (page_at (grow_root l c (insert_at d l b t.0 r).entries) (get_or (free_at b) k 0)) ≡ k
  order_of k h =
      rw (sim d b r l t v hr w room rise).entries
      (grown (insert_tree d l r (free_at b) t).trees refl (insert_res d l r (free_at b) t hr w.ok) (sim d b r l t v hr w room rise).held (own_o d b r l t v hr w room rise)
      (insert_records d l r (free_at b) t w.ok w.order) k h)
