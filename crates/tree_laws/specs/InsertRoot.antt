-- Insertion at the root: where it splits, a new root is held above the two pages.
use Rattle.std.specs.Prelude.{◌≡◌, true, ℕ, suc, ◌+◌, ◌-◌, ◌%◌, ◌≤◌, ◌<◌, eqb}
use Rattle.std.proofs.Math.Path.{refl, sym, ap}
use Rattle.std.proofs.Common.{◌∙◌, arith}
use mathlib.Core.List.{List, [], ◌∷◌, map, append-nil}
use Rattle.std.proofs.Math.ListN.{length, drop, get_or, length-drop}
use Rattle.std.proofs.Math.Seq.{drop-drop}
use Rattle.lists.specs.Basics.{indicator, All, none, also, concat_map, all_head}
use Rattle.lists.specs.Choices.{indicator_true}
use Rattle.lists.specs.Counts.{mult, mult_append, mult_self}
use Rattle.lists.specs.AscendingBy.{AscendingBy}
use Rattle.pagestore_page.specs.declared.Record.{Record}
use Rattle.pagestore_page.specs.Fits.{RecordFits}
use Rattle.pagestore.specs.Store.{set_page, features, root, level, field_at, in_range, free_at, take_page}
use Rattle.pagestore.specs.Store.TakeLaws.{taken_first, free_take, page_take}
use Rattle.tree_model.specs.Trees.{Item, records, pages, rank_of, entry_of, node}
use Rattle.tree_model.specs.Inserting.{insert_record, insert_tree, rooted, inserted_tree, run_of}
use Rattle.tree_core.specs.Insertion.{Rewritten, insert_at, grow_root}
use Rattle.tree_laws.specs.Shapes.{Ok, Some}
use Rattle.tree_laws.specs.InsertTree.{Res, one, two, insert_records, insert_res, insert_page, insert_took, insert_kept}
use Rattle.tree_laws.specs.Frames.{Held, held_frame, held_list, Well, Kept, kept_range, kept_trans, kept_take}
use Rattle.tree_laws.specs.InsertSim.{Sim, one_of, one_sim, insert_sim, first_rest}
use Rattle.tree_laws.specs.Wholes.{Whole}
use Rattle.tree_laws.specs.Header.{set_root, root_length, root_field, root_page, root_free, root_well, root_range_law, root_set, level_set, Changed, changed_over}

-- a new root n over the trees a and c of b
module _ (d l : ℕ) (b : List ℕ) (a c : Item (suc l)) (n : ℕ) (fs : List ℕ) (fr : free_at b ≡ n ∷ fs) (v : suc l < 256) (well : Well b) (ok : All (Ok (suc l)) (a ∷ c ∷ []))
    (own : (q : ℕ) → mult q (concat_map (pages (suc l)) (a ∷ c ∷ [])) + mult q (free_at b) ≡ indicator (in_range b q)) (held : All (Held d (suc l) b) (a ∷ c ∷ [])) where
  abbrev b1 : List ℕ
  b1 = take_page b

  abbrev b2 : List ℕ
  b2 = set_page (take_page b) n (node d (suc l) (a ∷ c ∷ []))

  abbrev b3 : List ℕ
  b3 = set_root (set_page (take_page b) n (node d (suc l) (a ∷ c ∷ []))) n (suc l)

  k1 : Kept b b1
  k1 = kept_take b well

  fs_are : free_at b1 ≡ fs
  fs_are = free_take b well.rest ∙ ap (drop 1) fr

  own1 : (q : ℕ) → mult q (n ∷ concat_map (pages (suc l)) (a ∷ c ∷ [])) + mult q (free_at b1) ≡ indicator (in_range b1 q)
  own1 q =
      let e : mult q (free_at b) ≡ mult q (n ∷ []) + mult q fs = ap (mult q) fr ∙ mult_append q (n ∷ []) fs in
      let f : mult q (free_at b1) ≡ mult q fs = ap (mult q) fs_are in
      let g : mult q (n ∷ concat_map (pages (suc l)) (a ∷ c ∷ [])) ≡ mult q (n ∷ []) + mult q (concat_map (pages (suc l)) (a ∷ c ∷ [])) = mult_append q (n ∷ []) _ in
      omega (arith, own q) ∙ ap indicator (sym (kept_range k1 q))

  s1 : Sim d (suc l) b1 (n ∷ []) (one_of d (suc l) b1 n (a ∷ c ∷ [])) (record { trees = (n, a ∷ c ∷ []) ∷ []; free = free_at b1 })
  s1 = one_sim d (suc l) b1 n (a ∷ c ∷ []) v k1.well (λ q. omega (arith, own1 q)) (held_list d (suc l) b b1 (λ q g. (page_take b q).page) held) ok (omega arith)

  n_in : in_range b2 n ≡ true
  n_in = kept_range s1.kept n ∙ indicator_true (in_range b1 n) (omega (arith, own1 n, mult_self n (concat_map (pages (suc l)) (a ∷ c ∷ []))))

  pub new_free : free_at b3 ≡ fs
  new_free = root_free b2 n (suc l) ∙ s1.free ∙ fs_are

  pub new_kept : Kept b b2
  new_kept = kept_trans k1 s1.kept

  pub new_whole : field_at features b ≡ d → AscendingBy (rank_of d) (records (suc (suc l)) (n, a ∷ c ∷ [])) → Whole d b3 (suc l) (n, a ∷ c ∷ [])
  unfolding Some pages
  new_whole ft st =
      record {
        features_are = root_field b2 n (suc l) features refl refl ∙ new_kept.field features refl refl ∙ ft;
        root_is = root_set b2 n (suc l) n_in v;
        level_is = level_set b2 n (suc l) n_in v;
        held = held_frame d (suc (suc l)) b2 b3 (n, a ∷ c ∷ []) (λ q g. (root_page b2 n (suc l) q).page) (all_head s1.held);
        ok = record { some = omega arith; most = omega arith; subs = ok };
        well = root_well b2 n (suc l) s1.kept.well;
        own = λ q. ap (λ (z : List ℕ). mult q (n ∷ concat_map (pages (suc l)) (a ∷ c ∷ [])) + mult q z) (root_free b2 n (suc l) ∙ s1.free)
            ∙ own1 q ∙ ap indicator (sym (root_range_law b2 n (suc l) q ∙ kept_range s1.kept q));
        order = st;
      }

  pub new_changed : field_at features b ≡ d → AscendingBy (rank_of d) (records (suc (suc l)) (n, a ∷ c ∷ [])) → Changed d b b3 (suc l, (n, a ∷ c ∷ [])) (records (suc (suc l)) (n, a ∷ c ∷ [])) fs
  new_changed ft st =
      record {
        whole = new_whole ft st;
        records_are = refl;
        free_are = new_free;
        length_is = root_length b2 n (suc l) ∙ new_kept.size;
        others = λ f u w x y. root_field b2 n (suc l) f x y ∙ new_kept.field f u w;
      }

-- the code's new root is that one
pub grow_two : (d l : ℕ) (b : List ℕ) (a c : Item (suc l)) → l < 255
    → grow_root l b (entry_of d l a ∷ entry_of d l c ∷ []) ≡ set_root (set_page (take_page b) (get_or (free_at b) 0 0) (node d (suc l) (a ∷ c ∷ []))) (get_or (free_at b) 0 0) (suc l)
unfolding grow_root set_page node
grow_two d l b a c h = let e : (l + 1) % 256 ≡ suc l = omega arith in rw (e, taken_first b)

module _ (d : ℕ) (b : List ℕ) (r : Record) (l : ℕ) (t : Item (suc l)) (v : l < 255) (hr : RecordFits r) (w : Whole d b l t)
    (room : run_of d l (rank_of d r) t + indicator (eqb (run_of d l (rank_of d r) t) (suc l)) ≤ length (free_at b))
    (rise : AscendingBy (rank_of d) (insert_record d r (records (suc l) t))) where
  abbrev run : ℕ
  run = run_of d l (rank_of d r) t

  abbrev o : Rewritten
  o = insert_at d l b t.0 r

  pub sim : Sim d l b (pages (suc l) t) (insert_at d l b t.0 r) (insert_tree d l r (free_at b) t)
  sim = insert_sim d l b r t (omega arith) hr w.ok w.held w.well (λ q. omega (arith, w.own q)) (omega arith)

  pub free_o : free_at o.bytes ≡ drop run (free_at b)
  free_o = sim.free ∙ (insert_took d l r (free_at b) t w.ok).free

  done : (ts : List (Item (suc l))) → ts ≡ (insert_tree d l r (free_at b) t).trees → Res l ts → All (Held d (suc l) o.bytes) ts
      → ((q : ℕ) → mult q (concat_map (pages (suc l)) ts) + mult q (free_at o.bytes) ≡ indicator (in_range o.bytes q))
      → concat_map (records (suc l)) ts ≡ insert_record d r (records (suc l) t)
      → Changed d b (grow_root l o.bytes (map (entry_of d l) ts)) (rooted l (get_or (free_at o.bytes) 0 0) ts) (insert_record d r (records (suc l) t)) (drop (run + indicator (eqb run (suc l))) (free_at b))
  unfolding grow_root rooted records concat_map
  done ts e (one {t = a} ra) held own rs =
      let ra' : records (suc l) a ≡ insert_record d r (records (suc l) t) = sym (append-nil (records (suc l) a)) ∙ rs in
      let tk = insert_took d l r (free_at b) t w.ok in
      let n : 1 ≡ length (insert_tree d l r (free_at b) t).trees = ap (λ (z : List (Item (suc l))). length z) e in
      let z : run + indicator (eqb run (suc l)) ≡ run = omega (arith, tk.trees) in
      record {
        whole =
            record {
              features_are = sim.kept.field features refl refl ∙ w.features_are;
              root_is = sim.kept.field root refl refl ∙ w.root_is ∙ sym (ap (λ (y : List (Item (suc l))). get_or (map (λ x. x.0) y) 0 0) e ∙ insert_page d l r (free_at b) t);
              level_is = sim.kept.field level refl refl ∙ w.level_is;
              held = all_head held;
              ok = ra;
              well = sim.kept.well;
              own = λ q. ap (λ (y : List ℕ). mult q y + mult q (free_at o.bytes)) (sym (append-nil (pages (suc l) a))) ∙ own q;
              order = rw ra' rise;
            };
        records_are = ra';
        free_are = free_o ∙ ap (λ (m : ℕ). drop m (free_at b)) (sym z);
        length_is = sim.kept.size;
        others = λ f u x y z. sim.kept.field f u x;
      }
  done ts e (two {t = a} {u = c} oa oc) held own rs =
      let b' = o.bytes in
      let tk = insert_took d l r (free_at b) t w.ok in
      let n : 2 ≡ length (insert_tree d l r (free_at b) t).trees = ap (λ (z : List (Item (suc l))). length z) e in
      let z : run + indicator (eqb run (suc l)) ≡ run + 1 = omega (arith, tk.trees) in
      let m : length (free_at b') ≡ length (free_at b) - run = ap (λ (y : List ℕ). length y) free_o ∙ length-drop run (free_at b) in
      let fr = first_rest (free_at b') (omega (arith, room)) in
      let ft : field_at features b' ≡ d = sim.kept.field features refl refl ∙ w.features_are in
      changed_over sim.kept (sym (grow_two d l b' a c v)) refl rs (ap (drop 1) free_o ∙ drop-drop 1 run (free_at b) ∙ ap (λ (y : ℕ). drop y (free_at b)) (sym z))
      (new_changed d l b' a c (get_or (free_at b') 0 0) (drop 1 (free_at b')) fr (omega arith) sim.kept.well (also oa (also oc none)) own held ft (rw rs rise))

  pub own_o : (q : ℕ) → mult q (concat_map (pages (suc l)) (insert_tree d l r (free_at b) t).trees) + mult q (free_at o.bytes) ≡ indicator (in_range o.bytes q)
  own_o q =
      ap (λ (z : List ℕ). mult q (concat_map (pages (suc l)) (insert_tree d l r (free_at b) t).trees) + mult q z) sim.free
      ∙ insert_kept d l r q (free_at b) t w.ok (omega arith) ∙ w.own q ∙ ap indicator (sym (kept_range sim.kept q))

  pub insert_root : Changed d b (grow_root l o.bytes o.entries) (inserted_tree d r (free_at b) (l, t)) (insert_record d r (records (suc l) t)) (drop (run + indicator (eqb run (suc l))) (free_at b))
  unfolding inserted_tree
  insert_root =
      rw (sim.entries, ← sim.free)
      (done (insert_tree d l r (free_at b) t).trees refl (insert_res d l r (free_at b) t hr w.ok) sim.held own_o (insert_records d l r (free_at b) t w.ok w.order))
