-- An index that holds a tree as a sound one does, whatever its total says; and that this, with the ranges, is soundness.
use Rattle.std.specs.Prelude.{◌≡◌, refl, List, ◌++◌, map, ℕ, zero, suc, ◌+◌, ◌*◌, ◌≤◌, length}
use Rattle.std.proofs.Common.{sym, ap, ◌∙◌, subst, arith}
use Rattle.lists.specs.Basics.{indicator, All, all_map, range_from}
use Rattle.lists.specs.Counts.{mult, mult_append}
use Rattle.lists.specs.ConcatMapLaws.{all_both, all_concat_map}
use Rattle.lists.specs.AscendingBy.{AscendingBy, rising_of, ascending_of}
use Rattle.lists.specs.Tests.{by_cases}
use Rattle.pagestore_page.specs.declared.Record.{Record}
use Rattle.pagestore_page.specs.Fits.{RecordFits}
use Rattle.pagestore.specs.Store.{size, features, root, level, total, fresh, field_at, in_range, leaf_at, records_in, freed_at, fresh_at, free_at, view_of}
use Rattle.pagestore.specs.Store.RangeLaws.{range_past}
use Rattle.pagestore.specs.Store.PageLaws.{records_fit as stored-fit}
use Rattle.tree_model.specs.Trees.{Item, records, pages, rank_of, ident_of, Rep, tree_at, tree_of, live}
use Rattle.tree_model.specs.TreeLaws.{tree_page, rep_is}
use Rattle.tree_model.specs.Sound.{Permitted, is_page, fresh_pages, RootFilled, Filled, RecordOk, SoundIndex}
use Rattle.tree_model.specs.Inserting.{Shape}
use Rattle.tree_laws.specs.Shapes.{Ok, Some, Root}
use Rattle.tree_laws.specs.Frames.{Held, Well, records_fit}
use Rattle.tree_laws.specs.InsertSim.{leaf_items_law}

-- b holds the tree t of level l, for d features
pub record Whole (d : ℕ) (b : List ℕ) (l : ℕ) (t : Item (suc l)) : Type 0 where
  pub features_are : field_at features b ≡ d
  pub root_is : field_at root b ≡ t.0
  pub level_is : field_at level b ≡ l
  pub held : Held d (suc l) b t
  pub ok : Root l t
  pub well : Well b
  pub own : (q : ℕ) → mult q (pages (suc l) t) + mult q (free_at b) ≡ indicator (in_range b q)
  pub order : AscendingBy (rank_of d) (records (suc l) t)

-- the rest of soundness, of the records rs
pub record Right (d : ℕ) (b : List ℕ) (rs : List Record) : Type 0 where
  pub lent : Permitted (length b)
  pub size_is : field_at size b * 1024 ≡ length b
  pub d_low : 1 ≤ d
  pub d_high : d ≤ 16
  pub ranges : All (RecordOk d) rs
  pub distinct : (i : ℕ) → mult i (map ident_of rs) ≤ 1
  pub total_is : field_at total b ≡ length rs
  pub most : length rs ≤ 65535

-- FILLS

leaf_fit : (d : ℕ) (b : List ℕ) (t : Item 1) → Held d 1 b t → All RecordFits t.1
leaf_fit d b t h = let f : All RecordFits (records_in (leaf_at b t.0)) = stored-fit b t.0 in rw (leaf_items_law d b t h) at f

subs_ok : (d : ℕ) (b : List ℕ) (l : ℕ) (t : Item (suc l)) → Held d (suc l) b t → All (Filled l) t.1 → All (Ok l) t.1
unfolding Ok Filled Held
subs_ok d b zero t h f = leaf_fit d b t h
subs_ok d b (suc l) t h f =
    all_map (λ x (g : Held d (suc l) b x × Filled (suc l) x). (g.1.0, g.1.1, subs_ok d b l x g.0 g.1.2)) (all_both h.1 f)

ok_filled : (l : ℕ) (x : Item l) → Ok l x → Filled l x
unfolding Ok Filled
ok_filled zero x o = tt
ok_filled (suc l) t o = (o.0, o.1, all_map (ok_filled l) o.2)

root_of : (d : ℕ) (b : List ℕ) (l : ℕ) (t : Item (suc l)) → Held d (suc l) b t → RootFilled l t → All (Filled l) t.1 → Root l t
unfolding RootFilled Some
root_of d b zero t h r f = record { some = tt; most = r; subs = subs_ok d b zero t h f }
root_of d b (suc l) t h r f = record { some = r.0; most = r.1; subs = subs_ok d b (suc l) t h f }

root_filled : (l : ℕ) (t : Item (suc l)) → Root l t → RootFilled l t
unfolding RootFilled Some
root_filled zero t r = r.most
root_filled (suc l) t r = (r.some, r.most)

pub root_fit : (l : ℕ) (t : Item (suc l)) → Root l t → All RecordFits (records (suc l) t)
unfolding records
root_fit l t r = all_concat_map (records l) t.1 (all_map (records_fit l) r.subs)

-- THE VIEW

pub rep_held : (b : List ℕ) (l : ℕ) (x : Item l) → Rep l (view_of b) x → Held (view_of b).d l b x
unfolding Rep Held view_of
rep_held b zero x r = tt
rep_held b (suc l) t r = (r.0, all_map (rep_held b l) r.1)

pub held_rep : (b : List ℕ) (l : ℕ) (x : Item l) → Held (view_of b).d l b x → Rep l (view_of b) x
unfolding Rep Held view_of
held_rep b zero x r = tt
held_rep b (suc l) t r = (r.0, all_map (held_rep b l) r.1)

-- the never used pages of the view are the store's
fresh_are : (b : List ℕ) → Well b → fresh_pages (view_of b) ≡ fresh_at b
unfolding view_of fresh_at range_from
fresh_are b w =
    by_cases (in_range b (field_at fresh b)) (λ e. rw e)
    (λ e. rw (e, range_past b (field_at fresh b) w.low e))

is_page_law : (b : List ℕ) (p : ℕ) → is_page (view_of b) p ≡ in_range b p
unfolding view_of in_range
is_page_law b p = refl

count_pages : (b : List ℕ) → Well b → (ps : List ℕ) (q : ℕ) → mult q (ps ++ ((view_of b).freed ++ fresh_pages (view_of b))) ≡ mult q ps + mult q (free_at b)
unfolding view_of free_at
count_pages b w ps q = mult_append q ps _ ∙ ap (λ (z : List ℕ). mult q ps + mult q (freed_at b ++ z)) (fresh_are b w)

-- SOUND, AND WHOLE AND RIGHT

pub sound_whole : (b : List ℕ) → SoundIndex b → Whole (view_of b).d b (view_of b).level (tree_of (view_of b))
unfolding view_of tree_of live
sound_whole b s =
    let w : Well b = record { rest = s.chain; low = s.fresh.0; high = s.fresh.1 } in
    let h = rep_held b (suc (view_of b).level) (tree_of (view_of b)) s.rep in
    record {
      features_are = refl;
      root_is = sym (tree_page (view_of b).level (view_of b) (field_at root b));
      level_is = refl;
      held = h;
      ok = root_of (view_of b).d b (view_of b).level (tree_of (view_of b)) h s.root_fill s.fills;
      well = w;
      own = λ q. sym (count_pages b w (pages (suc (view_of b).level) (tree_of (view_of b))) q) ∙ s.once q ∙ ap indicator (is_page_law b q);
      order = rising_of (rank_of (view_of b).d) (live (view_of b)) s.order;
    }

pub sound_right : (b : List ℕ) → SoundIndex b → Right (view_of b).d b (live (view_of b))
unfolding view_of
sound_right b s =
    record {
      lent = s.lent;
      size_is = s.size;
      d_low = s.d.0;
      d_high = s.d.1;
      ranges = s.ranges;
      distinct = s.distinct;
      total_is = s.total;
      most = omega (arith, s.total, s.most);
    }

-- the tree that is held is the one that the view gives
whole_tree : (d : ℕ) (b : List ℕ) (t : Item (suc (view_of b).level)) → d ≡ (view_of b).d → Whole d b (view_of b).level t → t ≡ tree_of (view_of b)
unfolding view_of tree_of
whole_tree d b t e w =
    let h : Held (view_of b).d (suc (view_of b).level) b t = subst (λ (z : ℕ). Held z (suc (view_of b).level) b t) e w.held in
    rep_is (view_of b).level (view_of b) t (held_rep b (suc (view_of b).level) t h) ∙ ap (tree_at (view_of b).level (view_of b)) (sym w.root_is)

live_at : (d : ℕ) (b : List ℕ) (t : Item (suc (view_of b).level)) → d ≡ (view_of b).d → Whole d b (view_of b).level t → live (view_of b) ≡ records (suc (view_of b).level) t
unfolding live
live_at d b t e w = ap (records (suc (view_of b).level)) (sym (whole_tree d b t e w))

view_level : (b : List ℕ) → (view_of b).level ≡ field_at level b
unfolding view_of
view_level b = refl

pub view_d : (b : List ℕ) → (view_of b).d ≡ field_at features b
unfolding view_of
view_d b = refl

-- the live records of an index that holds a tree
pub whole_live : (d : ℕ) (b : List ℕ) (l : ℕ) (t : Item (suc l)) → Whole d b l t → live (view_of b) ≡ records (suc l) t
whole_live d b l t w =
    subst (λ (m : ℕ). (u : Item (suc m)) → Whole d b m u → live (view_of b) ≡ records (suc m) u) (view_level b ∙ w.level_is)
    (λ u x. live_at d b u (sym x.features_are ∙ sym (view_d b)) x) t w

-- the level and the tree of an index
abbrev pub shape_at : List ℕ → Shape
shape_at b = ((view_of b).level, tree_of (view_of b))

-- the pages in its tree
abbrev pub tree_pages : List ℕ → List ℕ
tree_pages b = pages (suc (view_of b).level) (tree_of (view_of b))

pub whole_shape : (d : ℕ) (b : List ℕ) (l : ℕ) (t : Item (suc l)) → Whole d b l t → ◌≡◌ {A = Shape} (shape_at b) (l, t)
whole_shape d b l t w =
    subst (λ (m : ℕ). (u : Item (suc m)) → Whole d b m u → ◌≡◌ {A = Shape} (shape_at b) (m, u)) (view_level b ∙ w.level_is)
    (λ u x. ap (λ (y : Item (suc (view_of b).level)). let z : Shape = ((view_of b).level, y) in z) (sym (whole_tree d b u (sym x.features_are ∙ sym (view_d b)) x))) t w

sound_at : (b : List ℕ) (t : Item (suc (view_of b).level)) → Whole (view_of b).d b (view_of b).level t → Right (view_of b).d b (records (suc (view_of b).level) t) → SoundIndex b
unfolding view_of live
sound_at b t w r =
    let e : t ≡ tree_of (view_of b) = whole_tree (view_of b).d b t refl w in
    let h : Held (view_of b).d (suc (view_of b).level) b (tree_of (view_of b)) = subst (Held (view_of b).d (suc (view_of b).level) b) e w.held in
    let o : Root (view_of b).level (tree_of (view_of b)) = subst (Root (view_of b).level) e w.ok in
    let rs : records (suc (view_of b).level) t ≡ live (view_of b) = ap (records (suc (view_of b).level)) e in
    record {
      lent = r.lent;
      size = r.size_is;
      d = (r.d_low, r.d_high);
      rep = held_rep b (suc (view_of b).level) (tree_of (view_of b)) h;
      root_fill = root_filled (view_of b).level (tree_of (view_of b)) o;
      fills = all_map (ok_filled (view_of b).level) o.subs;
      order = ascending_of (rank_of (view_of b).d) (subst (AscendingBy (rank_of (view_of b).d)) rs w.order);
      ranges = subst (All (RecordOk (view_of b).d)) rs r.ranges;
      distinct = λ i. subst (λ (z : List Record). mult i (map ident_of z) ≤ 1) rs (r.distinct i);
      total = r.total_is ∙ ap (λ (z : List Record). length z) rs;
      most = omega (arith, r.total_is, r.most);
      chain = w.well.rest;
      fresh = (w.well.low, w.well.high);
      once = λ q. count_pages b w.well (pages (suc (view_of b).level) (tree_of (view_of b))) q
          ∙ ap (λ (u : Item (suc (view_of b).level)). mult q (pages (suc (view_of b).level) u) + mult q (free_at b)) (sym e) ∙ w.own q ∙ ap indicator (sym (is_page_law b q));
    }

-- an index that holds a tree, with the rest right, is sound
pub whole_sound : (d : ℕ) (b : List ℕ) (l : ℕ) (t : Item (suc l)) → Whole d b l t → Right d b (records (suc l) t) → SoundIndex b
whole_sound d b l t w r =
    subst (λ (m : ℕ). (e : ℕ) → e ≡ (view_of b).d → (u : Item (suc m)) → Whole e b m u → Right e b (records (suc m) u) → SoundIndex b) (view_level b ∙ w.level_is)
    (λ e f. subst (λ (z : ℕ). (u : Item (suc (view_of b).level)) → Whole z b (view_of b).level u → Right z b (records (suc (view_of b).level) u) → SoundIndex b) (sym f) (sound_at b))
    d (sym w.features_are ∙ sym (view_d b)) t w r
