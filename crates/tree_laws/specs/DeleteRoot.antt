-- Deletion at the root: where an inner root is left with one child, that child is the root, and the old root is free.
use Rattle.std.specs.Prelude.{◌≡◌, Bool, true, ◌≢◌, ℕ, zero, suc, ◌+◌, ◌<◌, eqb, length, get_or}
use Rattle.std.proofs.Math.Path.{refl, ap}
use Rattle.std.proofs.Common.{sym, ◌∙◌, subst, arith, eqb-true}
use mathlib.Core.List.{List, [], ◌∷◌, ◌++◌, append-nil}
use Rattle.std.proofs.lemmas.Bool.{eqb-false}
use Rattle.lists.specs.Basics.{if, indicator, All, concat_map, all_head}
use Rattle.lists.specs.Choices.{if_cases, bool_cases, indicator_le, indicator_true}
use Rattle.lists.specs.Counts.{mult, mult_append, mult_self, absent}
use Rattle.lists.specs.AscendingBy.{AscendingBy}
use Rattle.lists.specs.Tabulated.{all_at}
use Rattle.pagestore_page.specs.declared.Record.{Record}
use Rattle.pagestore_page.specs.declared.Entry.{Entry}
use Rattle.pagestore.specs.Store.{page_at, features, root, level, fresh, field_at, in_range, inner_at, entries_in, free_at, free_page}
use Rattle.pagestore.specs.Store.PageLaws.{SamePage, same_refl, same_trans}
use Rattle.pagestore.specs.Store.FreeLaws.{freed_part}
use Rattle.pagestore.specs.Store.TakeLaws.{page_free, field_free, free_free}
use Rattle.tree_model.specs.Trees.{Item, records, pages, rank_of}
use Rattle.tree_model.specs.Deleting.{delete_record, delete_tree, collapsed, deleted_tree}
use Rattle.tree_model.specs.Inserting.{Shape, no_tree}
use Rattle.tree_core.specs.Entries.{child_at}
use Rattle.tree_core.specs.Deletion.{Deleted, delete_at, collapse_root}
use Rattle.tree_laws.specs.Shapes.{Ok, Some, Root, ok_root, child_at_law}
use Rattle.tree_laws.specs.Idents.{del_all, del_length, del_rising}
use Rattle.tree_laws.specs.Frames.{Held, held_frame, Well, Kept, kept_range, kept_free}
use Rattle.tree_laws.specs.InsertSim.{inner_items}
use Rattle.tree_laws.specs.DeleteTree.{same_page, Known, delete_after, delete_kept, delete_records, delete_free, delete_tree_law, given}
use Rattle.tree_laws.specs.DeleteSim.{DeleteSim, delete_sim}
use Rattle.tree_laws.specs.Wholes.{Whole}
use Rattle.tree_laws.specs.Header.{set_root, root_length, root_field, root_page, root_free, root_well, root_range_law, root_set, level_set, Changed, changed_over}

-- the pages given up, the last one first: the root, if it gives way, and those of the levels below it from above
unfoldable pub given_root : ℕ → (l : ℕ) → Record → Item (suc l) → List ℕ
given_root d zero r t = []
given_root d (suc l) r t = if (eqb (length (delete_tree d (suc l) r [] t).tree.1) 1) (t.0 ∷ []) [] ++ given d (suc l) r t

-- the root p of b over the one tree c
module _ (d l : ℕ) (b : List ℕ) (p : ℕ) (c : Item (suc l)) (v : suc l < 256) (well : Well b) (ok : Ok (suc l) c) (held : Held d (suc (suc l)) b (p, c ∷ []))
    (own : (q : ℕ) → mult q (pages (suc (suc l)) (p, c ∷ [])) + mult q (free_at b) ≡ indicator (in_range b q)) where
  sum : (q : ℕ) → mult q (pages (suc (suc l)) (p, c ∷ [])) ≡ mult q (p ∷ []) + mult q (pages (suc l) c)
  unfolding pages concat_map
  sum q = mult_append q (p ∷ []) (pages (suc l) c ++ []) ∙ ap (λ (z : List ℕ). mult q (p ∷ []) + mult q z) (append-nil (pages (suc l) c))

  c_here : 0 < mult c.0 (pages (suc l) c)
  unfolding pages
  c_here = omega (arith, mult_self c.0 (concat_map (pages l) c.1))

  c_in : in_range b c.0 ≡ true
  c_in = indicator_true (in_range b c.0) (omega (arith, own c.0, sum c.0, c_here))

  p_in : in_range b p ≡ true
  p_in = indicator_true (in_range b p) (omega (arith, own p, sum p, mult_self p []))

  p_free : mult p (free_at b) ≡ 0
  p_free = omega (arith, own p, sum p, mult_self p [], indicator_le (in_range b p))

  abbrev b2 : List ℕ
  b2 = set_root b c.0 l

  abbrev b3 : List ℕ
  b3 = free_page (set_root b c.0 l) p

  free2 : free_at b2 ≡ free_at b
  free2 = root_free b c.0 l

  p_in2 : in_range b2 p ≡ true
  p_in2 = root_range_law b c.0 l p ∙ p_in

  p_free2 : mult p (free_at b2) ≡ 0
  p_free2 = ap (mult p) free2 ∙ p_free

  k : Kept b2 b3
  k = kept_free b2 p (root_well b c.0 l well) p_in2 p_free2

  pub low_free : free_at b3 ≡ p ∷ free_at b
  low_free = free_free b2 p (root_well b c.0 l well).rest p_in2 (omega (arith, freed_part b2 p, p_free2)) ∙ ap (λ (z : List ℕ). p ∷ z) free2

  low_page : (q : ℕ) → 0 < mult q (pages (suc l) c) → page_at b3 q ≡ page_at b q
  low_page q h = (page_free b2 p q (absent q p [] (omega (arith, own q, sum q, indicator_le (in_range b q))))).page ∙ (root_page b c.0 l q).page

  low_range : (q : ℕ) → in_range b3 q ≡ in_range b q
  low_range q = kept_range k q ∙ root_range_law b c.0 l q

  low_whole : field_at features b ≡ d → AscendingBy (rank_of d) (records (suc l) c) → Whole d b3 l c
  unfolding Held
  low_whole ft s =
      record {
        features_are = k.field features refl refl ∙ root_field b c.0 l features refl refl ∙ ft;
        root_is = k.field root refl refl ∙ root_set b c.0 l c_in (omega arith);
        level_is = k.field level refl refl ∙ level_set b c.0 l c_in (omega arith);
        held = held_frame d (suc l) b b3 c low_page (all_head held.1);
        ok = ok_root l c ok;
        well = k.well;
        own = λ q. let e : mult q (free_at b3) ≡ mult q (p ∷ []) + mult q (free_at b) = ap (mult q) low_free ∙ mult_append q (p ∷ []) (free_at b) in rw (low_range q) (omega (arith, own q, sum q));
        order = s;
      }

  pub low_changed : field_at features b ≡ d → AscendingBy (rank_of d) (records (suc l) c) → Changed d b b3 (l, c) (records (suc l) c) (p ∷ free_at b)
  low_changed ft s =
      record {
        whole = low_whole ft s;
        records_are = refl;
        free_are = low_free;
        length_is = k.size ∙ root_length b c.0 l;
        others = λ f u w x y. k.field f u w ∙ root_field b c.0 l f x y;
      }

  -- the code finds the child in the root page
  pub low_child : child_at (entries_in (inner_at b p)) 0 ≡ c.0
  low_child = ap (λ (es : List Entry). child_at es 0) (inner_items d l b (p, c ∷ []) held) ∙ child_at_law d l 0 (c ∷ [])

-- whatever the root page holds: no other page changes, and none that was never used is taken
collapse_others : (l : ℕ) (b : List ℕ) (p n q : ℕ) → q ≢ p → SamePage b (collapse_root l b p n) q
unfolding collapse_root
collapse_others zero b p n q ne = same_refl b q
collapse_others (suc l) b p n q ne =
    let c = child_at (entries_in (inner_at b p)) 0 in
    if_cases (λ z. SamePage b z q) (eqb n 1) _ _
    (λ e. same_trans (root_page b c l q) (page_free (set_root b c l) p q ne))
    (λ e. same_refl b q)

collapse_unused : (l : ℕ) (b : List ℕ) (p n : ℕ) → field_at fresh (collapse_root l b p n) ≡ field_at fresh b
unfolding collapse_root
collapse_unused zero b p n = refl
collapse_unused (suc l) b p n =
    let c = child_at (entries_in (inner_at b p)) 0 in
    if_cases (λ z. field_at fresh z ≡ field_at fresh b) (eqb n 1) _ _
    (λ e. field_free fresh (set_root b c l) p refl ∙ root_field b c l fresh refl refl)
    (λ e. refl)

one_item : {A : Type 0} (xs : List A) (d : A) → length xs ≡ 1 → xs ≡ get_or xs 0 d ∷ []
one_item [] d h = absurd (omega arith)
one_item (x ∷ []) d h = refl
one_item (x ∷ y ∷ xs) d h = absurd (omega arith)

leaf_root : (d : ℕ) (r : Record) (fs : List ℕ) (t : Item 1) → Root 0 t → Root 0 (delete_tree d 0 r fs t).tree
unfolding delete_tree Some
leaf_root d r fs t o = let n = del_length r.id t.1 in record { some = tt; most = omega (arith, o.most); subs = del_all r.id o.subs }

module _ (d : ℕ) (b : List ℕ) (r : Record) (l : ℕ) (t : Item (suc l)) (v : l < 256) (w : Whole d b l t) (kn : All (Known d r) (records (suc l) t)) where
  abbrev o : Deleted
  o = delete_at d l b t.0 r

  abbrev x : Item (suc l)
  x = (delete_tree d l r (free_at b) t).tree

  sim : DeleteSim d l b (pages (suc l) t) (delete_at d l b t.0 r) (delete_tree d l r (free_at b) t).tree (delete_tree d l r (free_at b) t).free
  sim = delete_sim d l b r t v w.ok w.held w.well (λ q. omega (arith, w.own q))

  -- no page outside the tree changes, and none that was never used is taken
  pub root_others : (q : ℕ) → mult q (pages (suc l) t) ≡ 0 → SamePage b (collapse_root l (delete_at d l b t.0 r).bytes t.0 (delete_at d l b t.0 r).count) q
  unfolding pages
  root_others q h = same_trans (sim.frame q h) (collapse_others l o.bytes t.0 o.count q (absent q t.0 (concat_map (pages l) t.1) h))

  pub root_unused : field_at fresh (collapse_root l (delete_at d l b t.0 r).bytes t.0 (delete_at d l b t.0 r).count) ≡ field_at fresh b
  root_unused = collapse_unused l o.bytes t.0 o.count ∙ sim.unused

  free_o : free_at o.bytes ≡ given d l r t ++ free_at b
  free_o = sim.free ∙ delete_free d l r (free_at b) t

  own_o : (q : ℕ) → mult q (pages (suc l) x) + mult q (free_at o.bytes) ≡ indicator (in_range o.bytes q)
  own_o q =
      ap (λ (z : List ℕ). mult q (pages (suc l) x) + mult q z) sim.free ∙ delete_kept d l r q (free_at b) t w.ok ∙ w.own q ∙ ap indicator (sym (kept_range sim.kept q))

  records_o : records (suc l) x ≡ delete_record r.id (records (suc l) t)
  records_o = delete_records d l r (free_at b) t w.ok w.order kn

  rise_o : AscendingBy (rank_of d) (records (suc l) x)
  rise_o = rw records_o (del_rising d r.id w.order)

  features_o : field_at features o.bytes ≡ d
  features_o = sim.kept.field features refl refl ∙ w.features_are

  -- where the root stays
  stay : Root l x → Changed d b o.bytes (l, x) (delete_record r.id (records (suc l) t)) (given d l r t ++ free_at b)
  stay ro =
      record {
        whole =
            record {
              features_are = features_o;
              root_is = sim.kept.field root refl refl ∙ w.root_is ∙ sym (same_page d l r (free_at b) t);
              level_is = sim.kept.field level refl refl ∙ w.level_is;
              held = sim.held;
              ok = ro;
              well = sim.kept.well;
              own = own_o;
              order = rise_o;
            };
        records_are = records_o;
        free_are = free_o;
        length_is = sim.kept.size;
        others = λ f u y z a. sim.kept.field f u y;
      }

-- an inner root that is left with one child
collapses : (d : ℕ) (b : List ℕ) (r : Record) (l : ℕ) (t : Item (suc (suc l))) (v : suc l < 256) (w : Whole d b (suc l) t) (kn : All (Known d r) (records (suc (suc l)) t))
    → length (delete_tree d (suc l) r (free_at b) t).tree.1 ≡ 1
    → Changed d b (free_page (set_root (delete_at d (suc l) b t.0 r).bytes (child_at (entries_in (inner_at (delete_at d (suc l) b t.0 r).bytes t.0)) 0) l) t.0)
    (l, get_or (delete_tree d (suc l) r (free_at b) t).tree.1 0 (no_tree l)) (delete_record r.id (records (suc (suc l)) t)) (t.0 ∷ (given d (suc l) r t ++ free_at b))
unfolding records concat_map
collapses d b r l t v w kn e =
    let x = (delete_tree d (suc l) r (free_at b) t).tree in
    let b1 = (delete_at d (suc l) b t.0 r).bytes in
    let c = get_or x.1 0 (no_tree l) in
    let near = delete_after d l r (free_at b) t w.ok in
    let x_is : x ≡ (t.0, c ∷ []) = λ i. (same_page d (suc l) r (free_at b) t i, one_item x.1 (no_tree l) e i) in
    let okc : Ok (suc l) c = all_at near.subs 0 (no_tree l) (omega arith) in
    let sm = sim d b r (suc l) t v w kn in
    let held : Held d (suc (suc l)) b1 (t.0, c ∷ []) = subst (λ (y : Item (suc (suc l))). Held d (suc (suc l)) b1 y) x_is sm.held in
    let own : (q : ℕ) → mult q (pages (suc (suc l)) (t.0, c ∷ [])) + mult q (free_at b1) ≡ indicator (in_range b1 q) =
    λ q. subst (λ (y : Item (suc (suc l))). mult q (pages (suc (suc l)) y) + mult q (free_at b1) ≡ indicator (in_range b1 q)) x_is (own_o d b r (suc l) t v w kn q) in
    let rs : records (suc l) c ≡ delete_record r.id (records (suc (suc l)) t) =
    sym (append-nil (records (suc l) c)) ∙ ap (records (suc (suc l))) (sym x_is) ∙ records_o d b r (suc l) t v w kn in
    let rise : AscendingBy (rank_of d) (records (suc l) c) = subst (AscendingBy (rank_of d)) (sym rs) (del_rising d r.id w.order) in
    let wl = sm.kept.well in
    changed_over sm.kept
    (ap (λ (z : ℕ). free_page (set_root b1 z l) t.0) (sym (low_child d l b1 t.0 c v wl okc held own)))
    refl rs
    (ap (λ (z : List ℕ). t.0 ∷ z) (free_o d b r (suc l) t v w kn))
    (low_changed d l b1 t.0 c v wl okc held own (features_o d b r (suc l) t v w kn) rise)

inner_root : (d : ℕ) (b : List ℕ) (r : Record) (l : ℕ) (t : Item (suc (suc l))) → suc l < 256 → Whole d b (suc l) t → All (Known d r) (records (suc (suc l)) t)
    → Changed d b (collapse_root (suc l) (delete_at d (suc l) b t.0 r).bytes t.0 (delete_at d (suc l) b t.0 r).count) (collapsed (suc l) (delete_tree d (suc l) r [] t).tree)
    (delete_record r.id (records (suc (suc l)) t)) (given_root d (suc l) r t ++ free_at b)
unfolding collapse_root collapsed given_root Some
inner_root d b r l t v w kn =
    let b1 = (delete_at d (suc l) b t.0 r).bytes in
    let x = (delete_tree d (suc l) r (free_at b) t).tree in
    let n = length (delete_tree d (suc l) r [] t).tree.1 in
    let low = free_page (set_root b1 (child_at (entries_in (inner_at b1 t.0)) 0) l) t.0 in
    let xe : x ≡ (delete_tree d (suc l) r [] t).tree = delete_tree_law d (suc l) r (free_at b) [] t in
    let ne : length x.1 ≡ n = ap (λ (y : Item (suc (suc l))). length y.1) xe in
    let ce : (delete_at d (suc l) b t.0 r).count ≡ n = (sim d b r (suc l) t v w kn).count ∙ ne in
    let near = delete_after d l r (free_at b) t w.ok in
    let G : Bool → Item (suc (suc l)) → Type 0 =
    λ c y. Changed d b (if c low b1) (if {A = Shape} c (l, get_or y.1 0 (no_tree l)) (suc l, y)) (delete_record r.id (records (suc (suc l)) t)) ((if c (t.0 ∷ []) [] ++ given d (suc l) r t) ++ free_at b) in
    rw ce
    (subst (G (eqb n 1)) xe
    (bool_cases (λ c. G c x) (eqb n 1)
    (λ e. collapses d b r l t v w kn (ne ∙ eqb-true n 1 e))
    (λ e. let e' = eqb-false n 1 e in
    stay d b r (suc l) t v w kn (record { some = omega (arith, near.low, ne, e'); most = near.high; subs = near.subs }))))

-- THE DELETION
pub delete_root : (d : ℕ) (b : List ℕ) (r : Record) (l : ℕ) (t : Item (suc l)) → l < 256 → Whole d b l t → All (Known d r) (records (suc l) t)
    → Changed d b (collapse_root l (delete_at d l b t.0 r).bytes t.0 (delete_at d l b t.0 r).count) (deleted_tree d r (l, t)) (delete_record r.id (records (suc l) t)) (given_root d l r t ++ free_at b)
unfolding collapse_root deleted_tree collapsed given_root given delete_tree Some
delete_root d b r zero t v w kn = stay d b r zero t v w kn (leaf_root d r (free_at b) t w.ok)
delete_root d b r (suc l) t v w kn = inner_root d b r l t v w kn
