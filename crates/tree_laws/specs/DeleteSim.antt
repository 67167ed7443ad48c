-- What the pages hold after a deletion below a page: the tree that deletion from trees gives. Only the store's published laws are used.
use Rattle.std.specs.Prelude.{◌≡◌, refl, ℕ, zero, suc, ◌+◌, ◌≤◌, ◌<◌, leb, take, get_or}
use Rattle.std.proofs.Common.{sym, ◌∙◌, subst, arith, drop-cons}
use Rattle.std.proofs.Math.Path.{ap}
use mathlib.Core.List.{List, [], ◌∷◌, ◌++◌, map}
use Rattle.std.proofs.Math.ListN.{length, drop, set, length-map, length-set}
use Rattle.std.proofs.Math.Seq.{split_at, take-append_seam, drop-append_seam}
use Rattle.std.proofs.lemmas.List.{set_split}
use borrow.Author.Tests.{leb-true, le-ltb, ne_eqb}
use Rattle.lists.specs.Basics.{if, indicator, All, also, concat_map, all_head, all_append}
use Rattle.lists.specs.Choices.{if_cases, indicator_le}
use Rattle.lists.specs.Counts.{mult, mult_append, absent}
use Rattle.lists.specs.ConcatMapLaws.{map_append}
use Rattle.lists.specs.Parts.{all_drop, all_set, concat_map_set, concat_map_pair, map_take, map_drop, map_set}
use Rattle.lists.specs.Tabulated.{all_take, all_at}
use Rattle.pagestore_page.specs.declared.Record.{Record}
use Rattle.pagestore_page.specs.declared.Entry.{Entry}
use Rattle.pagestore.specs.Store.{page_at, set_page, fresh, field_at, in_range, free_at}
use Rattle.pagestore.specs.Store.PageLaws.{SamePage, same_trans, page_other, field_page}
use Rattle.tree_model.specs.Trees.{Item, pages, rank_of, entry_of, node}
use Rattle.tree_model.specs.Inserting.{choose, no_tree, chosen}
use Rattle.tree_model.specs.Deleting.{delete_record, left_count, rebalanced_items, left_of, place_pair, rebalanced_pair, delete_tree}
use Rattle.tree_model.specs.TreeLaws.{no_pages_law}
use Rattle.tree_core.specs.Entries.{child_at}
use Rattle.tree_core.specs.Deletion.{Deleted, put_rebalanced, rebalanced_pages, leave, rebalanced_below, fix_underflow, delete_at}
use Rattle.tree_laws.specs.Shapes.{Ok, Some, Root, ok_root, child_at_law, chosen_lt}
use Rattle.tree_laws.specs.Idents.{del_all, del_length}
use Rattle.tree_laws.specs.EntryLaws.{leaf_entry_law, inner_entry_law}
use Rattle.tree_laws.specs.Frames.{Held, held_list, held_zero, Well, Kept, kept_range, kept_trans}
use Rattle.tree_laws.specs.InsertSim.{write_node, entry_as, one_sim, leaf_items_law, inner_items, sum_at}
use Rattle.tree_laws.specs.DeleteTree.{Balanced, Near, pair_near, pair_lt, pair_balanced, pair_ok, pair_pages, pair_length, delete_near, delete_kept, delete_free, given}
use Rattle.tree_laws.specs.PairSim.{PairSim, place_sim, balanced_oks, rebalance_pages}

-- o is what the tree t says, and the pages fs are free; no page outside ps has changed, and the pages never used are the same
pub record DeleteSim (d l : ℕ) (b ps : List ℕ) (o : Deleted) (t : Item (suc l)) (fs : List ℕ) : Type 0 where
  pub held : Held d (suc l) o.bytes t
  pub entry : o.entry ≡ entry_of d l t
  pub count : o.count ≡ length t.1
  pub free : free_at o.bytes ≡ fs
  pub frame : (q : ℕ) → mult q ps ≡ 0 → SamePage b o.bytes q
  pub unused : field_at fresh o.bytes ≡ field_at fresh b
  pub kept : Kept b o.bytes

-- the last write, of the parent
leave_sim : (d l : ℕ) (b : List ℕ) (p : ℕ) (ts : List (Item (suc l))) → suc l < 256 → Well b → ((q : ℕ) → mult q (p ∷ concat_map (pages (suc l)) ts) + mult q (free_at b) ≤ indicator (in_range b q))
    → All (Held d (suc l) b) ts → All (Ok (suc l)) ts → length ts ≤ 16 → DeleteSim d (suc l) b (p ∷ []) (leave (suc l) b p (map (entry_of d l) ts)) (p, ts) (free_at b)
unfolding node set_page
leave_sim d l b p ts v well own held ok len =
    let s = one_sim d (suc l) b p ts v well own held ok len in
    let x = node d (suc l) ts in
    record {
      held = all_head s.held;
      entry = inner_entry_law d l p ts ok;
      count = length-map ts (entry_of d l);
      free = s.free;
      frame = λ q h. page_other b p x q (absent q p [] h);
      unused = field_page fresh b p x;
      kept = s.kept;
    }

-- the page p over the children ts; o is what a deletion has left of the child at i, which is now x
module _ (d l : ℕ) (b : List ℕ) (p : ℕ) (ts : List (Item (suc l))) (i : ℕ) (lt : i < length ts) (g2 : 2 ≤ length ts) (g4 : length ts ≤ 16) (v : suc l < 256) (o : Deleted) (x : Item (suc l)) (fs : List ℕ)
    (own : (q : ℕ) → mult q (p ∷ concat_map (pages (suc l)) ts) + mult q (free_at b) ≤ indicator (in_range b q)) (held : All (Held d (suc l) b) ts) (ok : All (Ok (suc l)) ts) (nx : Near l x)
    (ih : DeleteSim d l b (pages (suc l) (get_or ts i (no_tree l))) o x fs)
    (same : (q : ℕ) → mult q (pages (suc l) x) + mult q fs ≡ mult q (pages (suc l) (get_or ts i (no_tree l))) + mult q (free_at b))
    (more : (q : ℕ) → mult q (free_at b) ≤ mult q fs) where
  L : ℕ → ℕ
  L q = mult q (concat_map (pages (suc l)) (take i ts))

  R : ℕ → ℕ
  R q = mult q (concat_map (pages (suc l)) (drop (suc i) ts))

  C : ℕ → ℕ
  C q = mult q (pages (suc l) (get_or ts i (no_tree l)))

  X : ℕ → ℕ
  X q = mult q (pages (suc l) x)

  old : (q : ℕ) → mult q (p ∷ concat_map (pages (suc l)) ts) ≡ mult q (p ∷ []) + (L q + (C q + R q))
  unfolding L R C
  old q = sum_at l q p ts i lt

  new : (q : ℕ) → mult q (p ∷ concat_map (pages (suc l)) (set ts i x)) ≡ mult q (p ∷ []) + (L q + (X q + R q))
  unfolding L R X
  new q =
      mult_append q (p ∷ []) _
      ∙ ap (λ (n : ℕ). mult q (p ∷ []) + n) (ap (mult q) (concat_map_set (pages (suc l)) ts i x lt) ∙ mult_append q (concat_map (pages (suc l)) (take i ts)) _ ∙ ap (λ (n : ℕ). mult q (concat_map (pages (suc l)) (take i ts)) + n) (mult_append q (pages (suc l) x) _))

  same' : (q : ℕ) → X q + mult q (free_at o.bytes) ≡ C q + mult q (free_at b)
  unfolding X C
  same' q = ap (λ (z : List ℕ). mult q (pages (suc l) x) + mult q z) ih.free ∙ same q

  own1 : (q : ℕ) → mult q (p ∷ concat_map (pages (suc l)) (set ts i x)) + mult q (free_at o.bytes) ≤ indicator (in_range o.bytes q)
  own1 q = rw (kept_range ih.kept q) (omega (arith, own q, old q, new q, same' q))

  side : (ps : List ℕ) → ((q : ℕ) → mult q ps ≤ L q + R q) → (q : ℕ) → 0 < mult q ps → page_at o.bytes q ≡ page_at b q
  unfolding C
  side ps le q h = (ih.frame q (omega (arith, own q, old q, le q, indicator_le (in_range b q)))).page

  held1 : All (Held d (suc l) o.bytes) (set ts i x)
  unfolding L R
  held1 =
      rw (set_split ts i x lt)
      (all_append (held_list d (suc l) b o.bytes (side (concat_map (pages (suc l)) (take i ts)) (λ q. omega arith)) (all_take i held))
      (also ih.held (held_list d (suc l) b o.bytes (side (concat_map (pages (suc l)) (drop (suc i) ts)) (λ q. omega arith)) (all_drop (suc i) held))))

  abbrev us : List (Item (suc l))
  us = set ts i x

  abbrev a : Item (suc l)
  a = get_or (set ts i x) (left_of i (length ts)) (no_tree l)

  abbrev c : Item (suc l)
  c = get_or (set ts i x) (suc (left_of i (length ts))) (no_tree l)

  abbrev rest : List (Item (suc l))
  rest = take (left_of i (length ts)) us ++ ((rebalanced_pair l fs (left_of i (length ts)) us).trees ++ drop (suc (suc (left_of i (length ts)))) us)

  pl : suc (left_of i (length ts)) < length (set ts i x)
  pl = pair_lt l ts i x lt g2 ok nx

  split2 : set ts i x ≡ take (left_of i (length ts)) us ++ (a ∷ c ∷ drop (suc (suc (left_of i (length ts)))) us)
  split2 =
      split_at us (left_of i (length ts)) (no_tree l) (omega (arith, pl))
      ∙ ap (λ (z : List (Item (suc l))). take (left_of i (length ts)) us ++ (a ∷ z)) (drop-cons us (suc (left_of i (length ts))) (no_tree l) pl)

  pair_sum2 : (q : ℕ) → mult q (p ∷ concat_map (pages (suc l)) us)
      ≡ mult q (p ∷ []) + (mult q (concat_map (pages (suc l)) (take (left_of i (length ts)) us)) + (mult q (pages (suc l) a) + (mult q (pages (suc l) c) + mult q (concat_map (pages (suc l)) (drop (suc (suc (left_of i (length ts)))) us)))))
  pair_sum2 q =
      mult_append q (p ∷ []) _
      ∙ ap (λ (n : ℕ). mult q (p ∷ []) + n) (ap (mult q) (concat_map_pair (pages (suc l)) us (left_of i (length ts)) (no_tree l) pl) ∙ mult_append q (concat_map (pages (suc l)) (take (left_of i (length ts)) us)) _
      ∙ ap (λ (n : ℕ). mult q (concat_map (pages (suc l)) (take (left_of i (length ts)) us)) + n) (mult_append q (pages (suc l) a) _ ∙ ap (λ (n : ℕ). mult q (pages (suc l) a) + n) (mult_append q (pages (suc l) c) _)))

  held_a : Held d (suc l) o.bytes a
  held_a = all_at held1 (left_of i (length ts)) (no_tree l) (omega (arith, pl))

  held_c : Held d (suc l) o.bytes c
  held_c = all_at held1 (suc (left_of i (length ts))) (no_tree l) pl

  na : Near l a
  na = all_at (pair_near l ts i x lt g2 ok nx) (left_of i (length ts)) (no_tree l) (omega (arith, pl))

  nc : Near l c
  nc = all_at (pair_near l ts i x lt g2 ok nx) (suc (left_of i (length ts))) (no_tree l) pl

  ev : Balanced a.1 c.1 (rebalanced_items a.1 c.1)
  ev = pair_balanced l ts i x lt g2 ok nx

  ps : PairSim d l o.bytes a.0 c.0 (put_rebalanced (write_node d l) (entry_as d l) o.bytes a.0 c.0 (rebalanced_items a.1 c.1)) (place_pair a.0 c.0 (free_at o.bytes) (rebalanced_items a.1 c.1))
  unfolding Held pages
  ps =
      place_sim d l o.bytes a.0 c.0 a.1 c.1 (omega arith) ih.kept.well (λ q. omega (arith, own1 q, pair_sum2 q)) (all_append held_a.1 held_c.1) (all_append na.subs nc.subs) ev

  v_is : rebalanced_pages d l o.bytes a.0 c.0 ≡ put_rebalanced (write_node d l) (entry_as d l) o.bytes a.0 c.0 (rebalanced_items a.1 c.1)
  v_is = rebalance_pages d l o.bytes a c held_a held_c (balanced_oks ev (all_append na.subs nc.subs))

  abbrev b2 : List ℕ
  b2 = (rebalanced_pages d l o.bytes a.0 c.0).bytes

  ps' : PairSim d l o.bytes a.0 c.0 (rebalanced_pages d l o.bytes a.0 c.0) (rebalanced_pair l fs (left_of i (length ts)) us)
  ps' = rw v_is (rw ih.free at ps)

  -- the pages of the other children aren't those of the pair
  keep : (zs : List ℕ) → ((q : ℕ) → mult q zs + mult q (pages (suc l) a) + mult q (pages (suc l) c) ≤ mult q (p ∷ concat_map (pages (suc l)) us)) → (q : ℕ) → 0 < mult q zs → page_at b2 q ≡ page_at o.bytes q
  unfolding pages
  keep zs le q h =
      (ps'.frame q
      (absent q a.0 (concat_map (pages l) a.1) (omega (arith, own1 q, le q, indicator_le (in_range o.bytes q))))
      (absent q c.0 (concat_map (pages l) c.1) (omega (arith, own1 q, le q, indicator_le (in_range o.bytes q))))).page

  held2 : All (Held d (suc l) b2) rest
  held2 =
      all_append (held_list d (suc l) o.bytes b2 (keep (concat_map (pages (suc l)) (take (left_of i (length ts)) us)) (λ q. omega (arith, pair_sum2 q))) (all_take (left_of i (length ts)) held1))
      (all_append ps'.held
      (held_list d (suc l) o.bytes b2 (keep (concat_map (pages (suc l)) (drop (suc (suc (left_of i (length ts)))) us)) (λ q. omega (arith, pair_sum2 q))) (all_drop (suc (suc (left_of i (length ts)))) held1)))

  own2 : (q : ℕ) → mult q (p ∷ concat_map (pages (suc l)) rest) + mult q (free_at b2) ≤ indicator (in_range b2 q)
  own2 q =
      let m = pair_pages l ts i x lt g2 ok nx fs q in
      let f : mult q (free_at b2) ≡ mult q (rebalanced_pair l fs (left_of i (length ts)) us).free = ap (mult q) ps'.free in
      let f1 : mult q (free_at o.bytes) ≡ mult q fs = ap (mult q) ih.free in
      rw (kept_range ps'.kept q) (omega (arith, own1 q, mult_append q (p ∷ []) (concat_map (pages (suc l)) rest), mult_append q (p ∷ []) (concat_map (pages (suc l)) us)))

  short_sim : DeleteSim d (suc l) b2 (p ∷ []) (leave (suc l) b2 p (map (entry_of d l) rest)) (p, rest) (free_at b2)
  short_sim = leave_sim d l b2 p rest v ps'.kept.well own2 held2 (pair_ok l ts i x lt g2 ok nx fs) (omega (arith, pair_length l ts i x lt g2 ok nx fs))

  plain_sim : 8 ≤ length x.1 → DeleteSim d (suc l) o.bytes (p ∷ []) (leave (suc l) o.bytes p (map (entry_of d l) us)) (p, us) (free_at o.bytes)
  unfolding Ok
  plain_sim h = leave_sim d l o.bytes p us v ih.kept.well own1 held1 (all_set i x (h, nx.high, nx.subs) ok) (omega (arith, length-set ts i x))

  -- with 8 or more left there is nothing to rebalance
  noop : 8 ≤ length x.1 → rebalanced_items a.1 c.1 ≡ a.1 ∷ c.1 ∷ []
  unfolding rebalanced_items left_count Ok
  noop h =
      let oks : All (Ok (suc l)) us = all_set i x (h, nx.high, nx.subs) ok in
      let oa = all_at oks (left_of i (length ts)) (no_tree l) (omega (arith, pl)) in
      let oc = all_at oks (suc (left_of i (length ts))) (no_tree l) pl in
      let n : left_count (length a.1) (length c.1) ≡ length a.1 = rw (le-ltb (length a.1) 8 oa.0, le-ltb (length c.1) 8 oc.0) in
      rw (n, ne_eqb (length a.1) (length a.1 + length c.1) (λ (z : length a.1 ≡ length a.1 + length c.1). omega (arith, oc.0)), take-append_seam a.1 c.1, drop-append_seam a.1 c.1)

  plain_rest : 8 ≤ length x.1 → (us ≡ rest) × (fs ≡ (rebalanced_pair l fs (left_of i (length ts)) us).free)
  unfolding place_pair
  plain_rest h = rw (noop h) (split2, refl)

  fix_is : fix_underflow d l p (map (entry_of d l) ts) i o ≡ if (leb 8 o.count) (leave (suc l) o.bytes p (map (entry_of d l) us)) (leave (suc l) b2 p (map (entry_of d l) rest))
  unfolding fix_underflow rebalanced_below
  fix_is =
      let e : set (map (entry_of d l) ts) i o.entry ≡ map (entry_of d l) us = ap (set (map (entry_of d l) ts) i) ih.entry ∙ map_set (entry_of d l) ts i x in
      let n : length (map (entry_of d l) us) ≡ length ts = length-map us (entry_of d l) ∙ length-set ts i x in
      let ca : child_at (map (entry_of d l) us) (left_of i (length ts)) ≡ a.0 = child_at_law d l (left_of i (length ts)) us in
      let cb : child_at (map (entry_of d l) us) (suc (left_of i (length ts))) ≡ c.0 = child_at_law d l (suc (left_of i (length ts))) us in
      rw (e, n, ca, cb, ps'.entries, map_take (entry_of d l) (left_of i (length ts)) us, map_drop (entry_of d l) (suc (suc (left_of i (length ts)))) us, map_append (entry_of d l) (take (left_of i (length ts)) us) ((rebalanced_pair l fs (left_of i (length ts)) us).trees ++ drop (suc (suc (left_of i (length ts)))) us), map_append (entry_of d l) (rebalanced_pair l fs (left_of i (length ts)) us).trees (drop (suc (suc (left_of i (length ts)))) us))

  -- from the bytes before, over the child's deletion (and the rebalancing) and the parent's write
  over : {b1 : List ℕ} {o' : Deleted} {t : Item (suc (suc l))} {gs : List ℕ}
      → ((q : ℕ) → mult q (p ∷ concat_map (pages (suc l)) ts) ≡ 0 → SamePage b b1 q) → field_at fresh b1 ≡ field_at fresh b → Kept b b1
      → DeleteSim d (suc l) b1 (p ∷ []) o' t gs → DeleteSim d (suc l) b (p ∷ concat_map (pages (suc l)) ts) o' t gs
  over f e k s =
      record {
        held = s.held;
        entry = s.entry;
        count = s.count;
        free = s.free;
        frame = λ q h. same_trans (f q h) (s.frame q (omega (arith, old q)));
        unused = s.unused ∙ e;
        kept = kept_trans k s.kept;
      }

  frame1 : (q : ℕ) → mult q (p ∷ concat_map (pages (suc l)) ts) ≡ 0 → SamePage b o.bytes q
  unfolding C
  frame1 q h = ih.frame q (omega (arith, old q))

  frame2 : (q : ℕ) → mult q (p ∷ concat_map (pages (suc l)) ts) ≡ 0 → SamePage b b2 q
  unfolding pages X C
  frame2 q h =
      let n : mult q (p ∷ concat_map (pages (suc l)) us) ≡ 0 = omega (arith, old q, new q, same q, more q) in
      same_trans (frame1 q h)
      (ps'.frame q (absent q a.0 (concat_map (pages l) a.1) (omega (arith, pair_sum2 q))) (absent q c.0 (concat_map (pages l) c.1) (omega (arith, pair_sum2 q))))

  fix_sim : DeleteSim d (suc l) b (p ∷ concat_map (pages (suc l)) ts) (fix_underflow d l p (map (entry_of d l) ts) i o) (p, rest) (rebalanced_pair l fs (left_of i (length ts)) us).free
  fix_sim =
      rw fix_is
      (if_cases (λ g. DeleteSim d (suc l) b (p ∷ concat_map (pages (suc l)) ts) g (p, rest) (rebalanced_pair l fs (left_of i (length ts)) us).free) (leb 8 o.count) _ _
      (λ e. let h : 8 ≤ length x.1 = omega (arith, leb-true 8 o.count e, ih.count) in
      let pr = plain_rest h in
      let s : DeleteSim d (suc l) o.bytes (p ∷ []) (leave (suc l) o.bytes p (map (entry_of d l) us)) (p, us) (rebalanced_pair l fs (left_of i (length ts)) us).free = rw (ih.free ∙ pr.1) at (plain_sim h) in
      let s' : DeleteSim d (suc l) o.bytes (p ∷ []) (leave (suc l) o.bytes p (map (entry_of d l) us)) (p, rest) (rebalanced_pair l fs (left_of i (length ts)) us).free =
      subst (λ (w : List (Item (suc l))). DeleteSim d (suc l) o.bytes (p ∷ []) (leave (suc l) o.bytes p (map (entry_of d l) us)) (p, w) (rebalanced_pair l fs (left_of i (length ts)) us).free) pr.0 s in
      over frame1 ih.unused ih.kept s')
      (λ e. over frame2 (ps'.unused ∙ ih.unused) (kept_trans ih.kept ps'.kept) (rw ps'.free at short_sim)))

inner_step : (d l : ℕ) (r : Record) (b : List ℕ) (t : Item (suc (suc l))) → Held d (suc (suc l)) b t
    → delete_at d (suc l) b t.0 r ≡ fix_underflow d l t.0 (map (entry_of d l) t.1) (chosen d l (rank_of d r) t.1) (delete_at d l b (get_or t.1 (chosen d l (rank_of d r) t.1) (no_tree l)).0 r)
unfolding delete_at chosen
inner_step d l r b t h =
    ap (λ (es : List Entry). let i = choose (rank_of d r) es in fix_underflow d l t.0 es i (delete_at d l b (child_at es i) r)) (inner_items d l b t h)
    ∙ ap (λ (z : ℕ). fix_underflow d l t.0 (map (entry_of d l) t.1) (chosen d l (rank_of d r) t.1) (delete_at d l b z r)) (child_at_law d l (chosen d l (rank_of d r) t.1) t.1)

pub delete_sim : (d l : ℕ) (b : List ℕ) (r : Record) (t : Item (suc l)) → l < 256 → Root l t → Held d (suc l) b t → Well b → ((q : ℕ) → mult q (pages (suc l) t) + mult q (free_at b) ≤ indicator (in_range b q))
    → DeleteSim d l b (pages (suc l) t) (delete_at d l b t.0 r) (delete_tree d l r (free_at b) t).tree (delete_tree d l r (free_at b) t).free
unfolding delete_at delete_tree Ok Some Held pages node set_page
delete_sim d zero b r t v o held well own =
    let p = t.0 in
    let xs = delete_record r.id t.1 in
    let f : concat_map (pages 0) xs ≡ concat_map (pages 0) t.1 = no_pages_law xs ∙ sym (no_pages_law t.1) in
    let own' : (q : ℕ) → mult q (p ∷ concat_map (pages 0) xs) + mult q (free_at b) ≤ indicator (in_range b q) = λ q. rw f (own q) in
    let n = del_length r.id t.1 in
    let s = one_sim d zero b p xs v well own' (held_zero d b xs) (del_all r.id o.subs) (omega (arith, o.most)) in
    rw (leaf_items_law d b t held)
    (record {
      held = all_head s.held;
      entry = leaf_entry_law d p xs;
      count = refl;
      free = s.free;
      frame = λ q h. page_other b p (node d zero xs) q (absent q p (concat_map (pages 0) t.1) h);
      unused = field_page fresh b p (node d zero xs);
      kept = s.kept;
    })
delete_sim d (suc l) b r t v o held well own =
    let i = chosen d l (rank_of d r) t.1 in
    let lt = chosen_lt d l (rank_of d r) t.1 (omega (arith, o.some)) in
    let c = get_or t.1 i (no_tree l) in
    let okc = all_at o.subs i (no_tree l) lt in
    let u = delete_tree d l r (free_at b) c in
    let ih : DeleteSim d l b (pages (suc l) c) (delete_at d l b c.0 r) u.tree u.free =
    delete_sim d l b r c (omega arith) (ok_root l c okc) (all_at held.1 i (no_tree l) lt) well (λ q. omega (arith, own q, sum_at l q t.0 t.1 i lt)) in
    let more : (q : ℕ) → mult q (free_at b) ≤ mult q u.free =
    λ q. omega (arith, ap (mult q) (delete_free d l r (free_at b) c), mult_append q (given d l r c) (free_at b)) in
    rw (inner_step d l r b t held)
    (fix_sim d l b t.0 t.1 i lt o.some o.most v (delete_at d l b c.0 r) u.tree u.free own held.1 o.subs (delete_near d l r (free_at b) c okc) ih (λ q. delete_kept d l r q (free_at b) c (ok_root l c okc)) more)
