-- Two pages rebalanced: what the pages hold is what rebalancing in trees gives. Only the store's published laws are used.
use Rattle.std.specs.Prelude.{◌≡◌, ◌≢◌, ℕ, zero, suc, ◌+◌, ◌^◌, ◌≤◌, ◌<◌, eqb, length, take, drop}
use Rattle.std.proofs.Math.Path.{refl, sym, ap, fun_ext}
use Rattle.std.proofs.Common.{◌∙◌, arith}
use Rattle.std.proofs.Math.Bool.{true}
use mathlib.Core.List.{List, [], ◌∷◌, ◌++◌, map}
use Rattle.std.proofs.lemmas.List.{length-map}
use Rattle.lists.specs.Basics.{if, indicator, All, none, also, concat_map, concat_map_append, all_left, all_right}
use Rattle.lists.specs.Choices.{bool_cases, indicator_le, indicator_true}
use Rattle.lists.specs.Counts.{mult, mult_append, mult_more, mult_self, absent}
use Rattle.lists.specs.ConcatMapLaws.{map_append}
use Rattle.lists.specs.Parts.{map_take, map_drop}
use Rattle.pagestore_page.specs.declared.Record.{Record}
use Rattle.pagestore_page.specs.declared.Entry.{Entry}
use Rattle.pagestore.specs.Store.{page_at, set_page, set_leaf, fresh, field_at, in_range, free_at, free_page}
use Rattle.pagestore.specs.Store.RangeLaws.{range_fits}
use Rattle.pagestore.specs.Store.PageLaws.{SamePage, same_trans, page_same, page_other, field_page}
use Rattle.pagestore.specs.Store.FreeLaws.{free_page_law, freed_part}
use Rattle.pagestore.specs.Store.TakeLaws.{page_free, field_free, free_free}
use Rattle.tree_model.specs.Trees.{Item, pages, entry_of, node}
use Rattle.tree_model.specs.Inserting.{Cut}
use Rattle.tree_model.specs.Deleting.{left_count, rebalanced_items, place_pair}
use Rattle.tree_core.specs.Entries.{inner_entry}
use Rattle.tree_core.specs.Insertion.{write_inner, Rewritten}
use Rattle.tree_core.specs.Deletion.{put_rebalanced, rebalanced_pages}
use Rattle.tree_laws.specs.Shapes.{Ok}
use Rattle.tree_laws.specs.EntryLaws.{leaf_entry_law, inner_entry_law}
use Rattle.tree_laws.specs.Frames.{Held, held_list, Well, Kept, kept_range, kept_trans, kept_page, kept_free, node_fits}
use Rattle.tree_laws.specs.InsertSim.{write_node, entry_as, leaf_items_law, inner_items}
use Rattle.tree_laws.specs.DeleteTree.{Balanced, two, one}

-- r is what the trees of c say; of b no page but p and q has changed, and the pages never used are the same
pub record PairSim (d l : ℕ) (b : List ℕ) (p q : ℕ) (r : Rewritten) (c : Cut (Item l)) : Type 0 where
  pub held : All (Held d (suc l) r.bytes) c.trees
  pub entries : r.entries ≡ map (entry_of d l) c.trees
  pub free : free_at r.bytes ≡ c.free
  pub frame : (z : ℕ) → z ≢ p → z ≢ q → SamePage b r.bytes z
  pub unused : field_at fresh r.bytes ≡ field_at fresh b
  pub kept : Kept b r.bytes

module _ (d l : ℕ) (b : List ℕ) (p q : ℕ) (xs ys : List (Item l)) (v : l < 256) (well : Well b)
    (own : (z : ℕ) → mult z (p ∷ concat_map (pages l) xs) + mult z (q ∷ concat_map (pages l) ys) + mult z (free_at b) ≤ indicator (in_range b z))
    (held : All (Held d l b) (xs ++ ys)) (ok : All (Ok l) (xs ++ ys)) where
  bound : (z : ℕ) → mult z (p ∷ concat_map (pages l) xs) + mult z (q ∷ concat_map (pages l) ys) + mult z (free_at b) ≤ 1
  bound z = omega (arith, own z, indicator_le (in_range b z))

  sum : (z : ℕ) → mult z (concat_map (pages l) (xs ++ ys)) ≡ mult z (concat_map (pages l) xs) + mult z (concat_map (pages l) ys)
  sum z = ap (mult z) (concat_map_append (pages l) xs ys) ∙ mult_append z (concat_map (pages l) xs) (concat_map (pages l) ys)

  p_in : in_range b p ≡ true
  p_in = indicator_true (in_range b p) (omega (arith, own p, mult_self p (concat_map (pages l) xs)))

  q_in : in_range b q ≡ true
  q_in = indicator_true (in_range b q) (omega (arith, own q, mult_self q (concat_map (pages l) ys)))

  p_not_q : p ≢ q
  p_not_q = absent p q (concat_map (pages l) ys) (omega (arith, bound p, mult_self p (concat_map (pages l) xs)))

  -- a page below one of the two
  item : (z : ℕ) → 0 < mult z (concat_map (pages l) (xs ++ ys)) → (z ≢ p) × (z ≢ q) × (z < 2 ^ 32)
  item z h =
      let s = range_fits b z (indicator_true (in_range b z) (omega (arith, own z, sum z, mult_more z p (concat_map (pages l) xs), mult_more z q (concat_map (pages l) ys)))) in (
        absent z p [] (omega (arith, bound z, sum z, mult_append z (p ∷ []) (concat_map (pages l) xs), mult_append z (q ∷ []) (concat_map (pages l) ys))),
        absent z q [] (omega (arith, bound z, sum z, mult_append z (p ∷ []) (concat_map (pages l) xs), mult_append z (q ∷ []) (concat_map (pages l) ys))),
        omega arith,
      )

  free_p : mult p (free_at b) ≡ 0
  free_p = omega (arith, bound p, mult_self p (concat_map (pages l) xs))

  free_q : mult q (free_at b) ≡ 0
  free_q = omega (arith, bound q, mult_self q (concat_map (pages l) ys))

  pub place_sim : {zs : List (List (Item l))} → Balanced xs ys zs → PairSim d l b p q (put_rebalanced (write_node d l) (entry_as d l) b p q zs) (place_pair p q (free_at b) zs)
  unfolding put_rebalanced place_pair Held
  place_sim (two {us = us} {vs = vs} e a1 a2 a3 a4) =
      let x1 = node d l us in
      let x2 = node d l vs in
      let b1 = set_page b p x1 in
      let fl : (z : ℕ) → mult z (concat_map (pages l) us) + mult z (concat_map (pages l) vs) ≡ mult z (concat_map (pages l) (xs ++ ys)) =
      λ z. sym (mult_append z (concat_map (pages l) us) (concat_map (pages l) vs)) ∙ ap (mult z) (sym (concat_map_append (pages l) us vs) ∙ ap (concat_map (pages l)) e) in
      let ok' : All (Ok l) (us ++ vs) = rw e ok in
      let held' : All (Held d l b) (us ++ vs) = rw e held in
      let fr : (z : ℕ) → z ≢ p → z ≢ q → SamePage b (set_page b1 q x2) z = λ z f g. same_trans (page_other b p x1 z f) (page_other b1 q x2 z g) in
      let it : (z : ℕ) → 0 < mult z (concat_map (pages l) (xs ++ ys)) → page_at (set_page b1 q x2) z ≡ page_at b z = λ z h. let i = item z h in (fr z i.0 i.1).page in
      let k1 = kept_page b p x1 well free_p in
      let q1 : in_range b1 q ≡ true = kept_range k1 q ∙ q_in in
      let f1 : free_at b1 ≡ free_at b = free_page_law b p x1 (omega (arith, freed_part b p, free_p)) in
      let f2 : mult q (free_at b1) ≡ 0 = ap (mult q) f1 ∙ free_q in
      record {
        held =
            also ((page_other b1 q x2 p p_not_q).page ∙ page_same b p x1 p_in (node_fits d l us v a2 (λ z h. (item z (omega (arith, fl z))).2) (all_left us vs ok')), held_list d l b _ (λ z h. it z (omega (arith, fl z))) (all_left us vs held'))
            (also (page_same b1 q x2 q1 (node_fits d l vs v a4 (λ z h. (item z (omega (arith, fl z))).2) (all_right us vs ok')), held_list d l b _ (λ z h. it z (omega (arith, fl z))) (all_right us vs held')) none);
        entries = refl;
        free = free_page_law b1 q x2 (omega (arith, freed_part b1 q)) ∙ f1;
        frame = fr;
        unused = field_page fresh b1 q x2 ∙ field_page fresh b p x1;
        kept = kept_trans k1 (kept_page b1 q x2 k1.well f2);
      }
  place_sim (one {us = us} e a1 a2) =
      let x1 = node d l us in
      let b1 = set_page b p x1 in
      let ok' : All (Ok l) us = rw e ok in
      let held' : All (Held d l b) us = rw e held in
      let fl : (z : ℕ) → mult z (concat_map (pages l) us) ≡ mult z (concat_map (pages l) (xs ++ ys)) = λ z. ap (λ (w : List (Item l)). mult z (concat_map (pages l) w)) e in
      let fr : (z : ℕ) → z ≢ p → z ≢ q → SamePage b (free_page b1 q) z = λ z f g. same_trans (page_other b p x1 z f) (page_free b1 q z g) in
      let k1 = kept_page b p x1 well free_p in
      let f1 : free_at b1 ≡ free_at b = free_page_law b p x1 (omega (arith, freed_part b p, free_p)) in
      let f2 : mult q (free_at b1) ≡ 0 = ap (mult q) f1 ∙ free_q in
      let q1 : in_range b1 q ≡ true = kept_range k1 q ∙ q_in in
      record {
        held =
            also (
              (page_free b1 q p p_not_q).page ∙ page_same b p x1 p_in (node_fits d l us v a2 (λ z h. (item z (omega (arith, fl z))).2) ok'),
              held_list d l b _ (λ z h. let i = item z (omega (arith, fl z)) in (fr z i.0 i.1).page) held',
            ) none;
        entries = refl;
        free = free_free b1 q k1.well.rest q1 (omega (arith, freed_part b1 q)) ∙ ap (λ (z : List ℕ). q ∷ z) f1;
        frame = fr;
        unused = field_free fresh b1 q refl ∙ field_page fresh b p x1;
        kept = kept_trans k1 (kept_free b1 q k1.well q1 f2);
      }

-- WHAT THE CODE WRITES IS THE TREE'S

rebalanced_map : {A B : Type 0} (f : A → B) (xs ys : List A) → rebalanced_items (map f xs) (map f ys) ≡ map (map f) (rebalanced_items xs ys)
unfolding rebalanced_items
rebalanced_map {A} {B} f xs ys =
    let k = left_count (length xs) (length ys) in
    rw (length-map xs f, length-map ys f, ← map_append f xs ys)
    (bool_cases
    (λ c. if c (map f (xs ++ ys) ∷ []) (take k (map f (xs ++ ys)) ∷ drop k (map f (xs ++ ys)) ∷ []) ≡ map (map f) (if c ((xs ++ ys) ∷ []) (take k (xs ++ ys) ∷ drop k (xs ++ ys) ∷ [])))
    (eqb k (length xs + length ys)) (λ _. refl) (λ _. rw (map_take f k (xs ++ ys), map_drop f k (xs ++ ys))))

place_map : (d l : ℕ) (b : List ℕ) (p q : ℕ) {zs : List (List (Item (suc l)))} → All (All (Ok (suc l))) zs
    → put_rebalanced (write_inner (suc l)) inner_entry b p q (map (map (entry_of d l)) zs) ≡ put_rebalanced (write_node d (suc l)) (entry_as d (suc l)) b p q zs
unfolding put_rebalanced set_page node
place_map d l b p q none = refl
place_map d l b p q (also {x = us} h none) = rw (inner_entry_law d l p us h)
place_map d l b p q (also {x = us} h (also {x = vs} g t)) = rw (inner_entry_law d l p us h, inner_entry_law d l q vs g)

pub balanced_oks : {A : Type 0} {P : A → Type 0} {xs ys : List A} {zs : List (List A)} → Balanced xs ys zs → All P (xs ++ ys) → All (All P) zs
balanced_oks {A} {P} (two {us = us} {vs = vs} e a b c d) o = let o' : All P (us ++ vs) = rw e o in also (all_left us vs o') (also (all_right us vs o') none)
balanced_oks {A} {P} (one {us = us} e a b) o = let o' : All P us = rw e o in also o' none

pub rebalance_pages : (d l : ℕ) (b : List ℕ) (x y : Item (suc l)) → Held d (suc l) b x → Held d (suc l) b y → All (All (Ok l)) (rebalanced_items x.1 y.1)
    → rebalanced_pages d l b x.0 y.0 ≡ put_rebalanced (write_node d l) (entry_as d l) b x.0 y.0 (rebalanced_items x.1 y.1)
unfolding rebalanced_pages node set_page
rebalance_pages d zero b x y h g o =
    rw (leaf_items_law d b x h, leaf_items_law d b y g)
    (ap (λ (en : ℕ → List Record → Entry). put_rebalanced set_leaf en b x.0 y.0 (rebalanced_items x.1 y.1)) (fun_ext (λ z. fun_ext (λ us. leaf_entry_law d z us))))
rebalance_pages d (suc l) b x y h g o =
    rw (inner_items d l b x h, inner_items d l b y g)
    (ap (put_rebalanced (write_inner (suc l)) inner_entry b x.0 y.0) (rebalanced_map (entry_of d l) x.1 y.1) ∙ place_map d l b x.0 y.0 o)
