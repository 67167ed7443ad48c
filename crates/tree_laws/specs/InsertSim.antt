-- What the pages hold after an insertion: the tree that insertion into trees gives. Only the store's published laws are used.
use Rattle.std.specs.Prelude.{◌≡◌, refl, Bool, false, ◌≢◌, ℕ, zero, suc, ◌+◌, ◌^◌, ◌≤◌, ◌<◌, leb, eqb, length, take, drop, get_or}
use Rattle.std.proofs.Common.{sym, ◌∙◌, subst₂, arith, take-append-drop, leb-true, leb-false}
use Rattle.std.proofs.Math.Path.{ap, fun_ext}
use Rattle.std.proofs.Math.Bool.{true}
use mathlib.Core.List.{List, [], ◌∷◌, ◌++◌, map}
use Rattle.std.proofs.Math.ListN.{length-take, length-drop}
use Rattle.std.proofs.lemmas.List.{length-map}
use Rattle.lists.specs.Basics.{if, indicator, All, none, also, concat_map, concat_map_append, all_append}
use Rattle.lists.specs.Choices.{bool_cases, indicator_le, indicator_true}
use Rattle.lists.specs.Counts.{mult, mult_append, mult_more, mult_self, absent}
use Rattle.lists.specs.ConcatMapLaws.{map_append}
use Rattle.lists.specs.Parts.{all_drop, all_replaced, length_replaced, concat_map_split, concat_map_three, map_take, map_drop}
use Rattle.lists.specs.AscendingBy.{ins_all, length_ins}
use Rattle.lists.specs.Tabulated.{all_take, all_at}
use Rattle.pagestore_page.specs.declared.Record.{Record}
use Rattle.pagestore_page.specs.declared.Entry.{Entry}
use Rattle.pagestore_page.specs.Fits.{RecordFits}
use Rattle.pagestore.specs.Store.{page_at, set_page, set_leaf, leaf_at, inner_at, count_at, fill_of, records_in, entries_in, in_range, free_at, page_taken, take_page}
use Rattle.pagestore.specs.Store.RangeLaws.{range_fits}
use Rattle.pagestore.specs.Store.PageLaws.{page_same, page_other, leaf_view, inner_view, page_fill}
use Rattle.pagestore.specs.Store.FreeLaws.{free_page_law, freed_part}
use Rattle.pagestore.specs.Store.TakeLaws.{taken_first, page_take, free_take}
use Rattle.tree_model.specs.Trees.{Item, pages, rank_of, entry_of, node}
use Rattle.tree_model.specs.TreeLaws.{fill_node, no_pages_law}
use Rattle.tree_model.specs.Inserting.{choose, replaced, insert_record, no_tree, chosen, Cut, cut, insert_tree, run_of}
use Rattle.tree_core.specs.Entries.{child_at, leaf_entry, inner_entry}
use Rattle.tree_core.specs.Insertion.{Rewritten, put, write_inner, insert_at, full_run}
use Rattle.tree_laws.specs.Shapes.{Ok, Some, Root, ok_root, child_at_law, chosen_lt}
use Rattle.tree_laws.specs.InsertTree.{insert_few, insert_ok, insert_kept, run_child, room_leaf, room_inner}
use Rattle.tree_laws.specs.EntryLaws.{leaf_entry_law, inner_entry_law}
use Rattle.tree_laws.specs.Frames.{Held, held_list, held_zero, Well, Kept, kept_range, kept_trans, kept_page, kept_take, node_fits}

-- o is what the cut c says, and no page outside ps and the free pages of b has changed
pub record Sim (d l : ℕ) (b ps : List ℕ) (o : Rewritten) (c : Cut (Item l)) : Type 0 where
  pub held : All (Held d (suc l) o.bytes) c.trees
  pub entries : o.entries ≡ map (entry_of d l) c.trees
  pub free : free_at o.bytes ≡ c.free
  pub frame : (q : ℕ) → mult q ps ≡ 0 → mult q (free_at b) ≡ 0 → page_at o.bytes q ≡ page_at b q
  pub kept : Kept b o.bytes

abbrev pub write_node : (d l : ℕ) → List ℕ → ℕ → List (Item l) → List ℕ
write_node d l b p xs = set_page b p (node d l xs)

abbrev pub entry_as : (d l : ℕ) → ℕ → List (Item l) → Entry
entry_as d l p xs = entry_of d l (p, xs)

abbrev pub one_of : (d l : ℕ) (b : List ℕ) (p : ℕ) (xs : List (Item l)) → Rewritten
one_of d l b p xs = record { bytes = write_node d l b p xs; entries = entry_as d l p xs ∷ [] }

abbrev two_of : (d l : ℕ) (b : List ℕ) (p n : ℕ) (xs : List (Item l)) → Rewritten
two_of d l b p n xs =
    record { bytes = write_node d l (write_node d l (take_page b) p (take 9 xs)) n (drop 9 xs); entries = entry_as d l p (take 9 xs) ∷ entry_as d l n (drop 9 xs) ∷ [] }

-- ONE PAGE WRITTEN

-- the items xs at page p: each page once, in range, and none of them free
module _ (d l : ℕ) (b : List ℕ) (p : ℕ) (xs : List (Item l)) (v : l < 256) (well : Well b)
    (own : (q : ℕ) → mult q (p ∷ concat_map (pages l) xs) + mult q (free_at b) ≤ indicator (in_range b q)) (held : All (Held d l b) xs) (ok : All (Ok l) xs) where
  own_range : (q : ℕ) → 0 < mult q (p ∷ concat_map (pages l) xs) + mult q (free_at b) → in_range b q ≡ true
  own_range q h = indicator_true (in_range b q) (omega (arith, own q))

  sub_small : (q : ℕ) → 0 < mult q (concat_map (pages l) xs) → q < 2 ^ 32
  sub_small q h = omega (arith, range_fits b q (own_range q (omega (arith, mult_more q p (concat_map (pages l) xs)))))

  sub_apart : (q : ℕ) → 0 < mult q (concat_map (pages l) xs) → q ≢ p
  sub_apart q h = absent q p [] (omega (arith, own q, indicator_le (in_range b q), mult_append q (p ∷ []) (concat_map (pages l) xs)))

  p_range : in_range b p ≡ true
  p_range = own_range p (omega (arith, mult_self p (concat_map (pages l) xs)))

  p_free : mult p (free_at b) ≡ 0
  p_free = omega (arith, own p, indicator_le (in_range b p), mult_self p (concat_map (pages l) xs))

  pub one_sim : length xs ≤ 16 → Sim d l b (p ∷ []) (one_of d l b p xs) (record { trees = (p, xs) ∷ []; free = free_at b })
  unfolding Held
  one_sim h =
      record {
        held = also (page_same b p (node d l xs) p_range (node_fits d l xs v h sub_small ok), held_list d l b _ (λ q g. (page_other b p (node d l xs) q (sub_apart q g)).page) held) none;
        entries = refl;
        free = free_page_law b p (node d l xs) (omega (arith, freed_part b p, p_free));
        frame = λ q g f. (page_other b p (node d l xs) q (absent q p [] g)).page;
        kept = kept_page b p (node d l xs) well p_free;
      }

  -- with a free page n
  module _ (n : ℕ) (fs : List ℕ) (fr : free_at b ≡ n ∷ fs) where
    free_n : (q : ℕ) → mult q (free_at b) ≡ mult q (n ∷ []) + mult q fs
    free_n q = ap (mult q) fr ∙ mult_append q (n ∷ []) fs

    n_range : in_range b n ≡ true
    n_range = own_range n (omega (arith, free_n n, mult_self n []))

    p_apart : p ≢ n
    p_apart = absent p n [] (omega (arith, p_free, free_n p))

    sub_apart_n : (q : ℕ) → 0 < mult q (concat_map (pages l) xs) → q ≢ n
    sub_apart_n q h = absent q n [] (omega (arith, free_n q, own q, indicator_le (in_range b q), mult_more q p (concat_map (pages l) xs)))

    two_frame : (q : ℕ) → q ≢ p → q ≢ n → page_at (two_of d l b p n xs).bytes q ≡ page_at b q
    two_frame q f g = (page_other (write_node d l (take_page b) p (take 9 xs)) n _ q g).page ∙ (page_other (take_page b) p _ q f).page ∙ (page_take b q).page

    sub_frame : (q : ℕ) → 0 < mult q (concat_map (pages l) xs) → page_at (two_of d l b p n xs).bytes q ≡ page_at b q
    sub_frame q h = two_frame q (sub_apart q h) (sub_apart_n q h)

    two_sim : 16 < length xs → length xs ≤ 17 → Sim d l b (p ∷ []) (two_of d l b p n xs) (record { trees = (p, take 9 xs) ∷ (n, drop 9 xs) ∷ []; free = fs })
    unfolding Held
    two_sim h h5 =
        let x1 = node d l (take 9 xs) in
        let x2 = node d l (drop 9 xs) in
        let b1 = take_page b in
        let b2 = set_page b1 p x1 in
        let fl : (q : ℕ) → mult q (concat_map (pages l) xs) ≡ mult q (concat_map (pages l) (take 9 xs)) + mult q (concat_map (pages l) (drop 9 xs)) =
        λ q. ap (mult q) (ap (concat_map (pages l)) (sym (take-append-drop 9 xs)) ∙ concat_map_append (pages l) (take 9 xs) (drop 9 xs)) ∙ mult_append q (concat_map (pages l) (take 9 xs)) (concat_map (pages l) (drop 9 xs)) in
        let k1 = kept_take b well in
        let f1 : free_at b1 ≡ fs = free_take b well.rest ∙ ap (drop 1) fr in
        let pf : mult p (free_at b1) ≡ 0 = ap (mult p) f1 ∙ omega (arith, p_free, free_n p) in
        let k2 = kept_page b1 p x1 k1.well pf in
        let f2 : free_at b2 ≡ fs = free_page_law b1 p x1 (omega (arith, freed_part b1 p)) ∙ f1 in
        let nf : mult n (free_at b2) ≡ 0 = ap (mult n) f2 ∙ omega (arith, own n, indicator_le (in_range b n), free_n n, mult_self n []) in
        let r1 : in_range b1 p ≡ true = kept_range k1 p ∙ p_range in
        let r2 : in_range b2 n ≡ true = kept_range (kept_trans k1 k2) n ∙ n_range in
        record {
          held =
              also (
                (page_other b2 n x2 p p_apart).page ∙ page_same b1 p x1 r1 (node_fits d l (take 9 xs) v (omega (arith, length-take 9 xs)) (λ q g. sub_small q (omega (arith, fl q))) (all_take 9 ok)),
                held_list d l b _ (λ q g. sub_frame q (omega (arith, fl q))) (all_take 9 held),
              )
              (also (
                page_same b2 n x2 r2 (node_fits d l (drop 9 xs) v (omega (arith, length-drop 9 xs)) (λ q g. sub_small q (omega (arith, fl q))) (all_drop 9 ok)),
                held_list d l b _ (λ q g. sub_frame q (omega (arith, fl q))) (all_drop 9 held),
              ) none);
          entries = refl;
          free = free_page_law b2 n x2 (omega (arith, freed_part b2 n)) ∙ f2;
          frame = λ q g f. two_frame q (absent q p [] g) (absent q n [] (omega (arith, free_n q)));
          kept = kept_trans (kept_trans k1 k2) (kept_page b2 n x2 k2.well nf);
        }

pub first_rest : (xs : List ℕ) → 0 < length xs → xs ≡ get_or xs 0 0 ∷ drop 1 xs
first_rest [] h = absurd (omega arith)
first_rest (x ∷ xs) h = refl

put_sim : (d l : ℕ) (b : List ℕ) (p : ℕ) (xs : List (Item l)) → l < 256 → Well b → ((q : ℕ) → mult q (p ∷ concat_map (pages l) xs) + mult q (free_at b) ≤ indicator (in_range b q))
    → All (Held d l b) xs → All (Ok l) xs → length xs ≤ 17 → (16 < length xs → 0 < length (free_at b))
    → Sim d l b (p ∷ []) (put (write_node d l) (entry_as d l) b p xs) (cut p (free_at b) xs)
unfolding put cut
put_sim d l b p xs v well own held ok h5 room =
    rw (taken_first b)
    (bool_cases (λ c. Sim d l b (p ∷ []) (if {A = Rewritten} c (one_of d l b p xs) (two_of d l b p (get_or (free_at b) 0 0) xs))
    (if {A = Cut (Item l)} c (record { trees = (p, xs) ∷ []; free = free_at b }) (record { trees = (p, take 9 xs) ∷ (get_or (free_at b) 0 0, drop 9 xs) ∷ []; free = drop 1 (free_at b) })))
    (leb (length xs) 16)
    (λ e. one_sim d l b p xs v well own held ok (leb-true _ _ e))
    (λ e. two_sim d l b p xs v well own held ok (get_or (free_at b) 0 0) (drop 1 (free_at b)) (first_rest (free_at b) (room (leb-false _ _ e))) (leb-false _ _ e) h5))

-- WHAT THE CODE WRITES IS THE TREE'S

put_leaf : (d : ℕ) (b : List ℕ) (p : ℕ) (xs : List Record) → put set_leaf (leaf_entry d) b p xs ≡ put (write_node d 0) (entry_as d 0) b p xs
unfolding node set_page
put_leaf d b p xs = ap (λ (en : ℕ → List Record → Entry). put set_leaf en b p xs) (fun_ext (λ q. fun_ext (λ zs. leaf_entry_law d q zs)))

put_inner : (d l : ℕ) (b : List ℕ) (p : ℕ) (xs : List (Item (suc l))) → All (Ok (suc l)) xs
    → put (write_inner (suc l)) inner_entry b p (map (entry_of d l) xs) ≡ put (write_node d (suc l)) (entry_as d (suc l)) b p xs
unfolding put node set_page
put_inner d l b p xs o =
    rw (length-map xs (entry_of d l), map_take (entry_of d l) 9 xs, map_drop (entry_of d l) 9 xs, inner_entry_law d l p xs o, inner_entry_law d l p (take 9 xs) (all_take 9 o), inner_entry_law d l (page_taken b) (drop 9 xs) (all_drop 9 o))

pub leaf_items_law : (d : ℕ) (b : List ℕ) (t : Item 1) → Held d 1 b t → records_in (leaf_at b t.0) ≡ t.1
unfolding Held node
leaf_items_law d b t h = (leaf_view b t.0 (length t.1) t.1 h.0).records

pub inner_items : (d l : ℕ) (b : List ℕ) (t : Item (suc (suc l))) → Held d (suc (suc l)) b t → entries_in (inner_at b t.0) ≡ map (entry_of d l) t.1
unfolding Held node
inner_items d l b t h = (inner_view b t.0 l (length t.1) (map (entry_of d l) t.1) h.0).entries

pub held_count : (d l : ℕ) (b : List ℕ) (t : Item (suc l)) → Held d (suc l) b t → count_at b t.0 ≡ length t.1
unfolding Held
held_count d l b t h = sym (page_fill b t.0) ∙ ap fill_of h.0 ∙ fill_node d l t.1

-- the step at an inner page with the entries es
step_e : (d l : ℕ) → List ℕ → ℕ → Record → List Entry → Rewritten
step_e d l b p r es =
    let i = choose (rank_of d r) es in
    let o = insert_at d l b (child_at es i) r in
    put (write_inner (suc l)) inner_entry o.bytes p (replaced i o.entries es)

inner_step : (d l : ℕ) (r : Record) (b : List ℕ) (t : Item (suc (suc l))) → Held d (suc (suc l)) b t → insert_at d (suc l) b t.0 r ≡ step_e d l b t.0 r (map (entry_of d l) t.1)
unfolding insert_at step_e
inner_step d l r b t h = ap (step_e d l b t.0 r) (inner_items d l b t h)

map_replaced : (d l i : ℕ) (ys xs : List (Item (suc l))) → replaced i (map (entry_of d l) ys) (map (entry_of d l) xs) ≡ map (entry_of d l) (replaced i ys xs)
map_replaced d l i ys xs =
    rw (map_take (entry_of d l) i xs, map_drop (entry_of d l) (suc i) xs, map_append (entry_of d l) (take i xs) (ys ++ drop (suc i) xs), map_append (entry_of d l) ys (drop (suc i) xs))

-- what the step comes to where the child's insertion gave the trees us
step_put : (d l : ℕ) (r : Record) (b : List ℕ) (p : ℕ) (ts us : List (Item (suc l)))
    → (insert_at d l b (get_or ts (chosen d l (rank_of d r) ts) (no_tree l)).0 r).entries ≡ map (entry_of d l) us
    → All (Ok (suc l)) (replaced (chosen d l (rank_of d r) ts) us ts)
    → step_e d l b p r (map (entry_of d l) ts)
    ≡ put (write_node d (suc l)) (entry_as d (suc l)) (insert_at d l b (get_or ts (chosen d l (rank_of d r) ts) (no_tree l)).0 r).bytes p (replaced (chosen d l (rank_of d r) ts) us ts)
unfolding step_e chosen
step_put d l r b p ts us g o =
    let i = chosen d l (rank_of d r) ts in
    ap (λ (c : ℕ). let o = insert_at d l b c r in put (write_inner (suc l)) inner_entry o.bytes p (replaced i o.entries (map (entry_of d l) ts))) (child_at_law d l i ts)
    ∙ ap (λ (gs : List Entry). put (write_inner (suc l)) inner_entry (insert_at d l b (get_or ts i (no_tree l)).0 r).bytes p (replaced i gs (map (entry_of d l) ts))) g
    ∙ ap (put (write_inner (suc l)) inner_entry (insert_at d l b (get_or ts i (no_tree l)).0 r).bytes p) (map_replaced d l i us ts)
    ∙ put_inner d l _ p (replaced i us ts) o

-- ONE LEVEL

pub sum_at : (l q p : ℕ) (ts : List (Item (suc l))) (i : ℕ) → i < length ts
    → mult q (p ∷ concat_map (pages (suc l)) ts) ≡ mult q (p ∷ []) + (mult q (concat_map (pages (suc l)) (take i ts)) + (mult q (pages (suc l) (get_or ts i (no_tree l))) + mult q (concat_map (pages (suc l)) (drop (suc i) ts))))
sum_at l q p ts i lt =
    simp (concat_map_split (pages (suc l)) ts i (no_tree l) lt, mult_append q (p ∷ []) (concat_map (pages (suc l)) (take i ts) ++ (pages (suc l) (get_or ts i (no_tree l)) ++ concat_map (pages (suc l)) (drop (suc i) ts))), mult_append q (concat_map (pages (suc l)) (take i ts)), mult_append q (pages (suc l) (get_or ts i (no_tree l))))

-- an inner page p with the children ts, of which the one at i was replaced by the trees of u, in the bytes of o
module _ (d l : ℕ) (b : List ℕ) (p : ℕ) (ts : List (Item (suc l))) (i : ℕ) (lt : i < length ts) (o : Rewritten) (u : Cut (Item l))
    (own : (q : ℕ) → mult q (p ∷ concat_map (pages (suc l)) ts) + mult q (free_at b) ≤ indicator (in_range b q))
    (ih : Sim d l b (pages (suc l) (get_or ts i (no_tree l))) o u)
    (same : (q : ℕ) → mult q (concat_map (pages (suc l)) u.trees) + mult q u.free ≡ mult q (pages (suc l) (get_or ts i (no_tree l))) + mult q (free_at b)) where
  sum_old : (q : ℕ) → mult q (p ∷ concat_map (pages (suc l)) ts)
      ≡ mult q (p ∷ []) + (mult q (concat_map (pages (suc l)) (take i ts)) + (mult q (pages (suc l) (get_or ts i (no_tree l))) + mult q (concat_map (pages (suc l)) (drop (suc i) ts))))
  sum_old q = sum_at l q p ts i lt

  sum_new : (q : ℕ) → mult q (p ∷ concat_map (pages (suc l)) (replaced i u.trees ts))
      ≡ mult q (p ∷ []) + (mult q (concat_map (pages (suc l)) (take i ts)) + (mult q (concat_map (pages (suc l)) u.trees) + mult q (concat_map (pages (suc l)) (drop (suc i) ts))))
  sum_new q =
      simp (concat_map_three (pages (suc l)) (take i ts) u.trees (drop (suc i) ts), mult_append q (p ∷ []) (concat_map (pages (suc l)) (take i ts) ++ (concat_map (pages (suc l)) u.trees ++ concat_map (pages (suc l)) (drop (suc i) ts))), mult_append q (concat_map (pages (suc l)) (take i ts)), mult_append q (concat_map (pages (suc l)) u.trees))

  free_eq : (q : ℕ) → mult q (free_at o.bytes) ≡ mult q u.free
  free_eq q = ap (mult q) ih.free

  own_new : (q : ℕ) → mult q (p ∷ concat_map (pages (suc l)) (replaced i u.trees ts)) + mult q (free_at o.bytes) ≤ indicator (in_range o.bytes q)
  own_new q = rw (kept_range ih.kept q) (omega (arith, own q, sum_old q, sum_new q, free_eq q, same q))

  -- a page that is neither the child's nor free is as it was
  side : (ps : List ℕ) → ((q : ℕ) → mult q ps + mult q (pages (suc l) (get_or ts i (no_tree l))) ≤ mult q (p ∷ concat_map (pages (suc l)) ts)) → (q : ℕ) → 0 < mult q ps → page_at o.bytes q ≡ page_at b q
  side ps le q h = ih.frame q (omega (arith, own q, le q, indicator_le (in_range b q))) (omega (arith, own q, le q, indicator_le (in_range b q)))

  held_new : All (Held d (suc l) b) ts → All (Held d (suc l) o.bytes) (replaced i u.trees ts)
  held_new held =
      all_append (held_list d (suc l) b o.bytes (side (concat_map (pages (suc l)) (take i ts)) (λ q. omega (arith, sum_old q))) (all_take i held))
      (all_append ih.held (held_list d (suc l) b o.bytes (side (concat_map (pages (suc l)) (drop (suc i) ts)) (λ q. omega (arith, sum_old q))) (all_drop (suc i) held)))

  inner_sim : suc l < 256 → All (Held d (suc l) b) ts → All (Ok (suc l)) (replaced i u.trees ts) → length (replaced i u.trees ts) ≤ 17 → (16 < length (replaced i u.trees ts) → 0 < length u.free)
      → Sim d (suc l) b (p ∷ concat_map (pages (suc l)) ts) (put (write_node d (suc l)) (entry_as d (suc l)) o.bytes p (replaced i u.trees ts)) (cut p u.free (replaced i u.trees ts))
  inner_sim v held ok h5 room =
      let xs = replaced i u.trees ts in
      let s = put_sim d (suc l) o.bytes p xs v ih.kept.well own_new (held_new held) ok h5 (rw ih.free room) in
      let s' : Sim d (suc l) o.bytes (p ∷ []) (put (write_node d (suc l)) (entry_as d (suc l)) o.bytes p xs) (cut p u.free xs) = rw ih.free at s in
      record {
        held = s'.held;
        entries = s'.entries;
        free = s'.free;
        frame = λ q g f. s'.frame q (omega (arith, sum_old q)) (omega (arith, sum_old q, free_eq q, same q)) ∙ ih.frame q (omega (arith, sum_old q)) f;
        kept = kept_trans ih.kept s'.kept;
      }

sim_cast : {d l : ℕ} {b ps ps' : List ℕ} {o o' : Rewritten} {c c' : Cut (Item l)} → o ≡ o' → c ≡ c' → ((q : ℕ) → mult q ps' ≡ 0 → mult q ps ≡ 0) → Sim d l b ps o c → Sim d l b ps' o' c'
sim_cast {d} {l} {b} {ps} {ps'} e f g s =
    let s' : Sim d l b ps' _ _ = record { held = s.held; entries = s.entries; free = s.free; frame = λ q h. s.frame q (g q h); kept = s.kept } in
    subst₂ (λ o c. Sim d l b ps' o c) e f s'

-- THE INSERTION
pub insert_sim : (d l : ℕ) (b : List ℕ) (r : Record) (t : Item (suc l)) → l < 256 → RecordFits r → Root l t → Held d (suc l) b t → Well b
    → ((q : ℕ) → mult q (pages (suc l) t) + mult q (free_at b) ≤ indicator (in_range b q)) → run_of d l (rank_of d r) t ≤ length (free_at b)
    → Sim d l b (pages (suc l) t) (insert_at d l b t.0 r) (insert_tree d l r (free_at b) t)
unfolding insert_at insert_tree Held pages Ok Some
insert_sim d zero b r t v hr o held well own room =
    let p = t.0 in
    let xs = insert_record d r t.1 in
    let e : concat_map (pages 0) xs ≡ concat_map (pages 0) t.1 = no_pages_law xs ∙ sym (no_pages_law t.1) in
    let own' : (q : ℕ) → mult q (p ∷ concat_map (pages 0) xs) + mult q (free_at b) ≤ indicator (in_range b q) = λ q. rw e (own q) in
    let n = length_ins (rank_of d) r t.1 in
    let s = put_sim d zero b p xs v well own' (held_zero d b xs) (ins_all (rank_of d) r hr o.subs) (omega (arith, o.most)) (room_leaf d r (free_at b) t room) in
    sim_cast (sym (put_leaf d b p xs) ∙ ap (λ (z : List Record). put set_leaf (leaf_entry d) b p (insert_record d r z)) (sym (leaf_items_law d b t held))) refl
    (λ q h. omega (arith, mult_append q (p ∷ []) (concat_map (pages 0) t.1))) s
insert_sim d (suc l) b r t v hr o held well own room =
    let k = rank_of d r in
    let i = chosen d l k t.1 in
    let lt = chosen_lt d l k t.1 (omega (arith, o.some)) in
    let c = get_or t.1 i (no_tree l) in
    let okc = all_at o.subs i (no_tree l) lt in
    let u = insert_tree d l r (free_at b) c in
    let few = run_child d l k (free_at b) t room in
    let ih = insert_sim d l b r c (omega arith) hr (ok_root l c okc) (all_at held.1 i (no_tree l) lt) well (λ q. omega (arith, own q, sum_at l q t.0 t.1 i lt)) few in
    let ok' = all_replaced i (insert_ok d l r (free_at b) c hr okc) o.subs in
    let f = insert_few d l r (free_at b) c in
    let n = length_replaced i u.trees t.1 lt in
    let s = inner_sim d l b t.0 t.1 i lt (insert_at d l b c.0 r) u own ih (λ q. insert_kept d l r q (free_at b) c (ok_root l c okc) few) v held.1 ok' (omega (arith, o.most)) (room_inner d l r (free_at b) t o room) in
    sim_cast (sym (inner_step d l r b t held ∙ step_put d l r b t.0 t.1 u.trees ih.entries ok')) refl (λ q h. h) s

-- THE PAGES WANTED
run_pick : (c f : Bool) (n : ℕ) → if c (n + indicator f) n ≡ n + indicator (if c f false)
run_pick true f n = refl
run_pick false f n = omega arith

chosen_child : (d l : ℕ) (b : List ℕ) (k : ℕ) (t : Item (suc (suc l))) → Held d (suc (suc l)) b t
    → child_at (entries_in (inner_at b t.0)) (choose k (entries_in (inner_at b t.0))) ≡ (get_or t.1 (chosen d l k t.1) (no_tree l)).0
unfolding chosen
chosen_child d l b k t h =
    ap (λ (es : List Entry). child_at es (choose k es)) (inner_items d l b t h) ∙ child_at_law d l (choose k (map (entry_of d l) t.1)) t.1

pub full_run_law : (d l : ℕ) (b : List ℕ) (k : ℕ) (t : Item (suc l)) → Root l t → Held d (suc l) b t → full_run l b t.0 k ≡ run_of d l k t
unfolding full_run run_of Some Held
full_run_law d zero b k t o held = ap (λ (n : ℕ). indicator (leb 16 n)) (held_count d zero b t held)
full_run_law d (suc l) b k t o held =
    let i = chosen d l k t.1 in
    let lt = chosen_lt d l k t.1 (omega (arith, o.some)) in
    let c = get_or t.1 i (no_tree l) in
    let okc = all_at o.subs i (no_tree l) lt in
    let n : full_run l b (child_at (entries_in (inner_at b t.0)) (choose k (entries_in (inner_at b t.0)))) k ≡ run_of d l k c =
    ap (λ (z : ℕ). full_run l b z k) (chosen_child d l b k t held) ∙ full_run_law d l b k c (ok_root l c okc) (all_at held.1 i (no_tree l) lt) in
    rw (n, held_count d (suc l) b t held) (run_pick (eqb (run_of d l k c) (suc l)) (leb 16 (length t.1)) (run_of d l k c))
