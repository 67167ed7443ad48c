-- Where no link is faulty, the followed pages hold the tree, each just once. With what each page shows by itself, that is soundness.
use Rattle.std.specs.Prelude.{◌≡◌, ◌≢◌, ltb}
use Rattle.std.proofs.Math.Path.{refl, sym, ap, subst}
use Rattle.std.proofs.Common.{◌∙◌, ⊎_elim, arith, ltb-true, ltb-false, lt-ltb, le-ltb, ne_eqb}
use mathlib.Core.List.{List, [], ◌∷◌, ◌++◌, map}
use Prim.Native.Nat.{ℕ, zero, suc, ◌+◌, ◌-◌, ◌≤◌, ◌<◌}
use Rattle.std.proofs.Math.ListN.{length, length-append}
use Rattle.std.proofs.lemmas.List.{length-map}
use Rattle.lists.specs.Basics.{All, none, also, all_append, concat_map, indicator}
use Rattle.lists.specs.Ascending.{Ascending}
use Rattle.lists.specs.Counts.{mult, mult_append, mult_not, range_from_below, range_from_past, range_from_within, mult_none}
use Rattle.lists.specs.Members.{At, all_spot, spots_all, spot_map, map_spot, mult_spot, mult_find, mult_find_two, concat_map_find}
use Rattle.lists.specs.Sorting.{sum}
use Rattle.lists.specs.ConcatMapLaws.{map_append}
use Rattle.lists.specs.Weights.{sum_one, sum_only, sum_zero, sum_some, sum_members}
use Rattle.lists.specs.Tests.{by_cases, decide}
use Rattle.pagestore_page.specs.declared.Record.{Record}
use Rattle.pagestore_page.specs.declared.Entry.{Entry}
use Rattle.pagestore.specs.Store.{Page, leaf, inner, level_of, fill_of, records_of, entries_of, View}
use Rattle.tree_model.specs.Trees.{Item, records, pages, rank_of, ident_of, entry_of, node, Rep, tree_at, tree_of, live}
use Rattle.tree_model.specs.TreeLaws.{fill_node, no_pages_law, concat_map_records, tree_page}
use Rattle.tree_model.specs.Sound.{Permitted, is_page, fresh_pages, Filled, RootFilled, RecordOk, Sound}
use Rattle.sound_faults.specs.Faults.{IsPage, Freed, RootFill, first_key_in, last_key_in, ends, ranks_in, Rooted, Reached, EntryAt}
use Rattle.sound_faults.specs.Stored.{Counted, Stored}
use Rattle.sound_faults.specs.Linked.{Linked, PageFine, InState, Followed}
use Rattle.sound_faults.specs.Shapes.{child_of, kids, idents, item_ranks, named_once, indicator_same, root_is, records_held, first_node, last_node, kids_asc}

-- ---- PAGES BY THEIR ITEMS

leaf_of_law : (x : Page) → level_of x ≡ 0 → Counted x → fill_of x ≤ 16 → x ≡ leaf (length (records_of x)) (records_of x)
leaf_of_law (leaf n rs) h c f = ap (λ (k : ℕ). leaf k rs) (sym (c f))
leaf_of_law (inner l n es) h c f = absurd (omega arith)

inner_of : (l : ℕ) (x : Page) → level_of x ≡ suc l → Counted x → fill_of x ≤ 16 → x ≡ inner l (length (entries_of x)) (entries_of x)
inner_of l (leaf n rs) h c f = absurd (omega arith)
inner_of l (inner k n es) h c f = let e : k ≡ l = omega arith in let g : n ≡ length es = sym (c f) in λ i. inner (e i) (g i) es

root_most : (x : Page) → RootFill x → fill_of x ≤ 16
root_most (leaf n rs) h = h
root_most (inner l n es) h = h.1

pub fill_most : {v : View} {p : ℕ} → Reached v p → fill_of (v.page p) ≤ 16
fill_most {v = v} (Reached.root r f) = root_most (v.page v.root) f
fill_most (Reached.entry h a g l f) = f.1

pub rooted : {v : View} {p : ℕ} → Reached v p → Rooted v
rooted (Reached.root r f) = r
rooted (Reached.entry h a g l f) = rooted h

pub reached_page : {v : View} {p : ℕ} → Reached v p → IsPage v p
reached_page (Reached.root r f) = r.range
reached_page (Reached.entry h a g l f) = g

all_zero : (v : View) (rs : List Record) → All (Rep 0 v) rs × All (Filled 0) rs
unfolding Rep Filled
all_zero v [] = (none, none)
all_zero v (r ∷ rs) = let h = all_zero v rs in (also tt h.0, also tt h.1)

pub is_page_law : (v : View) (q : ℕ) → IsPage v q → indicator (is_page v q) ≡ 1
is_page_law v q h = rw (lt-ltb 0 q h.0, lt-ltb q v.count h.1)

filled_root : (d l : ℕ) (t : Item (suc l)) → RootFill (node d l t.1) → RootFilled l t
unfolding RootFilled node
filled_root d zero t h = h
filled_root d (suc l) t h = h

-- ---- THE TREE BELOW A FOLLOWED PAGE

pub record Built (v : View) (l p : ℕ) : Type 0 where
  pub rep : Rep (suc l) v (tree_at l v p)
  pub fills : All (Filled l) (tree_at l v p).1
  pub inside : (q : ℕ) → 0 < mult q (pages (suc l) (tree_at l v p)) → Reached v q

pub entry_eq : (e f : Entry) → e.child ≡ f.child → e.first ≡ f.first → e.last ≡ f.last → e ≡ f
entry_eq e f a b c = λ i. record { child = a i; first = b i; last = c i }

module _ (v : View) (st : Stored v) (c : Linked v) where
  record Child (l : ℕ) (e : Entry) : Type 0 where
    pub is : e ≡ entry_of v.d l (tree_at l v e.child)
    pub filled : Filled (suc l) (tree_at l v e.child)
    pub reached : Reached v e.child
    pub level : level_of (v.page e.child) ≡ l
    pub built : Built v l e.child

  child : (l p i : ℕ) (e : Entry) → Reached v p → At (entries_of (v.page p)) i e → level_of (v.page p) ≡ suc l
      → ((q : ℕ) → Reached v q → level_of (v.page q) ≡ l → Built v l q) → Child l e
  unfolding entry_of Rep Filled records
  child l p i e h a k f =
      let ok = c.fine p i e (record { reached = h; at = a }) in
      let re : Reached v e.child = Reached.entry h a ok.range ok.level ok.fill in
      let lv : level_of (v.page e.child) ≡ l = omega (arith, ok.level, k) in
      let b = f e.child re lv in
      let t : Item (suc l) = tree_at l v e.child in
      let z : t.0 ≡ e.child = tree_page l v e.child in
      let pg : v.page e.child ≡ node v.d l t.1 = ap v.page (sym z) ∙ b.rep.0 in
      let n : fill_of (v.page e.child) ≡ length t.1 = ap fill_of pg ∙ fill_node v.d l t.1 in
      let some : 0 < length t.1 = omega (arith, ok.fill.0) in
      record {
        is = entry_eq e (entry_of v.d l t) (sym z)
            (ok.first ∙ ap (first_key_in v.d) pg ∙ first_node v.d l t.1 some b.fills)
            (ok.last ∙ ap (last_key_in v.d) pg ∙ last_node v.d l t.1 some b.fills);
        filled = (omega (arith, ok.fill.0), omega (arith, ok.fill.1), b.fills);
        reached = re;
        level = lv;
        built = b;
      }

  kids_is : (l : ℕ) {es : List Entry} → All (Child l) es → es ≡ map (entry_of v.d l) (map (λ e. tree_at l v e.child) es)
  kids_is l none = refl
  kids_is l (also h a) = λ i. h.is i ∷ kids_is l a i

  kids_all : (l : ℕ) {P : Item (suc l) → Type 0} → ((e : Entry) → Child l e → P (tree_at l v e.child)) → {es : List Entry} → All (Child l) es → All P (map (λ e. tree_at l v e.child) es)
  kids_all l f none = none
  kids_all l f (also h a) = also (f _ h) (kids_all l f a)

  pub built : (l p : ℕ) → Reached v p → level_of (v.page p) ≡ l → Built v l p
  unfolding tree_at Rep node records pages
  built zero p h k =
      let rs : List Record = records_of (v.page p) in
      record {
        rep = (leaf_of_law (v.page p) k (st.items p) (fill_most h), (all_zero v rs).0);
        fills = (all_zero v rs).1;
        inside = λ q m. decide q p (λ e. subst (Reached v) (sym e) h)
            (λ n. absurd (omega (arith, m, mult_none q, mult_not q p [] n, ap (λ (z : List ℕ). mult q (p ∷ z)) (no_pages_law rs))));
      }
  built (suc l) p h k =
      let es : List Entry = entries_of (v.page p) in
      let pg : v.page p ≡ inner l (length es) es = inner_of l (v.page p) k (st.items p) (fill_most h) in
      let ks : All (Child l) es = spots_all es (λ i e a. child l p i e h a k (built l)) in
      let ts : List (Item (suc l)) = map (λ e. tree_at l v e.child) es in
      let size : length es ≡ length ts = sym (length-map es (λ e. tree_at l v e.child)) in
      record {
        rep = (pg ∙ (λ i. inner l (size i) (kids_is l ks i)), kids_all l (λ e x. x.built.rep) ks);
        fills = kids_all l (λ e x. x.filled) ks;
        inside = λ q m. decide q p (λ e. subst (Reached v) (sym e) h) (λ n.
            let w = concat_map_find (pages (suc l)) q ts (omega (arith, m, mult_not q p (concat_map (pages (suc l)) ts) n)) in
            let x = map_spot (λ e. tree_at l v e.child) es w.2 in
            (all_spot ks x.1).built.inside q (subst (λ (z : Item (suc l)). 0 < mult q (pages (suc l) z)) x.2 w.3));
      }

  -- its order and its records, from those of each page
  module _ (fine : (p : ℕ) → Reached v p → PageFine v p) where
    record Sorted (l p : ℕ) : Type 0 where
      pub order : Ascending (item_ranks v.d (suc l) (tree_at l v p))
      pub ranges : All (RecordOk v.d) (records (suc l) (tree_at l v p))

    concat_map_all : (l : ℕ) {ts : List (Item l)} → All (λ t. All (RecordOk v.d) (records l t)) ts → All (RecordOk v.d) (concat_map (records l) ts)
    unfolding concat_map
    concat_map_all l none = none
    concat_map_all l (also h a) = all_append h (concat_map_all l a)

    sorted : (l p : ℕ) → Reached v p → level_of (v.page p) ≡ l → Sorted l p
    unfolding tree_at node records
    sorted zero p h k =
        let rs : List Record = records_of (v.page p) in
        let pg : v.page p ≡ leaf (length rs) rs = leaf_of_law (v.page p) k (st.items p) (fill_most h) in
        record {
          order = subst (λ (z : List Record). Ascending (map (rank_of v.d) z)) (sym (concat_map_records rs)) (subst (λ (x : Page). Ascending (ranks_in v.d x)) pg (fine p h).order);
          ranges = subst (All (RecordOk v.d)) (sym (concat_map_records rs)) (fine p h).records;
        }
    sorted (suc l) p h k =
        let es : List Entry = entries_of (v.page p) in
        let pg : v.page p ≡ inner l (length es) es = inner_of l (v.page p) k (st.items p) (fill_most h) in
        let ks : All (Child l) es = spots_all es (λ i e a. child l p i e h a k (built l)) in
        let ts : List (Item (suc l)) = map (λ e. tree_at l v e.child) es in
        record {
          order = kids_asc v.d l ts (kids_all l (λ e x. x.filled) ks) (kids_all l (λ e x. (sorted l e.child x.reached x.level).order) ks)
              (subst (λ (z : List Entry). Ascending (concat_map ends z)) (kids_is l ks) (subst (λ (x : Page). Ascending (ranks_in v.d x)) pg (fine p h).order));
          ranges = concat_map_all (suc l) (kids_all l (λ e x. (sorted l e.child x.reached x.level).ranges) ks);
        }

  -- ---- THE WHOLE TREE

  abbrev ps : List ℕ
  ps = pages (suc v.level) (tree_of v)

  top : Reached v v.root
  top = Reached.root (record { features = c.ground.header.features; range = c.ground.header.root }) c.ground.root_fill

  pub whole : Built v v.level v.root
  whole = built v.level v.root top c.ground.header.level

  pub whole_rep : Rep (suc v.level) v (tree_of v)
  unfolding tree_of
  whole_rep = whole.rep

  inside : (q : ℕ) → 0 < mult q ps → Reached v q
  unfolding tree_of
  inside q h = whole.inside q h

  in_tree : (q : ℕ) → Reached v q → 0 < mult q ps
  in_tree q (Reached.root g f) = omega (arith, named_once v whole_rep v.root, indicator_same v.root)
  in_tree q (Reached.entry {p = p} {e = e} h a g l f) =
      omega (arith, named_once v whole_rep e.child, sum_one (λ z. mult e.child (kids v z)) ps p (in_tree p h), mult_spot (spot_map child_of a))

  below_top : (q : ℕ) → Reached v q → level_of (v.page q) ≤ level_of (v.page v.root)
  below_top q (Reached.root g f) = omega arith
  below_top q (Reached.entry {p = p} h a g l f) = omega (arith, below_top p h, l)

  -- a page that p names
  names : (p q : ℕ) → 0 < mult p ps → 0 < mult q (kids v p) → (i : ℕ) × (e : Entry) × EntryAt v p i e × (e.child ≡ q)
  names p q h k =
      let m = mult_find q (kids v p) k in
      let x = map_spot child_of (entries_of (v.page p)) m.1 in
      (m.0, x.0, record { reached = inside p h; at = x.1 }, sym x.2)

  no_root : (p : ℕ) → 0 < mult p ps → mult v.root (kids v p) ≡ 0
  no_root p h =
      decide (mult v.root (kids v p)) 0 (λ e. e)
      (λ n. let x = names p v.root h (omega (arith, n)) in absurd ((c.fine p x.0 x.1 x.2).root x.3))

  no_other : (p q r : ℕ) → 0 < mult p ps → 0 < mult q (kids v p) → 0 < mult r ps → r ≢ p → mult q (kids v r) ≡ 0
  no_other p q r h k g n =
      decide (mult q (kids v r)) 0 (λ e. e)
      (λ z. let x = names p q h k in let y = names r q g (omega (arith, z)) in
      absurd (n (c.alone r y.0 p x.0 y.1 x.1 y.2 x.2 (y.3 ∙ sym x.3)).0))

  one_kid : (p q : ℕ) → 0 < mult p ps → mult q (kids v p) ≤ 1
  one_kid p q h =
      by_cases (ltb 1 (mult q (kids v p)))
      (λ z. let w = mult_find_two q (kids v p) (omega (arith, ltb-true 1 (mult q (kids v p)) z)) in
      let x = map_spot child_of (entries_of (v.page p)) w.2 in
      let y = map_spot child_of (entries_of (v.page p)) w.3 in
      let r = inside p h in
      absurd (w.4 (c.alone p w.0 p w.1 x.0 y.0 (record { reached = r; at = x.1 }) (record { reached = r; at = y.1 }) (sym x.2 ∙ y.2)).1))
      (λ z. ltb-false 1 (mult q (kids v p)) z)

  -- each page is at most once in the tree: by the only page that names it
  once_step : (q : ℕ) → ((p : ℕ) → 0 < mult p ps → 0 < mult q (kids v p) → mult p ps ≤ 1) → mult q ps ≤ 1
  once_step q by =
      decide q v.root
      (λ e. subst (λ (z : ℕ). mult z ps ≤ 1) (sym e) (omega (arith, named_once v whole_rep v.root, indicator_same v.root, sum_zero (λ p. mult v.root (kids v p)) ps no_root)))
      (λ n. ⊎_elim
      (λ x. omega (
        arith,
        named_once v whole_rep q,
        ap indicator (ne_eqb q v.root n),
        by x.0 x.1 x.2,
        sum_only (λ p. mult q (kids v p)) x.0 ps (one_kid x.0 q x.1) (λ r g d. no_other x.0 q r x.1 x.2 g d),
      ))
      (λ z. omega (arith, named_once v whole_rep q, ap indicator (ne_eqb q v.root n), sum_zero (λ p. mult q (kids v p)) ps z))
      (sum_some (λ p. mult q (kids v p)) ps))

  level_up : (p q : ℕ) → 0 < mult p ps → 0 < mult q (kids v p) → suc (level_of (v.page q)) ≡ level_of (v.page p)
  level_up p q h m =
      let x = names p q h m in ap (λ (z : ℕ). suc (level_of (v.page z))) (sym x.3) ∙ (c.fine p x.0 x.1 x.2).level

  once_up : (k q : ℕ) → level_of (v.page v.root) ≤ level_of (v.page q) + k → mult q ps ≤ 1
  once_up zero q l = once_step q (λ p h m. absurd (omega (arith, below_top p (inside p h), level_up p q h m)))
  once_up (suc k) q l = once_step q (λ p h m. once_up k p (omega (arith, level_up p q h m)))

  most_once : (q : ℕ) → mult q ps ≤ 1
  most_once q = once_up (level_of (v.page v.root)) q (omega arith)

  -- the tree's pages are the followed ones
  pub tree_followed : Followed v ps
  tree_followed = record { once = most_once; reached = inside; all = in_tree }

  used : (q : ℕ) → Reached v q → (mult q v.freed ≡ 0) × (q < v.fresh) × IsPage v q
  used q (Reached.root g f) = (c.ground.root_freed, c.ground.header.root_fresh, g.range)
  used q (Reached.entry {p = p} {i = i} {e = e} h a g l f) =
      let ok = c.fine p i e (record { reached = h; at = a }) in (ok.freed, ok.fresh, g)

  out : (q : ℕ) → v.count ≤ q → indicator (is_page v q) ≡ 0
  out q h = by_cases (ltb 0 q) (λ a. rw (a, le-ltb q v.count h)) (λ a. rw a)

  fresh_below : (q : ℕ) → q < v.fresh → mult q (fresh_pages v) ≡ 0
  fresh_below q h = range_from_below q v.fresh (v.count - v.fresh) h

  abbrev seen : ℕ → ℕ
  seen q = mult q ps + (mult q v.freed + mult q (fresh_pages v))

  -- a page of neither tree nor freed list, below the never used ones, and one of these
  once_low : (q : ℕ) → ((p : ℕ) → IsPage v p → InState v p) → mult q ps ≡ 0 → mult q v.freed ≡ 0 → q < v.fresh → seen q ≡ indicator (is_page v q)
  once_low q state a b l =
      by_cases (ltb 0 q)
      (λ y. let g : IsPage v q = (ltb-true 0 q y, omega (arith, c.ground.header.fresh.1)) in
      absurd (⊎_elim (λ r. omega (arith, in_tree q r)) (λ w. ⊎_elim (λ f. omega (arith, f)) (λ u. omega (arith, u)) w) (state q g)))
      (λ y. let o : indicator (is_page v q) ≡ 0 = rw y in omega (arith, fresh_below q l))

  once_high : (q : ℕ) → mult q ps ≡ 0 → mult q v.freed ≡ 0 → v.fresh ≤ q → seen q ≡ indicator (is_page v q)
  once_high q a b l =
      let h = c.ground.header.fresh in
      by_cases (ltb q v.count)
      (λ y. let m : q < v.count = ltb-true q v.count y in
      omega (arith, is_page_law v q (omega (arith, h.0), m), range_from_within q v.fresh (v.count - v.fresh) l (omega (arith, h.1))))
      (λ y. let m : v.count ≤ q = ltb-false q v.count y in
      omega (arith, out q m, range_from_past q v.fresh (v.count - v.fresh) (omega (arith, h.1))))

  -- each page but the header is just once in the tree, freed or never used
  once : ((p : ℕ) → IsPage v p → InState v p) → (q : ℕ) → seen q ≡ indicator (is_page v q)
  once state q =
      decide (mult q ps) 0
      (λ a. decide (mult q v.freed) 0
      (λ b. by_cases (ltb q v.fresh) (λ z. once_low q state a b (ltb-true q v.fresh z)) (λ z. once_high q a b (ltb-false q v.fresh z)))
      (λ b. let f : Freed v q = omega (arith, b) in
      omega (arith, c.ground.freed.once q, fresh_below q (c.ground.freed.used q f), is_page_law v q (st.freed q f))))
      (λ a. let u = used q (inside q (omega (arith, a))) in omega (arith, most_once q, u.0, fresh_below q u.1, is_page_law v q u.2))

  -- ---- WHAT IS COUNTED OVER THE FOLLOWED PAGES, in any order

  module _ (qs : List ℕ) (f : Followed v qs) where
    same_pages : (q : ℕ) → mult q ps ≡ mult q qs
    same_pages q =
        decide (mult q ps) 0
        (λ a. decide (mult q qs) 0 (λ b. a ∙ sym b) (λ b. absurd (omega (arith, in_tree q (f.reached q (omega (arith, b)))))))
        (λ a. omega (arith, most_once q, f.once q, f.all q (inside q (omega (arith, a)))))

    pub live_count : length (live v) ≡ sum (λ p. length (records_of (v.page p))) qs
    unfolding live
    live_count = records_held length refl length-append v v.level (tree_of v) whole_rep ∙ sum_members (λ p. length (records_of (v.page p))) ps qs same_pages

    pub live_idents : (i : ℕ) → mult i (map ident_of (live v)) ≡ sum (λ p. mult i (idents v p)) qs
    unfolding live
    live_idents i =
        records_held (λ rs. mult i (map ident_of rs)) (mult_none i) (λ xs ys. ap (mult i) (map_append ident_of xs ys) ∙ mult_append i (map ident_of xs) (map ident_of ys)) v v.level (tree_of v) whole_rep
        ∙ sum_members (λ p. mult i (idents v p)) ps qs same_pages

  root_fill_law : RootFilled v.level (tree_of v)
  unfolding tree_of Rep
  root_fill_law =
      filled_root v.d v.level (tree_of v)
      (subst RootFill (ap v.page (sym (root_is v)) ∙ whole_rep.0) c.ground.root_fill)

  pub linked_sound : Permitted v.lent → ((p : ℕ) → Reached v p → PageFine v p) → ((p : ℕ) → IsPage v p → InState v p)
      → ((i : ℕ) → mult i (map ident_of (live v)) ≤ 1) → v.total ≡ length (live v) → v.total ≤ 65535 → Sound v
  unfolding tree_of live
  linked_sound lent fine state distinct total most =
      let s = sorted fine v.level v.root top c.ground.header.level in
      record {
        lent = lent;
        size = c.ground.header.size;
        d = c.ground.header.features;
        rep = whole_rep;
        root_fill = root_fill_law;
        fills = whole.fills;
        order = s.order;
        ranges = s.ranges;
        distinct = distinct;
        total = total;
        most = most;
        chain = c.ground.freed.chain;
        fresh = c.ground.header.fresh;
        once = λ q. mult_append q ps (v.freed ++ fresh_pages v) ∙ ap (λ (z : ℕ). mult q ps + z) (mult_append q v.freed (fresh_pages v)) ∙ once state q;
      }
