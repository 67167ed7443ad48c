-- A sound index fails at no page.
use Rattle.std.specs.Prelude.{◌≡◌, ltb}
use Rattle.std.proofs.Math.Path.{refl, sym, ap, subst}
use Rattle.std.proofs.Common.{◌∙◌, arith, lt_of_not-le, ltb-true}
use mathlib.Core.List.{List, [], ◌∷◌, ◌++◌, map}
use Prim.Native.Nat.{ℕ, zero, suc, ◌+◌, ◌-◌, ◌≤◌, ◌<◌}
use Rattle.std.proofs.Math.ListN.{length}
use Rattle.lists.specs.Basics.{All, none, concat_map, indicator}
use Rattle.lists.specs.Ascending.{Ascending, asc_left, asc_right}
use Rattle.lists.specs.Counts.{mult, mult_append, mult_self, mult_not, range_from_below, range_from_within, mult_none}
use Rattle.lists.specs.Members.{At, here, next, all_spot, spot_below, spot_map, map_spot, all_concat_map_spot, mult_spot, mult_two, concat_map_in, concat_map_find}
use Rattle.lists.specs.Sorting.{sum}
use Rattle.lists.specs.ConcatMapLaws.{map_append}
use Rattle.lists.specs.Weights.{sum_one, sum_two}
use Rattle.lists.specs.Tests.{by_cases, decide}
use Rattle.lists.specs.Choices.{indicator_le}
use Rattle.pagestore_page.specs.declared.Record.{Record}
use Rattle.pagestore_page.specs.declared.Entry.{Entry}
use Rattle.pagestore.specs.Store.{Page, level_of, fill_of, records_of, entries_of, View}
use Rattle.tree_model.specs.Trees.{Item, records, pages, rank_of, ident_of, entry_of, node, Rep, tree_of, live}
use Rattle.tree_model.specs.TreeLaws.{fill_node, rep_level, no_pages_law, concat_map_records}
use Rattle.tree_model.specs.Sound.{is_page, fresh_pages, Filled, RootFilled, RecordOk, Sound}
use Rattle.sound_faults.specs.Faults.{IsPage, Freed, Fresh, RootFill, first_key_in, last_key_in, ranks_in, Reached, EntryAt, RecordAt, EntryFault, FailsAt}
use Rattle.sound_faults.specs.Shapes.{child_of, kids, idents, ranks, item_ranks, named_once, indicator_same, root_is, records_held, first_node, last_node, asc_node}
use Rattle.sound_faults.proofs.Assembled.{is_page_law}

page_is : (v : View) (q : ℕ) → 0 < indicator (is_page v q) → IsPage v q
page_is v q h =
    by_cases (ltb 0 q)
    (λ a. by_cases (ltb q v.count) (λ b. (ltb-true 0 q a, ltb-true q v.count b)) (λ b. absurd (let z : indicator (is_page v q) ≡ 0 = rw (a, b) in omega arith)))
    (λ a. absurd (let z : indicator (is_page v q) ≡ 0 = rw a in omega arith))

fresh_in : (v : View) (q : ℕ) → Fresh v q → mult q (fresh_pages v) ≡ 1
fresh_in v q h = range_from_within q v.fresh (v.count - v.fresh) h.1 (omega (arith, h.0.1, h.1))

not_freed : (v : View) (q : ℕ) → ¬ Freed v q → mult q v.freed ≡ 0
not_freed v q n = omega (arith, n)

not_fresh : (v : View) (q : ℕ) → IsPage v q → ¬ Fresh v q → mult q (fresh_pages v) ≡ 0
not_fresh v q g n = range_from_below q v.fresh (v.count - v.fresh) (lt_of_not-le (λ h. n (g, h)))

-- the items below page p, in a tree of the pages ps
record Sits (v : View) (ps : List ℕ) (p : ℕ) : Type 0 where
  pub level : ℕ
  pub items : List (Item level)
  pub page : v.page p ≡ node v.d level items
  pub reps : All (Rep level v) items
  pub fills : All (Filled level) items
  pub ranges : All (RecordOk v.d) (concat_map (records level) items)
  pub order : Ascending (ranks v.d (concat_map (records level) items))
  pub in_tree : 0 < mult p ps

asc_at : (d l : ℕ) {ts : List (Item l)} {i : ℕ} {t : Item l} → At ts i t → Ascending (ranks d (concat_map (records l) ts)) → Ascending (item_ranks d l t)
unfolding concat_map
asc_at d l (here {x = t} {xs = ts}) h = asc_left (item_ranks d l t) (ranks d (concat_map (records l) ts)) (subst Ascending (map_append (rank_of d) (records l t) (concat_map (records l) ts)) h)
asc_at d l (next {x = u} {xs = ts} a) h =
    asc_at d l a (asc_right (item_ranks d l u) (ranks d (concat_map (records l) ts)) (subst Ascending (map_append (rank_of d) (records l u) (concat_map (records l) ts)) h))

-- an entry of such a page
record Below (v : View) (ps : List ℕ) (p i : ℕ) (e : Entry) : Type 0 where
  pub level : ℕ
  pub tree : Item (suc level)
  pub entry : e ≡ entry_of v.d level tree
  pub over : level_of (v.page p) ≡ suc level
  pub rep : Rep (suc level) v tree
  pub filled : Filled (suc level) tree
  pub sits : Sits v ps tree.0

-- a child of a followed page is followed
kid : (v : View) (p i l : ℕ) (u : Item (suc l)) → Reached v p → At (entries_of (v.page p)) i (entry_of v.d l u) → IsPage v u.0 → level_of (v.page p) ≡ suc l
    → Rep (suc l) v u → Filled (suc l) u → Reached v u.0
unfolding entry_of Rep Filled
kid v p i l u h a g k r f =
    let n : fill_of (v.page u.0) ≡ length u.1 = ap fill_of r.0 ∙ fill_node v.d l u.1 in
    Reached.entry h a g (ap suc (rep_level l v u r) ∙ sym k) (omega (arith, f.0), omega (arith, f.1))

-- the pages of a tree below a followed page are followed
tree_reached : (v : View) (l : ℕ) (t : Item (suc l)) → Rep (suc l) v t → All (Filled l) t.1 → Reached v t.0 → ((q : ℕ) → 0 < mult q (pages (suc l) t) → IsPage v q)
    → (q : ℕ) → 0 < mult q (pages (suc l) t) → Reached v q
unfolding pages Rep node Filled mult
tree_reached v zero t r f h g q m =
    decide q t.0 (λ e. subst (Reached v) (sym e) h)
    (λ n. absurd (omega (arith, mult_not q t.0 [] n, m, ap (λ (z : List ℕ). mult q (t.0 ∷ z)) (no_pages_law t.1))))
tree_reached v (suc l) t r f h g q m =
    decide q t.0 (λ e. subst (Reached v) (sym e) h)
    (λ n.
    let w = concat_map_find (pages (suc l)) q t.1 (omega (arith, mult_not q t.0 (concat_map (pages (suc l)) t.1) n, m)) in
    let u : Item (suc l) = w.1 in
    let ru : Rep (suc l) v u = all_spot r.1 w.2 in
    let fu : Filled (suc l) u = all_spot f w.2 in
    let gu : (c : ℕ) → 0 < mult c (pages (suc l) u) → IsPage v c = λ c k. g c (omega (arith, concat_map_in (pages (suc l)) c w.2 k)) in
    let a : At (entries_of (v.page t.0)) w.0 (entry_of v.d l u) = subst (λ (x : Page). At (entries_of x) w.0 (entry_of v.d l u)) (sym r.0) (spot_map (entry_of v.d l) w.2) in
    tree_reached v l u ru fu.2 (kid v t.0 w.0 l u h a (gu u.0 (omega (arith, mult_self u.0 (concat_map (pages l) u.1)))) (ap level_of r.0) ru fu) gu q w.3)

root_filled : (d l : ℕ) (t : Item (suc l)) → RootFilled l t → RootFill (node d l t.1)
unfolding RootFilled node
root_filled d zero t h = h
root_filled d (suc l) t h = h

module _ (v : View) (s : Sound v) where
  abbrev ps : List ℕ
  ps = pages (suc v.level) (tree_of v)

  once : (q : ℕ) → mult q ps + (mult q v.freed + mult q (fresh_pages v)) ≡ indicator (is_page v q)
  once q = omega (arith, s.once q, mult_append q ps (v.freed ++ fresh_pages v), mult_append q v.freed (fresh_pages v))

  most_once : (c : ℕ) → mult c ps ≤ 1
  most_once c = omega (arith, once c, indicator_le (is_page v c))

  root_in : 0 < mult v.root ps
  root_in = omega (arith, named_once v s.rep v.root, indicator_same v.root)

  kid_in : (p c : ℕ) → 0 < mult p ps → 0 < mult c (kids v p) → 0 < mult c ps
  kid_in p c h k = omega (arith, named_once v s.rep c, sum_one (λ q. mult c (kids v q)) ps p h)

  under : (p i : ℕ) (e : Entry) → Sits v ps p → At (entries_of (v.page p)) i e → Below v ps p i e
  unfolding node records Rep Filled entry_of
  under p i e t a =
      go t.level t.items t.page t.reps t.fills t.ranges t.order (subst (λ (x : Page). At (entries_of x) i e) t.page a)
    where
      go : (l : ℕ) (ts : List (Item l)) → v.page p ≡ node v.d l ts → All (Rep l v) ts → All (Filled l) ts → All (RecordOk v.d) (concat_map (records l) ts)
          → Ascending (ranks v.d (concat_map (records l) ts)) → At (entries_of (node v.d l ts)) i e → Below v ps p i e
      go zero ts x r f o h b = absurd (omega (arith, spot_below b))
      go (suc l) ts x r f o h b =
          let m = map_spot (entry_of v.d l) ts b in
          let u : Item (suc l) = m.0 in
          let ru : Rep (suc l) v u = all_spot r m.1 in
          let fu : Filled (suc l) u = all_spot f m.1 in
          let c : e.child ≡ u.0 = ap (λ (z : Entry). z.child) m.2 in
          record {
            level = l;
            tree = u;
            entry = m.2;
            over = ap level_of x;
            rep = ru;
            filled = fu;
            sits = record {
              level = l;
              items = u.1;
              page = ru.0;
              reps = ru.1;
              fills = fu.2;
              ranges = all_concat_map_spot (records (suc l)) m.1 o;
              order = asc_at v.d (suc l) m.1 h;
              in_tree = subst (λ (z : ℕ). 0 < mult z ps) c (kid_in p e.child t.in_tree (mult_spot (spot_map child_of a)));
            };
          }

  sits : (p : ℕ) → Reached v p → Sits v ps p
  unfolding Rep entry_of records live
  sits p (Reached.root g f) =
      record {
        level = v.level;
        items = (tree_of v).1;
        page = ap v.page (sym (root_is v)) ∙ s.rep.0;
        reps = s.rep.1;
        fills = s.fills;
        ranges = s.ranges;
        order = s.order;
        in_tree = root_in;
      }
  sits p (Reached.entry {p = q} {i = i} {e = e} r a g l f) =
      let b = under q i e (sits q r) a in
      subst (λ (z : ℕ). Sits v ps z) (sym (ap (λ (z : Entry). z.child) b.entry)) b.sits

  below : (p i : ℕ) (e : Entry) → EntryAt v p i e → Below v ps p i e
  below p i e a = under p i e (sits p a.reached) a.at

  -- two places that name a page
  two_names : (c p i q j : ℕ) {e f : Entry} → EntryAt v p i e → EntryAt v q j f → e.child ≡ c → f.child ≡ c → ¬ ((p ≡ q) × (i ≡ j)) → 2 ≤ mult c ps
  two_names c p i q j {e} {f} a b x y n =
      let pa : At (kids v p) i c = subst (λ (z : ℕ). At (kids v p) i z) x (spot_map child_of a.at) in
      let qb : At (kids v q) j c = subst (λ (z : ℕ). At (kids v q) j z) y (spot_map child_of b.at) in
      let ip : 0 < mult p ps = (sits p a.reached).in_tree in
      let iq : 0 < mult q ps = (sits q b.reached).in_tree in
      decide p q
      (λ g. let w : 2 ≤ mult c (kids v p) = mult_two pa (subst (λ (z : ℕ). At (kids v z) j c) (sym g) qb) (λ h. n (g, h)) in
      omega (arith, named_once v s.rep c, sum_one (λ z. mult c (kids v z)) ps p ip))
      (λ g. omega (arith, named_once v s.rep c, sum_two (λ z. mult c (kids v z)) ps p q ip iq g, mult_spot pa, mult_spot qb))

  -- the child of an entry is the tree below it
  child_is : {p i : ℕ} {e : Entry} (b : Below v ps p i e) → e.child ≡ b.tree.0
  unfolding entry_of
  child_is b = ap (λ (z : Entry). z.child) b.entry

  some_below : {p i : ℕ} {e : Entry} (b : Below v ps p i e) → 0 < length b.tree.1
  unfolding Filled
  some_below b = omega (arith, b.filled.0)

  entry_in : {p i : ℕ} {e : Entry} → EntryAt v p i e → 0 < mult e.child ps
  entry_in {p} {i} {e} a = kid_in p e.child (sits p a.reached).in_tree (mult_spot (spot_map child_of a.at))

  no_entry_law : (p : ℕ) → EntryFault v p → ⊥
  unfolding entry_of Rep Filled records
  no_entry_law p (EntryFault.range {i = i} {e = e} a n) = n (page_is v e.child (omega (arith, once e.child, entry_in a)))
  no_entry_law p (EntryFault.level {i = i} {e = e} a n) =
      let b = below p i e a in
      n (ap (λ (z : ℕ). suc (level_of (v.page z))) (child_is b) ∙ ap suc (rep_level b.level v b.tree b.rep) ∙ sym b.over)
  no_entry_law p (EntryFault.fill {i = i} {e = e} a n) =
      let b = below p i e a in
      let g : fill_of (v.page e.child) ≡ length b.tree.1 = ap (λ (z : ℕ). fill_of (v.page z)) (child_is b) ∙ ap fill_of b.rep.0 ∙ fill_node v.d b.level b.tree.1 in
      n (omega (arith, b.filled.0), omega (arith, b.filled.1))
  no_entry_law p (EntryFault.first {i = i} {e = e} a n) =
      let b = below p i e a in
      n (ap (λ (z : Entry). z.first) b.entry
      ∙ sym (ap (λ (z : ℕ). first_key_in v.d (v.page z)) (child_is b) ∙ ap (first_key_in v.d) b.rep.0 ∙ first_node v.d b.level b.tree.1 (some_below b) b.filled.2))
  no_entry_law p (EntryFault.last {i = i} {e = e} a n) =
      let b = below p i e a in
      n (ap (λ (z : Entry). z.last) b.entry
      ∙ sym (ap (λ (z : ℕ). last_key_in v.d (v.page z)) (child_is b) ∙ ap (last_key_in v.d) b.rep.0 ∙ last_node v.d b.level b.tree.1 (some_below b) b.filled.2))
  no_entry_law p (EntryFault.root {i = i} {e = e} a n) =
      let c : At (kids v p) i v.root = subst (λ (z : ℕ). At (kids v p) i z) n (spot_map child_of a.at) in
      omega (arith, most_once v.root, named_once v s.rep v.root, indicator_same v.root, sum_one (λ z. mult v.root (kids v z)) ps p (sits p a.reached).in_tree, mult_spot c)
  no_entry_law p (EntryFault.freed {i = i} {e = e} a n) = omega (arith, n, once e.child, indicator_le (is_page v e.child), entry_in a)
  no_entry_law p (EntryFault.fresh {i = i} {e = e} a n) = omega (arith, fresh_in v e.child n, once e.child, indicator_le (is_page v e.child), entry_in a)
  no_entry_law p (EntryFault.named {i = i} {q = q} {j = j} {e = e} {f = f} a b n c) = omega (arith, most_once f.child, two_names f.child p i q j a b c refl n)

  root_page : IsPage v v.root
  root_page = page_is v v.root (omega (arith, once v.root, root_in))

  root_fill_law : RootFill (v.page v.root)
  unfolding Rep
  root_fill_law = subst RootFill (sym (ap v.page (sym (root_is v)) ∙ s.rep.0)) (root_filled v.d v.level (tree_of v) s.root_fill)

  reached : (q : ℕ) → 0 < mult q ps → Reached v q
  reached q h =
      tree_reached v v.level (tree_of v) s.rep s.fills
      (subst (Reached v) (sym (root_is v)) (Reached.root (record { features = s.d; range = root_page }) root_fill_law))
      (λ c k. page_is v c (omega (arith, once c, k))) q h

  -- a followed leaf's records are the tree's
  holds : (p : ℕ) → Reached v p → All (RecordOk v.d) (records_of (v.page p))
  unfolding node
  holds p h = let t = sits p h in go t.level t.items t.page t.ranges
    where
      go : (l : ℕ) (ts : List (Item l)) → v.page p ≡ node v.d l ts → All (RecordOk v.d) (concat_map (records l) ts) → All (RecordOk v.d) (records_of (v.page p))
      go zero ts x o = subst (λ (z : Page). All (RecordOk v.d) (records_of z)) (sym x) (subst (All (RecordOk v.d)) (concat_map_records ts) o)
      go (suc l) ts x o = subst (λ (z : Page). All (RecordOk v.d) (records_of z)) (sym x) none

  ident_sum : (c : ℕ) → sum (λ p. mult c (idents v p)) ps ≤ 1
  unfolding live
  ident_sum c =
      let all = records_held (λ rs. mult c (map ident_of rs)) (mult_none c) (λ xs ys. ap (mult c) (map_append ident_of xs ys) ∙ mult_append c (map ident_of xs) (map ident_of ys)) v v.level (tree_of v) s.rep in
      omega (arith, all, s.distinct c)

  two_holders : {p i q j : ℕ} {r u : Record} → RecordAt v p i r → RecordAt v q j u → ¬ ((p ≡ q) × (i ≡ j)) → r.id ≡ u.id → ⊥
  two_holders {p} {i} {q} {j} {r} {u} a b n x =
      let c : ℕ = u.id in
      let pa : At (idents v p) i c = subst (λ (z : ℕ). At (idents v p) i z) x (spot_map ident_of a.at) in
      let qb : At (idents v q) j c = spot_map ident_of b.at in
      let ip : 0 < mult p ps = (sits p a.reached).in_tree in
      let iq : 0 < mult q ps = (sits q b.reached).in_tree in
      decide p q
      (λ g. let w : 2 ≤ mult c (idents v p) = mult_two pa (subst (λ (z : ℕ). At (idents v z) j c) (sym g) qb) (λ h. n (g, h)) in
      omega (arith, ident_sum c, sum_one (λ z. mult c (idents v z)) ps p ip))
      (λ g. omega (arith, ident_sum c, sum_two (λ z. mult c (idents v z)) ps p q ip iq g, mult_spot pa, mult_spot qb))

  pub sound_fails : (p : ℕ) → FailsAt v p → ⊥
  sound_fails p (FailsAt.size n) = n s.size
  sound_fails p (FailsAt.features n) = n s.d
  sound_fails p (FailsAt.root_range n) = n root_page
  sound_fails p (FailsAt.root_level n) = n (ap (λ (z : ℕ). level_of (v.page z)) (sym (root_is v)) ∙ rep_level v.level v (tree_of v) s.rep)
  sound_fails p (FailsAt.root_freed n) = omega (arith, n, once v.root, indicator_le (is_page v v.root), root_in)
  sound_fails p (FailsAt.root_fresh n) = omega (arith, fresh_in v v.root n, once v.root, indicator_le (is_page v v.root), root_in)
  sound_fails p (FailsAt.total f n) = n s.total
  sound_fails p (FailsAt.most f n) = omega (arith, n, s.most, s.total)
  sound_fails p (FailsAt.chain n) = n s.chain
  sound_fails p (FailsAt.freed_twice q n) = omega (arith, n, once q, indicator_le (is_page v q))
  sound_fails p (FailsAt.freed_fresh q f n) = omega (arith, f, fresh_in v q n, once q, indicator_le (is_page v q))
  sound_fails p (FailsAt.fresh n) = n s.fresh
  sound_fails p (FailsAt.repeated a b n x) = two_holders a b n x
  sound_fails p (FailsAt.entry f) = no_entry_law p f
  sound_fails p (FailsAt.state f g r h u) = r (reached p (omega (arith, once p, not_freed v p h, not_fresh v p g u, is_page_law v p g)))
  sound_fails p (FailsAt.root_fill g n) = n root_fill_law
  sound_fails p (FailsAt.order h n) =
      let t = sits p h in
      n (subst (λ (x : Page). Ascending (ranks_in v.d x)) (sym t.page) (asc_node v.d t.level t.items t.fills t.order))
  sound_fails p (FailsAt.field a n) = n (all_spot (holds p a.reached) a.at)
