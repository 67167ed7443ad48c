-- Steps of the judgement of entries. Assumes nothing.
use Rattle.std.proofs.Common.{◌≡◌, refl, sym, ap, ◌∙◌, subst, List, ℕ, suc, ◌+◌, ◌*◌, ◌≤◌, ◌<◌, arith, leb, ltb, length, get_or, set, length-set, leb-true, leb-false, ltb-true, ltb-false}
use Rattle.lists.specs.Members.{At, spot_below}
use Rattle.lists.specs.Tests.{by_cases, decide}
use Rattle.pagestore_page.specs.declared.Entry.{Entry}
use Rattle.pagestore.specs.Store.{Page, level_of, fill_of, entries_of, View, view_of}
use Rattle.sound_faults.specs.Faults.{NodeFill, Reached, EntryAt, EntryFault}
use Rattle.sound_faults.specs.Linked.{EntryFine}
use Rattle.sound_faults.proofs.ViewLaws.{few_entries}
use Rattle.sound_links.specs.Marks.{Marked, MarksAre, Follows}
use Rattle.sound_pages.specs.Pages.{Named}
use Rattle.sound_links.proofs.MarkLaws.{spot_same, set_here, set_keep, set_old, no_entries}

-- ---- ONE ENTRY

-- an entry that is not followed is faulty
pub not_follows : (v : View) (p i : ℕ) (e : Entry) → EntryAt v p i e → ¬ Follows v (level_of (v.page p)) e.child → EntryFault v p
not_follows v p i e a n =
    let k : ℕ = fill_of (v.page e.child) in
    by_cases (ltb 0 e.child)
    (λ x. by_cases (ltb e.child v.count)
    (λ y. decide (suc (level_of (v.page e.child))) (level_of (v.page p))
    (λ l. by_cases (leb 8 k)
    (λ z. by_cases (leb k 16)
    (λ t. absurd (n (record { range = (ltb-true 0 e.child x, ltb-true e.child v.count y); level = l; fill = (leb-true 8 k z, leb-true k 16 t) })))
    (λ t. EntryFault.fill a (λ f. omega (arith, f.1, leb-false k 16 t))))
    (λ z. EntryFault.fill a (λ f. omega (arith, f.0, leb-false 8 k z))))
    (λ l. EntryFault.level a l))
    (λ y. EntryFault.range a (λ r. omega (arith, r.1, ltb-false e.child v.count y))))
    (λ x. EntryFault.range a (λ r. omega (arith, r.0, ltb-false 0 e.child x)))

-- nor is one that leads to a page which is not used
pub past_fresh : (v : View) (p i : ℕ) (e : Entry) → EntryAt v p i e → v.fresh ≤ e.child → EntryFault v p
past_fresh v p i e a h =
    by_cases (ltb 0 e.child)
    (λ x. by_cases (ltb e.child v.count)
    (λ y. EntryFault.fresh a ((ltb-true 0 e.child x, ltb-true e.child v.count y), h))
    (λ y. EntryFault.range a (λ r. omega (arith, r.1, ltb-false e.child v.count y))))
    (λ x. EntryFault.range a (λ r. omega (arith, r.0, ltb-false 0 e.child x)))

-- a page with an entry is no leaf
above_leaf : (x : Page) {i : ℕ} {e : Entry} → At (entries_of x) i e → 0 < level_of x
above_leaf (Page.leaf n rs) a = absurd (omega (arith, spot_below a))
above_leaf (Page.inner l n es) a = omega arith

-- the child's mark is the page's level exactly if the child is followed from there
module _ (v : View) {m : List ℕ} (s : MarksAre v m) (p i : ℕ) (e : Entry) (a : EntryAt v p i e) where
  pub mark_other : ¬ (get_or m e.child 0 ≡ level_of (v.page p)) → EntryFault v p
  mark_other n =
      not_follows v p i e a (λ f. n (s.all e.child (Reached.entry a.reached a.at f.range f.level f.fill) ∙ f.level))

  module _ (h : get_or m e.child 0 ≡ level_of (v.page p)) where
    pub mark_reached : Reached v e.child
    mark_reached = s.reached e.child (omega (arith, h, above_leaf (v.page p) a.at))

    pub mark_level : suc (level_of (v.page e.child)) ≡ level_of (v.page p)
    mark_level = sym (s.all e.child mark_reached) ∙ h

-- a followed page other than the root is filled as any other
pub reached_fill : {v : View} {c : ℕ} → Reached v c → ¬ (c ≡ v.root) → NodeFill (v.page c)
reached_fill (Reached.root r f) n = absurd (n refl)
reached_fill (Reached.entry r a g l f) n = f

-- ---- THE PLACES OF ENTRIES

module _ (b : List ℕ) where
  abbrev v : View
  v = view_of b

  spot_16 : {p i : ℕ} {e : Entry} → EntryAt v p i e → i < 16
  spot_16 {p} a = omega (arith, spot_below a.at, few_entries b p a.reached)

  place : (p i q j : ℕ) (e f : Entry) → EntryAt v p i e → EntryAt v q j f → 16 * q + j ≡ 16 * p + i → (q ≡ p) × (j ≡ i)
  place p i q j e f a c h = let x : i < 16 = spot_16 a in let y : j < 16 = spot_16 c in (omega arith, omega arith)

  same_entry : (p i q j : ℕ) (e f : Entry) → EntryAt v p i e → EntryAt v q j f → q ≡ p → j ≡ i → e ≡ f
  same_entry p i q j e f a c x y =
      spot_same a.at (subst (λ (z : ℕ). At (entries_of (v.page z)) i f) x (subst (λ (z : ℕ). At (entries_of (v.page q)) z f) y c.at))

  -- a page named before
  pub named_before : {m : List ℕ} {p i : ℕ} {e : Entry} → Named (view_of b) m (16 * p + i) → EntryAt (view_of b) p i e → Marked m e.child → EntryFault (view_of b) p
  named_before {m} {p} {i} {e} n a h =
      let x = n.by e.child h in
      EntryFault.named a x.3 (λ z. absurd (omega (arith, x.5, z.0, z.1))) (sym x.4)

  -- one entry more
  pub named_step : {m : List ℕ} {p i : ℕ} {e : Entry} → Named (view_of b) m (16 * p + i) → EntryAt (view_of b) p i e → EntryFine (view_of b) p e → ¬ Marked m e.child
      → Named (view_of b) (set m e.child 1) (16 * p + (i + 1))
  named_step {m} {p} {i} {e} n a ok new =
      let c : ℕ = e.child in
      let l : c < length m = omega (arith, n.size, ok.range.1) in
      let before : (q j : ℕ) (f : Entry) → EntryAt v q j f → 16 * q + j < 16 * p + (i + 1) → ¬ (16 * q + j ≡ 16 * p + i) → 16 * q + j < 16 * p + i = λ q j f x h d. omega (arith, d) in
      let is : (q j : ℕ) (f : Entry) → EntryAt v q j f → 16 * q + j ≡ 16 * p + i → e ≡ f =
      λ q j f x z. let w = place p i q j e f a x z in same_entry p i q j e f a x w.0 w.1 in
      let apart : (q j : ℕ) (f : Entry) → EntryAt v q j f → 16 * q + j < 16 * p + i → f.child ≡ c → ⊥ = λ q j f x h z. new (subst (Marked m) z (n.marked q j f x h)) in
      record {
        size = omega (arith, length-set m c 1, n.size);
        by = λ k h. decide k c (λ z. (p, i, e, a, sym z, omega arith))
            (λ d. let x = n.by k (set_old m c k d h) in (x.0, x.1, x.2, x.3, x.4, omega (arith, x.5)));
        fine = λ q j f x h. decide (16 * q + j) (16 * p + i)
            (λ z. let w = place p i q j e f a x z in subst (λ (g : Entry). EntryFine v q g) (is q j f x z) (subst (λ (r : ℕ). EntryFine v r e) (sym w.0) ok))
            (λ d. n.fine q j f x (before q j f x h d));
        marked = λ q j f x h. decide (16 * q + j) (16 * p + i)
            (λ z. subst (λ (g : Entry). Marked (set m c 1) g.child) (is q j f x z) (set_here m c l))
            (λ d. set_keep m c f.child l (n.marked q j f x (before q j f x h d)));
        alone = λ q j q' j' f f' x x' h h' y. decide (16 * q + j) (16 * p + i)
            (λ z. decide (16 * q' + j') (16 * p + i)
            (λ z'. let w = place p i q j e f a x z in let w' = place p i q' j' e f' a x' z' in (w.0 ∙ sym w'.0, w.1 ∙ sym w'.1))
            (λ d'. absurd (apart q' j' f' x' (before q' j' f' x' h' d') (sym y ∙ ap (λ (g : Entry). g.child) (sym (is q j f x z))))))
            (λ d. decide (16 * q' + j') (16 * p + i)
            (λ z'. absurd (apart q j f x (before q j f x h d) (y ∙ ap (λ (g : Entry). g.child) (sym (is q' j' f' x' z')))))
            (λ d'. n.alone q j q' j' f f' x x' (before q j f x h d) (before q' j' f' x' h' d') y));
      }

  -- no entry between two places
  named_skip : {m : List ℕ} {k l : ℕ} → k ≤ l → ((q j : ℕ) (f : Entry) → EntryAt v q j f → 16 * q + j < l → 16 * q + j < k) → Named v m k → Named v m l
  named_skip g low n =
      record {
        size = n.size;
        by = λ c h. let x = n.by c h in (x.0, x.1, x.2, x.3, x.4, omega (arith, x.5));
        fine = λ q j f x h. n.fine q j f x (low q j f x h);
        marked = λ q j f x h. n.marked q j f x (low q j f x h);
        alone = λ q j q' j' f f' x x' h h' y. n.alone q j q' j' f f' x x' (low q j f x h) (low q' j' f' x' h') y;
      }

  -- the entries of a page are done, or the page is not followed
  pub named_done : {m : List ℕ} (p i : ℕ) → (Reached (view_of b) p → length (entries_of ((view_of b).page p)) ≤ i) → i ≤ 16 → Named (view_of b) m (16 * p + i) → Named (view_of b) m (16 * (p + 1))
  named_done p i most le n =
      named_skip (omega arith)
      (λ q j f x h. let y : j < 16 = spot_16 x in
      decide q p
      (λ z. let w : j < length (entries_of (v.page p)) = subst (λ (r : ℕ). j < length (entries_of (v.page r))) z (spot_below x.at) in
      omega (arith, most (subst (Reached v) z x.reached)))
      (λ d. omega (arith, d)))
      n

  named_none : {m : List ℕ} (p : ℕ) → ¬ Reached (view_of b) p → Named (view_of b) m (16 * p) → Named (view_of b) m (16 * (p + 1))
  named_none {m} p out n =
      named_done p 0 (λ r. absurd (out r)) (omega arith) (subst (λ (k : ℕ). Named v m k) (let z : 16 * p ≡ 16 * p + 0 = omega arith in z) n)

  named_leaf : {m : List ℕ} (p : ℕ) → length (entries_of ((view_of b).page p)) ≤ 0 → Named (view_of b) m (16 * p) → Named (view_of b) m (16 * (p + 1))
  named_leaf {m} p few n =
      named_done p 0 (λ r. few) (omega arith) (subst (λ (k : ℕ). Named v m k) (let z : 16 * p ≡ 16 * p + 0 = omega arith in z) n)

  -- a page that is not followed, or is a leaf, by its mark
  pub named_below : {m n : List ℕ} (p : ℕ) → MarksAre (view_of b) m → get_or m p 0 ≤ 1 → Named (view_of b) n (16 * p) → Named (view_of b) n (16 * (p + 1))
  named_below {m} {n} p s h w =
      decide (get_or m p 0) 0
      (λ z. named_none p (λ r. omega (arith, z, s.all p r)) w)
      (λ d. named_leaf p (no_entries (v.page p) (omega (arith, s.all p (s.reached p (omega (arith, d)))))) w)
