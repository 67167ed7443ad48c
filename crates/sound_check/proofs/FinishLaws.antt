-- From the marks and the judged pages to the verdict. Assumes nothing.
use Rattle.std.proofs.Common.{◌≡◌, refl, sym, ap, ◌∙◌, subst, List, ℕ, ◌+◌, ◌*◌, ◌≤◌, ◌<◌, arith, length, replicate}
use lib.ListN.{length-replicate}
use Rattle.lists.specs.Members.{spot_below}
use Rattle.pagestore_page.specs.declared.Entry.{Entry}
use Rattle.pagestore.specs.Store.{level_of, View, view_of}
use Rattle.tree_model.specs.Trees.{live}
use Rattle.sound_faults.specs.Faults.{IsPage, RootFill, Rooted, Reached, EntryAt, NoFault, EntryFault, FailsAt}
use Rattle.sound_faults.specs.Linked.{HeaderFine, InState}
use Rattle.sound_faults.specs.Stored.{view_stored}
use Rattle.sound_faults.proofs.Assembled.{reached_page, live_count}
use Rattle.sound_links.specs.Marks.{Marked, Seen, Clear, Ready, Grown, MarksAre, FreedOk, marked_to}
use Rattle.sound_pages.specs.Pages.{PagesFine, Named, Lost, no_ends}
use Rattle.sound_keys.specs.declared.Ends.{Ends}
use Rattle.sound_visit.specs.Collect.{pairs_to, Collected, Gathered}
use Rattle.sound_check.specs.Outcome.{Start, Counted, Lent, Whole}
use Rattle.sound_links.proofs.MarkLaws.{clear_marks, marks_are}
use Rattle.sound_faults.proofs.ViewLaws.{few_entries}
use Rattle.sound_links.proofs.MarkedLaws.{marked_followed}
use Rattle.sound_visit.proofs.CollectLaws.{pairs_sum}
use Rattle.lists.specs.Lengths.{zero_at}

-- ---- THE ROOT

pub root_freed_law : (v : View) {f : List ℕ} {r : ℕ} → FreedOk v f → r ≡ v.root → Marked f r → FailsAt v 0
root_freed_law v {f} o e h = FailsAt.root_freed (o.marks.freed v.root (subst (Marked f) e h))

pub rooted_of : (v : View) → HeaderFine v → Rooted v
rooted_of v h = record { features = h.features; range = h.root }

pub start_of : (v : View) {f : List ℕ} {r : ℕ} → HeaderFine v → FreedOk v f → r ≡ v.root → ¬ Marked f r → RootFill (v.page r) → Start v f
start_of v {f} h o e n r = record { header = h; freed = o; root_freed = λ z. n (subst (Marked f) (sym e) z); root_fill = subst (λ (x : ℕ). RootFill (v.page x)) e r }

pub ready_root : (v : View) {m f : List ℕ} {r l : ℕ} → Start v f → Clear v m → r ≡ v.root → l ≡ v.level → Ready v m r l
ready_root v {m} {f} {r} {l} s c e k =
    record {
      marks = clear_marks v m c;
      reached = subst (Reached v) (sym e) (Reached.root (rooted_of v s.header) s.root_fill);
      level = ap (λ (x : ℕ). level_of (v.page x)) e ∙ s.header.level ∙ sym k;
    }

pub grown_marks : (v : View) {m m' : List ℕ} {r : ℕ} → r ≡ v.root → Grown v m m' r → MarksAre v m'
grown_marks v {m' = m'} e g = marks_are v m' g.marks (subst (Seen m') e g.done)

-- ---- ALL PAGES JUDGED

pub whole : (b : List ℕ) {m f named i h : List ℕ} {ends : List Ends} {n : ℕ} → Start (view_of b) f → MarksAre (view_of b) m
    → PagesFine (view_of b) ends (view_of b).count × Gathered (view_of b) m (view_of b).count n i h → Named (view_of b) named (16 * (view_of b).count)
    → ((view_of b).total ≤ 65535 → (view_of b).total ≤ length i) → length h ≡ length i → Whole (view_of b) m f n i h
whole b s a g w r e =
    let low : (p i : ℕ) (e : Entry) → EntryAt (view_of b) p i e → 16 * p + i < 16 * (view_of b).count =
    λ p i e x. omega (arith, (reached_page x.reached).1, few_entries b p x.reached, spot_below x.at) in
    record {
      start = s;
      marks = a;
      linked = record {
        ground = record { header = s.header; freed = s.freed.fine; root_freed = s.freed.marks.other (view_of b).root s.root_freed; root_fill = s.root_fill };
        fine = λ p i e x. w.fine p i e x (low p i e x);
        alone = λ p i q j e u x y c. w.alone p i q j e u x y (low p i e x) (low q j u y) c;
      };
      fine = λ p r. g.0.pages p (reached_page r).1 r;
      points = g.1;
      ids = r;
      holders = e;
    }

module _ (b : List ℕ) {m f i h : List ℕ} {n : ℕ} (w : Whole (view_of b) m f n i h) where
  abbrev v : View
  v = view_of b

  entry_fine : (p : ℕ) → ¬ EntryFault v p
  entry_fine p (EntryFault.range {i = i} {e = e} x n) = n (w.linked.fine p i e x).range
  entry_fine p (EntryFault.level {i = i} {e = e} x n) = n (w.linked.fine p i e x).level
  entry_fine p (EntryFault.fill {i = i} {e = e} x n) = n (w.linked.fine p i e x).fill
  entry_fine p (EntryFault.first {i = i} {e = e} x n) = n (w.linked.fine p i e x).first
  entry_fine p (EntryFault.last {i = i} {e = e} x n) = n (w.linked.fine p i e x).last
  entry_fine p (EntryFault.root {i = i} {e = e} x n) = (w.linked.fine p i e x).root n
  entry_fine p (EntryFault.freed {i = i} {e = e} x n) = omega (arith, n, (w.linked.fine p i e x).freed)
  entry_fine p (EntryFault.fresh {i = i} {e = e} x n) = omega (arith, n.1, (w.linked.fine p i e x).fresh)
  entry_fine p (EntryFault.named {i = i} {q = q} {j = j} {e = e} {f = u} x y n c) = n (w.linked.alone p i q j e u x y c)

  no_fault : NoFault v
  no_fault = record { features = w.start.header.features; root_fill = λ r. w.start.root_fill; entries = entry_fine }

  -- the records counted are those of the tree
  counted : length (live v) ≡ n
  counted =
      live_count v (view_stored b) w.linked (marked_to m v.count) (marked_followed v m w.marks) ∙ sym (w.points.count ∙ pairs_sum v m v.count)

  pub whole_total : {t : ℕ} → t ≡ (view_of b).total → ¬ (n ≡ t) → FailsAt (view_of b) 0
  whole_total e d = FailsAt.total no_fault (λ z. d (sym counted ∙ sym z ∙ sym e))

  pub whole_most : 65535 < n → FailsAt (view_of b) 0
  whole_most d = FailsAt.most no_fault (omega (arith, d, counted))

  pub whole_lost : {p : ℕ} → Lost (view_of b) p → FailsAt (view_of b) p
  whole_lost l = FailsAt.state no_fault l.range l.reached l.freed l.fresh

  module _ {t : ℕ} (e : t ≡ (view_of b).total) (d : n ≡ t) (l : n ≤ 65535) where
    pub whole_counted : ((z : ℕ) → IsPage (view_of b) z → InState (view_of b) z) → Counted (view_of b) m
    whole_counted st =
        record { linked = w.linked; fine = w.fine; state = st; marks = w.marks; total = sym e ∙ sym d ∙ sym counted; most = omega (arith, e, d, l) }

    pub whole_room : n ≤ length i
    whole_room = omega (arith, e, d, l, w.ids (omega (arith, e, d, l)))

    pub whole_collected : Collected (pairs_to (view_of b) m (view_of b).count) n i h
    whole_collected = w.points.held whole_room

-- ---- RUNS OF ZEROS

pub clear_zeros : (v : View) (n : ℕ) → v.count ≤ n → Clear v (replicate n 0)
clear_zeros v n h = record { size = omega (arith, length-replicate {A = ℕ} n 0); none = zero_at n }

pub lent_zeros : (v : View) (k n : ℕ) → v.count ≤ k → (v.total ≤ 65535 → v.total ≤ n) → Lent v (replicate k 0) (replicate k no_ends) (replicate n 0) (replicate n 0)
lent_zeros v k n h f =
    record { named = clear_zeros v k h; ends = omega (arith, length-replicate {A = Ends} k no_ends); ids = λ l. omega (arith, length-replicate {A = ℕ} n 0, f l); holders = refl }
