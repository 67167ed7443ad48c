-- check-sound, the theory: an index of a permitted length is sound exactly if it fails at no page.
use Rattle.std.specs.Prelude.{◌≡◌, List, map, ℕ, suc, ◌*◌, ◌≤◌, ◌<◌, ltb, leb, length, take}
use Rattle.std.proofs.Common.{ap, inl, inr, ⊎_elim, arith, ltb-true, ltb-false, leb-true, leb-false}
use Rattle.lists.specs.Ascending.{Ascending}
use Rattle.lists.specs.AscendingLaws.{ascends?}
use Rattle.lists.specs.Counts.{mult}
use Rattle.lists.specs.Members.{all_spot, spots_all}
use Rattle.lists.specs.Tests.{by_cases, decide}
use Rattle.geometry.specs.declared.Key.{Key}
use Rattle.pagestore_page.specs.declared.Record.{Record}
use Rattle.pagestore_page.specs.declared.Entry.{Entry}
use Rattle.pagestore.specs.Store.{Page, leaf, inner, level_of, fill_of, records_of, View, view_of}
use Rattle.tree_model.specs.Trees.{ident_of, live, pages, tree_of}
use Rattle.tree_model.specs.Sound.{Permitted, RecordOk, Sound, SoundIndex}
use Rattle.sound_faults.specs.Faults.{IsPage, Features, Freed, RootFill, first_key_in, last_key_in, ranks_in, Rooted, Reached, EntryAt, EntryFault, NoFault, FailsAt}
use Rattle.sound_faults.specs.Stored.{Stored, view_stored}
use Rattle.sound_faults.specs.Linked.{HeaderFine, FreedFine, Grounded, EntryFine, Linked, PageFine, InState}
use Rattle.sound_faults.proofs.Assembled.{linked_sound, tree_followed, live_idents}
use Rattle.sound_faults.specs.Repeated.{twice_fails}
use Rattle.sound_faults.proofs.Refuted.{sound_fails}

-- ---- WHAT IS NOT NOT SO

le_not_not : (a b : ℕ) → ¬ ¬ (a ≤ b) → a ≤ b
le_not_not a b h = by_cases (leb a b) (λ e. leb-true a b e) (λ e. absurd (h (λ l. omega (arith, leb-false a b e))))

lt_not_le : (a b : ℕ) → ¬ (b ≤ a) → a < b
lt_not_le a b h = by_cases (ltb a b) (λ e. ltb-true a b e) (λ e. absurd (h (ltb-false a b e)))

eq_not_not : (a b : ℕ) → ¬ ¬ (a ≡ b) → a ≡ b
eq_not_not a b h = decide a b (λ e. e) (λ n. absurd (h n))

both_not_not : {A B : Type 0} → (¬ ¬ A → A) → (¬ ¬ B → B) → ¬ ¬ (A × B) → A × B
both_not_not f g h = (f (λ n. h (λ x. n x.0)), g (λ n. h (λ x. n x.1)))

key_not_not : (a b : Key) → ¬ ¬ (a ≡ b) → a ≡ b
key_not_not a b h =
    let p : a.pyramid.0 ≡ b.pyramid.0 = eq_not_not a.pyramid.0 b.pyramid.0 (λ n. h (λ e. n (ap (λ (k : Key). k.pyramid.0) e))) in
    let q : a.height.0 ≡ b.height.0 = eq_not_not a.height.0 b.height.0 (λ n. h (λ e. n (ap (λ (k : Key). k.height.0) e))) in
    let r : a.id ≡ b.id = eq_not_not a.id b.id (λ n. h (λ e. n (ap (λ (k : Key). k.id) e))) in
    λ i. record { pyramid = record { 0 = p i }; height = record { 0 = q i }; id = r i }

root_fill_not_not : (x : Page) → ¬ ¬ RootFill x → RootFill x
root_fill_not_not (leaf n rs) h = le_not_not n 16 h
root_fill_not_not (inner l n es) h = both_not_not (le_not_not 2 n) (le_not_not n 16) h

record_not_not : (d : ℕ) (r : Record) → ¬ ¬ RecordOk d r → RecordOk d r
record_not_not d r h =
    record {
      ident = le_not_not 1 r.id (λ n. h (λ o. n o.ident));
      stage = le_not_not r.stage 5 (λ n. h (λ o. n o.stage));
      coords = spots_all (take d r.coords) (λ i c a. le_not_not c 2000 (λ n. h (λ o. n (all_spot o.coords a))));
    }

ascending_not_not : (xs : List ℕ) → ¬ ¬ Ascending xs → Ascending xs
ascending_not_not xs h = ⊎_elim (λ a. a) (λ n. absurd (h n)) (ascends? xs)

-- ---- NO PAGE FAILS

module _ (v : View) (st : Stored v) (nf : (p : ℕ) → ¬ FailsAt v p) where
  features : Features v
  features = both_not_not (le_not_not 1 v.d) (le_not_not v.d 16) (λ n. nf 0 (FailsAt.features n))

  root_page : IsPage v v.root
  root_page = both_not_not (le_not_not 1 v.root) (le_not_not (suc v.root) v.count) (λ n. nf 0 (FailsAt.root_range n))

  rooted : Rooted v
  rooted = record { features = features; range = root_page }

  header : HeaderFine v
  header =
      record {
        size = eq_not_not (v.size * 1024) v.lent (λ n. nf 0 (FailsAt.size n));
        features = features;
        fresh = both_not_not (le_not_not 1 v.fresh) (le_not_not v.fresh v.count) (λ n. nf 0 (FailsAt.fresh n));
        root = root_page;
        root_fresh = lt_not_le v.root v.fresh (λ l. nf 0 (FailsAt.root_fresh (root_page, l)));
        level = eq_not_not (level_of (v.page v.root)) v.level (λ n. nf 0 (FailsAt.root_level n));
      }

  freed : FreedFine v
  freed =
      record {
        chain = eq_not_not v.rest 0 (λ n. nf 0 (FailsAt.chain n));
        once = λ q. le_not_not (mult q v.freed) 1 (λ n. nf 0 (FailsAt.freed_twice q (lt_not_le 1 (mult q v.freed) n)));
        used = λ q f. lt_not_le q v.fresh (λ l. nf 0 (FailsAt.freed_fresh q f (st.freed q f, l)));
      }

  unfreed : (q : ℕ) → ¬ Freed v q → mult q v.freed ≡ 0
  unfreed q n = omega (arith, n)

  ground : Grounded v
  ground =
      record {
        header = header;
        freed = freed;
        root_freed = unfreed v.root (λ f. nf 0 (FailsAt.root_freed f));
        root_fill = root_fill_not_not (v.page v.root) (λ n. nf v.root (FailsAt.root_fill rooted n));
      }

  fine : (p i : ℕ) (e : Entry) → EntryAt v p i e → EntryFine v p e
  fine p i e a =
      let no : ¬ EntryFault v p = λ f. nf p (FailsAt.entry f) in
      let range : IsPage v e.child = both_not_not (le_not_not 1 e.child) (le_not_not (suc e.child) v.count) (λ n. no (EntryFault.range a n)) in
      record {
        range = range;
        level = eq_not_not (suc (level_of (v.page e.child))) (level_of (v.page p)) (λ n. no (EntryFault.level a n));
        fill = both_not_not (le_not_not 8 (fill_of (v.page e.child))) (le_not_not (fill_of (v.page e.child)) 16) (λ n. no (EntryFault.fill a n));
        first = key_not_not e.first (first_key_in v.d (v.page e.child)) (λ n. no (EntryFault.first a n));
        last = key_not_not e.last (last_key_in v.d (v.page e.child)) (λ n. no (EntryFault.last a n));
        root = λ n. no (EntryFault.root a n);
        freed = unfreed e.child (λ f. no (EntryFault.freed a f));
        fresh = lt_not_le e.child v.fresh (λ l. no (EntryFault.fresh a (range, l)));
      }

  linked : Linked v
  linked =
      record {
        ground = ground;
        fine = fine;
        alone = λ p i q j e f a b c.
            both_not_not (eq_not_not p q) (eq_not_not i j) (λ n. nf p (FailsAt.entry (EntryFault.named a b n c)));
      }

  pages_fine : (p : ℕ) → Reached v p → PageFine v p
  pages_fine p h =
      record {
        order = ascending_not_not (ranks_in v.d (v.page p)) (λ n. nf p (FailsAt.order h n));
        records = spots_all (records_of (v.page p)) (λ i r a. record_not_not v.d r (λ n. nf p (FailsAt.field (record { reached = h; at = a }) n)));
      }

  no_fault : NoFault v
  no_fault = record { features = features; root_fill = λ r. ground.root_fill; entries = λ p f. nf p (FailsAt.entry f) }

  states : (q : ℕ) → IsPage v q → InState v q
  states q g =
      let f = tree_followed v st linked in
      decide (mult q (pages (suc v.level) (tree_of v))) 0
      (λ a. decide (mult q v.freed) 0
      (λ b. by_cases (ltb q v.fresh)
      (λ z. absurd (nf q (FailsAt.state no_fault g (λ r. omega (arith, f.all q r)) (λ w. omega (arith, w)) (λ w. omega (arith, w.1, ltb-true q v.fresh z)))))
      (λ z. inr (inr (ltb-false q v.fresh z))))
      (λ b. inr (inl (omega (arith, b)))))
      (λ a. inl (f.reached q (omega (arith, a))))

  distinct : (i : ℕ) → mult i (map ident_of (live v)) ≤ 1
  distinct i =
      let ps : List ℕ = pages (suc v.level) (tree_of v) in
      let f = tree_followed v st linked in
      le_not_not (mult i (map ident_of (live v))) 1
      (λ n. let w = twice_fails v ps f i (omega (arith, lt_not_le 1 (mult i (map ident_of (live v))) n, live_idents v st linked ps f i)) in nf w.0 w.1)

  pub none_fails : Permitted v.lent → Sound v
  none_fails lent =
      let total : v.total ≡ length (live v) = eq_not_not v.total (length (live v)) (λ n. nf 0 (FailsAt.total no_fault n)) in
      linked_sound v st linked lent pages_fine states distinct total
      (le_not_not v.total 65535 (λ n. nf 0 (FailsAt.most no_fault (omega (arith, lt_not_le 65535 v.total n)))))

-- ---- SOUND IS: NO PAGE FAILS

pub sound_none : (b : List ℕ) → SoundIndex b → (p : ℕ) → ¬ FailsAt (view_of b) p
sound_none b s p f = sound_fails (view_of b) s p f

pub none_sound : (b : List ℕ) → Permitted (length b) → ((p : ℕ) → ¬ FailsAt (view_of b) p) → SoundIndex b
unfolding view_of
none_sound b h nf = none_fails (view_of b) (view_stored b) nf h
