-- Steps of the visit of the followed pages. Assumes nothing.
use Rattle.std.proofs.Common.{◌≡◌, refl, sym, ◌∙◌, subst, List, ℕ, suc, ◌+◌, ◌-◌, ◌≤◌, ◌<◌, arith, length, get_or, set, length-set, get_or-set_same, get_or-set_other, ltb, ltb-true, ltb-false}
use Rattle.lists.specs.Members.{At, here, next, spot_below}
use Rattle.lists.specs.Tests.{by_cases, decide}
use Rattle.pagestore_page.specs.declared.Entry.{Entry}
use Rattle.pagestore.specs.Store.{Page, leaf, inner, level_of, fill_of, entries_of, View}
use Rattle.sound_faults.specs.Faults.{RootFill, Reached, FailsAt}
use Rattle.sound_faults.proofs.Assembled.{reached_page}
use Rattle.sound_links.specs.Marks.{Marked, Seen, Clear, Follows, Marks, Ready, Grown, Going, MarksAre}

-- a place has one element
pub spot_same : {A : Type 0} {xs : List A} {i : ℕ} {x y : A} → At xs i x → At xs i y → x ≡ y
spot_same here here = refl
spot_same (next a) (next b) = spot_same a b

-- a mark that is set, and the others
pub set_here : (m : List ℕ) (p : ℕ) → p < length m → Marked (set m p 1) p
set_here m p l = get_or-set_same m p 1 0 l

pub set_keep : (m : List ℕ) (p q : ℕ) → p < length m → Marked m q → Marked (set m p 1) q
set_keep m p q l h = decide q p (λ e. subst (Marked (set m p 1)) (sym e) (set_here m p l)) (λ n. get_or-set_other m p q 1 0 n ∙ h)

pub set_old : (m : List ℕ) (p q : ℕ) → ¬ (q ≡ p) → Marked (set m p 1) q → Marked m q
set_old m p q n h = sym (get_or-set_other m p q 1 0 n) ∙ h

-- the same of the mark of a followed page
pub seen_here : (m : List ℕ) (p x : ℕ) → p < length m → 0 < x → Seen (set m p x) p
seen_here m p x l h = omega (arith, get_or-set_same m p x 0 l)

pub seen_old : (m : List ℕ) (p q x : ℕ) → ¬ (q ≡ p) → Seen (set m p x) q → Seen m q
seen_old m p q x n h = omega (arith, get_or-set_other m p q x 0 n)

pub seen_keep : (m : List ℕ) (p q x : ℕ) → p < length m → 0 < x → Seen m q → Seen (set m p x) q
seen_keep m p q x l h s = decide q p (λ e. subst (Seen (set m p x)) (sym e) (seen_here m p x l h)) (λ n. omega (arith, get_or-set_other m p q x 0 n))

module _ (v : View) where
  -- ---- the first page

  pub clear_marks : (m : List ℕ) → Clear v m → Marks v m
  clear_marks m c =
      record {
        size = c.size;
        reached = λ q h. absurd (omega (arith, c.none q));
        level = λ q h. absurd (omega (arith, c.none q));
        closed = λ p i e h. absurd (omega (arith, c.none p));
      }

  all_seen : (m : List ℕ) → Marks v m → Seen m v.root → (q : ℕ) → Reached v q → Seen m q
  all_seen m s h q (Reached.root g f) = h
  all_seen m s h q (Reached.entry {p = p} {i = i} {e = e} r a g l f) =
      s.closed p i e (all_seen m s h p r) a (record { range = g; level = l; fill = f })

  pub marks_are : (m : List ℕ) → Marks v m → Seen m v.root → MarksAre v m
  marks_are m s h = record { size = s.size; reached = s.reached; all = λ q r. s.level q (all_seen m s h q r) }

  -- what is not marked is not followed
  pub unseen : {m : List ℕ} {q : ℕ} → MarksAre v m → get_or m q 0 ≡ 0 → ¬ Reached v q
  unseen {q = q} s z r = omega (arith, z, s.all q r)

  pub seen : {m : List ℕ} {q : ℕ} → MarksAre v m → ¬ (get_or m q 0 ≡ 0) → Reached v q
  seen {q = q} s n = s.reached q (omega (arith, n))

  module _ (page : ℕ) where
    -- ---- the entries of a page

    pub going_start : (m : List ℕ) → Marks v m → Going v m m page 0
    going_start m r = record { size = refl; marks = r; keep = λ q h. h; kids = λ j e l. absurd (omega arith) }

    kids_more : (m' m'' : List ℕ) (i : ℕ) (e : Entry) → At (entries_of (v.page page)) i e → ((q : ℕ) → Seen m' q → Seen m'' q)
        → ((j : ℕ) (f : Entry) → j < i → At (entries_of (v.page page)) j f → Follows v (level_of (v.page page)) f.child → Seen m' f.child)
        → (Follows v (level_of (v.page page)) e.child → Seen m'' e.child)
        → (j : ℕ) (f : Entry) → j < i + 1 → At (entries_of (v.page page)) j f → Follows v (level_of (v.page page)) f.child → Seen m'' f.child
    kids_more m' m'' i e a keep old new j f l b w =
        decide j i
        (λ z. let s : e ≡ f = spot_same a (subst (λ (k : ℕ). At (entries_of (v.page page)) k f) z b) in
        subst (λ (x : Entry). Seen m'' x.child) s (new (subst (λ (x : Entry). Follows v (level_of (v.page page)) x.child) (sym s) w)))
        (λ n. keep f.child (old j f (omega (arith, n)) b w))

    -- one entry more, which is not followed, or has been
    pub going_skip : {m m' m₃ : List ℕ} {i : ℕ} (e : Entry) → Going v m m' page i → At (entries_of (v.page page)) i e → m₃ ≡ m'
        → ¬ Follows v (level_of (v.page page)) e.child → Going v m m₃ page (i + 1)
    going_skip {m} {m'} {m₃} {i} e g a z n =
        subst (λ (x : List ℕ). Going v m x page (i + 1)) (sym z)
        (record { size = g.size; marks = g.marks; keep = g.keep; kids = kids_more m' m' i e a (λ q h. h) g.kids (λ w. absurd (n w)) })

    pub going_grown : {m m' m'' m₃ : List ℕ} {i : ℕ} (e : Entry) → Going v m m' page i → At (entries_of (v.page page)) i e → m₃ ≡ m''
        → Grown v m' m'' e.child → Going v m m₃ page (i + 1)
    going_grown {m} {m'} {m''} {m₃} {i} e g a z w =
        subst (λ (x : List ℕ). Going v m x page (i + 1)) (sym z)
        (record { size = w.size ∙ g.size; marks = w.marks; keep = λ q h. w.keep q (g.keep q h); kids = kids_more m' m'' i e a w.keep g.kids (λ f. w.done) })

    pub going_ready : {m m' : List ℕ} {i l : ℕ} (e : Entry) → Going v m m' page i → Reached v page → level_of (v.page page) ≡ l → At (entries_of (v.page page)) i e
        → Follows v l e.child → Ready v m' e.child (l - 1)
    going_ready e g r k a f =
        record { marks = g.marks; reached = Reached.entry r a f.range (f.level ∙ sym k) f.fill; level = omega (arith, f.level) }

    -- all entries
    pub going_done : {m m' : List ℕ} {i x : ℕ} → Going v m m' page i → Reached v page → length (entries_of (v.page page)) ≤ i → x ≡ suc (level_of (v.page page))
        → Grown v m (set m' page x) page
    going_done {m} {m'} {i} {x} g r n t =
        let l : page < length m' = omega (arith, g.marks.size, (reached_page r).1) in
        let o : 0 < x = omega arith in
        record {
          size = length-set m' page x ∙ g.size;
          marks = record {
            size = omega (arith, length-set m' page x, g.marks.size);
            reached = λ q h. decide q page (λ e. subst (Reached v) (sym e) r) (λ d. g.marks.reached q (seen_old m' page q x d h));
            level = λ q h. decide q page (λ e. subst (λ (y : ℕ). get_or (set m' page x) y 0 ≡ suc (level_of (v.page y))) (sym e) (get_or-set_same m' page x 0 l ∙ t))
                (λ d. get_or-set_other m' page q x 0 d ∙ g.marks.level q (seen_old m' page q x d h));
            closed = λ p j e h a f. seen_keep m' page e.child x l o (decide p page
                (λ z. let b : At (entries_of (v.page page)) j e = subst (λ (y : ℕ). At (entries_of (v.page y)) j e) z a in
                g.kids j e (omega (arith, spot_below b)) b (subst (λ (y : ℕ). Follows v (level_of (v.page y)) e.child) z f))
                (λ d. g.marks.closed p j e (seen_old m' page p x d h) a f));
          };
          keep = λ q h. seen_keep m' page q x l o (g.keep q h);
          done = seen_here m' page x l o;
        }

-- ---- fills

pub no_entries : (x : Page) → level_of x ≡ 0 → length (entries_of x) ≤ 0
no_entries (leaf n rs) h = omega arith
no_entries (inner l n es) h = absurd (omega arith)

pub root_fill_leaf : (x : Page) → level_of x ≡ 0 → fill_of x ≤ 16 → RootFill x
root_fill_leaf (leaf n rs) h l = l
root_fill_leaf (inner k n es) h l = absurd (omega arith)

pub root_fill_most : (x : Page) → 16 < fill_of x → ¬ RootFill x
root_fill_most (leaf n rs) h f = omega (arith, f)
root_fill_most (inner k n es) h f = omega (arith, f.1)

pub root_fill_inner : (x : Page) → ¬ (level_of x ≡ 0) → 2 ≤ fill_of x → fill_of x ≤ 16 → RootFill x
root_fill_inner (leaf n rs) h l m = absurd (h refl)
root_fill_inner (inner k n es) h l m = (l, m)

pub root_fill_few : (x : Page) → ¬ (level_of x ≡ 0) → fill_of x < 2 → ¬ RootFill x
root_fill_few (leaf n rs) h l f = h refl
root_fill_few (inner k n es) h l f = omega (arith, f.0)

-- the root is no page that is used
pub root_fails : (v : View) → ¬ (v.root ≡ 0) → v.fresh ≤ v.root → FailsAt v 0
root_fails v z u =
    by_cases (ltb v.root v.count)
    (λ b. FailsAt.root_fresh ((omega (arith, z), ltb-true v.root v.count b), u))
    (λ b. FailsAt.root_range (λ r. omega (arith, r.1, ltb-false v.root v.count b)))
