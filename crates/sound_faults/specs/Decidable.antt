-- Soundness is decided: an index is sound or not, by its fields one after the other.
use Rattle.std.specs.Prelude.{◌≡◌, refl, ◌⊎◌, List, [], ◌∷◌, ◌++◌, map, ℕ, zero, suc, ◌*◌, ◌%◌, ◌≤◌, ◌<◌, leb, ltb, length, take}
use Rattle.std.proofs.Common.{sym, ap, ◌∙◌, subst, inl, inr, ⊎_elim, arith, leb-true, leb-false, le-ltb}
use Rattle.lists.specs.Basics.{All, none, also, all_head, all_tail, indicator}
use Rattle.lists.specs.AscendingLaws.{ascends?}
use Rattle.lists.specs.Counts.{mult, mult_self, mult_not, mult_more, all_of_mult, mult_of_all}
use Rattle.lists.specs.Tests.{by_cases, decide}
use Rattle.geometry.specs.declared.Key.{Key}
use Rattle.pagestore_page.specs.declared.Record.{Record}
use Rattle.pagestore_page.specs.declared.Entry.{Entry}
use Rattle.pagestore.specs.Store.{Page, leaf, inner, level_of, fill_of, records_of, entries_of, View, view_of}
use Rattle.tree_model.specs.Trees.{Item, pages, rank_of, ident_of, node, Rep, tree_of, live}
use Rattle.tree_model.specs.Sound.{Permitted, is_page, fresh_pages, RootFilled, Filled, RecordOk, Sound, SoundIndex}

abbrev pub Either : Type 0 → Type 0
Either P = P ⊎ ¬ P

-- ---- tests

pub le? : (a b : ℕ) → Either (a ≤ b)
le? a b = by_cases (leb a b) (λ e. inl (leb-true a b e)) (λ e. inr (λ l. omega (arith, leb-false a b e)))

pub eq? : (a b : ℕ) → Either (a ≡ b)
eq? a b = decide a b (λ e. inl e) (λ n. inr n)

either_map : {P Q : Type 0} → (P → Q) → (Q → P) → Either P → Either Q
either_map f g (inl p) = inl (f p)
either_map f g (inr n) = inr (λ q. n (g q))

pub both? : {P Q : Type 0} → Either P → Either Q → Either (P × Q)
both? (inl p) (inl q) = inl (p, q)
both? (inl p) (inr n) = inr (λ x. n x.1)
both? (inr n) y = inr (λ x. n x.0)

pub all? : {A : Type 0} {P : A → Type 0} → ((x : A) → Either (P x)) → (xs : List A) → Either (All P xs)
all? f [] = inl none
all? {A} {P} f (x ∷ xs) = either_map (λ h. also h.0 h.1) (λ h. (all_head h, all_tail h)) (both? (f x) (all? f xs))

-- ---- equality of pages

list? : {A : Type 0} → ((x y : A) → Either (x ≡ y)) → (xs ys : List A) → Either (xs ≡ ys)
list? f [] [] = inl refl
list? f [] (y ∷ ys) = inr (λ e. let z : ◌≡◌ {A = ℕ} 0 1 = cc in omega arith)
list? f (x ∷ xs) [] = inr (λ e. let z : ◌≡◌ {A = ℕ} 0 1 = cc in omega arith)
list? f (x ∷ xs) (y ∷ ys) = either_map (λ h i. h.0 i ∷ h.1 i) (λ e. (cc, cc)) (both? (f x y) (list? f xs ys))

key? : (a b : Key) → Either (a ≡ b)
key? a b =
    either_map (λ h i. record { pyramid = record { 0 = h.0 i }; height = record { 0 = h.1.0 i }; id = h.1.1 i })
    (λ e. (ap (λ (k : Key). k.pyramid.0) e, (ap (λ (k : Key). k.height.0) e, ap (λ (k : Key). k.id) e)))
    (both? (eq? a.pyramid.0 b.pyramid.0) (both? (eq? a.height.0 b.height.0) (eq? a.id b.id)))

record? : (a b : Record) → Either (a ≡ b)
record? a b =
    either_map (λ h i. record { id = h.0 i; stage = h.1.0 i; stamp = h.1.1.0 i; coords = h.1.1.1 i })
    (λ e. (ap (λ (r : Record). r.id) e, (ap (λ (r : Record). r.stage) e, (ap (λ (r : Record). r.stamp) e, ap (λ (r : Record). r.coords) e))))
    (both? (eq? a.id b.id) (both? (eq? a.stage b.stage) (both? (eq? a.stamp b.stamp) (list? eq? a.coords b.coords))))

entry? : (a b : Entry) → Either (a ≡ b)
entry? a b =
    either_map (λ h i. record { child = h.0 i; first = h.1.0 i; last = h.1.1 i })
    (λ e. (ap (λ (x : Entry). x.child) e, (ap (λ (x : Entry). x.first) e, ap (λ (x : Entry). x.last) e)))
    (both? (eq? a.child b.child) (both? (key? a.first b.first) (key? a.last b.last)))

page? : (x y : Page) → Either (x ≡ y)
page? (leaf n rs) (leaf k ss) =
    either_map (λ h i. leaf (h.0 i) (h.1 i)) (λ e. (ap fill_of e, ap records_of e)) (both? (eq? n k) (list? record? rs ss))
page? (leaf n rs) (inner l k es) = inr (λ e. let z : 0 ≡ suc l = ap level_of e in omega arith)
page? (inner l n es) (leaf k rs) = inr (λ e. let z : suc l ≡ 0 = ap level_of e in omega arith)
page? (inner l n es) (inner m k fs) =
    either_map (λ h i. inner (h.0 i) (h.1.0 i) (h.1.1 i)) (λ e. (let z : suc l ≡ suc m = ap level_of e in omega arith, (ap fill_of e, ap entries_of e)))
    (both? (eq? l m) (both? (eq? n k) (list? entry? es fs)))

-- ---- the fields of soundness

pub permitted? : (n : ℕ) → Either (Permitted n)
permitted? n =
    either_map (λ h. record { whole = h.0; low = h.1.0; high = h.1.1 }) (λ p. (p.whole, (p.low, p.high)))
    (both? (eq? (n % 1024) 0) (both? (le? 2048 n) (le? n 16777216)))

rep? : (l : ℕ) (v : View) (t : Item l) → Either (Rep l v t)
unfolding Rep
rep? zero v r = inl tt
rep? (suc l) v t = both? (page? (v.page t.0) (node v.d l t.1)) (all? (rep? l v) t.1)

root_filled? : (l : ℕ) (t : Item (suc l)) → Either (RootFilled l t)
unfolding RootFilled
root_filled? zero t = le? (length t.1) 16
root_filled? (suc l) t = both? (le? 2 (length t.1)) (le? (length t.1) 16)

filled? : (l : ℕ) (t : Item l) → Either (Filled l t)
unfolding Filled
filled? zero r = inl tt
filled? (suc l) t =
    either_map (λ h. (h.0, h.1.0, h.1.1)) (λ f. (f.0, (f.1, f.2)))
    (both? (le? 8 (length t.1)) (both? (le? (length t.1) 16) (all? (filled? l) t.1)))

record_ok? : (d : ℕ) (r : Record) → Either (RecordOk d r)
record_ok? d r =
    either_map (λ h. record { ident = h.0; stage = h.1.0; coords = h.1.1 }) (λ o. (o.ident, (o.stage, o.coords)))
    (both? (le? 1 r.id) (both? (le? r.stage 5) (all? (λ c. le? c 2000) (take d r.coords))))

-- each number is there at most once
distinct? : (xs : List ℕ) → Either ((i : ℕ) → mult i xs ≤ 1)
unfolding mult
distinct? [] = inl (λ i. omega arith)
distinct? (x ∷ xs) =
    either_map
    (λ h i. decide i x
    (λ e. subst (λ (k : ℕ). mult k (x ∷ xs) ≤ 1) (sym e) (omega (arith, mult_self x xs, h.0)))
    (λ n. omega (arith, mult_not i x xs n, h.1 i)))
    (λ f. (omega (arith, f x, mult_self x xs), λ i. omega (arith, f i, mult_more i x xs)))
    (both? (eq? (mult x xs) 0) (distinct? xs))

-- each number below n is there as often as f says
below? : (f : ℕ → ℕ) (xs : List ℕ) (n : ℕ) → Either ((p : ℕ) → p < n → mult p xs ≡ f p)
below? f xs zero = inl (λ p h. absurd (omega arith))
below? f xs (suc n) =
    either_map
    (λ h p l. decide p n (λ e. subst (λ (k : ℕ). mult k xs ≡ f k) (sym e) h.0) (λ d. h.1 p (omega (arith, d))))
    (λ g. (g n (omega arith), λ p l. g p (omega arith)))
    (both? (eq? (mult n xs) (f n)) (below? f xs n))

past : (v : View) (p : ℕ) → v.count ≤ p → indicator (is_page v p) ≡ 0
past v p h = by_cases (ltb 0 p) (λ a. rw (a, le-ltb p v.count h)) (λ a. rw a)

once? : (v : View) (xs : List ℕ) → Either ((p : ℕ) → mult p xs ≡ indicator (is_page v p))
once? v xs =
    either_map
    (λ h p. ⊎_elim (λ l. h.1 p l)
    (λ n. let g : v.count ≤ p = omega (arith, n) in
    decide (mult p xs) 0 (λ e. e ∙ sym (past v p g)) (λ d. absurd (omega (arith, mult_of_all h.0 p (omega (arith, d))))))
    (le? (suc p) v.count))
    (λ f. (all_of_mult xs (λ q l. ⊎_elim (λ y. y) (λ n. absurd (omega (arith, f q, past v q (omega (arith, n)), l))) (le? (suc q) v.count)), λ p l. f p))
    (both? (all? (λ x. le? (suc x) v.count) xs) (below? (λ p. indicator (is_page v p)) xs v.count))

-- soundness
pub sound? : (v : View) → Either (Sound v)
sound? v =
    either_map
    (λ h. record {
      lent = h.0;
      size = h.1.0;
      d = h.1.1.0;
      rep = h.1.1.1.0;
      root_fill = h.1.1.1.1.0;
      fills = h.1.1.1.1.1.0;
      order = h.1.1.1.1.1.1.0;
      ranges = h.1.1.1.1.1.1.1.0;
      distinct = h.1.1.1.1.1.1.1.1.0;
      total = h.1.1.1.1.1.1.1.1.1.0;
      most = h.1.1.1.1.1.1.1.1.1.1.0;
      chain = h.1.1.1.1.1.1.1.1.1.1.1.0;
      fresh = h.1.1.1.1.1.1.1.1.1.1.1.1.0;
      once = h.1.1.1.1.1.1.1.1.1.1.1.1.1;
    })
    (λ s. (s.lent, (s.size, (s.d, (s.rep, (s.root_fill, (s.fills, (s.order, (s.ranges, (s.distinct, (s.total, (s.most, (s.chain, (s.fresh, s.once))))))))))))))
    (both? (permitted? v.lent)
    (both? (eq? (v.size * 1024) v.lent)
    (both? (both? (le? 1 v.d) (le? v.d 16))
    (both? (rep? (suc v.level) v (tree_of v))
    (both? (root_filled? v.level (tree_of v))
    (both? (all? (filled? v.level) (tree_of v).1)
    (both? (ascends? (map (rank_of v.d) (live v)))
    (both? (all? (record_ok? v.d) (live v))
    (both? (distinct? (map ident_of (live v)))
    (both? (eq? v.total (length (live v)))
    (both? (le? v.total 65535)
    (both? (eq? v.rest 0)
    (both? (both? (le? 1 v.fresh) (le? v.fresh v.count))
    (once? v (pages (suc v.level) (tree_of v) ++ (v.freed ++ fresh_pages v))))))))))))))))

pub sound_index? : (b : List ℕ) → Either (SoundIndex b)
sound_index? b = sound? (view_of b)
