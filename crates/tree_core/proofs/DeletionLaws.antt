-- The steps of a deletion. Assumes nothing.
use Rattle.std.proofs.Common.{◌≡◌, refl, sym, ap, ◌∙◌, ◌≢◌, true, false, not, List, [], ◌∷◌, ◌++◌, ℕ, zero, suc, ◌+◌, ◌-◌, ◌≤◌, ◌<◌, arith, add-one, sub-one, leb, eqb, length, take, drop, set, length-append, length-take, take_all, leb-true, leb-false, lt-ltb, le-ltb, le-leb, eq-eqb, ne_eqb}
use Rattle.std.proofs.Math.Seq.{take-set-le, take-set-lt, set_out}
use borrow.Author.Tests.{lt-leb}
use Rattle.lists.specs.Leading.{leading}
use Rattle.lists.specs.Tests.{by_cases}
use Rattle.pagestore_page.specs.declared.Record.{Record}
use Rattle.pagestore_page.specs.declared.Entry.{Entry}
use Rattle.pagestore.specs.Store.{features, root, level, total, leaf_at, inner_at, records_in, entries_in, set_leaf, set_inner, field_at, set_field, free_page}
use Rattle.tree_model.specs.Trees.{rank_of}
use Rattle.tree_model.specs.Inserting.{choose}
use Rattle.tree_model.specs.Deleting.{delete_record, rebalanced_items, left_of, other_ident, left_count}
use Rattle.tree_core.specs.Entries.{child_at, leaf_entry, inner_entry}
use Rattle.tree_core.specs.Deletion.{put_rebalanced, rebalanced_pages, leave, fix_underflow, delete_at, collapse_root, take_from_total, delete_from, rebalanced_below}
use Rattle.tree_core.specs.CodeTerms.{grown_list, LeftDone, deleted_of, RewriteDone}
use Rattle.tree_core.specs.declared.Grown.{Grown}
use Rattle.tree_core.specs.declared.Grown.TheVariants.{One, Two}
use Rattle.tree_core.specs.declared.Left.{Left}

-- ---- items without one

pub delete_leading : (i : ℕ) (rs : List Record) → take (leading (other_ident i) rs) rs ++ drop (suc (leading (other_ident i) rs)) rs ≡ delete_record i rs
unfolding delete_record leading
delete_leading i [] = refl
delete_leading i (r ∷ rs) = by_cases (eqb r.id i) (λ e. rw e) (λ e. rw e (ap (λ (l : List Record). r ∷ l) (delete_leading i rs)))

pub delete_is : (i k : ℕ) (rs : List Record) → i ≡ leading (other_ident k) rs → take i rs ++ ([] ++ drop (i + 1) rs) ≡ delete_record k rs
delete_is i k rs e = rw (add-one i, e) (delete_leading k rs)

-- ---- two neighbours

module _ {A : Type 0} where
  -- (n and m are the numbers of their items)
  module _ (xs ys : List A) (n m k : ℕ) (x : n ≡ length xs) (y : m ≡ length ys) (e : k ≡ left_count n m) where
    cut_is : k ≡ left_count (length xs) (length ys)
    cut_is = rw (x, y) at e

    pub merged_items : {us : List A} → k ≡ n + m → us ≡ take k (xs ++ ys) → us ∷ [] ≡ rebalanced_items xs ys
    unfolding rebalanced_items
    merged_items {us} f g =
        let w : us ≡ xs ++ ys = g ∙ take_all k (xs ++ ys) (omega (arith, length-append xs ys)) in
        rw (eq-eqb (left_count (length xs) (length ys)) (length xs + length ys) (omega (arith, cut_is))) (ap (λ (l : List A). l ∷ []) w)

    pub redistributed_items : {us vs : List A} → k ≢ n + m → us ≡ take k (xs ++ ys) → vs ≡ drop k (xs ++ ys) → us ∷ vs ∷ [] ≡ rebalanced_items xs ys
    unfolding rebalanced_items
    redistributed_items {us} {vs} f g h =
        rw (ne_eqb (left_count (length xs) (length ys)) (length xs + length ys) (λ (z : left_count (length xs) (length ys) ≡ length xs + length ys). f (omega (arith, cut_is))), ← cut_is) (rw (g, h) refl)

  module _ (write : List ℕ → ℕ → List A → List ℕ) (entry : ℕ → List A → Entry) (b : List ℕ) (p q : ℕ) where
    pub put_merged : {us : List A} {b1 y : List ℕ} {e : Entry} → b1 ≡ write b p us → y ≡ free_page b1 q → e ≡ entry p us → RewriteDone (put_rebalanced write entry b p q (us ∷ [])) y (One e)
    unfolding put_rebalanced
    put_merged f g h = record { bytes = rw f at g; entries = ap (λ (x : Entry). x ∷ []) h }

    pub put_redistributed : {us vs : List A} {b1 y : List ℕ} {e f : Entry} → b1 ≡ write b p us → y ≡ write b1 q vs → e ≡ entry p us → f ≡ entry q vs
        → RewriteDone (put_rebalanced write entry b p q (us ∷ vs ∷ [])) y (Two e f)
    unfolding put_rebalanced
    put_redistributed {us} {vs} {b1} {y} {e} {f} h k i j = record { bytes = cc; entries = cc }

-- ---- the page above

pub left_next : (i n : ℕ) → i + 1 < n → i ≡ left_of i n
unfolding left_of
left_next i n h = rw (lt-ltb (suc i) n (omega arith))

pub left_before : (i n : ℕ) → n ≤ i + 1 → i - 1 ≡ left_of i n
unfolding left_of
left_before i n h = rw (le-ltb (suc i) n (omega arith))

pub set_in : {A : Type 0} (slots : List A) (c i : ℕ) (e : A) → take c (set slots i e) ≡ set (take c slots) i e
set_in slots c i e =
    by_cases (leb c i)
    (λ t. let h = leb-true c i t in take-set-le c slots i e h ∙ sym (set_out (take c slots) i e (omega (arith, length-take c slots))))
    (λ t. take-set-lt c slots i e (leb-false c i t))

pub leave_is : (l : ℕ) (b : List ℕ) (p : ℕ) (es : List Entry) {y : List ℕ} {x : Left} → y ≡ set_inner b p l es → x.entry ≡ inner_entry p es → x.count ≡ length es → LeftDone (leave l b p es) y x
leave_is l b p es f g h = record { bytes = f; entry = g; count = h }

pub rebalanced_below_law : (d l h : ℕ) (b : List ℕ) (p : ℕ) (es : List Entry) (i n : ℕ) {j u w v : ℕ} {fs : List Entry} {b1 y : List ℕ} {g : Grown} {x : Left}
    → n ≡ length es → j ≡ left_of i n → u ≡ child_at es j → w ≡ child_at es (j + 1) → RewriteDone (rebalanced_pages d l b u w) b1 g
    → v ≡ h → fs ≡ take j es ++ (grown_list g ++ drop (j + 2) es) → LeftDone (leave v b1 p fs) y x → LeftDone (rebalanced_below d l h b p es i) y x
unfolding rebalanced_below
rebalanced_below_law d l h b p es i n {j} {u} {w} {v} {fs} {b1} {y} {g} {x} n= j= u= w= o v= fs= q =
    let two : j + 2 ≡ suc (suc j) = omega arith in
    let fs' : fs ≡ take j es ++ (grown_list g ++ drop (suc (suc j)) es) = fs= ∙ ap (λ (m : ℕ). take j es ++ (grown_list g ++ drop m es)) two in
    rw (fs', v=, o.bytes, o.entries, u=, w=, add-one j, j=, n=) at q

pub fix_none : (d l : ℕ) (b : List ℕ) (p : ℕ) (es : List Entry) (i : ℕ) (o : Left) {v : ℕ} {fs : List Entry} {y : List ℕ} {x : Left} → 0 < l → v ≡ l → fs ≡ set es i o.entry → 8 ≤ o.count
    → LeftDone (leave v b p fs) y x → LeftDone (fix_underflow d (l - 1) p es i (deleted_of b o)) y x
unfolding fix_underflow
fix_none d zero b p es i o z v= fs= h q = absurd (omega arith)
fix_none d (suc l) b p es i o z v= fs= h q = rw (sub-one, le-leb 8 o.count h) (rw (v=, fs=) at q)

pub fix_rebalanced : (d l : ℕ) (b : List ℕ) (p : ℕ) (es : List Entry) (i : ℕ) (o : Left) {v : ℕ} {fs : List Entry} {y : List ℕ} {x : Left} → 0 < l → v ≡ l → fs ≡ set es i o.entry → o.count < 8
    → LeftDone (rebalanced_below d (l - 1) v b p fs i) y x → LeftDone (fix_underflow d (l - 1) p es i (deleted_of b o)) y x
unfolding fix_underflow
fix_rebalanced d zero b p es i o z v= fs= h q = absurd (omega arith)
fix_rebalanced d (suc l) b p es i o z v= fs= h q =
    rw (sub-one, lt-leb 8 o.count h) (rw (v=, fs=, sub-one) at q)

-- ---- one step of the recursion

pub delete_leaf : (d : ℕ) (b : List ℕ) (p : ℕ) (x : Record) {rs : List Record} {y : List ℕ} {z : Left} → rs ≡ delete_record x.id (records_in (leaf_at b p))
    → y ≡ set_leaf b p rs → z.entry ≡ leaf_entry d p rs → z.count ≡ length rs → LeftDone (delete_at d 0 b p x) y z
unfolding delete_at
delete_leaf d b p x e f g h = record { bytes = rw e at f; entry = rw e at g; count = rw e at h }

pub delete_zero : (d l : ℕ) (b : List ℕ) (p : ℕ) (x : Record) {y : List ℕ} {z : Left} → l ≡ 0 → LeftDone (delete_at d 0 b p x) y z → LeftDone (delete_at d l b p x) y z
delete_zero d l b p x e h = rw e h

pub delete_inner : (d l : ℕ) (b : List ℕ) (p : ℕ) (x : Record) {k i child : ℕ} {es : List Entry} {b1 y : List ℕ} {o z : Left}
    → l ≢ 0 → k ≡ rank_of d x → es ≡ entries_in (inner_at b p) → i ≡ choose k (entries_in (inner_at b p)) → child ≡ child_at (entries_in (inner_at b p)) i
    → LeftDone (delete_at d (l - 1) b child x) b1 o → LeftDone (fix_underflow d (l - 1) p es i (deleted_of b1 o)) y z → LeftDone (delete_at d l b p x) y z
unfolding delete_at
delete_inner d zero b p x n k= es= i= c= h q = absurd (n refl)
delete_inner d (suc l) b p x {k} {i} {child} {es} {b1} {y} {o} {z} n k= es= i= c= h q =
    let f : LeftDone (delete_at d l b child x) b1 o = rw sub-one at h in
    let q' : LeftDone (fix_underflow d l p es i (deleted_of b1 o)) y z = rw sub-one at q in
    rw (f.bytes, f.entry, f.count, c=, i=, k=, es=) at q'

-- ---- the root

pub root_collapses : (l : ℕ) (b : List ℕ) (p : ℕ) {c : ℕ} {es : List Entry} {b1 b2 y : List ℕ} → 0 < l → es ≡ entries_in (inner_at b p) → c ≡ child_at es 0
    → b1 ≡ set_field root b c → b2 ≡ set_field level b1 (l - 1) → y ≡ free_page b2 p → y ≡ collapse_root l b p 1
unfolding collapse_root
root_collapses zero b p z es= c= b1= b2= y= = absurd (omega arith)
root_collapses (suc l) b p {c} {es} {b1} {b2} {y} z es= c= b1= b2= y= = let b2' : b2 ≡ set_field level b1 l = rw sub-one at b2= in cc

pub root_leaf : (l : ℕ) (b : List ℕ) (p n : ℕ) → l ≡ 0 → b ≡ collapse_root l b p n
unfolding collapse_root
root_leaf l b p n e = rw e

pub root_stays : (l : ℕ) (b : List ℕ) (p n : ℕ) → n ≢ 1 → b ≡ collapse_root l b p n
unfolding collapse_root
root_stays zero b p n e = refl
root_stays (suc l) b p n e = rw (ne_eqb n 1 e)

pub root_one : (l : ℕ) (b : List ℕ) (p n : ℕ) {y : List ℕ} → n ≡ 1 → y ≡ collapse_root l b p 1 → y ≡ collapse_root l b p n
root_one l b p n e h = rw e h

pub total_less : (b : List ℕ) {n m : ℕ} {y : List ℕ} → n ≡ field_at total b → m ≡ n - 1 → y ≡ set_field total b m → y ≡ take_from_total b
unfolding take_from_total
total_less b p q r = rw (q, p) at r

pub delete_steps : (b : List ℕ) (x : Record) {d l p : ℕ} {b1 b2 y : List ℕ} {o : Left} → d ≡ field_at features b → l ≡ field_at level b → p ≡ field_at root b
    → LeftDone (delete_at d l b p x) b1 o → b2 ≡ collapse_root l b1 p o.count → y ≡ take_from_total b2 → y ≡ delete_from b x
unfolding delete_from
delete_steps b x {d} {l} {p} {b1} {b2} {y} {o} d= l= p= h b2= y= =
    y= ∙ ap take_from_total (b2= ∙ rw (h.bytes, h.count, d=, l=, p=))

-- ---- tests

pub other_no : (a i : ℕ) → a ≡ i → not (eqb a i) ≡ false
other_no a i e = rw (eq-eqb a i e)

pub other_yes : (a i : ℕ) → a ≢ i → not (eqb a i) ≡ true
other_yes a i e = rw (ne_eqb a i e)
