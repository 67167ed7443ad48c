-- Which page serves which level: lower levels take their new page first, and give up a page first.
use Rattle.std.specs.Prelude.{◌≡◌, refl, Bool, true, false, ◌≢◌, List, [], ◌∷◌, ◌++◌, map, ℕ, zero, suc, ◌+◌, ◌≤◌, ◌<◌, leb, ltb, eqb, length, take, drop, get_or, set}
use Rattle.std.proofs.Common.{sym, ap, ◌∙◌, append-nil, arith, length-set, take-append-drop, get_or-drop, leb-true, leb-false, le-leb, ltb-true, ltb-false, eqb-true, lt-ltb, le-ltb, ne_eqb}
use Rattle.std.proofs.lemmas.Bool.{lt-leb, eqb-false}
use Rattle.lists.specs.Basics.{if, indicator, All, none, also, concat_map, concat_map_append, all_map}
use Rattle.lists.specs.Choices.{bool_cases, indicator_le}
use Rattle.lists.specs.Counts.{mult, mult_append, mult_none}
use Rattle.lists.specs.ConcatMapLaws.{all_mapped}
use Rattle.lists.specs.Parts.{length_replaced, concat_map_split, concat_map_three}
use Rattle.lists.specs.AscendingBy.{Descending, low, down, length_ins}
use Rattle.lists.specs.Tabulated.{all_at}
use Rattle.lists.specs.Tests.{false_true, by_cases}
use Rattle.pagestore_page.specs.declared.Record.{Record}
use Rattle.pagestore.specs.Store.{page_at, level_at, level_of}
use Rattle.pagestore.specs.Store.PageLaws.{page_level}
use Rattle.tree_model.specs.Trees.{Item, pages, rank_of}
use Rattle.tree_model.specs.TreeLaws.{level_node}
use Rattle.tree_model.specs.Inserting.{replaced, insert_record, no_tree, chosen, Cut, cut, insert_tree, run_of}
use Rattle.tree_model.specs.Deleting.{left_of, delete_tree}
use Rattle.tree_laws.specs.Shapes.{Some, Root, ok_root, chosen_lt}
use Rattle.tree_laws.specs.InsertTree.{run_le, over, under, insert_took}
use Rattle.tree_laws.specs.DeleteTree.{Balanced, two, one, pair_lt, pair_balanced, same_page, delete_near, gives, given}
use Rattle.tree_laws.specs.DeleteRoot.{given_root}
use Rattle.tree_laws.specs.Frames.{Held}

-- the pages of level k of an item
unfoldable pub pages_of : ℕ → (l : ℕ) → Item l → List ℕ
pages_of k zero r = []
pages_of k (suc l) t = if (eqb k l) (t.0 ∷ []) (concat_map (pages_of k l) t.1)

-- the level of a page that is held is its place in the tree
pub kids_level : (d l : ℕ) (b : List ℕ) (k q : ℕ) → ((x : Item l) → Held d l b x → 0 < mult q (pages_of k l x) → level_of (page_at b q) ≡ k) → {ts : List (Item l)} → All (Held d l b) ts → 0 < mult q (concat_map (pages_of k l) ts) → level_of (page_at b q) ≡ k
unfolding concat_map mult
kids_level d l b k q f none h = absurd (omega arith)
kids_level d l b k q f (also {x = x} {xs = xs} a t) h =
    by_cases (ltb 0 (mult q (pages_of k l x)))
    (λ e. f x a (ltb-true 0 _ e))
    (λ e. kids_level d l b k q f t (omega (arith, ltb-false 0 (mult q (pages_of k l x)) e, mult_append q (pages_of k l x) (concat_map (pages_of k l) xs))))

pub held_level : (d l : ℕ) (b : List ℕ) (k q : ℕ) (x : Item l) → Held d l b x → 0 < mult q (pages_of k l x) → level_of (page_at b q) ≡ k
unfolding pages_of Held mult
held_level d zero b k q x h m = absurd (omega arith)
held_level d (suc l) b k q t h m =
    bool_cases (λ c. eqb k l ≡ c → 0 < mult q (if c (t.0 ∷ []) (concat_map (pages_of k l) t.1)) → level_of (page_at b q) ≡ k) (eqb k l)
    (λ e f g. by_cases (eqb q t.0)
    (λ z. rw (eqb-true q t.0 z, eqb-true k l e) (ap level_of h.0 ∙ level_node d l t.1))
    (λ z. absurd (let y : indicator (eqb q t.0) ≡ 0 = ap indicator z in omega arith)))
    (λ e f g. kids_level d l b k q (held_level d l b k q) h.1 g)
    refl m

flats_le : (k q l : ℕ) → ((x : Item l) → mult q (pages_of k l x) ≤ mult q (pages l x)) → (ts : List (Item l)) → mult q (concat_map (pages_of k l) ts) ≤ mult q (concat_map (pages l) ts)
unfolding concat_map mult
flats_le k q l f [] = omega arith
flats_le k q l f (x ∷ xs) = omega (arith, f x, flats_le k q l f xs, mult_append q (pages_of k l x) (concat_map (pages_of k l) xs), mult_append q (pages l x) (concat_map (pages l) xs))

-- they are pages of it
of_le : (k q l : ℕ) (x : Item l) → mult q (pages_of k l x) ≤ mult q (pages l x)
unfolding pages_of pages mult
of_le k q zero x = omega arith
of_le k q (suc l) t =
    let h : mult q (concat_map (pages_of k l) t.1) ≤ mult q (concat_map (pages l) t.1) = flats_le k q l (of_le k q l) t.1 in
    bool_cases (λ c. mult q (if c (t.0 ∷ []) (concat_map (pages_of k l) t.1)) ≤ indicator (eqb q t.0) + mult q (concat_map (pages l) t.1)) (eqb k l) (λ e. omega arith) (λ e. omega arith)

pub pages_of_le : (k q l : ℕ) (ts : List (Item l)) → mult q (concat_map (pages_of k l) ts) ≤ mult q (concat_map (pages l) ts)
pages_of_le k q l ts = flats_le k q l (of_le k q l) ts

-- INSERTION

-- the page at place k, if there are more than k pages wanted
abbrev pub placed : ℕ → ℕ → List ℕ → List ℕ
placed k n fs = if (ltb k n) (get_or fs k 0 ∷ []) []

no_level : (k : ℕ) (rs : List Record) → concat_map (pages_of k 0) rs ≡ []
unfolding concat_map pages_of
no_level k [] = refl
no_level k (r ∷ rs) = no_level k rs

-- a page with the items xs, cut or not, where it is of level k and where it is not
level_by : {A : Type 0} (f : A → List ℕ) (q p g : ℕ) (fs gs : List ℕ) (xs : List A) (here whole : Bool)
    → mult q (concat_map (λ (t : ℕ × List A). if here (t.0 ∷ []) (concat_map f t.1)) (if {A = Cut A} whole (record { trees = (p, xs) ∷ []; free = fs }) (record { trees = (p, take 9 xs) ∷ (g, drop 9 xs) ∷ []; free = gs })).trees)
    ≡ mult q (if here (p ∷ []) (concat_map f xs)) + mult q (if here (if whole [] (g ∷ [])) [])
unfolding concat_map mult
level_by f q p g fs gs xs true true = omega arith
level_by f q p g fs gs xs true false = omega arith
level_by f q p g fs gs xs false true = ap (mult q) (append-nil (concat_map f xs)) ∙ omega arith
level_by f q p g fs gs xs false false =
    let A = concat_map f (take 9 xs) in
    let D = concat_map f (drop 9 xs) in
    let e : mult q (concat_map f xs) ≡ mult q A + mult q D = ap (mult q) (ap (concat_map f) (sym (take-append-drop 9 xs)) ∙ concat_map_append f (take 9 xs) (drop 9 xs)) ∙ mult_append q A D in
    let g : mult q (A ++ (D ++ [])) ≡ mult q A + mult q (D ++ []) = mult_append q A (D ++ []) in
    let h : mult q (D ++ []) ≡ mult q D = ap (mult q) (append-nil D) in
    omega arith

cut_level : (k l q p : ℕ) (fs : List ℕ) (xs : List (Item l))
    → mult q (concat_map (pages_of k (suc l)) (cut p fs xs).trees) ≡ mult q (if (eqb k l) (p ∷ []) (concat_map (pages_of k l) xs)) + mult q (if (eqb k l) (if (leb (length xs) 16) [] (get_or fs 0 0 ∷ [])) [])
unfolding cut pages_of
cut_level k l q p fs xs = level_by (pages_of k l) q p (get_or fs 0 0) fs (drop 1 fs) xs (eqb k l) (leb (length xs) 16)

-- the new page of a leaf that is full
leaf_placed : (k m n : ℕ) (fs : List ℕ) → n ≡ suc m → if (eqb k 0) (if (leb n 16) [] (get_or fs 0 0 ∷ [])) [] ≡ placed k (indicator (leb 16 m)) fs
leaf_placed zero m n fs e =
    by_cases (leb 16 m)
    (λ f. let h : leb n 16 ≡ false = lt-leb n 16 (omega (arith, leb-true 16 m f)) in rw (f, h))
    (λ f. let h : leb n 16 ≡ true = le-leb n 16 (omega (arith, leb-false 16 m f)) in rw (f, h))
leaf_placed (suc k) m n fs e =
    let a : eqb (suc k) 0 ≡ false = ne_eqb (suc k) 0 (λ (z : suc k ≡ 0). omega arith) in
    let b : ltb (suc k) (indicator (leb 16 m)) ≡ false = le-ltb (suc k) (indicator (leb 16 m)) (omega (arith, indicator_le (leb 16 m))) in
    rw (a, b)

-- the page's own level
here_placed : (l m n len : ℕ) (fs : List ℕ) → n ≤ suc l → m ≤ 16 → len ≡ m + indicator (eqb n (suc l))
    → if (leb len 16) [] (get_or (drop n fs) 0 0 ∷ []) ≡ placed (suc l) (n + indicator (if (eqb n (suc l)) (leb 16 m) false)) fs
here_placed l m n len fs le h e =
    by_cases (leb len 16)
    (λ f. let b : if (eqb n (suc l)) (leb 16 m) false ≡ false = under (eqb n (suc l)) m len e (leb-true len 16 f) in
    let g : ltb (suc l) (n + 0) ≡ false = le-ltb (suc l) (n + 0) (omega arith) in rw (f, b, g))
    (λ f. let g : 16 < len = leb-false len 16 f in
    let b : if (eqb n (suc l)) (leb 16 m) false ≡ true = over (eqb n (suc l)) m len e h g in
    let s : n ≡ suc l = split_run (eqb n (suc l)) (leb 16 m) n l b refl in
    let c : ltb (suc l) (n + 1) ≡ true = lt-ltb (suc l) (n + 1) (omega arith) in
    let z : n + 0 ≡ suc l = omega arith in
    rw (f, b, c, get_or-drop n fs 0 0, z))
  where
    split_run : (c f : Bool) (n l : ℕ) → if c f false ≡ true → eqb n (suc l) ≡ c → n ≡ suc l
    split_run true f n l e g = eqb-true n (suc l) g
    split_run false f n l e g = false_true e

-- another level
other_placed : (k l n m : ℕ) (fs : List ℕ) → k ≢ suc l → placed k (n + indicator (if (eqb n (suc l)) (leb 16 m) false)) fs ≡ placed k n fs
other_placed k l n m fs ne = ap (λ (c : Bool). if c (get_or fs k 0 ∷ []) []) (go (if (eqb n (suc l)) (leb 16 m) false) (both (eqb n (suc l)) (leb 16 m) refl))
  where
    both : (c f : Bool) → eqb n (suc l) ≡ c → if c f false ≡ true → n ≡ suc l
    both true f e g = eqb-true n (suc l) e
    both false f e g = false_true g

    go : (c : Bool) → (c ≡ true → n ≡ suc l) → ltb k (n + indicator c) ≡ ltb k n
    go true h =
        let s : n ≡ suc l = h refl in
        by_cases (ltb k n) (λ e. rw e (lt-ltb k (n + 1) (omega (arith, ltb-true k n e)))) (λ e. rw e (le-ltb k (n + 1) (omega (arith, ltb-false k n e, ne))))
    go false h = ap (ltb k) (let z : n + 0 ≡ n = omega arith in z)

own_level : (k l : ℕ) (t : Item (suc l)) (c : Bool) → eqb k l ≡ c → pages_of k (suc l) t ≡ if c (t.0 ∷ []) (concat_map (pages_of k l) t.1)
unfolding pages_of
own_level k l t c e = ap (λ (z : Bool). if z (t.0 ∷ []) (concat_map (pages_of k l) t.1)) e

cut_own : (k l q p : ℕ) (fs : List ℕ) (xs : List (Item l)) (c : Bool) → eqb k l ≡ c
    → mult q (concat_map (pages_of k (suc l)) (cut p fs xs).trees) ≡ mult q (if c (p ∷ []) (concat_map (pages_of k l) xs)) + mult q (if c (if (leb (length xs) 16) [] (get_or fs 0 0 ∷ [])) [])
cut_own k l q p fs xs c e =
    cut_level k l q p fs xs ∙ ap (λ (z : Bool). mult q (if z (p ∷ []) (concat_map (pages_of k l) xs)) + mult q (if z (if (leb (length xs) 16) [] (get_or fs 0 0 ∷ [])) [])) e

leaf_level : (d : ℕ) (r : Record) (k q : ℕ) (fs : List ℕ) (t : Item 1) (c : Bool) → eqb k 0 ≡ c
    → mult q (concat_map (pages_of k 1) (cut t.0 fs (insert_record d r t.1)).trees) ≡ mult q (pages_of k 1 t) + mult q (placed k (indicator (leb 16 (length t.1))) fs)
leaf_level d r k q fs t c e =
    let xs = insert_record d r t.1 in
    let a = cut_own k 0 q t.0 fs xs c e in
    let b : mult q (pages_of k 1 t) ≡ mult q (if c (t.0 ∷ []) (concat_map (pages_of k 0) t.1)) = ap (mult q) (own_level k 0 t c e) in
    let f : mult q (if c (t.0 ∷ []) (concat_map (pages_of k 0) xs)) ≡ mult q (if c (t.0 ∷ []) (concat_map (pages_of k 0) t.1)) =
    ap (λ (z : List ℕ). mult q (if c (t.0 ∷ []) z)) (no_level k xs ∙ sym (no_level k t.1)) in
    let g : mult q (if c (if (leb (length xs) 16) [] (get_or fs 0 0 ∷ [])) []) ≡ mult q (placed k (indicator (leb 16 (length t.1))) fs) =
    ap (mult q) (ap (λ (z : Bool). if z (if (leb (length xs) 16) [] (get_or fs 0 0 ∷ [])) []) (sym e) ∙ leaf_placed k (length t.1) (length xs) fs (length_ins (rank_of d) r t.1)) in
    omega arith

-- the page at place k of the free pages goes to level k
pub insert_level : (d l : ℕ) (r : Record) (k q : ℕ) (fs : List ℕ) (t : Item (suc l)) → Root l t
    → mult q (concat_map (pages_of k (suc l)) (insert_tree d l r fs t).trees) ≡ mult q (pages_of k (suc l) t) + mult q (placed k (run_of d l (rank_of d r) t) fs)
unfolding insert_tree run_of Some
insert_level d zero r k q fs t o = leaf_level d r k q fs t (eqb k 0) refl
insert_level d (suc l) r k q fs t o =
    let i = chosen d l (rank_of d r) t.1 in
    let lt = chosen_lt d l (rank_of d r) t.1 (omega (arith, o.some)) in
    let c = get_or t.1 i (no_tree l) in
    let okc = ok_root l c (all_at o.subs i (no_tree l) lt) in
    let u = insert_tree d l r fs c in
    let n = run_of d l (rank_of d r) c in
    let m = length t.1 in
    let both : Bool = if (eqb n (suc l)) (leb 16 m) false in
    let xs = replaced i u.trees t.1 in
    let tk = insert_took d l r fs c okc in
    let len : length xs ≡ m + indicator (eqb n (suc l)) = omega (arith, length_replaced i u.trees t.1 lt, tk.trees) in
    by_cases (eqb k (suc l))
    (λ e. let same : k ≡ suc l = eqb-true k (suc l) e in
    let a : mult q (concat_map (pages_of k (suc (suc l))) (cut t.0 u.free xs).trees) ≡ mult q (t.0 ∷ []) + mult q (if (leb (length xs) 16) [] (get_or u.free 0 0 ∷ [])) =
    cut_own k (suc l) q t.0 u.free xs true e in
    let b : mult q (pages_of k (suc (suc l)) t) ≡ mult q (t.0 ∷ []) = ap (mult q) (own_level k (suc l) t true e) in
    let f : mult q (if (leb (length xs) 16) [] (get_or u.free 0 0 ∷ [])) ≡ mult q (placed k (n + indicator both) fs) =
    ap (mult q) (ap (λ (z : List ℕ). if (leb (length xs) 16) [] (get_or z 0 0 ∷ [])) tk.free
    ∙ here_placed l m n (length xs) fs (run_le d l (rank_of d r) c) o.most len ∙ ap (λ (z : ℕ). placed z (n + indicator both) fs) (sym same)) in
    omega arith)
    (λ e. let ne : k ≢ suc l = eqb-false k (suc l) e in
    let a : mult q (concat_map (pages_of k (suc (suc l))) (cut t.0 u.free xs).trees) ≡ mult q (concat_map (pages_of k (suc l)) xs) + mult q [] = cut_own k (suc l) q t.0 u.free xs false e in
    let b : mult q (pages_of k (suc (suc l)) t) ≡ mult q (concat_map (pages_of k (suc l)) t.1) = ap (mult q) (own_level k (suc l) t false e) in
    let z : mult q [] ≡ 0 = mult_none q in
    let ih : mult q (concat_map (pages_of k (suc l)) u.trees) ≡ mult q (pages_of k (suc l) c) + mult q (placed k n fs) = insert_level d l r k q fs c okc in
    let f : mult q (placed k (n + indicator both) fs) ≡ mult q (placed k n fs) = ap (mult q) (other_placed k l n m fs ne) in
    let ls = concat_map (pages_of k (suc l)) (take i t.1) in
    let rs = concat_map (pages_of k (suc l)) (drop (suc i) t.1) in
    let us = concat_map (pages_of k (suc l)) u.trees in
    let x : mult q (concat_map (pages_of k (suc l)) xs) ≡ mult q ls + (mult q us + mult q rs) =
    ap (mult q) (concat_map_three (pages_of k (suc l)) (take i t.1) u.trees (drop (suc i) t.1)) ∙ mult_append q ls (us ++ rs) ∙ ap (λ (y : ℕ). mult q ls + y) (mult_append q us rs) in
    let y : mult q (concat_map (pages_of k (suc l)) t.1) ≡ mult q ls + (mult q (pages_of k (suc l) c) + mult q rs) =
    ap (mult q) (concat_map_split (pages_of k (suc l)) t.1 i (no_tree l) lt) ∙ mult_append q ls (pages_of k (suc l) c ++ rs) ∙ ap (λ (w : ℕ). mult q ls + w) (mult_append q (pages_of k (suc l) c) rs) in
    omega arith)

-- DELETION

-- a page in the place of another with the same number
set_page_law : {A : Type 0} (ts : List (ℕ × List A)) (i j : ℕ) (x e : ℕ × List A) → x.0 ≡ (get_or ts i e).0 → (get_or (set ts i x) j e).0 ≡ (get_or ts j e).0
set_page_law [] i j x e h = refl
set_page_law (t ∷ ts) zero zero x e h = h
set_page_law (t ∷ ts) zero (suc j) x e h = refl
set_page_law (t ∷ ts) (suc i) zero x e h = refl
set_page_law (t ∷ ts) (suc i) (suc j) x e h = set_page_law ts i j x e h

-- levels that fall from n on
pub record Below (b : List ℕ) (n : ℕ) (ps : List ℕ) : Type 0 where
  pub levels : All (λ p. level_at b p < n) ps
  pub falling : Descending (map (level_at b) ps)

below_cons : (b : List ℕ) (n p : ℕ) (ps : List ℕ) → level_at b p ≡ n → Below b n ps → Below b (suc n) (p ∷ ps)
below_cons b n p ps e h =
    record {
      levels = also {x = p} (omega arith) (all_map (λ q (l : level_at b q < n). omega arith) h.levels);
      falling = down {x = level_at b p} (all_mapped (level_at b) ps (all_map (λ q (l : level_at b q < n). omega arith) h.levels)) h.falling;
    }

below_more : (b : List ℕ) (n : ℕ) (ps : List ℕ) → Below b n ps → Below b (suc n) ps
below_more b n ps h = record { levels = all_map (λ q (l : level_at b q < n). omega arith) h.levels; falling = h.falling }

gives_below : {A : Type 0} (b : List ℕ) (n p q : ℕ) {xs ys : List A} {zs : List (List A)} (ps : List ℕ) → Balanced xs ys zs → level_at b q ≡ n → Below b n ps → Below b (suc n) (gives p q zs ++ ps)
unfolding gives
gives_below b n p q ps (two e a c f g) l h = below_more b n ps h
gives_below b n p q ps (one e a c) l h = below_cons b n q ps l h

pub root_level_law : (d l : ℕ) (b : List ℕ) (t : Item (suc l)) → Held d (suc l) b t → level_at b t.0 ≡ l
unfolding Held
root_level_law d l b t h = sym (page_level b t.0) ∙ ap level_of h.0 ∙ level_node d l t.1

-- the pages given up below a page of level l
pub given_below : (d l : ℕ) (b : List ℕ) (r : Record) (t : Item (suc l)) → Root l t → Held d (suc l) b t → Below b l (given d l r t)
unfolding given Some Held
given_below d zero b r t o h = record { levels = none; falling = low }
given_below d (suc l) b r t o h =
    let i = chosen d l (rank_of d r) t.1 in
    let lt = chosen_lt d l (rank_of d r) t.1 (omega (arith, o.some)) in
    let c = get_or t.1 i (no_tree l) in
    let okc = all_at o.subs i (no_tree l) lt in
    let x = (delete_tree d l r [] c).tree in
    let nx = delete_near d l r [] c okc in
    let j = left_of i (length t.1) in
    let lj : suc j < length t.1 = rw (length-set t.1 i x) at (pair_lt l t.1 i x lt o.some o.subs nx) in
    let y = get_or t.1 (suc j) (no_tree l) in
    let e : (get_or (set t.1 i x) (suc j) (no_tree l)).0 ≡ y.0 = set_page_law t.1 i (suc j) x (no_tree l) (same_page d l r [] c) in
    let g : level_at b (get_or (set t.1 i x) (suc j) (no_tree l)).0 ≡ l = ap (level_at b) e ∙ root_level_law d l b y (all_at h.1 (suc j) (no_tree l) lj) in
    gives_below b l _ _ (given d l r c) (pair_balanced l t.1 i x lt o.some o.subs nx) g (given_below d l b r c (ok_root l c okc) (all_at h.1 i (no_tree l) lt))

-- and from an index
pub given_root_below : (d l : ℕ) (b : List ℕ) (r : Record) (t : Item (suc l)) → Root l t → Held d (suc l) b t → Below b (suc l) (given_root d l r t)
unfolding given_root
given_root_below d zero b r t o h = record { levels = none; falling = low }
given_root_below d (suc l) b r t o h =
    let g = given_below d (suc l) b r t o h in
    bool_cases (λ c. Below b (suc (suc l)) (if c (t.0 ∷ []) [] ++ given d (suc l) r t)) (eqb (length (delete_tree d (suc l) r [] t).tree.1) 1)
    (λ e. below_cons b (suc l) t.0 (given d (suc l) r t) (root_level_law d (suc l) b t h) g)
    (λ e. below_more b (suc l) (given d (suc l) r t) g)
