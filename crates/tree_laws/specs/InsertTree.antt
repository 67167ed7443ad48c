-- Insertion into a tree: its records, its fills, the pages that it takes. Nothing here speaks of bytes.
use Rattle.std.specs.Prelude.{◌≡◌, refl, Bool, true, false, List, [], ◌∷◌, ◌++◌, map, ℕ, zero, suc, ◌+◌, ◌-◌, ◌≤◌, ◌<◌, leb, eqb, length, take, drop, get_or}
use Rattle.std.proofs.Common.{sym, ap, ◌∙◌, append-nil, arith, take-append-drop, length-take, length-drop, drop-drop, leb-true, leb-false, eqb-true, le-leb, eq-eqb, ne_eqb}
use Rattle.std.proofs.lemmas.Bool.{lt-leb}
use Rattle.lists.specs.Basics.{if, indicator, All, none, also, concat_map, concat_map_append}
use Rattle.lists.specs.Choices.{bool_cases, if_cases}
use Rattle.lists.specs.Counts.{mult, mult_append}
use Rattle.lists.specs.Parts.{all_drop, all_replaced, length_replaced, concat_map_split, concat_map_three}
use Rattle.lists.specs.Tabulated.{all_take, all_at}
use Rattle.lists.specs.AscendingBy.{AscendingBy, rising_left, rising_right, ins_left, ins_right, ins_all, length_ins}
use Rattle.pagestore_page.specs.declared.Record.{Record}
use Rattle.pagestore_page.specs.Fits.{RecordFits}
use Rattle.tree_model.specs.Trees.{Item, records, pages, rank_of}
use Rattle.tree_model.specs.Inserting.{no_tree, chosen, insert_record, replaced, Cut, cut, insert_tree, run_of}
use Rattle.tree_model.specs.TreeLaws.{concat_map_records, no_pages_law}
use Rattle.tree_laws.specs.Shapes.{Ok, Some, Root, ok_root, chosen_lt, before_chosen, behind_chosen}

-- CUT

pub cut_cases : {A : Type 0} (P : Cut A → Type 0) (p : ℕ) (fs : List ℕ) (xs : List A)
    → (length xs ≤ 16 → P (record { trees = (p, xs) ∷ []; free = fs }))
    → (16 < length xs → P (record { trees = (p, take 9 xs) ∷ (get_or fs 0 0, drop 9 xs) ∷ []; free = drop 1 fs })) → P (cut p fs xs)
unfolding cut
cut_cases P p fs xs f g = if_cases P (leb (length xs) 16) _ _ (λ e. f (leb-true _ _ e)) (λ e. g (leb-false _ _ e))

cut_concat_map : {A B : Type 0} (f : A → List B) (p : ℕ) (fs : List ℕ) (xs : List A) → concat_map (λ t. concat_map f t.1) (cut p fs xs).trees ≡ concat_map f xs
unfolding concat_map
cut_concat_map {A} {B} f p fs xs =
    cut_cases (λ c. concat_map (λ t. concat_map f t.1) c.trees ≡ concat_map f xs) p fs xs (λ e. append-nil (concat_map f xs))
    (λ e. ap (λ (z : List B). concat_map f (take 9 xs) ++ z) (append-nil (concat_map f (drop 9 xs))) ∙ sym (concat_map_append f (take 9 xs) (drop 9 xs)) ∙ ap (concat_map f) (take-append-drop 9 xs))

-- RECORDS

-- what the pages of an insertion hold: the records with the new one in key order
pub insert_records : (d l : ℕ) (r : Record) (fs : List ℕ) (t : Item (suc l)) → Root l t → AscendingBy (rank_of d) (records (suc l) t)
    → concat_map (records (suc l)) (insert_tree d l r fs t).trees ≡ insert_record d r (records (suc l) t)
unfolding insert_tree records Some
insert_records d zero r fs t o s =
    cut_concat_map (records 0) t.0 fs (insert_record d r t.1) ∙ concat_map_records (insert_record d r t.1) ∙ ap (insert_record d r) (sym (concat_map_records t.1))
insert_records d (suc l) r fs t o s =
    let k = rank_of d r in
    let i = chosen d l k t.1 in
    let m : 0 < length t.1 = omega (arith, o.some) in
    let lt = chosen_lt d l k t.1 m in
    let c = get_or t.1 i (no_tree l) in
    let u = insert_tree d l r fs c in
    let ls : List Record = concat_map (records (suc l)) (take i t.1) in
    let rs : List Record = concat_map (records (suc l)) (drop (suc i) t.1) in
    let split : concat_map (records (suc l)) t.1 ≡ ls ++ (records (suc l) c ++ rs) = concat_map_split (records (suc l)) t.1 i (no_tree l) lt in
    let s' : AscendingBy (rank_of d) (ls ++ (records (suc l) c ++ rs)) = rw split at s in
    let ih : concat_map (records (suc l)) u.trees ≡ insert_record d r (records (suc l) c) =
    insert_records d l r fs c (ok_root l c (all_at o.subs i (no_tree l) lt)) (rising_left (rank_of d) (records (suc l) c) rs (rising_right (rank_of d) ls _ s')) in
    let low : insert_record d r (ls ++ (records (suc l) c ++ rs)) ≡ ls ++ insert_record d r (records (suc l) c ++ rs) =
    ins_left (rank_of d) r (records (suc l) c ++ rs) (before_chosen d l k t.1 m o.subs s) in
    let high : insert_record d r (records (suc l) c ++ rs) ≡ insert_record d r (records (suc l) c) ++ rs =
    ins_right (rank_of d) r (records (suc l) c) (behind_chosen d l k t.1 m o.subs s) in
    cut_concat_map (records (suc l)) t.0 u.free (replaced i u.trees t.1) ∙ concat_map_three (records (suc l)) (take i t.1) u.trees (drop (suc i) t.1) ∙ cc

-- FILLS

-- one page, or two that are filled
pub data Res (l : ℕ) : List (Item (suc l)) → Type 0 where
  one : {t : Item (suc l)} → Root l t → Res l (t ∷ [])
  two : {t u : Item (suc l)} → Ok (suc l) t → Ok (suc l) u → Res l (t ∷ u ∷ [])

cut_res : (l p : ℕ) (fs : List ℕ) (xs : List (Item l)) → (length xs ≤ 16 → Some l (p, xs)) → length xs ≤ 17 → All (Ok l) xs → Res l (cut p fs xs).trees
unfolding Ok
cut_res l p fs xs s m o =
    cut_cases (λ c. Res l c.trees) p fs xs (λ e. one (record { some = s e; most = e; subs = o }))
    (λ e. two (omega (arith, length-take 9 xs), omega (arith, length-take 9 xs), all_take 9 o) (omega (arith, length-drop 9 xs), omega (arith, length-drop 9 xs), all_drop 9 o))

-- a page that was filled leaves filled pages
cut_ok : (l p : ℕ) (fs : List ℕ) (xs : List (Item l)) → 8 ≤ length xs → length xs ≤ 17 → All (Ok l) xs → All (Ok (suc l)) (cut p fs xs).trees
unfolding Ok
cut_ok l p fs xs s m o =
    cut_cases (λ c. All (Ok (suc l)) c.trees) p fs xs (λ e. also (s, e, o) none)
    (λ e. also (omega (arith, length-take 9 xs), omega (arith, length-take 9 xs), all_take 9 o)
    (also (omega (arith, length-drop 9 xs), omega (arith, length-drop 9 xs), all_drop 9 o) none))

cut_few : {A : Type 0} (p : ℕ) (fs : List ℕ) (xs : List A) → (0 < length (cut p fs xs).trees) × (length (cut p fs xs).trees ≤ 2)
cut_few p fs xs = cut_cases (λ c. (0 < length c.trees) × (length c.trees ≤ 2)) p fs xs (λ e. omega arith) (λ e. omega arith)

pub insert_few : (d l : ℕ) (r : Record) (fs : List ℕ) (t : Item (suc l)) → (0 < length (insert_tree d l r fs t).trees) × (length (insert_tree d l r fs t).trees ≤ 2)
unfolding insert_tree
insert_few d zero r fs t = cut_few _ _ _
insert_few d (suc l) r fs t = cut_few _ _ _

pub insert_ok : (d l : ℕ) (r : Record) (fs : List ℕ) (t : Item (suc l)) → RecordFits r → Ok (suc l) t → All (Ok (suc l)) (insert_tree d l r fs t).trees
unfolding insert_tree Ok
insert_ok d zero r fs t h o =
    let n = length_ins (rank_of d) r t.1 in
    cut_ok zero t.0 fs (insert_record d r t.1) (omega arith) (omega arith) (ins_all (rank_of d) r h o.2)
insert_ok d (suc l) r fs t h o =
    let i = chosen d l (rank_of d r) t.1 in
    let lt = chosen_lt d l (rank_of d r) t.1 (omega arith) in
    let c = get_or t.1 i (no_tree l) in
    let u = insert_tree d l r fs c in
    let f = insert_few d l r fs c in
    let n = length_replaced i u.trees t.1 lt in
    cut_ok (suc l) t.0 u.free (replaced i u.trees t.1) (omega arith) (omega arith)
    (all_replaced i (insert_ok d l r fs c h (all_at o.2 i (no_tree l) lt)) o.2)

pub insert_res : (d l : ℕ) (r : Record) (fs : List ℕ) (t : Item (suc l)) → RecordFits r → Root l t → Res l (insert_tree d l r fs t).trees
unfolding insert_tree Some Ok
insert_res d zero r fs t h o =
    let n = length_ins (rank_of d) r t.1 in
    cut_res zero t.0 fs (insert_record d r t.1) (λ e. tt) (omega (arith, o.most)) (ins_all (rank_of d) r h o.subs)
insert_res d (suc l) r fs t h o =
    let i = chosen d l (rank_of d r) t.1 in
    let lt = chosen_lt d l (rank_of d r) t.1 (omega (arith, o.some)) in
    let c = get_or t.1 i (no_tree l) in
    let u = insert_tree d l r fs c in
    let f = insert_few d l r fs c in
    let n = length_replaced i u.trees t.1 lt in
    cut_res (suc l) t.0 u.free (replaced i u.trees t.1) (λ e. omega (arith, o.some)) (omega (arith, o.most))
    (all_replaced i (insert_ok d l r fs c h (all_at o.subs i (no_tree l) lt)) o.subs)

-- the first page of the result is the page that was there
pub insert_page : (d l : ℕ) (r : Record) (fs : List ℕ) (t : Item (suc l)) → get_or (map (λ x. x.0) (insert_tree d l r fs t).trees) 0 0 ≡ t.0
unfolding insert_tree
insert_page d zero r fs t = cut_cases (λ c. get_or (map (λ x. x.0) c.trees) 0 0 ≡ t.0) _ _ _ (λ e. refl) (λ e. refl)
insert_page d (suc l) r fs t = cut_cases (λ c. get_or (map (λ x. x.0) c.trees) 0 0 ≡ t.0) _ _ _ (λ e. refl) (λ e. refl)

-- PAGES TAKEN

-- the first n of the free pages are taken, and the page splits or not
pub record Took {A : Type 0} (fs : List ℕ) (c : Cut A) (n : ℕ) (split : Bool) : Type 0 where
  pub free : c.free ≡ drop n fs
  pub trees : length c.trees ≡ 1 + indicator split

cut_took : {A : Type 0} (p : ℕ) (fs : List ℕ) (xs : List A) (split : Bool) → (16 < length xs → split ≡ true) → (length xs ≤ 16 → split ≡ false) → Took fs (cut p fs xs) (indicator split) split
cut_took p fs xs split f g =
    cut_cases (λ c. Took fs c (indicator split) split) p fs xs (λ e. rw (g e) (record { free = refl; trees = refl }))
    (λ e. rw (f e) (record { free = refl; trees = refl }))

pub run_le : (d l k : ℕ) (t : Item (suc l)) → run_of d l k t ≤ suc l
unfolding run_of
run_le d zero k t = bool_cases (λ c. indicator c ≤ 1) (leb 16 (length t.1)) (λ e. omega arith) (λ e. omega arith)
run_le d (suc l) k t =
    let n = run_of d l k (get_or t.1 (chosen d l k t.1) (no_tree l)) in
    let ih : n ≤ suc l = run_le d l k (get_or t.1 (chosen d l k t.1) (no_tree l)) in
    bool_cases (λ c. n + indicator (if c (leb 16 (length t.1)) false) ≤ suc (suc l)) (eqb n (suc l))
    (λ e. bool_cases (λ c. n + indicator c ≤ suc (suc l)) (leb 16 (length t.1)) (λ f. omega arith) (λ f. omega arith)) (λ e. omega arith)

split_both : (l n m : ℕ) → n ≤ suc l → eqb (n + indicator (if (eqb n (suc l)) (leb 16 m) false)) (suc (suc l)) ≡ if (eqb n (suc l)) (leb 16 m) false
split_both l n m le =
    bool_cases (λ c. eqb (n + indicator (if c (leb 16 m) false)) (suc (suc l)) ≡ if c (leb 16 m) false) (eqb n (suc l))
    (λ e. let e' : n ≡ suc l = eqb-true n (suc l) e in
    bool_cases (λ d. eqb (n + indicator d) (suc (suc l)) ≡ d) (leb 16 m) (λ f. eq-eqb (n + 1) (suc (suc l)) (omega arith)) (λ f. ne_eqb (n + 0) (suc (suc l)) (λ (z : n + 0 ≡ suc (suc l)). omega arith)))
    (λ e. ne_eqb (n + 0) (suc (suc l)) (λ (z : n + 0 ≡ suc (suc l)). omega arith))

pub over : (c : Bool) (m len : ℕ) → len ≡ m + indicator c → m ≤ 16 → 16 < len → if c (leb 16 m) false ≡ true
over true m len e h g = le-leb 16 m (omega arith)
over false m len e h g = absurd (omega arith)

pub under : (c : Bool) (m len : ℕ) → len ≡ m + indicator c → len ≤ 16 → if c (leb 16 m) false ≡ false
under true m len e g = lt-leb 16 m (omega arith)
under false m len e g = refl

-- one level: the child took n pages and split or not
step_took : {A B : Type 0} (l : ℕ) (fs : List ℕ) (c : Cut B) (n p m : ℕ) (xs : List A) → Took fs c n (eqb n (suc l)) → n ≤ suc l → m ≤ 16 → length xs ≡ m + indicator (eqb n (suc l))
    → Took fs (cut p c.free xs) (n + indicator (if (eqb n (suc l)) (leb 16 m) false)) (eqb (n + indicator (if (eqb n (suc l)) (leb 16 m) false)) (suc (suc l)))
step_took l fs c n p m xs t le h len =
    let both : Bool = if (eqb n (suc l)) (leb 16 m) false in
    let same : eqb (n + indicator both) (suc (suc l)) ≡ both = split_both l n m le in
    let u = cut_took p c.free xs both (λ (g : 16 < length xs). over (eqb n (suc l)) m (length xs) len h g) (λ (g : length xs ≤ 16). under (eqb n (suc l)) m (length xs) len g) in
    rw same (record { free = u.free ∙ ap (drop (indicator both)) t.free ∙ drop-drop (indicator both) n fs; trees = u.trees })

-- exactly: as many pages as the run is long, and the page splits if the run takes it in
pub insert_took : (d l : ℕ) (r : Record) (fs : List ℕ) (t : Item (suc l)) → Root l t
    → Took fs (insert_tree d l r fs t) (run_of d l (rank_of d r) t) (eqb (run_of d l (rank_of d r) t) (suc l))
unfolding insert_tree run_of Some
insert_took d zero r fs t o =
    let n = length_ins (rank_of d) r t.1 in
    let e : eqb (indicator (leb 16 (length t.1))) 1 ≡ leb 16 (length t.1) = bool_cases (λ c. eqb (indicator c) 1 ≡ c) (leb 16 (length t.1)) (λ _. refl) (λ _. refl) in
    rw e (cut_took t.0 fs (insert_record d r t.1) (leb 16 (length t.1)) (λ (g : 16 < length (insert_record d r t.1)). le-leb 16 (length t.1) (omega arith)) (λ (g : length (insert_record d r t.1) ≤ 16). lt-leb 16 (length t.1) (omega arith)))
insert_took d (suc l) r fs t o =
    let k = rank_of d r in
    let i = chosen d l k t.1 in
    let lt = chosen_lt d l k t.1 (omega (arith, o.some)) in
    let c = get_or t.1 i (no_tree l) in
    let u = insert_tree d l r fs c in
    let ih : Took fs u (run_of d l k c) (eqb (run_of d l k c) (suc l)) = insert_took d l r fs c (ok_root l c (all_at o.subs i (no_tree l) lt)) in
    let n = length_replaced i u.trees t.1 lt in
    step_took l fs u (run_of d l k c) t.0 (length t.1) (replaced i u.trees t.1) ih (run_le d l k c) o.most (omega (arith, ih.trees))

-- where a page splits there is a page for it
pub run_child : (d l k : ℕ) (fs : List ℕ) (t : Item (suc (suc l))) → run_of d (suc l) k t ≤ length fs → run_of d l k (get_or t.1 (chosen d l k t.1) (no_tree l)) ≤ length fs
unfolding run_of
run_child d l k fs t h = omega arith

pub room_leaf : (d : ℕ) (r : Record) (fs : List ℕ) (t : Item 1) → run_of d 0 (rank_of d r) t ≤ length fs → 16 < length (insert_record d r t.1) → 0 < length fs
unfolding run_of
room_leaf d r fs t h g =
    let n = length_ins (rank_of d) r t.1 in
    let e : indicator (leb 16 (length t.1)) ≡ 1 = ap indicator (le-leb 16 (length t.1) (omega arith)) in omega arith

pub room_inner : (d l : ℕ) (r : Record) (fs : List ℕ) (t : Item (suc (suc l))) → Root (suc l) t → run_of d (suc l) (rank_of d r) t ≤ length fs
    → 16 < length (replaced (chosen d l (rank_of d r) t.1) (insert_tree d l r fs (get_or t.1 (chosen d l (rank_of d r) t.1) (no_tree l))).trees t.1)
    → 0 < length (insert_tree d l r fs (get_or t.1 (chosen d l (rank_of d r) t.1) (no_tree l))).free
unfolding run_of Some
room_inner d l r fs t o h g =
    let k = rank_of d r in
    let i = chosen d l k t.1 in
    let lt = chosen_lt d l k t.1 (omega (arith, o.some)) in
    let c = get_or t.1 i (no_tree l) in
    let u = insert_tree d l r fs c in
    let ih = insert_took d l r fs c (ok_root l c (all_at o.subs i (no_tree l) lt)) in
    let n = length_replaced i u.trees t.1 lt in
    let e : indicator (if (eqb (run_of d l k c) (suc l)) (leb 16 (length t.1)) false) ≡ 1 =
    ap indicator (over (eqb (run_of d l k c) (suc l)) (length t.1) (length (replaced i u.trees t.1)) (omega (arith, ih.trees)) o.most g) in
    let f : length u.free ≡ length fs - run_of d l k c = ap (λ (z : List ℕ). length z) ih.free ∙ length-drop (run_of d l k c) fs in
    omega arith

-- NO PAGE IS LOST OR USED TWICE

cut_pages : (l q p : ℕ) (fs : List ℕ) (xs : List (Item l)) → (16 < length xs → 0 < length fs)
    → mult q (concat_map (pages (suc l)) (cut p fs xs).trees) + mult q (cut p fs xs).free ≡ mult q (p ∷ concat_map (pages l) xs) + mult q fs
unfolding pages mult concat_map
cut_pages l q p fs xs h =
    cut_cases (λ c. mult q (concat_map (pages (suc l)) c.trees) + mult q c.free ≡ mult q (p ∷ concat_map (pages l) xs) + mult q fs) p fs xs
    (λ e. rw (append-nil (concat_map (pages l) xs)))
    (λ e. go fs (h e))
  where
    go : (gs : List ℕ) → 0 < length gs → mult q (concat_map (pages (suc l)) ((p, take 9 xs) ∷ (get_or gs 0 0, drop 9 xs) ∷ [])) + mult q (drop 1 gs) ≡ mult q (p ∷ concat_map (pages l) xs) + mult q gs
    go [] g = absurd (omega arith)
    go (g ∷ gs) _ =
        let A = concat_map (pages l) (take 9 xs) in
        let D = concat_map (pages l) (drop 9 xs) in
        let e1 : mult q (A ++ g ∷ (D ++ [])) ≡ mult q A + mult q (g ∷ (D ++ [])) = mult_append q A (g ∷ (D ++ [])) in
        let e2 : mult q (D ++ []) ≡ mult q D = ap (mult q) (append-nil D) in
        let e3 : mult q (concat_map (pages l) xs) ≡ mult q A + mult q D =
        ap (mult q) (ap (concat_map (pages l)) (sym (take-append-drop 9 xs)) ∙ concat_map_append (pages l) (take 9 xs) (drop 9 xs)) ∙ mult_append q A D in
        omega arith

pub insert_kept : (d l : ℕ) (r : Record) (q : ℕ) (fs : List ℕ) (t : Item (suc l)) → Root l t → run_of d l (rank_of d r) t ≤ length fs
    → mult q (concat_map (pages (suc l)) (insert_tree d l r fs t).trees) + mult q (insert_tree d l r fs t).free ≡ mult q (pages (suc l) t) + mult q fs
unfolding insert_tree pages mult Some
insert_kept d zero r q fs t o h =
    cut_pages zero q t.0 fs (insert_record d r t.1) (room_leaf d r fs t h)
    ∙ ap (λ (z : List ℕ). mult q (t.0 ∷ z) + mult q fs) (no_pages_law (insert_record d r t.1) ∙ sym (no_pages_law t.1))
insert_kept d (suc l) r q fs t o h =
    let k = rank_of d r in
    let i = chosen d l k t.1 in
    let lt = chosen_lt d l k t.1 (omega (arith, o.some)) in
    let c = get_or t.1 i (no_tree l) in
    let u = insert_tree d l r fs c in
    let okc = ok_root l c (all_at o.subs i (no_tree l) lt) in
    let ls = concat_map (pages (suc l)) (take i t.1) in
    let rs = concat_map (pages (suc l)) (drop (suc i) t.1) in
    let m = concat_map (pages (suc l)) u.trees in
    let ih = insert_kept d l r q fs c okc (run_child d l k fs t h) in
    let z = cut_pages (suc l) q t.0 u.free (replaced i u.trees t.1) (room_inner d l r fs t o h) in
    let a : mult q (concat_map (pages (suc l)) (replaced i u.trees t.1)) ≡ mult q ls + (mult q m + mult q rs) =
    ap (mult q) (concat_map_three (pages (suc l)) (take i t.1) u.trees (drop (suc i) t.1)) ∙ mult_append q ls (m ++ rs) ∙ ap (λ (n : ℕ). mult q ls + n) (mult_append q m rs) in
    let b : mult q (concat_map (pages (suc l)) t.1) ≡ mult q ls + (mult q (pages (suc l) c) + mult q rs) =
    ap (mult q) (concat_map_split (pages (suc l)) t.1 i (no_tree l) lt) ∙ mult_append q ls (pages (suc l) c ++ rs) ∙ ap (λ (n : ℕ). mult q ls + n) (mult_append q (pages (suc l) c) rs) in
    omega arith
