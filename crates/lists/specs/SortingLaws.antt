-- Laws of Sorting.
use Rattle.std.specs.Prelude.{◌≡◌, ◌≢◌, Bool, true, false, ◌&&◌, not, length, take, get_or, set, ltb}
use Rattle.std.proofs.Math.Path.{refl, sym, ap, ap₂}
use Rattle.std.proofs.Common.{◌∙◌, add-one, take-take, take-suc, lt-length-set, get_or-set_other, ltb-true, ltb-false, lt-ltb, le-ltb}
use mathlib.Core.List.{List, [], ◌∷◌, ◌++◌, map, append-nil}
use Prim.Native.Nat.{ℕ, zero, suc, ◌+◌, ◌≤◌, ◌<◌}
use native.Mathlib.Omega.{arith}
use Rattle.lists.specs.Basics.{if, indicator, All, none, also}
use Rattle.lists.specs.Tests.{false_true, by_cases}
use Rattle.lists.specs.Sorting.{filter, count, Order, insert_by, sort, insert_all, offer, offer_all, Sorted, end, next}

-- the order of numbers
pub ltb_order : Order ltb
ltb_order = record {
  asym = λ a b e. let q : a < b = ltb-true a b e in le-ltb b a (omega arith);
  through = λ a b c e d. let p : b ≤ a = ltb-false a b e in let q : a < c = ltb-true a c d in lt-ltb b c (omega arith);
  same = λ a b e d. let p : b ≤ a = ltb-false a b e in let q : a ≤ b = ltb-false b a d in omega arith;
}

-- ---- for any test

module _ {A : Type 0} (before : A → A → Bool) where
  pub ins_past : (x y : A) (ys : List A) → before y x ≡ true → insert_by before x (y ∷ ys) ≡ y ∷ insert_by before x ys
  unfolding insert_by
  ins_past x y ys e = rw e

  pub ins_here : (x y : A) (ys : List A) → before y x ≡ false → insert_by before x (y ∷ ys) ≡ x ∷ y ∷ ys
  unfolding insert_by
  ins_here x y ys e = rw e

  pub ins_first : (x : A) (s : List A) → All (λ y. before y x ≡ false) s → insert_by before x s ≡ x ∷ s
  unfolding insert_by
  ins_first x [] none = refl
  ins_first x (y ∷ ys) (also h t) = rw h

  pub length_ins : (x : A) (s : List A) → length (insert_by before x s) ≡ suc (length s)
  unfolding insert_by
  length_ins x [] = refl
  length_ins x (y ∷ ys) = by_cases (before y x) (λ e. rw e (ap suc (length_ins x ys))) (λ e. rw e)

  pub length_sort : (xs : List A) → length (sort before xs) ≡ length xs
  unfolding sort
  length_sort [] = refl
  length_sort (x ∷ xs) = length_ins x (sort before xs) ∙ ap suc (length_sort xs)

  pub count_ins : (p : A → Bool) (x : A) (s : List A) → count p (insert_by before x s) ≡ indicator (p x) + count p s
  unfolding count insert_by
  count_ins p x [] = refl
  count_ins p x (y ∷ ys) = by_cases (before y x) (λ e. rw e (let h = count_ins p x ys in omega arith)) (λ e. rw e)

  pub count_sort : (p : A → Bool) (xs : List A) → count p (sort before xs) ≡ count p xs
  unfolding count sort
  count_sort p [] = refl
  count_sort p (x ∷ xs) = let h = count_sort p xs in let g = count_ins p x (sort before xs) in omega arith

  module _ {P : A → Type 0} where
    pub all_ins : (x : A) (s : List A) → P x → All P s → All P (insert_by before x s)
    unfolding insert_by
    all_ins x [] h none = also h none
    all_ins x (y ∷ ys) h (also g a) = by_cases (before y x) (λ e. rw e (also g (all_ins x ys h a))) (λ e. rw e (also h (also g a)))

    pub all_ins_all : (xs s : List A) → All P xs → All P s → All P (insert_all before xs s)
    unfolding insert_all
    all_ins_all [] s none a = a
    all_ins_all (x ∷ xs) s (also h t) a = all_ins_all xs (insert_by before x s) t (all_ins x s h a)

    pub all_sort : (xs : List A) → All P xs → All P (sort before xs)
    unfolding sort
    all_sort [] none = none
    all_sort (x ∷ xs) (also h t) = all_ins x (sort before xs) h (all_sort xs t)

  pub ins_all_append : (xs ys s : List A) → insert_all before (xs ++ ys) s ≡ insert_all before ys (insert_all before xs s)
  unfolding insert_all
  ins_all_append [] ys s = refl
  ins_all_append (x ∷ xs) ys s = ins_all_append xs ys (insert_by before x s)

  -- the first k kept all along are the first k of all
  take_cons : (k : ℕ) (y : A) (ys : List A) → take k (y ∷ take k ys) ≡ take k (y ∷ ys)
  take_cons zero y ys = refl
  take_cons (suc k) y ys = ap (λ (t : List A). y ∷ t) (take-take k (suc k) ys (omega arith))

  pub offer_take : (k : ℕ) (x : A) (s : List A) → offer before k x (take k s) ≡ take k (insert_by before x s)
  unfolding offer insert_by
  offer_take zero x s = refl
  offer_take (suc k) x [] = refl
  offer_take (suc k) x (y ∷ ys) =
      by_cases (before y x)
      (λ e. rw e (ap (λ (t : List A). y ∷ t) (offer_take k x ys)))
      (λ e. rw e (ap (λ (t : List A). x ∷ t) (take_cons k y ys)))

  pub offer_all_take : (k : ℕ) (xs s : List A) → offer_all before k xs (take k s) ≡ take k (insert_all before xs s)
  unfolding offer_all insert_all
  offer_all_take k [] s = refl
  offer_all_take k (x ∷ xs) s = ap (offer_all before k xs) (offer_take k x s) ∙ offer_all_take k xs (insert_by before x s)

-- ---- for a strict total order

module _ {A : Type 0} (before : A → A → Bool) (o : Order before) where
  pub irrefl : (x : A) → before x x ≡ false
  irrefl x = by_cases (before x x) (λ e. o.asym x x e) (λ e. e)

  -- z is not before y, nor y before x
  pub not_before : (x y z : A) → before y x ≡ false → before z y ≡ false → before z x ≡ false
  not_before x y z h g = by_cases (before z x) (λ e. false_true (sym h ∙ o.through z y x g e)) (λ e. e)

  two : (a b : A) (t : List A) → if (before b a) (b ∷ a ∷ t) (a ∷ b ∷ t) ≡ if (before a b) (a ∷ b ∷ t) (b ∷ a ∷ t)
  two a b t =
      by_cases (before b a)
      (λ e. rw (e, o.asym b a e))
      (λ e. by_cases (before a b) (λ d. rw (e, d)) (λ d. rw (e, d) (ap₂ (λ (u v : A). u ∷ v ∷ t) (o.same a b d e) (o.same b a e d))))

  -- a goes first, b behind y
  apart : (a b y : A) (ys : List A) → before y a ≡ false → before y b ≡ true
      → insert_by before a (insert_by before b (y ∷ ys)) ≡ insert_by before b (insert_by before a (y ∷ ys))
  apart a b y ys e d =
      rw (ins_past before b y ys d, ins_here before a y _ e, ins_here before a y ys e, ins_past before b a _ (o.through y a b e d), ins_past before b y ys d)

  -- insertions commute, whatever the list
  pub ins_comm : (a b : A) (s : List A) → insert_by before a (insert_by before b s) ≡ insert_by before b (insert_by before a s)
  unfolding insert_by
  ins_comm a b [] = two a b []
  ins_comm a b (y ∷ ys) =
      by_cases (before y a)
      (λ e. by_cases (before y b)
      (λ d. simp (e, d) (ap (λ (t : List A). y ∷ t) (ins_comm a b ys)))
      (λ d. sym (apart b a y ys d e)))
      (λ e. by_cases (before y b)
      (λ d. apart a b y ys e d)
      (λ d. simp (e, d) (two a b (y ∷ ys))))

  pub ins_all_ins : (xs : List A) (x : A) (s : List A) → insert_all before xs (insert_by before x s) ≡ insert_by before x (insert_all before xs s)
  unfolding insert_all
  ins_all_ins [] x s = refl
  ins_all_ins (y ∷ ys) x s = ap (insert_all before ys) (ins_comm y x s) ∙ ins_all_ins ys x (insert_by before y s)

  pub ins_all_comm : (xs ys s : List A) → insert_all before xs (insert_all before ys s) ≡ insert_all before ys (insert_all before xs s)
  unfolding insert_all
  ins_all_comm [] ys s = refl
  ins_all_comm (x ∷ xs) ys s = ap (insert_all before xs) (sym (ins_all_ins ys x s)) ∙ ins_all_comm xs ys (insert_by before x s)

  -- joined lists
  pub sort_append : (xs ys : List A) → sort before (xs ++ ys) ≡ insert_all before xs (sort before ys)
  unfolding sort insert_all
  sort_append [] ys = refl
  sort_append (x ∷ xs) ys = ap (insert_by before x) (sort_append xs ys) ∙ sym (ins_all_ins xs x (sort before ys))

  pub sort_ins_all : (xs : List A) → sort before xs ≡ insert_all before xs []
  unfolding sort
  sort_ins_all xs = ap (sort before) (sym (append-nil xs)) ∙ sort_append xs []

  pub sort_swapped : (xs ys : List A) → sort before (xs ++ ys) ≡ sort before (ys ++ xs)
  sort_swapped xs ys =
      sort_append xs ys ∙ ap (insert_all before xs) (sort_ins_all ys) ∙ ins_all_comm xs ys [] ∙ ap (insert_all before ys) (sym (sort_ins_all xs)) ∙ sym (sort_append ys xs)

  -- one element more: in front is `sort` itself, behind, anywhere in order
  pub sort_snoc : (x : A) (xs : List A) → sort before (xs ++ (x ∷ [])) ≡ insert_by before x (sort before xs)
  unfolding sort
  sort_snoc x xs = sort_swapped xs (x ∷ [])

  pub sort_take : (l : List A) (i : ℕ) (d : A) → i < length l → sort before (take (i + 1) l) ≡ insert_by before (get_or l i d) (sort before (take i l))
  sort_take l i d h = rw (add-one i, take-suc l i d h) (sort_snoc (get_or l i d) (take i l))

  -- another value at an index
  pub sort_set : (l : List A) (i : ℕ) (v d : A) → i < length l → insert_by before (get_or l i d) (sort before (set l i v)) ≡ insert_by before v (sort before l)
  unfolding sort
  sort_set [] i v d h = absurd (omega arith)
  sort_set (x ∷ xs) zero v d h = ins_comm x v (sort before xs)
  sort_set (x ∷ xs) (suc i) v d h =
      ins_comm (get_or xs i d) x (sort before (set xs i v)) ∙ ap (insert_by before x) (sort_set xs i v d (omega arith)) ∙ ins_comm x v (sort before xs)

  -- what x was put into
  without : A → List A → List A
  without x [] = []
  without x (y ∷ ys) = if (before y x) (y ∷ without x ys) ys

  without_ins : (x : A) (s : List A) → without x (insert_by before x s) ≡ s
  unfolding without insert_by
  without_ins x [] = rw (irrefl x)
  without_ins x (y ∷ ys) = by_cases (before y x) (λ e. simp e (ap (λ (t : List A). y ∷ t) (without_ins x ys))) (λ e. rw (e, irrefl x))

  pub ins_cancel : (x : A) (s t : List A) → insert_by before x s ≡ insert_by before x t → s ≡ t
  ins_cancel x s t e = sym (without_ins x s) ∙ ap (without x) e ∙ without_ins x t

  -- two elements exchanged
  pub sort_swap : (l : List A) (i j : ℕ) (d : A) → i < length l → j < length l → j ≢ i
      → sort before (set (set l i (get_or l j d)) j (get_or l i d)) ≡ sort before l
  sort_swap l i j d h g n =
      let b = get_or l j d in
      let a = get_or l i d in
      let one : insert_by before a (sort before (set l i b)) ≡ insert_by before b (sort before l) = sort_set l i b d h in
      let two : insert_by before (get_or (set l i b) j d) (sort before (set (set l i b) j a)) ≡ insert_by before a (sort before (set l i b)) = sort_set (set l i b) j a d (lt-length-set l i b g) in
      let two' : insert_by before b (sort before (set (set l i b) j a)) ≡ insert_by before b (sort before l) = rw (get_or-set_other l i j b d n) at two ∙ one in
      ins_cancel b _ _ two'

  -- ---- sorted lists

  pub none_before : (x y : A) (ys : List A) → before y x ≡ false → All (λ z. before z y ≡ false) ys → All (λ z. before z x ≡ false) ys
  none_before x y [] h none = none
  none_before x y (z ∷ zs) h (also g a) = also (not_before x y z h g) (none_before x y zs h a)

  pub sorted_ins : (x : A) (s : List A) → Sorted before s → Sorted before (insert_by before x s)
  unfolding insert_by
  sorted_ins x [] end = next none end
  sorted_ins x (y ∷ ys) (next a s) =
      by_cases (before y x)
      (λ e. rw e (next (all_ins before x ys (o.asym y x e) a) (sorted_ins x ys s)))
      (λ e. rw e (next (also e (none_before x y ys e a)) (next a s)))

  pub sorted_ins_all : (xs s : List A) → Sorted before s → Sorted before (insert_all before xs s)
  unfolding insert_all
  sorted_ins_all [] s h = h
  sorted_ins_all (x ∷ xs) s h = sorted_ins_all xs (insert_by before x s) (sorted_ins x s h)

  pub sorted_sort : (xs : List A) → Sorted before (sort before xs)
  unfolding sort
  sorted_sort [] = end
  sorted_sort (x ∷ xs) = sorted_ins x (sort before xs) (sorted_sort xs)

  -- an element that none is before comes first
  pub sort_first : (x : A) (xs : List A) → All (λ y. before y x ≡ false) xs → sort before (x ∷ xs) ≡ x ∷ sort before xs
  unfolding sort
  sort_first x xs a = ins_first before x (sort before xs) (all_sort before xs a)

  -- ---- a sorted list stands for what occurs how often

  pub count_none : (p : A → Bool) (s : List A) → All (λ z. p z ≡ false) s → count p s ≡ 0
  unfolding count
  count_none p [] none = refl
  count_none p (x ∷ xs) (also h a) = let q = count_none p xs a in rw h (omega arith)

  -- the first of one sorted list is not before the first of another with the same elements
  first_not_before : (x y : A) (s t : List A) → Sorted before (x ∷ s) → ((p : A → Bool) → count p (x ∷ s) ≡ count p (y ∷ t)) → before y x ≡ false
  unfolding count
  first_not_before x y s t (next a r) same =
      by_cases (before y x)
      (λ e. let h : count (λ z. before z x) (x ∷ s) ≡ 0 = count_none (λ z. before z x) (x ∷ s) (also (irrefl x) a) in
      let g : count (λ z. before z x) (y ∷ t) ≡ 1 + count (λ z. before z x) t = rw e in
      let q = same (λ z. before z x) in absurd (omega arith))
      (λ e. e)

  unique : (s t : List A) → Sorted before s → Sorted before t → ((p : A → Bool) → count p s ≡ count p t) → s ≡ t
  unfolding count
  unique [] [] a b h = refl
  unique [] (y ∷ t) a b h = let q = h (λ z. true) in absurd (omega arith)
  unique (x ∷ s) [] a b h = let q = h (λ z. true) in absurd (omega arith)
  unique (x ∷ s) (y ∷ t) (next a r) (next b q) h =
      let e : x ≡ y = o.same x y (first_not_before y x t s (next b q) (λ p. sym (h p))) (first_not_before x y s t (next a r) h) in
      ap₂ (λ (z : A) (u : List A). z ∷ u) e
      (unique s t r q (λ p. let g = h p in let f : indicator (p x) ≡ indicator (p y) = ap (λ (z : A). indicator (p z)) e in omega arith))

  -- lists with the same elements as often are one list when sorted
  pub sort_canonical : (xs ys : List A) → ((p : A → Bool) → count p xs ≡ count p ys) → sort before xs ≡ sort before ys
  sort_canonical xs ys h =
      unique (sort before xs) (sort before ys) (sorted_sort xs) (sorted_sort ys) (λ p. count_sort before p xs ∙ h p ∙ sym (count_sort before p ys))

-- ---- elements that pass

module _ {A : Type 0} where
  pub count_append : (p : A → Bool) (xs ys : List A) → count p (xs ++ ys) ≡ count p xs + count p ys
  unfolding count
  count_append p [] ys = omega arith
  count_append p (x ∷ xs) ys = let h = count_append p xs ys in omega arith

  pub filter_first : (p : A → Bool) (x : A) (xs : List A) → p x ≡ true → filter p (x ∷ xs) ≡ x ∷ filter p xs
  unfolding filter
  filter_first p x xs e = rw e

  pub filter_past : (p : A → Bool) (x : A) (xs : List A) → p x ≡ false → filter p (x ∷ xs) ≡ filter p xs
  unfolding filter
  filter_past p x xs e = rw e

  pub length_filter : (p : A → Bool) (xs : List A) → length (filter p xs) ≡ count p xs
  unfolding filter count
  length_filter p [] = refl
  length_filter p (x ∷ xs) = let h = length_filter p xs in by_cases (p x) (λ e. rw e (omega arith)) (λ e. rw e (omega arith))

  pub filter_append : (p : A → Bool) (xs ys : List A) → filter p (xs ++ ys) ≡ filter p xs ++ filter p ys
  unfolding filter
  filter_append p [] ys = refl
  filter_append p (x ∷ xs) ys = by_cases (p x) (λ e. rw e (ap (λ (t : List A). x ∷ t) (filter_append p xs ys))) (λ e. rw e (filter_append p xs ys))

  pub filter_all : (p : A → Bool) (xs : List A) → All (λ z. p z ≡ true) xs → filter p xs ≡ xs
  unfolding filter
  filter_all p [] none = refl
  filter_all p (x ∷ xs) (also h a) = rw h (ap (λ (t : List A). x ∷ t) (filter_all p xs a))

  pub filter_none : (p : A → Bool) (xs : List A) → All (λ z. p z ≡ false) xs → filter p xs ≡ []
  unfolding filter
  filter_none p [] none = refl
  filter_none p (x ∷ xs) (also h a) = rw h (filter_none p xs a)

  pub filter_filter : (p q : A → Bool) (xs : List A) → filter q (filter p xs) ≡ filter (λ x. p x && q x) xs
  unfolding filter
  filter_filter p q [] = refl
  filter_filter p q (x ∷ xs) = by_cases (p x)
      (λ e. simp e (by_cases (q x) (λ d. simp d (ap (λ (t : List A). x ∷ t) (filter_filter p q xs))) (λ d. simp d (filter_filter p q xs))))
      (λ e. simp e (filter_filter p q xs))

  pub all_filter : {P : A → Type 0} (p : A → Bool) (xs : List A) → All P xs → All P (filter p xs)
  unfolding filter
  all_filter p [] none = none
  all_filter p (x ∷ xs) (also h a) = by_cases (p x) (λ e. rw e (also h (all_filter p xs a))) (λ e. rw e (all_filter p xs a))

  -- what passes is known to pass
  pub all_kept : {P : A → Type 0} (p : A → Bool) (xs : List A) → All (λ x. p x ≡ true → P x) xs → All P (filter p xs)
  unfolding filter
  all_kept p [] none = none
  all_kept p (x ∷ xs) (also h a) = by_cases (p x) (λ e. rw e (also (h e) (all_kept p xs a))) (λ e. rw e (all_kept p xs a))

  module _ (before : A → A → Bool) (o : Order before) where
    filter_ins : (p : A → Bool) (x : A) (s : List A) → Sorted before s → filter p (insert_by before x s) ≡ if (p x) (insert_by before x (filter p s)) (filter p s)
    unfolding filter insert_by
    filter_ins p x [] end = by_cases (p x) (λ e. rw e) (λ e. rw e)
    filter_ins p x (y ∷ ys) (next a s) =
        by_cases (before y x)
        (λ e. rw e (by_cases (p y)
        (λ d. simp (d, e) (ap (λ (t : List A). y ∷ t) (filter_ins p x ys s) ∙ by_cases (p x) (λ c. rw c) (λ c. rw c)))
        (λ d. simp d (filter_ins p x ys s))))
        (λ e. rw e (by_cases (p x)
        (λ c. simp c (sym (ins_first before x (filter p (y ∷ ys)) (all_filter p (y ∷ ys) (also e (none_before before o x y ys e a))))))
        (λ c. simp c)))

    -- it is the same to pick out first and to sort first
    pub filter_sort : (p : A → Bool) (xs : List A) → filter p (sort before xs) ≡ sort before (filter p xs)
    unfolding filter sort
    filter_sort p [] = refl
    filter_sort p (x ∷ xs) =
        filter_ins p x (sort before xs) (sorted_sort before o xs)
        ∙ by_cases (p x) (λ e. rw e (ap (insert_by before x) (filter_sort p xs))) (λ e. rw e (filter_sort p xs))

-- ---- elements by another name: f x for x

module _ {A B : Type 0} (f : A → B) (beforeA : A → A → Bool) (beforeB : B → B → Bool) {Q : A → Type 0}
    (agree : (x y : A) → Q x → Q y → beforeB (f x) (f y) ≡ beforeA x y) where
  map_ins : (x : A) (s : List A) → Q x → All Q s → map f (insert_by beforeA x s) ≡ insert_by beforeB (f x) (map f s)
  unfolding insert_by
  map_ins x [] h none = refl
  map_ins x (y ∷ ys) h (also g a) =
      by_cases (beforeA y x)
      (λ e. rw (agree y x g h, e) (ap (λ (t : List B). f y ∷ t) (map_ins x ys h a)))
      (λ e. rw (agree y x g h, e))
