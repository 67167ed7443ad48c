-- Laws of a heap: a step down or up, the least at the top, what push and pop do to what is held.
use Rattle.std.proofs.Common.{ℕ, zero, suc, ◌+◌, ◌*◌, ◌-◌, ◌/◌, ◌≤◌, ◌<◌, min, false, ◌≡◌, refl, sym, ap, ◌∙◌, ◌≢◌, List, [], ◌∷◌, arith, add-one, length, take, drop, get_or, set, length-set, length-take, take-suc-set, get_or-set_same, get_or-set_other, get_or-take, lt-length-set, set-set, drop-set-lt, length-take-le, ltb, le-ltb, ltb-true, ltb-false}
use lib.Seq.{take-set-lt}
use Rattle.lists.specs.Basics.{All}
use Rattle.lists.specs.Tests.{decide, three, by_cases}
use Rattle.lists.specs.Places.{all_places}
use Rattle.lists.specs.Sorting.{sort, insert_by}
use Rattle.lists.specs.SortingLaws.{ltb_order, ins_first, all_sort, sort_snoc, sort_take, sort_set, sort_swap}
use Rattle.search_heap.specs.Heap.{Child, Heap, held, Pushed, Popped}
use Rattle.search_heap.specs.Sifting.{Sinking, Rising, lower_of, LeastIn, Sifted}

-- ---- the least of some places

pub least_one : (from to i : ℕ) (a : List ℕ) → from ≤ i → i < to → to ≤ from + 1 → LeastIn from to a i
least_one from to i a p q r = record { low = p; high = q; least = λ j u v. let e : j ≡ i = omega arith in rw e (omega arith) }

-- of two runs of places, one behind the other
pub least_join : (from mid to : ℕ) (a : List ℕ) (c e r : ℕ) → LeastIn from mid a c → LeastIn mid to a e → r ≡ lower_of a c e → LeastIn from to a r
least_join from mid to a c e r l m q =
    let lc = l.low in let hc = l.high in let le = m.low in let he = m.high in
    by_cases (ltb (get_or a e 0) (get_or a c 0))
    (λ t. let w : get_or a e 0 < get_or a c 0 = ltb-true (get_or a e 0) (get_or a c 0) t in
    let f : r ≡ e = q ∙ (rw t) in
    rw f record { low = omega arith; high = omega arith; least = λ j u v. over mid j (λ b. let z = l.least j u b in omega arith) (λ b. m.least j b v) })
    (λ t. let w : get_or a c 0 ≤ get_or a e 0 = ltb-false (get_or a e 0) (get_or a c 0) t in
    let f : r ≡ c = q ∙ (rw t) in
    rw f record { low = omega arith; high = omega arith; least = λ j u v. over mid j (λ b. l.least j u b) (λ b. let z = m.least j b v in omega arith) })
  where
    over : {P : Type 0} (m j : ℕ) → (j < m → P) → (m ≤ j → P) → P
    over m j f g = three j m f (λ e. g (omega arith)) (λ h. g (omega arith))

pub least_pair : (i j to : ℕ) (a : List ℕ) (r : ℕ) → j ≡ i + 1 → to ≡ j + 1 → r ≡ lower_of a i j → LeastIn i to a r
least_pair i j to a r e f q = least_join i j to a i j r (least_one i j i a (omega arith) (omega arith) (omega arith)) (least_one j to j a (omega arith) (omega arith) (omega arith)) q

-- the children among the first n end behind the fourth, or at n
pub least_all : (left n to : ℕ) (a : List ℕ) (c : ℕ) → to ≡ min (left + 4) n → LeastIn left to a c → LeastIn left (min (left + 4) n) a c
least_all left n to a c e l = rw (← e) l

-- the least of the four from 4h + 1 on among the first n is a child of h, and at most the others
module _ (n h : ℕ) (a : List ℕ) (c : ℕ) (l : LeastIn (4 * h + 1) (min (4 * h + 1 + 4) n) a c) where
  pub lowest_kid : Child n h c
  lowest_kid = let q = l.high in record { low = l.low; high = omega arith; within = omega arith }

  pub lowest : (j : ℕ) → Child n h j → get_or a c 0 ≤ get_or a j 0
  lowest j k = let q = k.high in let r = k.within in l.least j k.low (omega arith)

-- ---- x at h, and then at c, what stood there at h

-- what is known of x at h, said of a
known : (a : List ℕ) (h x p j : ℕ) → p ≢ h → j ≢ h → get_or (set a h x) p 0 ≤ get_or (set a h x) j 0 → get_or a p 0 ≤ get_or a j 0
known a h x p j y z l = rw (get_or-set_other a h p x 0 y, get_or-set_other a h j x 0 z) at l

module _ (a : List ℕ) (h c x : ℕ) (wh : h < length a) (wc : c < length a) (m : c ≢ h) where
  -- before
  x_at_h : get_or (set a h x) h 0 ≡ x
  x_at_h = get_or-set_same a h x 0 wh

  rest_before : (k : ℕ) → k ≢ h → get_or (set a h x) k 0 ≡ get_or a k 0
  rest_before k n = get_or-set_other a h k x 0 n

  -- after
  x_at_c : get_or (set (set a h (get_or a c 0)) c x) c 0 ≡ x
  x_at_c = get_or-set_same (set a h (get_or a c 0)) c x 0 (lt-length-set a h (get_or a c 0) wc)

  c_at_h : get_or (set (set a h (get_or a c 0)) c x) h 0 ≡ get_or a c 0
  c_at_h = get_or-set_other (set a h (get_or a c 0)) c h x 0 (λ e. m (sym e)) ∙ get_or-set_same a h (get_or a c 0) 0 wh

  rest_after : (k : ℕ) → k ≢ h → k ≢ c → get_or (set (set a h (get_or a c 0)) c x) k 0 ≡ get_or a k 0
  rest_after k p q = get_or-set_other (set a h (get_or a c 0)) c k x 0 q ∙ get_or-set_other a h k (get_or a c 0) 0 p

  fits_after : (n : ℕ) → n ≤ length (set a h x) → n ≤ length (set (set a h (get_or a c 0)) c x)
  fits_after n l = simp length-set (simp length-set at l)

  -- two elements are exchanged
  exchanged : set (set (set a h x) h (get_or (set a h x) c 0)) c (get_or (set a h x) h 0) ≡ set (set a h (get_or a c 0)) c x
  exchanged = rw (set-set a h x (get_or (set a h x) c 0), x_at_h, rest_before c m)

  pub held_moved : (n : ℕ) → h < n → c < n → n ≤ length a → held n (set (set a h (get_or a c 0)) c x) ≡ held n (set a h x)
  held_moved n p q l =
      let b = set a h x in
      let u = get_or b c 0 in
      let v = get_or b h 0 in
      let t : length (take n b) ≡ n = length-take-le n b (rw (length-set a h x) l) in
      let one : take n (set (set b h u) c v) ≡ set (set (take n b) h u) c v = take-set-lt n (set b h u) c v q ∙ ap (λ (s : List ℕ). set s c v) (take-set-lt n b h u p) in
      let two : sort ltb (set (set (take n b) h (get_or (take n b) c 0)) c (get_or (take n b) h 0)) ≡ sort ltb (take n b) = sort_swap ltb ltb_order (take n b) h c 0 (omega arith) (omega arith) m in
      ap (held n) (sym exchanged) ∙ ap (sort ltb) one ∙ (rw (get_or-take n b c 0 q, get_or-take n b h 0 p) at two)

-- ---- down

module _ (n h x : ℕ) (a : List ℕ) (s : Sinking n h (set a h x)) where
  pub sunk : ((j : ℕ) → Child n h j → x ≤ get_or a j 0) → Heap n (set a h x)
  sunk d = record {
    fits = s.fits;
    ordered = λ p j k. decide p h
        (λ f. let w : h < length a = let q = s.fits in let r = s.place in let z = length-set a h x in omega arith in
        rw (f, get_or-set_same a h x 0 w, get_or-set_other a h j x 0 (let q = k.low in omega arith)) (d j (rw f at k)))
        (λ f. s.except p j f k);
  }

  module _ (c : ℕ) (kid : Child n h c) (low : get_or a c 0 < x) (least : (j : ℕ) → Child n h j → get_or a c 0 ≤ get_or a j 0) where
    away : c ≢ h
    away = let q = kid.low in omega arith

    wide : n ≤ length a
    wide = rw (length-set a h x) at s.fits

    wh : h < length a
    wh = let q = wide in let r = s.place in omega arith

    wc : c < length a
    wc = let q = wide in let r = kid.within in omega arith

    sink_except : (p j : ℕ) → p ≢ c → Child n p j → get_or (set (set a h (get_or a c 0)) c x) p 0 ≤ get_or (set (set a h (get_or a c 0)) c x) j 0
    sink_except p j y k =
        let u = kid in
        decide p h
        (λ e. decide j c
        (λ f. rw (e, f, c_at_h a h c x wh wc away, x_at_c a h c x wh wc away) (omega arith))
        (λ f. rw (e, c_at_h a h c x wh wc away, rest_after a h c x wh wc away j (let q = k.low in omega arith) f) (least j (rw e at k))))
        (λ e. decide j h
        (λ f. rw (f, c_at_h a h c x wh wc away, rest_after a h c x wh wc away p e y) (known a h x p c e away (s.over p c (rw f at k) u)))
        (λ f. decide j c
        (λ g. absurd (let q = k.low in let r = k.high in let v = u.low in let w = u.high in omega (arith, e)))
        (λ g. rw (rest_after a h c x wh wc away p e y, rest_after a h c x wh wc away j f g) (known a h x p j e f (s.except p j e k)))))

    sink_over : (p j : ℕ) → Child n p c → Child n c j → get_or (set (set a h (get_or a c 0)) c x) p 0 ≤ get_or (set (set a h (get_or a c 0)) c x) j 0
    sink_over p j k1 k2 =
        let u = kid in
        let v1 = u.low in let v2 = u.high in let l1 = k1.low in let l2 = k1.high in let l3 = k2.low in
        let e : p ≡ h = omega arith in
        rw (e, c_at_h a h c x wh wc away, rest_after a h c x wh wc away j (omega arith) (omega arith)) (known a h x c j away (omega arith) (s.except c j away k2))

    pub sinks : Sinking n c (set (set a h (get_or a c 0)) c x)
    sinks = record { fits = fits_after a h c x wh wc away n s.fits; place = kid.within; except = sink_except; over = sink_over }

    pub held_sinks : held n (set (set a h (get_or a c 0)) c x) ≡ held n (set a h x)
    held_sinks = held_moved a h c x wh wc away n s.place kid.within wide

-- ---- up

module _ (n h x : ℕ) (a : List ℕ) (s : Rising n h (set a h x)) where
  pub risen : (0 < h → get_or a ((h - 1) / 4) 0 ≤ x) → Heap n (set a h x)
  risen d = record {
    fits = s.fits;
    ordered = λ p j k. decide j h
        (λ f. let w : h < length a = let q = s.fits in let r = s.place in let z = length-set a h x in omega arith in
        let q = k.low in let r = k.high in
        let g : p ≡ (h - 1) / 4 = omega arith in
        rw (f, get_or-set_same a h x 0 w, get_or-set_other a h p x 0 (omega arith), g) (d (omega arith)))
        (λ f. s.except p j f k);
  }

  module _ (c : ℕ) (positive : 0 < h) (parent : c ≡ (h - 1) / 4) (high : x < get_or a c 0) where
    apart : c ≢ h
    apart = omega arith

    below : c < h
    below = omega arith

    up_fits : n ≤ length a
    up_fits = rw (length-set a h x) at s.fits

    uh : h < length a
    uh = let q = up_fits in let r = s.place in omega arith

    uc : c < length a
    uc = let q = uh in let r = below in omega arith

    mine : Child n c h
    mine = record { low = omega arith; high = omega arith; within = s.place }

    only : (p : ℕ) → Child n p h → p ≡ c
    only p k = let q = k.low in let r = k.high in omega arith

    rise_except : (p j : ℕ) → j ≢ c → Child n p j → get_or (set (set a h (get_or a c 0)) c x) p 0 ≤ get_or (set (set a h (get_or a c 0)) c x) j 0
    rise_except p j y k =
        let b = below in
        let low = k.low in
        decide p c
        (λ e. decide j h
        (λ f. rw (e, f, x_at_c a h c x uh uc apart, c_at_h a h c x uh uc apart) (omega arith))
        (λ f. let z : get_or a c 0 ≤ get_or a j 0 = known a h x c j apart f (s.except c j f (rw e at k)) in
        rw (e, x_at_c a h c x uh uc apart, rest_after a h c x uh uc apart j f y) (omega arith)))
        (λ e. decide p h
        (λ f. rw (f, c_at_h a h c x uh uc apart, rest_after a h c x uh uc apart j (omega arith) y) (known a h x c j apart (omega arith) (s.over c j mine (rw f at k))))
        (λ f. let z : j ≢ h = (λ o. e (only p (rw o at k))) in
        rw (rest_after a h c x uh uc apart p f e, rest_after a h c x uh uc apart j z y) (known a h x p j f z (s.except p j z k))))

    rise_over : (p j : ℕ) → Child n p c → Child n c j → get_or (set (set a h (get_or a c 0)) c x) p 0 ≤ get_or (set (set a h (get_or a c 0)) c x) j 0
    rise_over p j k1 k2 =
        let b = below in
        let l1 = k1.low in let l2 = k2.low in
        let z : get_or a p 0 ≤ get_or a c 0 = known a h x p c (omega arith) apart (s.except p c apart k1) in
        decide j h
        (λ e. rw (e, c_at_h a h c x uh uc apart, rest_after a h c x uh uc apart p (omega arith) (omega arith)) z)
        (λ e. let y : get_or a c 0 ≤ get_or a j 0 = known a h x c j apart e (s.except c j e k2) in
        rw (rest_after a h c x uh uc apart p (omega arith) (omega arith), rest_after a h c x uh uc apart j e (omega arith)) (omega arith))

    pub rises : Rising n c (set (set a h (get_or a c 0)) c x)
    rises = record { fits = fits_after a h c x uh uc apart n s.fits; place = let q = below in let r = s.place in omega arith; except = rise_except; over = rise_over }

    pub held_rises : held n (set (set a h (get_or a c 0)) c x) ≡ held n (set a h x)
    held_rises = held_moved a h c x uh uc apart n s.place (let q = below in let r = s.place in omega arith) up_fits

-- ---- push

module _ (a : List ℕ) (n x : ℕ) (w : n < length a) where
  pub push_start : Heap n a → Rising (n + 1) n (set a n x)
  push_start h = record {
    fits = rw (length-set a n x) (omega arith);
    place = omega arith;
    except = λ p j e k. let q = k.low in let r = k.within in
        rw (get_or-set_other a n p x 0 (omega (arith, e)), get_or-set_other a n j x 0 e) (h.ordered p j record { low = k.low; high = k.high; within = omega (arith, e) });
    over = λ p j k1 k2. absurd (let q = k2.low in let r = k2.within in omega arith);
  }

  held_push : held (n + 1) (set a n x) ≡ insert_by ltb x (held n a)
  held_push = rw (add-one n, take-suc-set a n x w) (sort_snoc ltb ltb_order x (take n a))

  pub pushed : (b : List ℕ) → Sifted (n + 1) n x a b → Pushed n x a (n + 1) b
  pushed b s = record {
    heap = s.heap;
    room = λ _. (refl, s.same ∙ held_push, s.rest);
    full = λ l. absurd (omega arith);
  }

pub push_full : (a : List ℕ) (n x : ℕ) → length a ≤ n → Heap n a → Pushed n x a n a
push_full a n x l h = record { heap = h; room = λ w. absurd (omega arith); full = λ _. (refl, refl) }

-- ---- pop

top_by : (n : ℕ) (a : List ℕ) → Heap n a → (f j : ℕ) → j ≤ f → j < n → get_or a 0 0 ≤ get_or a j 0
top_by n a h zero j g w = let e : j ≡ 0 = omega arith in rw e (omega arith)
top_by n a h (suc f) j g w =
    decide j 0
    (λ e. rw e (omega arith))
    (λ e.
    let up : get_or a 0 0 ≤ get_or a ((j - 1) / 4) 0 = top_by n a h f ((j - 1) / 4) (omega (arith, e)) (omega (arith, e)) in
    let over : get_or a ((j - 1) / 4) 0 ≤ get_or a j 0 = h.ordered ((j - 1) / 4) j record { low = omega (arith, e); high = omega (arith, e); within = w } in
    omega arith)

-- the top is the least
pub top_least : (n : ℕ) (a : List ℕ) → Heap n a → (j : ℕ) → j < n → get_or a 0 0 ≤ get_or a j 0
top_least n a h j w = top_by n a h j j (omega arith) w

module _ (a : List ℕ) (n m : ℕ) (z : 0 < m) (more : n ≡ m + 1) (whole : Heap n a) where
  h : Heap (m + 1) a
  h = rw more at whole

  fits : m < length a
  fits = let q = h.fits in omega arith

  pub pop_start : Sinking m 0 (set a 0 (get_or a m 0))
  pop_start = record {
    fits = rw (length-set a 0 (get_or a m 0)) (let q = fits in omega arith);
    place = z;
    except = λ p j e k. let q = k.low in let r = k.within in
        rw (get_or-set_other a 0 p (get_or a m 0) 0 e, get_or-set_other a 0 j (get_or a m 0) 0 (omega arith)) (h.ordered p j record { low = k.low; high = k.high; within = omega arith });
    over = λ p j k1 k2. absurd (let q = k1.low in omega arith);
  }

  not_below : All (λ y. ltb y (get_or a 0 0) ≡ false) (take m (set a 0 (get_or a m 0)))
  not_below = all_places 0 (take m (set a 0 (get_or a m 0))) (λ i w.
      let v : i < m = let q = length-take m (set a 0 (get_or a m 0)) in omega arith in
      let g : get_or a 0 0 ≤ get_or (set a 0 (get_or a m 0)) i 0 = decide i 0
      (λ e. rw (e, get_or-set_same a 0 (get_or a m 0) 0 (let q = fits in omega arith)) (top_least (m + 1) a h m (omega arith)))
      (λ e. rw (get_or-set_other a 0 i (get_or a m 0) 0 e) (top_least (m + 1) a h i (omega arith))) in
      rw (get_or-take m (set a 0 (get_or a m 0)) i 0 v) (le-ltb (get_or (set a 0 (get_or a m 0)) i 0) (get_or a 0 0) g))

  held_pop : held (m + 1) a ≡ get_or a 0 0 ∷ held m (set a 0 (get_or a m 0))
  held_pop =
      let f = fits in
      let l : length (take m a) ≡ m = length-take-le m a (omega arith) in
      let one : held (m + 1) a ≡ insert_by ltb (get_or a m 0) (held m a) = sort_take ltb ltb_order a m 0 f in
      let two : insert_by ltb (get_or (take m a) 0 0) (sort ltb (set (take m a) 0 (get_or a m 0))) ≡ insert_by ltb (get_or a m 0) (sort ltb (take m a)) = sort_set ltb ltb_order (take m a) 0 (get_or a m 0) 0 (omega arith) in
      one ∙ sym (rw (get_or-take m a 0 0 z, ← take-set-lt m a 0 (get_or a m 0) z) at two)
      ∙ ins_first ltb (get_or a 0 0) (held m (set a 0 (get_or a m 0))) (all_sort ltb (take m (set a 0 (get_or a m 0))) not_below)

  pub popped : (b : List ℕ) → Sifted m 0 (get_or a m 0) a b → Popped n a (get_or a 0 0) b
  popped b s =
      let e : n - 1 ≡ m = omega arith in
      record {
        heap = rw e s.heap;
        top = refl;
        least = rw (e, more) (held_pop ∙ ap (λ (t : List ℕ). get_or a 0 0 ∷ t) (sym s.same));
        rest = rw e s.rest;
      }

one : (a : List ℕ) → Heap 1 a → Popped 1 a (get_or a 0 0) a
unfolding sort insert_by
one [] h = absurd (let q = h.fits in omega arith)
one (x ∷ a) h = record {
  heap = record { fits = omega arith; ordered = λ p j k. absurd (let q = k.within in omega arith) };
  top = refl;
  least = refl;
  rest = refl;
}

pub pop_last : (a : List ℕ) (n : ℕ) → n ≡ 1 → Heap n a → Popped n a (get_or a 0 0) a
pop_last a n e h = rw e (one a (rw e at h))

-- what is held begins with the top
pub record Topped (n : ℕ) (a : List ℕ) : Type 0 where
  pub rest : List ℕ
  pub is : held n a ≡ get_or a 0 0 ∷ rest

pub held_top : (n : ℕ) (a : List ℕ) → Heap n a → 0 < n → Topped n a
held_top n a h w =
    decide n 1
    (λ e. record { rest = held (n - 1) a; is = (pop_last a n e h).least })
    (λ e. let m : n ≡ n - 1 + 1 = omega arith in
    record { rest = held (n - 1) (set a 0 (get_or a (n - 1) 0)); is = ap (λ (i : ℕ). held i a) m ∙ held_pop a n (n - 1) (omega (arith, e)) m h })

-- x is put down at h
pub settled : (n h x : ℕ) (a a₀ : List ℕ) (h₀ : ℕ) → h < n → Heap n (set a h x) → held n (set a h x) ≡ held n (set a₀ h₀ x) → drop n a ≡ drop n a₀
    → Sifted n h₀ x a₀ (set a h x)
settled n h x a a₀ h₀ w g e d = record { heap = g; same = e; rest = drop-set-lt n a h x w ∙ d }

pub fits_of : (a : List ℕ) (i v n : ℕ) → n ≤ length (set a i v) → n ≤ length a
fits_of a i v n l = rw (length-set a i v) at l
