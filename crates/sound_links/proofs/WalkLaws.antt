-- Steps of the walk along the freed pages. Assumes nothing.
use Rattle.std.proofs.Common.{◌≡◌, refl, sym, ap, ◌∙◌, subst, true, false, List, [], ◌∷◌, ◌++◌, append_assoc, append-nil, ℕ, suc, ◌+◌, ◌-◌, ◌≤◌, ◌<◌, arith, length, set, length-set}
use Rattle.lists.specs.Counts.{mult, mult_append, mult_self, mult_not, mult_none}
use Rattle.lists.specs.Tests.{by_cases, decide}
use Rattle.pagestore.specs.Store.{View, view_of, pages_in, in_range, chain, chain_end, link_at, field_at, freed, freed_at, rest_at}
use Rattle.pagestore.specs.Store.RangeLaws.{range_low, range_high, range_is, range_zero}
use Rattle.pagestore.specs.Store.ChainLaws.{chain_out, chain_in, end_out, end_in, end_none}
use Rattle.sound_faults.specs.Faults.{IsPage, FailsAt}
use Rattle.sound_links.specs.Marks.{Marked, Clear, FreedOk, Walked}
use Rattle.sound_links.proofs.MarkLaws.{set_here, set_keep, set_old}

module _ (b : List ℕ) where
  abbrev v : View
  v = view_of b

  count_is : (view_of b).count ≡ pages_in b
  unfolding view_of
  count_is = refl

  page_in_law : (q : ℕ) → 0 < q → q < v.count → in_range b q ≡ true
  page_in_law q p h = range_is b q p (omega (arith, count_is))

  pub walk_start : (m : List ℕ) → Clear (view_of b) m → Walked b m 0 (field_at freed b)
  unfolding view_of freed_at rest_at
  walk_start m c =
      let e : pages_in b ≡ pages_in b - 0 = omega arith in
      record {
        done = [];
        freed = ap (λ (n : ℕ). chain n b (field_at freed b)) e;
        rest = ap (λ (n : ℕ). chain_end n b (field_at freed b)) e;
        size = c.size;
        marked = λ q h. absurd (omega (arith, h, c.none q));
        other = λ q h. mult_none q;
        once = λ q. omega (arith, mult_none q);
        used = λ q h. absurd (omega (arith, mult_none q));
      }

  -- one link more
  next_count : (k : ℕ) → k < v.count → v.count - k ≡ suc (v.count - (k + 1))
  next_count k h = omega arith

  next_pages : (k q : ℕ) → k < v.count → in_range b q ≡ true → chain (v.count - k) b q ≡ q ∷ chain (v.count - (k + 1)) b (link_at b q)
  next_pages k q h r = ap (λ (n : ℕ). chain n b q) (next_count k h) ∙ chain_in (v.count - (k + 1)) b q r

  next_end : (k q : ℕ) → k < v.count → in_range b q ≡ true → chain_end (v.count - k) b q ≡ chain_end (v.count - (k + 1)) b (link_at b q)
  next_end k q h r = ap (λ (n : ℕ). chain_end n b q) (next_count k h) ∙ end_in (v.count - (k + 1)) b q r

  one_more : (c q : ℕ) (xs : List ℕ) → mult c (xs ++ (q ∷ [])) ≡ mult c xs + mult c (q ∷ [])
  one_more c q xs = mult_append c xs (q ∷ [])

  pub walk_step : {m : List ℕ} {k q r : ℕ} → Walked b m k q → k < v.count → ¬ (q ≡ 0) → q < v.fresh → v.fresh ≤ v.count → ¬ Marked m q → r ≡ link_at b q → Walked b (set m q 1) (k + 1) r
  walk_step {m} {k} {q} {r} s h z u le new e =
      let p : 0 < q = omega (arith, z) in
      let g : q < v.count = omega arith in
      let l : q < length m = omega (arith, s.size) in
      let i : in_range b q ≡ true = page_in_law q p g in
      let ds : List ℕ = s.done ++ (q ∷ []) in
      let fresh-q : mult q s.done ≡ 0 = s.other q new in
      let split : (c : ℕ) → mult c ds ≡ mult c s.done + mult c (q ∷ []) = λ c. one_more c q s.done in
      let self : mult q (q ∷ []) ≡ 1 = mult_self q [] ∙ ap (λ (n : ℕ). 1 + n) (mult_none q) in
      let away : (c : ℕ) → ¬ (c ≡ q) → mult c (q ∷ []) ≡ 0 = λ c d. mult_not c q [] d ∙ mult_none c in
      subst (λ (x : ℕ). Walked b (set m q 1) (k + 1) x) (sym e)
      (record {
        done = ds;
        freed = s.freed ∙ ap (λ (c : List ℕ). s.done ++ c) (next_pages k q h i) ∙ sym (append_assoc s.done (q ∷ []) (chain (v.count - (k + 1)) b (link_at b q)));
        rest = s.rest ∙ next_end k q h i;
        size = omega (arith, length-set m q 1, s.size);
        marked = λ c h. decide c q (λ d. subst (λ (x : ℕ). 0 < mult x ds) (sym d) (omega (arith, split q, self))) (λ d. omega (arith, split c, s.marked c (set_old m q c d h)));
        other = λ c h. decide c q (λ d. absurd (h (subst (Marked (set m q 1)) (sym d) (set_here m q l)))) (λ d. omega (arith, split c, away c d, s.other c (λ y. h (set_keep m q c l y))));
        once = λ c. decide c q (λ d. subst (λ (x : ℕ). mult x ds ≤ 1) (sym d) (omega (arith, split q, self))) (λ d. omega (arith, split c, away c d, s.once c));
        used = λ c h. decide c q (λ d. subst (λ (x : ℕ). IsPage v x × (x < v.fresh)) (sym d) ((p, g), u)) (λ d. s.used c (omega (arith, split c, away c d)));
      })

  -- the chain ends
  pub walk_done : {m : List ℕ} {k q : ℕ} → Walked b m k q → q ≡ 0 → FreedOk (view_of b) m
  walk_done {m} {k} {q} s z =
      let o : in_range b q ≡ false = ap (in_range b) z ∙ range_zero b in
      let f : v.freed ≡ s.done = s.freed ∙ ap (λ (c : List ℕ). s.done ++ c) (chain_out (v.count - k) b q o) ∙ append-nil s.done in
      record {
        marks = record { size = s.size; freed = λ c h. subst (λ (x : List ℕ). 0 < mult c x) (sym f) (s.marked c h); other = λ c h. ap (mult c) f ∙ s.other c h };
        fine = record {
          chain = s.rest ∙ end_out (v.count - k) b q o ∙ z;
          once = λ c. subst (λ (x : List ℕ). mult c x ≤ 1) (sym f) (s.once c);
          used = λ c h. (s.used c (subst (λ (x : List ℕ). 0 < mult c x) f h)).1;
        };
      }

  -- ---- faults

  pub walk_long : {m : List ℕ} {k q : ℕ} → Walked b m k q → v.count ≤ k → ¬ (q ≡ 0) → FailsAt (view_of b) 0
  walk_long {m} {k} {q} s h z =
      FailsAt.chain (λ e. z (sym (s.rest ∙ ap (λ (n : ℕ). chain_end n b q) (let y : v.count - k ≡ 0 = omega arith in y) ∙ end_none b q) ∙ e))

  -- what is met at q
  met : {m : List ℕ} {k q : ℕ} (s : Walked b m k q) → k < v.count → in_range b q ≡ true → mult q s.done < mult q v.freed
  met {m} {k} {q} s h i =
      let cs : List ℕ = chain (v.count - (k + 1)) b (link_at b q) in
      let f : v.freed ≡ s.done ++ (q ∷ cs) = s.freed ∙ ap (λ (c : List ℕ). s.done ++ c) (next_pages k q h i) in
      omega (arith, ap (mult q) f, mult_append q s.done (q ∷ cs), mult_self q cs)

  pub walk_fresh : {m : List ℕ} {k q : ℕ} → Walked b m k q → k < v.count → ¬ (q ≡ 0) → v.fresh ≤ q → FailsAt (view_of b) 0
  walk_fresh {m} {k} {q} s h z u =
      by_cases (in_range b q)
      (λ i. FailsAt.freed_fresh q (omega (arith, met s h i)) ((range_low b q i, omega (arith, range_high b q i, count_is)), u))
      (λ o. FailsAt.chain (λ e. z (sym (s.rest ∙ end_out (v.count - k) b q o) ∙ e)))

  pub walk_twice : {m : List ℕ} {k q : ℕ} → Walked b m k q → k < v.count → Marked m q → FailsAt (view_of b) 0
  walk_twice {m} {k} {q} s h d =
      let u = (s.used q (s.marked q d)).0 in
      FailsAt.freed_twice q (omega (arith, s.marked q d, met s h (page_in_law q u.0 u.1)))
