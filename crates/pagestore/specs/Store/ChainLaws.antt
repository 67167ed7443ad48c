-- The chain of freed pages: how far it is followed, that it repeats no page, and what leaves it as it is. Assumes nothing.
use Rattle.std.specs.Prelude.{◌≡◌, refl, ltb, eqb, length}
use Rattle.std.proofs.Math.Path.{sym, ap}
use Rattle.std.proofs.Common.{◌∙◌, arith, eqb-true, ltb-true, ltb-false}
use Rattle.std.proofs.Math.Bool.{true, false}
use mathlib.Core.List.{List, [], ◌∷◌}
use Prim.Native.Nat.{ℕ, zero, suc, ◌-◌, ◌≤◌, ◌<◌}
use Rattle.std.proofs.lemmas.Bool.{eqb-false}
use Rattle.lists.specs.Basics.{indicator, All, none, also}
use Rattle.lists.specs.Counts.{mult, mult_more, mult_self, mult_not}
use Rattle.lists.specs.Tests.{by_cases}
use Rattle.pagestore.specs.Store.{in_range, link_at, chain, chain_end}
use Rattle.pagestore.specs.Store.RangeLaws.{range_zero, range_same}

pub chain_out : (n : ℕ) (b : List ℕ) (p : ℕ) → in_range b p ≡ false → chain n b p ≡ []
unfolding chain
chain_out zero b p h = refl
chain_out (suc n) b p h = rw h

pub end_out : (n : ℕ) (b : List ℕ) (p : ℕ) → in_range b p ≡ false → chain_end n b p ≡ p
unfolding chain_end
end_out zero b p h = refl
end_out (suc n) b p h = rw h

pub end_none : (b : List ℕ) (p : ℕ) → chain_end 0 b p ≡ p
unfolding chain_end
end_none b p = refl

pub chain_in : (n : ℕ) (b : List ℕ) (p : ℕ) → in_range b p ≡ true → chain (suc n) b p ≡ p ∷ chain n b (link_at b p)
unfolding chain
chain_in n b p h = rw h

pub end_in : (n : ℕ) (b : List ℕ) (p : ℕ) → in_range b p ≡ true → chain_end (suc n) b p ≡ chain_end n b (link_at b p)
unfolding chain_end
end_in n b p h = rw h

-- at most as many links are followed as are allowed
pub chain_most : (n : ℕ) (b : List ℕ) (p : ℕ) → length (chain n b p) ≤ n
unfolding chain
chain_most zero b p = omega arith
chain_most (suc n) b p =
    by_cases (in_range b p) (λ h. rw h (omega (arith, chain_most n b (link_at b p)))) (λ h. rw h (omega arith))

-- m links and n links give the same chain
pub record Same (b : List ℕ) (m n p : ℕ) : Type 0 where
  pub pages : chain m b p ≡ chain n b p
  pub end : chain_end m b p ≡ chain_end n b p

same_out : (b : List ℕ) (m n p : ℕ) → in_range b p ≡ false → Same b m n p
same_out b m n p h =
    record { pages = chain_out m b p h ∙ sym (chain_out n b p h); end = end_out m b p h ∙ sym (end_out n b p h) }

same_in : (b : List ℕ) (m n p : ℕ) → in_range b p ≡ true → Same b m n (link_at b p) → Same b (suc m) (suc n) p
same_in b m n p h r =
    record {
      pages = chain_in m b p h ∙ ap (λ (l : List ℕ). p ∷ l) r.pages ∙ sym (chain_in n b p h);
      end = end_in m b p h ∙ r.end ∙ sym (end_in n b p h);
    }

-- a chain that ends at 0 is the same however many more links are allowed
enough_in : (b : List ℕ) (n p m : ℕ) → in_range b p ≡ true → length (chain (suc n) b p) ≤ m
    → ((k : ℕ) → length (chain n b (link_at b p)) ≤ k → Same b k n (link_at b p)) → Same b m (suc n) p
unfolding chain
enough_in b n p zero t h r = absurd (omega (arith, ap length (chain_in n b p t)))
enough_in b n p (suc m) t h r = same_in b m n p t (r m (omega (arith, ap length (chain_in n b p t))))

pub chain_enough : (n : ℕ) (b : List ℕ) (p m : ℕ) → chain_end n b p ≡ 0 → length (chain n b p) ≤ m → Same b m n p
unfolding chain_end
chain_enough zero b p m e h = same_out b m zero p (rw e (range_zero b))
chain_enough (suc n) b p m e h =
    by_cases (in_range b p)
    (λ t. enough_in b n p m t h (λ k g. chain_enough n b (link_at b p) k (sym (end_in n b p t) ∙ e) g))
    (λ t. same_out b m (suc n) p t)

-- the pages of a chain are pages
pub chain_range : (n : ℕ) (b : List ℕ) (p : ℕ) → All (λ q. in_range b q ≡ true) (chain n b p)
unfolding chain
chain_range zero b p = none
chain_range (suc n) b p = by_cases (in_range b p) (λ h. rw h (also h (chain_range n b (link_at b p)))) (λ h. rw h none)

-- from a page of a chain that ends, the chain is no longer, and ends
record Later (b : List ℕ) (q most : ℕ) : Type 0 where
  links : ℕ
  end : chain_end links b q ≡ 0
  few : length (chain links b q) ≤ most

later_more : (b : List ℕ) (q m n : ℕ) → m ≤ n → Later b q m → Later b q n
later_more b q m n h l = record { links = l.links; end = l.end; few = omega (arith, l.few) }

chain_later : (n : ℕ) (b : List ℕ) (p q : ℕ) → chain_end n b p ≡ 0 → 0 < mult q (chain n b p) → Later b q (length (chain n b p))
unfolding chain mult
chain_later zero b p q e h = absurd (omega arith)
chain_later (suc n) b p q e h =
    by_cases (in_range b p)
    (λ t. by_cases (eqb q p)
    (λ g. let same : q ≡ p = eqb-true q p g in rw same (record { links = suc n; end = e; few = omega arith }))
    (λ g. let m : 0 < mult q (p ∷ chain n b (link_at b p)) = rw (chain_in n b p t) at h in
    later_more b q (length (chain n b (link_at b p))) (length (chain (suc n) b p)) (omega (arith, ap length (chain_in n b p t)))
    (chain_later n b (link_at b p) q (sym (end_in n b p t) ∙ e) (omega (arith, mult_not q p (chain n b (link_at b p)) (eqb-false q p g))))))
    (λ t. absurd (let m : 0 < mult q [] = rw (chain_out (suc n) b p t) at h in omega arith))

-- so a page does not stand behind itself
chain_head : (n : ℕ) (b : List ℕ) (p : ℕ) → in_range b p ≡ true → chain_end n b (link_at b p) ≡ 0 → mult p (chain n b (link_at b p)) ≡ 0
chain_head n b p h e =
    let l : ℕ = length (chain n b (link_at b p)) in
    by_cases (ltb 0 (mult p (chain n b (link_at b p))))
    (λ t. let r = chain_later n b (link_at b p) p e (ltb-true 0 (mult p (chain n b (link_at b p))) t) in
    let s = chain_enough r.links b p (suc n) r.end (omega (arith, r.few, chain_most n b (link_at b p))) in
    absurd (omega (arith, r.few, ap length s.pages, ap length (chain_in n b p h))))
    (λ t. omega (arith, ltb-false 0 (mult p (chain n b (link_at b p))) t))

-- and each page of a chain that ends is there once
pub chain_once : (n : ℕ) (b : List ℕ) (p : ℕ) → chain_end n b p ≡ 0 → (q : ℕ) → mult q (chain n b p) ≤ 1
unfolding chain mult
chain_once zero b p e q = omega arith
chain_once (suc n) b p e q =
    by_cases (in_range b p)
    (λ t. let f : chain_end n b (link_at b p) ≡ 0 = sym (end_in n b p t) ∙ e in
    rw (chain_in n b p t)
    (by_cases (eqb q p)
    (λ g. let same : q ≡ p = eqb-true q p g in
    let gone : mult q (chain n b (link_at b p)) ≡ 0 = ap (λ (x : ℕ). mult x (chain n b (link_at b p))) same ∙ chain_head n b p t f in
    omega (arith, ap indicator g))
    (λ g. omega (arith, mult_not q p (chain n b (link_at b p)) (eqb-false q p g), chain_once n b (link_at b p) f q))))
    (λ t. rw (chain_out (suc n) b p t) (omega arith))

-- a chain is the same in any index of this length whose links agree at its pages
module _ (b c : List ℕ) (len : length c ≡ length b) where
  pub chain_frame : (n p : ℕ) → ((q : ℕ) → 0 < mult q (chain n b p) → link_at c q ≡ link_at b q) → (chain n c p ≡ chain n b p) × (chain_end n c p ≡ chain_end n b p)
  unfolding chain chain_end
  chain_frame zero p h = (refl, refl)
  chain_frame (suc n) p h =
      by_cases (in_range b p)
      (λ t. let s : in_range c p ≡ true = range_same b c p len ∙ t in
      let k : link_at c p ≡ link_at b p = h p (rw (chain_in n b p t) (omega (arith, mult_self p (chain n b (link_at b p))))) in
      let r = chain_frame n (link_at b p) (λ q g. h q (rw (chain_in n b p t) (omega (arith, mult_more q p (chain n b (link_at b p)))))) in (
        chain_in n c p s ∙ ap (λ (x : ℕ). p ∷ chain n c x) k ∙ ap (λ (l : List ℕ). p ∷ l) r.0 ∙ sym (chain_in n b p t),
        end_in n c p s ∙ ap (λ (x : ℕ). chain_end n c x) k ∙ r.1 ∙ sym (end_in n b p t),
      ))
      (λ t. let s : in_range c p ≡ false = range_same b c p len ∙ t in
      (chain_out (suc n) c p s ∙ sym (chain_out (suc n) b p t), end_out (suc n) c p s ∙ sym (end_out (suc n) b p t)))

pub chain_some : (n : ℕ) (b : List ℕ) (p : ℕ) → 0 < n → in_range b p ≡ true → chain n b p ≡ p ∷ chain (n - 1) b (link_at b p)
chain_some zero b p l h = absurd (omega arith)
chain_some (suc n) b p l h = let e : suc n - 1 ≡ n = omega arith in rw e (chain_in n b p h)

pub end_some : (n : ℕ) (b : List ℕ) (p : ℕ) → 0 < n → in_range b p ≡ true → chain_end n b p ≡ chain_end (n - 1) b (link_at b p)
end_some zero b p l h = absurd (omega arith)
end_some (suc n) b p l h = let e : suc n - 1 ≡ n = omega arith in rw e (end_in n b p h)
