-- The marked pages as a list: the followed pages, each once. Assumes nothing.
use Rattle.std.proofs.Common.{◌≡◌, refl, sym, ap, ◌∙◌, subst, List, [], ◌∷◌, ℕ, zero, suc, ◌+◌, ◌≤◌, ◌<◌, arith, add-one, get_or, eq-eqb, ne_eqb}
use Rattle.lists.specs.Counts.{mult, mult_self, mult_not, mult_none}
use Rattle.lists.specs.Tests.{decide}
use Rattle.pagestore.specs.Store.{View}
use Rattle.sound_faults.specs.Linked.{Followed}
use Rattle.sound_faults.proofs.Assembled.{reached_page}
use Rattle.sound_links.specs.Marks.{Seen, MarksAre, marked_to}

pub marked_yes : (m : List ℕ) (k : ℕ) → ¬ (get_or m k 0 ≡ 0) → marked_to m (k + 1) ≡ k ∷ marked_to m k
unfolding marked_to
marked_yes m k h = rw (add-one k, ne_eqb (get_or m k 0) 0 h)

pub marked_no : (m : List ℕ) (k : ℕ) → get_or m k 0 ≡ 0 → marked_to m (k + 1) ≡ marked_to m k
unfolding marked_to
marked_no m k h = rw (add-one k, eq-eqb (get_or m k 0) 0 h)

pub marked_none : (m : List ℕ) → marked_to m 0 ≡ []
unfolding marked_to
marked_none m = refl

-- q is there just once, where it is marked and below k
record There (m : List ℕ) (k q : ℕ) : Type 0 where
  pub once : mult q (marked_to m k) ≤ 1
  pub is : 0 < mult q (marked_to m k) → Seen m q × (q < k)
  pub has : Seen m q → q < k → 0 < mult q (marked_to m k)

there_more : (m : List ℕ) (q k : ℕ) → There m k q → There m (k + 1) q
there_more m q k t =
    decide (get_or m k 0) 0
    (λ n. let e : mult q (marked_to m (k + 1)) ≡ mult q (marked_to m k) = ap (mult q) (marked_no m k n) in
    record {
      once = omega (arith, t.once);
      is = λ x. let w = t.is (omega arith) in (w.0, omega (arith, w.1));
      has = λ x l. decide q k (λ s. absurd (omega (arith, n, subst (Seen m) s x))) (λ d. omega (arith, t.has x (omega (arith, d))));
    })
    (λ h. let e : mult q (marked_to m (k + 1)) ≡ mult q (k ∷ marked_to m k) = ap (mult q) (marked_yes m k h) in
    decide q k
    (λ s. let z : mult q (marked_to m k) ≡ 0 = decide (mult q (marked_to m k)) 0 (λ x. x) (λ x. absurd (omega (arith, (t.is (omega (arith, x))).1, s))) in
    let o : mult q (k ∷ marked_to m k) ≡ 1 + mult q (marked_to m k) = subst (λ (x : ℕ). mult q (x ∷ marked_to m k) ≡ 1 + mult q (marked_to m k)) s (mult_self q (marked_to m k)) in
    let y : Seen m k = omega (arith, h) in
    record { once = omega arith; is = λ x. (subst (Seen m) (sym s) y, omega arith); has = λ x l. omega arith })
    (λ d. let o : mult q (k ∷ marked_to m k) ≡ mult q (marked_to m k) = mult_not q k (marked_to m k) d in
    record { once = omega (arith, t.once); is = λ x. let w = t.is (omega arith) in (w.0, omega (arith, w.1)); has = λ x l. omega (arith, t.has x (omega (arith, d))) }))

there : (m : List ℕ) (q k : ℕ) → There m k q
there m q zero =
    let z : mult q (marked_to m 0) ≡ 0 = ap (mult q) (marked_none m) ∙ mult_none q in
    record { once = omega arith; is = λ h. absurd (omega arith); has = λ h l. absurd (omega arith) }
there m q (suc k) = subst (λ (z : ℕ). There m z q) (add-one k) (there_more m q k (there m q k))

-- the marked pages are the followed ones, each once
pub marked_followed : (v : View) (m : List ℕ) → MarksAre v m → Followed v (marked_to m v.count)
marked_followed v m s =
    record {
      once = λ q. (there m q v.count).once;
      reached = λ q z. s.reached q ((there m q v.count).is z).0;
      all = λ q a. (there m q v.count).has (omega (arith, s.all q a)) (reached_page a).1;
    }
