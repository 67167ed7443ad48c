-- What `lowest_repeat` is: 0 where the identifiers are distinct; else a page that holds a repeated identifier, and no lower page does.
use Rattle.std.proofs.Common.{ℕ, zero, suc, min, ◌≤◌, ◌<◌, true, ◌≡◌, refl, List, [], ◌∷◌, arith, eqb, length, get_or, lt-ltb, ltb-true, eqb-true}
use borrow.Author.Tests.{eqb-false}
use Rattle.lists.specs.Basics.{if, All}
use Rattle.lists.specs.Tests.{three, by_cases}
use Rattle.lists.specs.Tabulated.{all_at}
use Rattle.lists.specs.Places.{elsewhere, twice}
use Rattle.lists.specs.Distinct.{Distinct, distinct_places, places_distinct}
use Rattle.sound_chains.specs.Repeats.{repeated, lower_page, lowest_of, lowest_repeat, Repeated, Under, Lowest}

-- ---- the lower of two pages

pub lower_left : (a b p : ℕ) → Under a p → Under (lower_page a b) p
lower_left a b p u h = let q = u h in
    by_cases (eqb a 0) (λ e. let z = eqb-true a 0 e in absurd (omega arith))
    (λ e. by_cases (eqb b 0) (λ d. simp (e, d) q) (λ d. simp (e, d) (omega (arith, eqb-false b 0 d))))

pub lower_right : (a b p : ℕ) → Under b p → Under (lower_page a b) p
lower_right a b p u h = let q = u h in
    by_cases (eqb a 0) (λ e. simp e q)
    (λ e. by_cases (eqb b 0) (λ d. let z = eqb-true b 0 d in absurd (omega arith)) (λ d. simp (e, d) (omega (arith, eqb-false a 0 e))))

-- what holds of each holds of the lower
pub of_lower : (P : ℕ → Type 0) (a b : ℕ) → (0 < a → P a) → (0 < b → P b) → 0 < lower_page a b → P (lower_page a b)
of_lower P a b f g =
    by_cases (eqb a 0) (λ e. simp e g)
    (λ e. by_cases (eqb b 0) (λ d. simp (e, d) f)
    (λ d. simp (e, d) (λ h. three a b
    (λ l. let m : min a b ≡ a = omega arith in rw m (f (omega arith)))
    (λ l. let m : min a b ≡ a = omega arith in rw m (f (omega arith)))
    (λ l. let m : min a b ≡ b = omega arith in rw m (g (omega arith))))))

-- ---- the test and the places

pub test_repeated : (ids : List ℕ) (i : ℕ) → i < length ids → repeated ids (get_or ids i 0) ≡ true → Repeated ids i
test_repeated ids i h e =
    let s = elsewhere (get_or ids i 0) ids i refl h (ltb-true 1 _ e) in
    record { here = h; other = s.at; there = s.within; apart = s.apart; same = s.is }

pub repeated_test : (ids : List ℕ) (i : ℕ) → Repeated ids i → repeated ids (get_or ids i 0) ≡ true
repeated_test ids i r = lt-ltb 1 _ (twice (get_or ids i 0) ids i r.other r.here r.there r.apart refl r.same)

-- ---- the definition

record At (ids xs ps : List ℕ) (r : ℕ) : Type 0 where
  place : ℕ
  within : place < length xs
  twice : repeated ids (get_or xs place 0) ≡ true
  page : get_or ps place 0 ≡ r

of_least : (ids xs ps : List ℕ) (i : ℕ) → i < length xs → repeated ids (get_or xs i 0) ≡ true → Under (lowest_of ids xs ps) (get_or ps i 0)
unfolding lowest_of
of_least ids [] ps i h e = absurd (omega arith)
of_least ids (x ∷ xs) [] i h e = λ l. absurd (omega arith)
of_least ids (x ∷ xs) (p ∷ ps) zero h e = lower_left (if (repeated ids x) p 0) (lowest_of ids xs ps) p (rw e (λ l. omega arith))
of_least ids (x ∷ xs) (p ∷ ps) (suc i) h e =
    lower_right (if (repeated ids x) p 0) (lowest_of ids xs ps) (get_or ps i 0) (of_least ids xs ps i (omega arith) e)

of_held : (ids xs ps : List ℕ) → 0 < lowest_of ids xs ps → At ids xs ps (lowest_of ids xs ps)
unfolding lowest_of
of_held ids [] ps h = absurd (omega arith)
of_held ids (x ∷ xs) [] h = absurd (omega arith)
of_held ids (x ∷ xs) (p ∷ ps) h =
    of_lower (At ids (x ∷ xs) (p ∷ ps)) (if (repeated ids x) p 0) (lowest_of ids xs ps)
    (by_cases (repeated ids x)
    (λ e. rw e (λ h. record { place = 0; within = omega arith; twice = e; page = refl }))
    (λ e. rw e (λ h. absurd (omega arith))))
    (λ h. let a = of_held ids xs ps h in record { place = suc a.place; within = let q = a.within in omega arith; twice = a.twice; page = a.page })
    h

-- the promise: `lowest_repeat` is the lowest page that holds a repeated identifier
pub lowest_repeat_law : (ids pages : List ℕ) → Lowest ids pages (lowest_repeat ids pages)
unfolding lowest_repeat
lowest_repeat_law ids pages = record {
  least = λ i r. of_least ids ids pages i r.here (repeated_test ids i r);
  held = λ h. let a = of_held ids ids pages h in
      record { at = a.place; twice = test_repeated ids a.place a.within a.twice; page = a.page };
}

-- only one number is
lowest_le : (ids pages : List ℕ) (r s : ℕ) → Lowest ids pages r → Lowest ids pages s → 0 < s → (0 < r) × (r ≤ s)
lowest_le ids pages r s a b h =
    let w = b.held h in let p = w.page in
    let q : (0 < r) × (r ≤ get_or pages w.at 0) = a.least w.at w.twice (omega arith) in (q.0, (let z = q.1 in omega arith))

pub lowest_unique : (ids pages : List ℕ) (r : ℕ) → Lowest ids pages r → r ≡ lowest_repeat ids pages
lowest_unique ids pages r a =
    let s = lowest_repeat ids pages in
    let b : Lowest ids pages s = lowest_repeat_law ids pages in
    three r s
    (λ l. let q = lowest_le ids pages r s a b (omega arith) in let p = lowest_le ids pages s r b a q.0 in absurd (let z = p.1 in omega arith))
    (λ e. e)
    (λ l. let q = lowest_le ids pages s r b a (omega arith) in let p = lowest_le ids pages r s a b q.0 in absurd (let z = p.1 in omega arith))

-- the promise: it is 0 just where the identifiers are distinct
module _ (ids pages : List ℕ) where
  pub none_distinct : length pages ≡ length ids → All (λ p. 0 < p) pages → lowest_repeat ids pages ≡ 0 → Distinct ids
  none_distinct each real z =
      places_distinct 0 ids (λ i k h g n e.
      let q = (lowest_repeat_law ids pages).least i (record { here = h; other = k; there = g; apart = n; same = e }) (all_at real i 0 (omega arith)) in
      let p = q.0 in omega arith)

  pub distinct_none : Distinct ids → lowest_repeat ids pages ≡ 0
  distinct_none d =
      three (lowest_repeat ids pages) 0 (λ l. absurd (omega arith)) (λ e. e)
      (λ l. let t = ((lowest_repeat_law ids pages).held l).twice in
      absurd (distinct_places 0 d ((lowest_repeat_law ids pages).held l).at t.other t.here t.there t.apart t.same))
