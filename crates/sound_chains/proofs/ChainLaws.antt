-- Laws of chains: an identifier chained, and one met.
use Rattle.std.proofs.Common.{ℕ, zero, suc, ◌+◌, ◌-◌, ◌≤◌, ◌<◌, ◌≡◌, refl, sym, ◌∙◌, ◌≢◌, List, arith, add-one, length, get_or, set, replicate, get_or-set_same, get_or-set_other, eqb, eq-eqb, ne_eqb, eqb-true}
use lib.ListN.{length-replicate}
use borrow.Author.Tests.{eqb-false}
use Rattle.lists.specs.Basics.{if}
use Rattle.lists.specs.Tests.{decide, by_cases}
use Rattle.sound_chains.specs.Repeats.{lower_page, Repeated, Holds, Under}
use Rattle.sound_chains.specs.Chains.{bucket_of, latest, met_of, Heads, Chained, Room, Blank}
use Rattle.sound_chains.proofs.RepeatsLaws.{lower_left, lower_right, of_lower}

-- ---- chains

pub heads_none : (ids head : List ℕ) → Blank head → Heads 0 ids head
unfolding latest
heads_none ids head b = record { last = λ g l. b.zeros g }

pub chained_none : (ids next : List ℕ) → Chained 0 ids next
chained_none ids next = record { link = λ i l. absurd (omega arith) }

module _ (ids : List ℕ) (i : ℕ) where
  pub heads_more : (head : List ℕ) → length head ≡ 16384 → Heads i ids head → Heads (i + 1) ids (set head (bucket_of (get_or ids i 0)) (i + 1))
  unfolding latest
  heads_more head l k = record {
    last = λ g h. rw (add-one i) (by_cases (eqb (bucket_of (get_or ids i 0)) g)
        (λ e. rw (e, eqb-true (bucket_of (get_or ids i 0)) g e) (get_or-set_same head g (suc i) 0 (omega arith)))
        (λ e. rw e (get_or-set_other head (bucket_of (get_or ids i 0)) g (suc i) 0 (λ d. eqb-false (bucket_of (get_or ids i 0)) g e (sym d)) ∙ k.last g h)));
  }

  pub chained_more : (next : List ℕ) → i < length next → Chained i ids next
      → Chained (i + 1) ids (set next i (latest ids (bucket_of (get_or ids i 0)) i))
  chained_more next l k = record {
    link = λ j h. decide j i
        (λ e. rw e (get_or-set_same next i _ 0 l))
        (λ e. get_or-set_other next i j _ 0 e ∙ k.link j (omega (arith, e)));
  }

-- j links to the last place below m that is in bucket g
pub record Last (ids : List ℕ) (g m j : ℕ) : Type 0 where
  pub le : j ≤ m
  pub own : (i : ℕ) → j ≡ suc i → bucket_of (get_or ids i 0) ≡ g
  pub gap : (k : ℕ) → j ≤ k → k < m → bucket_of (get_or ids k 0) ≢ g

pub last : (ids : List ℕ) (g m : ℕ) → Last ids g m (latest ids g m)
unfolding latest
last ids g zero = record { le = omega arith; own = λ i e. absurd (omega arith); gap = λ k a b e. absurd (omega arith) }
last ids g (suc m) =
    by_cases (eqb (bucket_of (get_or ids m 0)) g)
    (λ e. rw e (record {
      le = omega arith;
      own = λ i d. let q : m ≡ i = omega arith in rw q at (eqb-true (bucket_of (get_or ids m 0)) g e);
      gap = λ k a b d. omega arith;
    }))
    (λ e. let l = last ids g m in let n = eqb-false (bucket_of (get_or ids m 0)) g e in rw e (record {
      le = let q = l.le in omega arith;
      own = l.own;
      gap = λ k a b d. decide k m (λ q. n (rw q at d)) (λ q. l.gap k a (omega (arith, q)) d);
    }))

pub link_le : (n : ℕ) (ids next : List ℕ) (i : ℕ) → Chained n ids next → i < n → get_or next i 0 ≤ i
link_le n ids next i c h = rw (c.link i h) (last ids (bucket_of (get_or ids i 0)) i).le

-- ---- an identifier met

module _ (ids pages : List ℕ) (i best : ℕ) where
  pub met_keeps : (k p : ℕ) → Under best p → Under (met_of ids pages i k best) p
  unfolding met_of
  met_keeps zero p u = u
  met_keeps (suc o) p u = by_cases (eqb (get_or ids o 0) (get_or ids i 0))
      (λ e. rw e (lower_left best (lower_page (get_or pages i 0) (get_or pages o 0)) p u)) (λ e. rw e u)

  pub met_own : (o : ℕ) → get_or ids o 0 ≡ get_or ids i 0 → Under (met_of ids pages i (suc o) best) (get_or pages i 0)
  unfolding met_of
  met_own o s = rw (eq-eqb (get_or ids o 0) (get_or ids i 0) s)
      (lower_right best (lower_page (get_or pages i 0) (get_or pages o 0)) (get_or pages i 0) (lower_left (get_or pages i 0) (get_or pages o 0) (get_or pages i 0) (λ h. omega arith)))

  pub met_other : (o : ℕ) → get_or ids o 0 ≡ get_or ids i 0 → Under (met_of ids pages i (suc o) best) (get_or pages o 0)
  unfolding met_of
  met_other o s = rw (eq-eqb (get_or ids o 0) (get_or ids i 0) s)
      (lower_right best (lower_page (get_or pages i 0) (get_or pages o 0)) (get_or pages o 0) (lower_right (get_or pages i 0) (get_or pages o 0) (get_or pages o 0) (λ h. omega arith)))

  pub met_held : (k : ℕ) → (0 < best → Holds ids pages best)
      → ((o : ℕ) → k ≡ suc o → get_or ids o 0 ≡ get_or ids i 0 → Repeated ids i × Repeated ids o)
      → 0 < met_of ids pages i k best → Holds ids pages (met_of ids pages i k best)
  unfolding met_of
  met_held zero r h = r
  met_held (suc o) r h = by_cases (eqb (get_or ids o 0) (get_or ids i 0))
      (λ e. let b = h o refl (eqb-true (get_or ids o 0) (get_or ids i 0) e) in rw e
      (of_lower (Holds ids pages) best (lower_page (get_or pages i 0) (get_or pages o 0)) r
      (of_lower (Holds ids pages) (get_or pages i 0) (get_or pages o 0)
      (λ _. record { at = i; twice = b.0; page = refl }) (λ _. record { at = o; twice = b.1; page = refl }))))
      (λ e. rw e r)

pub met_none : (ids pages : List ℕ) (i best : ℕ) → best ≡ met_of ids pages i 0 best
unfolding met_of
met_none ids pages i best = refl

met_at : (ids pages : List ℕ) (i k best : ℕ) → 0 < k
    → met_of ids pages i k best ≡ if (eqb (get_or ids (k - 1) 0) (get_or ids i 0)) (lower_page best (lower_page (get_or pages i 0) (get_or pages (k - 1) 0))) best
unfolding met_of
met_at ids pages i zero best h = absurd (omega arith)
met_at ids pages i (suc o) best h = let e : suc o - 1 ≡ o = omega arith in rw e

pub met_apart : (ids pages : List ℕ) (i k best : ℕ) → 0 < k → get_or ids (k - 1) 0 ≢ get_or ids i 0 → best ≡ met_of ids pages i k best
met_apart ids pages i k best h n = sym (met_at ids pages i k best h ∙ rw (ne_eqb (get_or ids (k - 1) 0) (get_or ids i 0) n))

pub met_same : (ids pages : List ℕ) (i k best : ℕ) → 0 < k → get_or ids (k - 1) 0 ≡ get_or ids i 0
    → lower_page best (lower_page (get_or pages i 0) (get_or pages (k - 1) 0)) ≡ met_of ids pages i k best
met_same ids pages i k best h n = sym (met_at ids pages i k best h ∙ rw (eq-eqb (get_or ids (k - 1) 0) (get_or ids i 0) n))

-- ---- the arrays as they are made, of any length: a numeral would unfold

abbrev pub made : ℕ → List ℕ
made n = replicate n 0

zeros : (n i : ℕ) → get_or (made n) i 0 ≡ 0
zeros zero i = refl
zeros (suc n) zero = refl
zeros (suc n) (suc i) = zeros n i

pub blank : (n : ℕ) → Blank (made n)
blank n = record { zeros = zeros n }

pub long : (n : ℕ) → length (made n) ≡ n
long n = length-replicate n 0

pub room : (ids : List ℕ) (m n : ℕ) → m ≡ 16384 → length ids ≤ n → length ids ≤ 65535 → Room ids (made m) (made n)
room ids m n e l h = record { few = h; heads = long m ∙ e; links = rw (long n) l }

pub room_kept : (ids h h' n n' : List ℕ) → Room ids h n → length h' ≡ length h → length n' ≡ length n → Room ids h' n'
room_kept ids h h' n n' r a b = record { few = r.few; heads = a ∙ r.heads; links = let q = r.links in omega arith }

pub chained_less : (i : ℕ) (ids next : List ℕ) → Chained (i + 1) ids next → Chained i ids next
chained_less i ids next c = record { link = λ j h. c.link j (omega arith) }
