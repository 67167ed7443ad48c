-- Laws of buckets: an identifier compared with those of its bucket, a turn of a walk, and what all walks say.
use Rattle.std.proofs.Common.{ℕ, zero, suc, ◌+◌, ◌≤◌, ◌<◌, ◌≡◌, refl, sym, ap, ◌∙◌, ◌≢◌, ◌⊎◌, inl, inr, ⊎_elim, List, arith, length, get_or, set, get_or-set_same, get_or-set_other, leb, leb-true, leb-false}
use Rattle.lists.specs.Tests.{decide, by_cases}
use Rattle.sound_chains.specs.Repeats.{lowest_repeat, Under}
use Rattle.sound_chains.specs.Chains.{bucket_of, latest, met_of, Heads, Chained, Blank}
use Rattle.sound_buckets.specs.Buckets.{slot_of, Sofar, Stage, Probed}
use Rattle.sound_chains.proofs.RepeatsLaws.{lowest_unique}
use Rattle.sound_chains.proofs.ChainLaws.{last, met_keeps, met_own, met_other, met_held}

-- ---- an identifier met

-- m links to a place that holds the identifier at i
record Linked (ids : List ℕ) (i m : ℕ) : Type 0 where
  at : ℕ
  is : m ≡ suc at
  same : get_or ids at 0 ≡ get_or ids i 0

-- m links to such a place in D if there is one
record Meets (D : ℕ → Type 0) (ids : List ℕ) (i m : ℕ) : Type 0 where
  right : (o : ℕ) → m ≡ suc o → get_or ids o 0 ≡ get_or ids i 0 → (o < length ids) × (o ≢ i) × D o
  full : (k : ℕ) → D k → k < length ids → get_or ids k 0 ≡ get_or ids i 0 → Linked ids i m

-- one place more
sofar_more : {D E : ℕ → Type 0} (ids pages : List ℕ) (i m best : ℕ) → i < length ids → ((k : ℕ) → E k → (k ≡ i) ⊎ D k)
    → Meets D ids i m → Sofar D ids pages best → Sofar E ids pages (met_of ids pages i m best)
sofar_more {D} {E} ids pages i m best h grows f s = record {
  pairs = λ a b p q x y n e. ⊎_elim
      (λ (u : a ≡ i). ⊎_elim
      (λ (v : b ≡ i). absurd (n (v ∙ sym u)))
      (λ (v : D b). let l = f.full b v y (e ∙ ap (λ (z : ℕ). get_or ids z 0) u) in
      rw (u, l.is) (met_own ids pages i best l.at l.same))
      (grows b q))
      (λ (u : D a). ⊎_elim
      (λ (v : b ≡ i). earlier a u x (sym e ∙ ap (λ (z : ℕ). get_or ids z 0) v))
      (λ (v : D b). met_keeps ids pages i best m (get_or pages a 0) (s.pairs a b u v x y n e))
      (grows b q))
      (grows a p);
  held = met_held ids pages i best m s.held (λ o e d. let u = f.right o e d in (
    record { here = h; other = o; there = u.0; apart = u.1; same = d },
    record { here = u.0; other = i; there = h; apart = λ z. u.1 (sym z); same = sym d },
  ));
}
  where
    earlier : (a : ℕ) → D a → a < length ids → get_or ids a 0 ≡ get_or ids i 0 → Under (met_of ids pages i m best) (get_or pages a 0)
    earlier a u x t =
        let l = f.full a u x t in
        let r = f.right l.at l.is l.same in
        decide l.at a
        (λ z. rw (sym z, l.is) (met_other ids pages i best l.at l.same))
        (λ z. met_keeps ids pages i best m (get_or pages a 0) (s.pairs a l.at u r.2 x r.0 z (l.same ∙ sym t)))

-- all places
sofar_all : {D : ℕ → Type 0} (ids pages : List ℕ) (best : ℕ) → ((k : ℕ) → k < length ids → D k) → Sofar D ids pages best → best ≡ lowest_repeat ids pages
sofar_all ids pages best all s = lowest_unique ids pages best (record {
  least = λ i r. s.pairs i r.other (all i r.here) (all r.other r.there) r.here r.there r.apart r.same;
  held = s.held;
})

-- ---- comparing within the buckets

-- the chain is looked along as far as j; x is at no place of the bucket from there on below m
pub record Probing (ids : List ℕ) (m x j : ℕ) : Type 0 where
  pub le : j ≤ m
  pub passed : (k : ℕ) → j ≤ k → k < m → get_or ids k 0 ≢ x
  pub own : (o : ℕ) → j ≡ suc o → bucket_of (get_or ids o 0) ≡ bucket_of x

pub probing_start : (ids : List ℕ) (m x : ℕ) → Probing ids m x (latest ids (bucket_of x) m)
probing_start ids m x = let l = last ids (bucket_of x) m in
    record { le = l.le; passed = λ k a b e. l.gap k a b (ap bucket_of e); own = l.own }

pub probing_more : (n : ℕ) (ids next : List ℕ) (m x o : ℕ) → m ≤ n → Chained n ids next → Probing ids m x (suc o) → get_or ids o 0 ≢ x → Probing ids m x (get_or next o 0)
probing_more n ids next m x o w c p d =
    let b : o < m = p.le in
    let l = last ids (bucket_of (get_or ids o 0)) o in
    rw (c.link o (omega arith)) (record {
      le = let q = l.le in omega arith;
      passed = λ k a h e. decide k o (λ z. d (rw z at e)) (λ z. by_cases (leb (suc o) k)
          (λ t. p.passed k (leb-true (suc o) k t) h e)
          (λ t. let lo = leb-false (suc o) k t in l.gap k a (omega (arith, z)) (ap bucket_of e ∙ sym (p.own o refl))));
      own = λ i e. l.own i e ∙ p.own o refl;
    })

pub probed_found : (ids : List ℕ) (m x o : ℕ) → get_or ids o 0 ≡ x → Probed ids m x (suc o)
probed_found ids m x o e = record { found = λ k d h. let q : o ≡ k = omega arith in rw q at e; none = λ z. absurd (omega arith) }

pub probed_none : (ids : List ℕ) (m x j : ℕ) → j ≡ 0 → Probing ids m x j → Probed ids m x 0
probed_none ids m x j z p = record { found = λ k d h. absurd (omega arith); none = λ _ k h. p.passed k (omega arith) h }

pub sofar_none : (ids pages : List ℕ) → Sofar (λ k. k < 0) ids pages 0
sofar_none ids pages = record { pairs = λ i k p. absurd (omega arith); held = λ h. absurd (omega arith) }

pub compared_more : (ids pages : List ℕ) (i m best : ℕ) → i < length ids → m ≤ i → Probed ids i (get_or ids i 0) m
    → Sofar (λ k. k < i) ids pages best → Sofar (λ k. k < i + 1) ids pages (met_of ids pages i m best)
compared_more ids pages i m best h le p s =
    sofar_more ids pages i m best h (λ k l. decide k i (λ e. inl e) (λ e. inr (omega (arith, e)))) (record { right = right; full = λ k l b. full m refl k l }) s
  where
    right : (o : ℕ) → m ≡ suc o → get_or ids o 0 ≡ get_or ids i 0 → (o < length ids) × (o ≢ i) × (o < i)
    right o e d = ((omega arith), (omega arith), (omega arith))

    full : (v : ℕ) → m ≡ v → (k : ℕ) → k < i → get_or ids k 0 ≡ get_or ids i 0 → Linked ids i m
    full zero z k l e = absurd (p.none z k l e)
    full (suc o) z k l e = record { at = o; is = z; same = p.found o z le }

pub compared : (ids pages : List ℕ) (i best : ℕ) → length ids ≤ i → Sofar (λ k. k < i) ids pages best → best ≡ lowest_repeat ids pages
compared ids pages i best h s = sofar_all ids pages best (λ k l. omega arith) s

-- ---- a walk along bucket g that comes to the link j next

-- the places met: those of the buckets below g, and of bucket g from j on
abbrev Past : List ℕ → ℕ → ℕ → ℕ → Type 0
Past ids g j k = (bucket_of (get_or ids k 0) ≤ g) × (bucket_of (get_or ids k 0) ≡ g → j ≤ k)

pub record Walking (ids pages : List ℕ) (g : ℕ) (seen : List ℕ) (j best : ℕ) : Type 0 where
  pub le : j ≤ length ids
  own : (i : ℕ) → j ≡ suc i → bucket_of (get_or ids i 0) ≡ g
  last_seen : (h k : ℕ) → get_or seen h 0 ≡ suc k → (k < length ids) × Past ids g j k
  met : (k : ℕ) → j ≤ k → k < length ids → bucket_of (get_or ids k 0) ≡ g → Linked ids k (get_or seen (slot_of (get_or ids k 0)) 0)
  sofar : Sofar (Past ids g j) ids pages best

pub walking_start : (ids pages head seen : List ℕ) (g best : ℕ) → g < 16384 → Heads (length ids) ids head
    → Stage ids pages g seen best → Walking ids pages g seen (get_or head g 0) best
walking_start ids pages head seen g best h l s = rw (l.last g h) (let a = last ids g (length ids) in record {
  le = a.le;
  own = a.own;
  last_seen = λ h k e. let q = s.last_seen h k e in (q.0, ((omega arith), λ d. absurd (omega arith)));
  met = λ k p q e. absurd (a.gap k p q e);
  sofar = record {
    pairs = λ i k p q b d n e. s.sofar.pairs i k (below i p b) (below k q d) b d n e;
    held = s.sofar.held;
  };
})
  where
    below : (k : ℕ) → Past ids g (latest ids g (length ids)) k → k < length ids → bucket_of (get_or ids k 0) < g
    below k p h = decide (bucket_of (get_or ids k 0)) g (λ e. absurd ((last ids g (length ids)).gap k (p.1 e) h e)) (λ e. let q = p.0 in omega (arith, e))

module _ (ids pages next seen : List ℕ) (c : Chained (length ids) ids next)
    (g i best : ℕ) (w : Walking ids pages g seen (suc i) best) (fits : slot_of (get_or ids i 0) < length seen) where
  here : i < length ids
  here = let q = w.le in omega arith

  bucket : bucket_of (get_or ids i 0) ≡ g
  bucket = w.own i refl

  -- a place of the bucket from the next link on is i or was met
  split : {P : Type 0} (k : ℕ) → latest ids g i ≤ k → bucket_of (get_or ids k 0) ≡ g → (k ≡ i → P) → (suc i ≤ k → P) → P
  split k p e at_i met = decide k i at_i (λ d. by_cases (leb (suc i) k)
      (λ b. met (leb-true (suc i) k b))
      (λ b. let lo = leb-false (suc i) k b in absurd ((last ids g i).gap k p (omega (arith, d)) e)))

  grows : (k : ℕ) → Past ids g (latest ids g i) k → (k ≡ i) ⊎ Past ids g (suc i) k
  grows k p = decide (bucket_of (get_or ids k 0)) g
      (λ e. split k (p.1 e) e (λ d. inl d) (λ d. inr (p.0, λ _. d)))
      (λ e. inr (p.0, λ d. absurd (e d)))

  meets : Meets (Past ids g (suc i)) ids i (get_or seen (slot_of (get_or ids i 0)) 0)
  meets = record {
    right = λ o e s. let q = w.last_seen (slot_of (get_or ids i 0)) o e in
        (q.0, (let z = q.1.1 (ap bucket_of s ∙ bucket) in omega arith), q.1);
    full = λ k p h e. let m = w.met k (p.1 (ap bucket_of e ∙ bucket)) h (ap bucket_of e ∙ bucket) in
        record { at = m.at; is = sym (ap (λ (x : ℕ). get_or seen (slot_of x) 0) e) ∙ m.is; same = m.same ∙ e };
  }

  pub walking_more : Walking ids pages g (set seen (slot_of (get_or ids i 0)) (suc i)) (get_or next i 0) (met_of ids pages i (get_or seen (slot_of (get_or ids i 0)) 0) best)
  walking_more =
      let a = last ids g i in
      rw (c.link i here, bucket) (record {
        le = let q = a.le in let z = here in omega arith;
        own = a.own;
        last_seen = λ h k e. decide h (slot_of (get_or ids i 0))
            (λ d. let f = get_or-set_same seen (slot_of (get_or ids i 0)) (suc i) 0 fits in
            let q : i ≡ k = let z : suc i ≡ suc k = sym f ∙ (rw d at e) in omega arith in
            rw (← q) (here, ((let z = bucket in omega arith), λ _. a.le)))
            (λ d. let q = w.last_seen h k (sym (get_or-set_other seen (slot_of (get_or ids i 0)) h (suc i) 0 d) ∙ e) in
            (q.0, (q.1.0, λ z. let y = q.1.1 z in let x = a.le in omega arith)));
        met = λ k p q e. decide (slot_of (get_or ids k 0)) (slot_of (get_or ids i 0))
            (λ d. record {
              at = i;
              is = rw d (get_or-set_same seen (slot_of (get_or ids i 0)) (suc i) 0 fits);
              same = let z = bucket in omega arith;
            })
            (λ d. split k p e
            (λ y. absurd (d (ap (λ (n : ℕ). slot_of (get_or ids n 0)) y)))
            (λ y. let m = w.met k y q e in record {
              at = m.at;
              is = get_or-set_other seen (slot_of (get_or ids i 0)) (slot_of (get_or ids k 0)) (suc i) 0 d ∙ m.is;
              same = m.same;
            }));
        sofar = sofar_more ids pages i (get_or seen (slot_of (get_or ids i 0)) 0) best here grows meets w.sofar;
      })

pub walking_done : (ids pages : List ℕ) (g : ℕ) (seen : List ℕ) (best : ℕ) → Walking ids pages g seen 0 best → Stage ids pages (g + 1) seen best
walking_done ids pages g seen best w = record {
  last_seen = λ h k e. let q = w.last_seen h k e in (q.0, (let z = q.1.0 in omega arith));
  sofar = record {
    pairs = λ i k p q. w.sofar.pairs i k ((omega arith), λ _. omega arith) ((omega arith), λ _. omega arith);
    held = w.sofar.held;
  };
}

pub stage_none : (ids pages seen : List ℕ) → Blank seen → Stage ids pages 0 seen 0
stage_none ids pages seen b = record {
  last_seen = λ h k e. let q = b.zeros h in absurd (omega arith);
  sofar = record { pairs = λ i k p. absurd (omega arith); held = λ h. absurd (omega arith) };
}

pub stage_all : (ids pages seen : List ℕ) (best : ℕ) → Stage ids pages 16384 seen best → best ≡ lowest_repeat ids pages
stage_all ids pages seen best s = sofar_all ids pages best (λ k h. omega arith) s.sofar

pub seen_le : (ids pages : List ℕ) (g : ℕ) (seen : List ℕ) (j best : ℕ) → Walking ids pages g seen j best → (h : ℕ) → get_or seen h 0 ≤ length ids
seen_le ids pages g seen j best w h = go (get_or seen h 0) refl
  where
    go : (v : ℕ) → get_or seen h 0 ≡ v → v ≤ length ids
    go zero e = omega arith
    go (suc k) e = (w.last_seen h k e).0
