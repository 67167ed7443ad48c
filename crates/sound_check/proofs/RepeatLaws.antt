-- What a repeated identifier shows. Assumes nothing.
use Rattle.std.proofs.Common.{◌≡◌, sym, ◌∙◌, subst, List, map, ℕ, ◌≤◌, ◌<◌, arith, ltb, length, get_or, take, ltb-true, ltb-false}
use Rattle.lists.specs.Counts.{mult, mult_append, mult_none}
use Rattle.lists.specs.Members.{At, get_spot, spot_get, spot_below, spot_map, map_spot, all_spot, mult_two, mult_find_two}
use Rattle.lists.specs.Sorting.{sum}
use Rattle.lists.specs.Tests.{by_cases, decide}
use Rattle.pagestore.specs.Store.{View, view_of}
use Rattle.tree_model.specs.Trees.{ident_of, live}
use Rattle.sound_faults.specs.Faults.{FailsAt}
use Rattle.sound_faults.specs.Linked.{Followed}
use Rattle.sound_faults.specs.Stored.{view_stored}
use Rattle.sound_faults.specs.Shapes.{idents}
use Rattle.sound_faults.proofs.Assembled.{reached_page, live_idents}
use Rattle.sound_faults.specs.Repeated.{repeated_fails}
use Rattle.sound_chains.specs.Repeats.{lowest_repeat, Repeated}
use Rattle.sound_chains.proofs.RepeatsLaws.{lowest_repeat_law}
use Rattle.lists.specs.Judges.{Found, nowhere, at}
use Rattle.sound_links.specs.Marks.{marked_to}
use Rattle.sound_visit.specs.Collect.{ident_on, holder_of, pairs_to, Collected}
use Rattle.sound_check.specs.Outcome.{Counted}
use Rattle.sound_links.proofs.MarkedLaws.{marked_followed}
use Rattle.sound_visit.proofs.CollectLaws.{counted_pairs, PairOk, pairs_ok}

module _ (b m : List ℕ) (c : Counted (view_of b) m) where
  abbrev v : View
  v = view_of b

  abbrev ps : List (ℕ × ℕ)
  ps = pairs_to (view_of b) m (view_of b).count

  abbrev is : List ℕ
  is = map ident_on (pairs_to (view_of b) m (view_of b).count)

  abbrev hs : List ℕ
  hs = map holder_of (pairs_to (view_of b) m (view_of b).count)

  followed : Followed v (marked_to m v.count)
  followed = marked_followed v m c.marks

  times : (i : ℕ) → mult i (map ident_of (live v)) ≡ mult i is
  times i =
      live_idents v (view_stored b) c.linked (marked_to m v.count) followed i
      ∙ sym (counted_pairs v m (mult i) (mult_none i) (mult_append i) v.count)

  -- the pair at a place
  record Pair (j : ℕ) : Type 0 where
    pub both : ℕ × ℕ
    pub ident : get_or is j 0 ≡ both.0
    pub holder : get_or hs j 0 ≡ both.1
    pub ok : PairOk v m both

  pair : (j : ℕ) → j < length is → Pair j
  pair j h =
      let w = map_spot ident_on ps (get_spot is j 0 h) in
      record { both = w.0; ident = w.2; holder = spot_get 0 (spot_map holder_of w.1); ok = all_spot (pairs_ok v m v.count) w.1 }

  fails : (j : ℕ) → Repeated is j → FailsAt v (get_or hs j 0)
  fails j t =
      let q = pair j t.here in
      let x : ℕ = get_or is j 0 in
      let two : 2 ≤ mult x is = mult_two (get_spot is j 0 t.here) (subst (At is t.other) t.same (get_spot is t.other 0 t.there)) (λ e. t.apart (sym e)) in
      let id : x ≡ q.ok.value.id = q.ident ∙ q.ok.ident in
      subst (FailsAt v) (sym q.holder)
      (repeated_fails v (marked_to m v.count) followed q.both.1 q.ok.spot q.ok.value
      (record { reached = c.marks.reached q.both.1 q.ok.marked; at = q.ok.at })
      (subst (λ (i : ℕ). 2 ≤ sum (λ p. mult i (idents v p)) (marked_to m v.count)) id
      (omega (arith, two, counted_pairs v m (mult x) (mult_none x) (mult_append x) v.count))))

  real : (j : ℕ) → j < length is → 0 < get_or hs j 0
  real j h = let q = pair j h in omega (arith, q.holder, (reached_page (c.marks.reached q.both.1 q.ok.marked)).0)

  distinct : lowest_repeat is hs ≡ 0 → (i : ℕ) → mult i (map ident_of (live v)) ≤ 1
  distinct z i =
      by_cases (ltb 1 (mult i is))
      (λ t. let w = mult_find_two i is (omega (arith, ltb-true 1 (mult i is) t)) in
      let h : w.0 < length is = spot_below w.2 in
      let u = (lowest_repeat_law is hs).least w.0
      (record { here = h; other = w.1; there = spot_below w.3; apart = λ e. w.4 (sym e); same = spot_get 0 w.3 ∙ sym (spot_get 0 w.2) })
      (real w.0 h) in
      absurd (omega (arith, u.0, z)))
      (λ t. omega (arith, times i, ltb-false 1 (mult i is) t))

  pub repeat_found : {n r : ℕ} {ids holders : List ℕ} → Collected (pairs_to (view_of b) m (view_of b).count) n ids holders → r ≡ lowest_repeat (take n ids) (take n holders)
      → Found ((i : ℕ) → mult i (map ident_of (live (view_of b))) ≤ 1) (FailsAt (view_of b)) r
  repeat_found {n} {r} {ids} {holders} k e =
      let s : r ≡ lowest_repeat is hs = e ∙ (λ i. lowest_repeat (k.idents i) (k.pages i)) in
      decide r 0
      (λ z. subst (Found ((i : ℕ) → mult i (map ident_of (live v)) ≤ 1) (FailsAt v)) (sym z) (nowhere (distinct (sym s ∙ z))))
      (λ d. let o : 0 < lowest_repeat is hs = omega (arith, s, d) in
      let h = (lowest_repeat_law is hs).held o in
      at r (omega (arith, d)) (subst (FailsAt v) (h.page ∙ sym s) (fails h.at h.twice)))
