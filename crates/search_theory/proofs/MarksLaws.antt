-- Why the lists got by always marking the last row join up.
use Rattle.std.specs.Prelude.{◌≡◌, Bool, true, false, ℕ}
use Rattle.std.proofs.Math.Path.{refl, sym, ap}
use Rattle.std.proofs.Common.{◌∙◌, take-add, List, [], ◌∷◌, ◌++◌, append_assoc}
use Rattle.std.proofs.Math.ListN.{take, drop, take-append-drop}
use Rattle.lists.specs.Basics.{All, none, also, all_right, all_head}
use Rattle.lists.specs.Sorting.{filter, sum, Order, sort}
use Rattle.lists.specs.SortingLaws.{filter_append, filter_past, filter_all, filter_none, filter_filter, filter_sort}
use Rattle.lists.specs.ConcatMapLaws.{all_every}
use Rattle.lists.specs.Tests.{by_cases}
use Rattle.search_theory.specs.Nearest.{Ranking, row_order, candidates, nearest}
use Rattle.search_theory.specs.Marks.{narrowed, mark_last, read_on, Strict, next, unmarked}

module _ {A : Type 0} (past : A → A → Bool) (asym : (a b : A) → past a b ≡ true → past b a ≡ false) where
  itself : (x : A) → past x x ≡ false
  itself x = by_cases (past x x) (λ e. asym x x e) (λ e. e)

  strict_right : (u v : List A) → Strict past (u ++ v) → Strict past v
  strict_right [] v h = h
  strict_right (x ∷ u) v (next a h) = strict_right u v h

  -- none of u is past m, all of w are
  strict_left : (u : List A) (m : A) (w : List A) → Strict past (u ++ (m ∷ w)) → All (λ x. past m x ≡ false) u
  strict_left [] m w h = none
  strict_left (x ∷ u) m w (next a h) = also (asym x m (all_head (all_right u (m ∷ w) a))) (strict_left u m w h)

  strict_past : (m : A) (w : List A) → Strict past (m ∷ w) → All (λ x. past m x ≡ true) w
  strict_past m w (next a h) = a

  past_mark : (u : List A) (m : A) (w : List A) → Strict past (u ++ (m ∷ w)) → filter (past m) (u ++ (m ∷ w)) ≡ w
  past_mark u m w h =
      filter_append (past m) u (m ∷ w)
      ∙ ap (λ (t : List A). t ++ filter (past m) (m ∷ w)) (filter_none (past m) u (strict_left u m w h))
      ∙ filter_past (past m) m w (itself m) ∙ filter_all (past m) w (strict_past m w (strict_right u (m ∷ w) h))

  -- past the mark that rows (y ∷ ys) leave is what follows them
  mark_rest : (p : A → Bool) (u : List A) (y : A) (ys w : List A) → Strict past (u ++ ((y ∷ ys) ++ w)) → filter (mark_last past p (y ∷ ys)) (u ++ ((y ∷ ys) ++ w)) ≡ w
  unfolding mark_last
  mark_rest p u y [] w h = past_mark u y w h
  mark_rest p u y (z ∷ zs) w h =
      let e : u ++ (y ∷ z ∷ zs ++ w) ≡ (u ++ (y ∷ [])) ++ ((z ∷ zs) ++ w) = sym (append_assoc u (y ∷ []) ((z ∷ zs) ++ w)) in
      rw e (mark_rest p (u ++ (y ∷ [])) z zs w (rw e at h))

  marked : (p : A → Bool) (u t w : List A) → Strict past (u ++ (t ++ w)) → filter p (u ++ (t ++ w)) ≡ t ++ w → filter (mark_last past p t) (u ++ (t ++ w)) ≡ w
  unfolding mark_last
  marked p u [] w s e = e
  marked p u (y ∷ ys) w s e = mark_rest p u y ys w s

  module _ (r : Ranking A) (o : Order (row_order r)) (xs : List A) where
    -- the candidates of a narrower choice
    pub narrowed_candidates : (p : A → Bool) → candidates (narrowed r p) xs ≡ filter p (candidates r xs)
    unfolding candidates
    narrowed_candidates p = ap (sort (row_order r)) (sym (filter_filter r.passes p xs)) ∙ sym (filter_sort (row_order r) o p (filter r.passes xs))

    -- u: the candidates in earlier lists; v: those past the mark p
    read_on_rest : (ks : List ℕ) (p : A → Bool) (u v : List A) → candidates r xs ≡ u ++ v → Strict past (u ++ v) → filter p (u ++ v) ≡ v
        → read_on past r p ks xs ≡ take (sum (λ k. k) ks) v
    unfolding read_on nearest sum
    read_on_rest [] p u v c s e = refl
    read_on_rest (k ∷ ks) p u v c s e =
        let parts : take k v ++ drop k v ≡ v = take-append-drop k v in
        let list : take k (candidates (narrowed r p) xs) ≡ take k v = ap (take k) (narrowed_candidates p ∙ ap (filter p) c ∙ e) in
        let whole : u ++ (take k v ++ drop k v) ≡ (u ++ take k v) ++ drop k v = sym (append_assoc u (take k v) (drop k v)) in
        let strict : Strict past (u ++ (take k v ++ drop k v)) = rw parts s in
        let rest : filter p (u ++ (take k v ++ drop k v)) ≡ take k v ++ drop k v = rw parts e in
        let rest' : filter (mark_last past p (take k v)) (u ++ (take k v ++ drop k v)) ≡ drop k v = marked p u (take k v) (drop k v) strict rest in
        ap (λ (t : List A). t ++ read_on past r (mark_last past p t) ks xs) list
        ∙ ap (λ (t : List A). take k v ++ t)
        (read_on_rest ks (mark_last past p (take k v)) (u ++ take k v) (drop k v)
        (c ∙ ap (λ (t : List A). u ++ t) (sym parts) ∙ whole) (rw whole at strict) (ap (filter (mark_last past p (take k v))) (sym whole) ∙ rest'))
        ∙ sym (take-add k (sum (λ k. k) ks) v)

    pub read_on_joins : Strict past (candidates r xs) → (ks : List ℕ) → read_on past r unmarked ks xs ≡ nearest r (sum (λ k. k) ks) xs
    unfolding nearest
    read_on_joins s ks = read_on_rest ks unmarked [] (candidates r xs) refl s (filter_all unmarked (candidates r xs) (all_every (λ x. refl) (candidates r xs)))
