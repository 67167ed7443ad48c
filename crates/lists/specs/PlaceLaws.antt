-- The place of an element in a sorted list, looked for from the last on.
use Rattle.std.specs.Prelude.{◌≡◌, refl, Bool, false, set}
use Rattle.std.proofs.Math.Path.{sym, ap, ap₂}
use Rattle.std.proofs.Common.{◌∙◌, arith, length-take, take-suc, lt-length-set, drop-set-lt, get_or-set_same, take-take}
use Rattle.std.proofs.Math.Bool.{true}
use mathlib.Core.List.{List, [], ◌∷◌, ◌++◌}
use Prim.Native.Nat.{ℕ, zero, suc, ◌≤◌, ◌<◌}
use Rattle.std.proofs.Math.ListN.{length, take, drop, get_or}
use Rattle.std.proofs.Math.Seq.{drop-cons, append_snoc, take-set-lt, set_split}
use Rattle.std.proofs.lemmas.List.{take-set-le}
use Rattle.lists.specs.Sorting.{insert_by, Order, Sorted, end, next}
use Rattle.lists.specs.Tabulated.{all_at, all_take}
use Rattle.lists.specs.Tests.{by_cases}

module _ {A : Type 0} (before : A → A → Bool) where
  -- x goes in ahead of a last element that is not before it
  pub ins_snoc : (x r : A) (s : List A) → before r x ≡ false → insert_by before x (s ++ (r ∷ [])) ≡ insert_by before x s ++ (r ∷ [])
  unfolding insert_by
  ins_snoc x r [] h = rw h
  ins_snoc x r (y ∷ ys) h = by_cases (before y x) (λ e. rw e (ap (λ (t : List A). y ∷ t) (ins_snoc x r ys h))) (λ e. rw e)

  -- and behind a last element that is before it
  pub ins_last : Order before → (x d : A) (j : ℕ) (s : List A) → Sorted before s → length s ≡ suc j → before (get_or s j d) x ≡ true → insert_by before x s ≡ s ++ (x ∷ [])
  unfolding insert_by
  ins_last o x d j [] end l e = absurd (omega arith)
  ins_last o x d zero (y ∷ []) (next a s) l e = rw e
  ins_last o x d zero (y ∷ z ∷ zs) (next a s) l e = absurd (omega arith)
  ins_last o x d (suc j) (y ∷ ys) (next a s) l e =
      let f : before y x ≡ true = o.through (get_or ys j d) y x (all_at a j d (omega arith)) e in
      rw f (ap (λ (t : List A). y ∷ t) (ins_last o x d j ys s (omega arith) e))

  -- the first n and x, where x has come down to index i and those passed have moved up by one
  unfoldable pub sliding : A → ℕ → ℕ → List A → List A
  sliding x n i l = insert_by before x (take i l) ++ drop (suc i) (take (suc n) l)

  -- the element at index j, not before x, moves up
  pub slide_turn : (x d : A) (n j : ℕ) (l : List A) → j < n → n < length l → before (get_or l j d) x ≡ false
      → sliding x n (suc j) l ≡ sliding x n j (set l (suc j) (get_or l j d))
  unfolding sliding
  slide_turn x d n j l a b h =
      let r = get_or l j d in
      let m = take (suc n) l in
      let w : suc j < length m = rw (length-take (suc n) l) (omega arith) in
      let front : insert_by before x (take (suc j) l) ≡ insert_by before x (take j l) ++ (r ∷ []) = ap (insert_by before x) (take-suc l j d (omega arith)) ∙ ins_snoc x r (take j l) h in
      let back : drop (suc j) (take (suc n) (set l (suc j) r)) ≡ r ∷ drop (suc (suc j)) m =
      ap (drop (suc j)) (take-set-lt (suc n) l (suc j) r (omega arith))
      ∙ drop-cons (set m (suc j) r) (suc j) d (lt-length-set m (suc j) r w)
      ∙ ap₂ (λ (y : A) (t : List A). y ∷ t) (get_or-set_same m (suc j) r d w) (drop-set-lt (suc (suc j)) m (suc j) r (omega arith)) in
      ap (λ (t : List A). t ++ drop (suc (suc j)) m) front
      ∙ append_snoc (insert_by before x (take j l)) r (drop (suc (suc j)) m)
      ∙ ap₂ (λ (s t : List A). insert_by before x s ++ t) (sym (take-set-le j l (suc j) r (omega arith))) (sym back)

  -- x is put down at index i
  pub slide_end : (x : A) (n i : ℕ) (l : List A) → i ≤ n → n < length l → insert_by before x (take i l) ≡ take i l ++ (x ∷ [])
      → take (suc n) (set l i x) ≡ sliding x n i l
  unfolding sliding
  slide_end x n i l a b h =
      let m = take (suc n) l in
      take-set-lt (suc n) l i x (omega arith)
      ∙ set_split m i x (rw (length-take (suc n) l) (omega arith))
      ∙ ap (λ (t : List A). t ++ x ∷ drop (suc i) m) (take-take i (suc n) l (omega arith))
      ∙ sym (append_snoc (take i l) x (drop (suc i) m))
      ∙ ap (λ (t : List A). t ++ drop (suc i) m) (sym h)

  pub sorted_take : (n : ℕ) (s : List A) → Sorted before s → Sorted before (take n s)
  sorted_take zero s h = end
  sorted_take (suc n) [] h = end
  sorted_take (suc n) (x ∷ xs) (next a h) = next (all_take n a) (sorted_take n xs h)
