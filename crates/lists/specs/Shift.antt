-- One element put in at an index, and the shifts of a list in place that do it.
use Rattle.std.specs.Prelude.{◌≡◌}
use Rattle.std.proofs.Math.Path.{sym, ap}
use Rattle.std.proofs.Common.{◌∙◌, add-one, take-append-drop, length-append, take-suc}
use mathlib.Core.List.{List, [], ◌∷◌, ◌++◌, append_assoc}
use Prim.Native.Nat.{ℕ, suc, ◌+◌, ◌-◌, ◌≤◌, ◌<◌}
use native.Mathlib.Omega.{arith}
use Rattle.std.proofs.Math.ListN.{length, get_or, set, take, drop, length-drop, get_or-append}
use Rattle.std.proofs.Math.Seq.{drop-cons, set_at, get_or-take, length-take-le, take-add, take_at, drop_at}

-- x put in at index k
unfoldable pub insert_at : {A : Type 0} → List A → ℕ → A → List A
insert_at xs k x = take k xs ++ (x ∷ drop k xs)

-- the elements from index i up to index n, one place further up
unfoldable pub raised : {A : Type 0} → List A → ℕ → ℕ → List A
raised s i n = take (i + 1) s ++ (take (n - i) (drop i s) ++ drop (n + 1) s)

module _ {A : Type 0} where
  pub raised_none : (s : List A) (n : ℕ) → s ≡ raised s n n
  unfolding raised
  raised_none s n = let z : n - n ≡ 0 = omega arith in rw z (sym (take-append-drop (n + 1) s))

  pub raised_more : (s : List A) (i j n : ℕ) (o : A) → i ≡ suc j → i ≤ n → n < length s
      → set (raised s i n) i (get_or (raised s i n) j o) ≡ raised s j n
  unfolding raised
  raised_more s i j n o q h k =
      let r : List A = take (n - i) (drop i s) ++ drop (n + 1) s in
      let e : j + 1 ≡ i = omega arith in
      let t : take (i + 1) s ≡ take i s ++ (get_or s i o ∷ []) = rw (add-one i) (take-suc s i o (omega arith)) in
      let v : get_or (take (i + 1) s ++ r) j o ≡ get_or s j o =
      get_or-append (take (i + 1) s) r o j (omega (arith, length-take-le (i + 1) s (omega arith))) ∙ get_or-take (i + 1) s j o (omega arith) in
      let d : drop j s ≡ get_or s j o ∷ drop i s = drop-cons s j o (omega arith) ∙ ap (λ (m : ℕ). get_or s j o ∷ drop m s) (sym q) in
      let b : n - j ≡ suc (n - i) = omega arith in
      let u : take (n - j) (drop j s) ≡ get_or s j o ∷ take (n - i) (drop i s) = rw (d, b) in
      let x : A = get_or (take (i + 1) s ++ r) j o in
      ap (λ (l : List A). set (l ++ r) i x) t
      ∙ ap (λ (l : List A). set l i x) (append_assoc (take i s) (get_or s i o ∷ []) r)
      ∙ set_at (take i s) (get_or s i o) r x i (length-take-le i s (omega arith))
      ∙ ap (λ (y : A). take i s ++ (y ∷ r)) v
      ∙ ap (λ (l : List A). take i s ++ (l ++ drop (n + 1) s)) (sym u)
      ∙ ap (λ (m : ℕ). take m s ++ (take (n - j) (drop j s) ++ drop (n + 1) s)) (sym e)

  -- the place that is free now is filled
  pub raised_filled : (s : List A) (n k : ℕ) (x d : A) → k ≤ n → n + 1 ≤ length s → take (n + 1) (set (raised s k n) k x) ≡ insert_at (take n s) k x
  unfolding raised insert_at
  raised_filled s n k x d h g =
      let t : List A = take (n - k) (drop k s) in
      let r : List A = drop (n + 1) s in
      let lk : length (take k s) ≡ k = length-take-le k s (omega arith) in
      let lt : length t ≡ n - k = length-take-le (n - k) (drop k s) (omega (arith, length-drop k s)) in
      let a : take (k + 1) s ≡ take k s ++ (get_or s k d ∷ []) = rw (add-one k) (take-suc s k d (omega arith)) in
      let m : n ≡ k + (n - k) = omega arith in
      let e : take n s ≡ take k s ++ t = ap (λ (i : ℕ). take i s) m ∙ take-add k (n - k) s in
      ap (λ (l : List A). take (n + 1) (set (l ++ (t ++ r)) k x)) a
      ∙ ap (λ (l : List A). take (n + 1) (set l k x)) (append_assoc (take k s) (get_or s k d ∷ []) (t ++ r))
      ∙ ap (take (n + 1)) (set_at (take k s) (get_or s k d) (t ++ r) x k lk ∙ sym (append_assoc (take k s) (x ∷ t) r))
      ∙ take_at (take k s ++ (x ∷ t)) r (n + 1) (length-append (take k s) (x ∷ t) ∙ omega arith)
      ∙ rw (e, take_at (take k s) t k lk, drop_at (take k s) t k lk)
