-- The first i elements of a list, one more, and the next.
use Rattle.std.specs.Prelude.{◌≡◌, List, [], ◌∷◌, ◌++◌, ℕ, suc, ◌+◌, ◌≤◌, ◌<◌, length, get_or, take, drop}
use Rattle.std.proofs.Common.{sym, ap, ◌∙◌, subst, arith, add-one, length-take, take-append-drop, take-suc, get_or-take, take-take, drop-cons}
use Rattle.lists.specs.Basics.{All, none, also, all_append}
use Rattle.lists.specs.Members.{At, get_spot}

module _ {A : Type 0} (d : A) (xs : List A) where
  pub take_more : (i : ℕ) → i < length xs → take (i + 1) xs ≡ take i xs ++ (get_or xs i d ∷ [])
  take_more i h = rw (add-one i) (take-suc xs i d h)

  pub take_next : (i n : ℕ) → i < n → n ≤ length xs → (ys : List A) × (take n xs ≡ take i xs ++ (get_or xs i d ∷ ys))
  take_next i n h g =
      let zs : List A = take n xs in
      let l : i < length zs = omega (arith, length-take n xs) in (
        drop (suc i) zs,
        sym (take-append-drop i zs)
            ∙ ap (λ (r : List A). r ++ drop i zs) (take-take i n xs (omega arith))
            ∙ ap (λ (r : List A). take i xs ++ r) (drop-cons zs i d l ∙ ap (λ (x : A). x ∷ drop (suc i) zs) (get_or-take n xs i d h)),
      )

  pub take_spot : (i n : ℕ) → i < n → n ≤ length xs → At (take n xs) i (get_or xs i d)
  take_spot i n h g =
      subst (At (take n xs) i) (get_or-take n xs i d h) (get_spot (take n xs) i d (omega (arith, length-take n xs)))

module _ {A : Type 0} {P : A → Type 0} (d : A) (xs : List A) where
  pub all_more : (i : ℕ) → i < length xs → All P (take i xs) → P (get_or xs i d) → All P (take (i + 1) xs)
  all_more i h a p = rw (take_more d xs i h) (all_append a (also p none))
