-- A loop that has passed i of the elements xs, where c is what is counted: it goes on at one that passes the test, and stops at one that does not, or at the end.
use Rattle.std.proofs.Common.{◌≡◌, ap, Bool, true, false, List, ℕ, suc, ◌+◌, ◌≤◌, ◌<◌, arith, add-one, length, get_or, drop, drop-cons, drop_of_length-le}
use Rattle.lists.specs.Leading.{leading}

module _ {A : Type 0} (t : A → Bool) (d : A) (xs : List A) (c i : ℕ) (e : c ≡ i + leading t (drop i xs)) where
  pub place_next : i < length xs → t (get_or xs i d) ≡ true → c ≡ (i + 1) + leading t (drop (i + 1) xs)
  unfolding leading
  place_next h p =
      let f : leading t (drop i xs) ≡ suc (leading t (drop (suc i) xs)) = rw (drop-cons xs i d h, p) in
      rw (add-one i) (omega (arith, e, f))

  pub place_here : i < length xs → t (get_or xs i d) ≡ false → i ≡ c
  unfolding leading
  place_here h p =
      let f : leading t (drop i xs) ≡ 0 = rw (drop-cons xs i d h, p) in
      omega (arith, e, f)

  pub place_end : length xs ≤ i → i ≡ c
  unfolding leading
  place_end h =
      let f : leading t (drop i xs) ≡ 0 = ap (leading t) (drop_of_length-le xs {i = i} h) in
      omega (arith, e, f)
