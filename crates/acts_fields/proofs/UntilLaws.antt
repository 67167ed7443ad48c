-- Where a byte first stands is where a search finds it.
use Rattle.std.proofs.Common.{◌≡◌, refl, sym, ap, ◌∙◌, ℕ, ◌+◌, ◌-◌, ◌≤◌, Option, take, drop, take_all, length-drop, List, [], ◌∷◌, Some, None, length, eqb, nat_eq, nat_lt, position, arith, ltb-false}
use Rattle.std.specs.List.{position_or_len}
use Rattle.std.proofs.lemmas.List.Sums.{prefix_len-le-length}
use Rattle.std.proofs.lemmas.Option.{cond_some, none-some}
use Rattle.lists.specs.Tests.{by_cases}
use Rattle.acts_fields.specs.Bytes.{until}

until_is : (b : ℕ) (l : List ℕ) → until b l ≡ position_or_len (λ x. nat_eq x b) l
unfolding until
until_is b [] = refl
until_is b (x ∷ l) = by_cases (eqb x b) (λ e. rw e) (λ e. rw e (omega (arith, until_is b l)))

until_le : (b : ℕ) (l : List ℕ) → until b l ≤ length l
until_le b l = rw (until_is b l) (prefix_len-le-length _ l)

-- in what is left of s from index at on, as the code cuts it
abbrev Sought : ℕ → ℕ → List ℕ → Option ℕ → Type 0
Sought b at s r = r ≡ position (λ x. nat_eq x b) (take (length s - at) (drop at s))

module _ (b at : ℕ) (s : List ℕ) (h : at ≤ length s) (r : Option ℕ) (e : Sought b at s r) where
  sought : r ≡ position (λ x. nat_eq x b) (drop at s)
  sought = e ∙ ap (position (λ x. nat_eq x b)) (take_all (length s - at) (drop at s) (omega (arith, length-drop at s)))

  pub found : (i : ℕ) → r ≡ Some i → (at + i ≡ at + until b (drop at s)) × (at + i ≤ length s)
  found i f =
      let e : i ≡ until b (drop at s) =
      sym (until_is b (drop at s) ∙ (cond_some (nat_lt (position_or_len (λ x. nat_eq x b) (drop at s)) (length (drop at s))) _ i (sym sought ∙ f)).1) in
      (ap (λ (x : ℕ). at + x) e, omega (arith, until_le b (drop at s), length-drop at s))

  pub not_found : r ≡ None → length s ≡ at + until b (drop at s)
  not_found f = by_cases (nat_lt (position_or_len (λ x. nat_eq x b) (drop at s)) (length (drop at s)))
      (λ e. absurd (none-some _ (sym (rw e at (sym sought ∙ f)))))
      (λ e. omega (arith, until_le b (drop at s), until_is b (drop at s), ltb-false _ _ e, length-drop at s))
