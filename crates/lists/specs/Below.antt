-- A law of the numbers below a bound, shown by computing its test at each of them.
use Rattle.std.specs.Prelude.{◌≡◌, Bool, true, false, ℕ, zero, suc, ◌<◌}
use Rattle.std.proofs.Common.{sym, ap, ◌∙◌, arith}
use Rattle.lists.specs.Basics.{if}
use Rattle.lists.specs.Tests.{by_cases, decide, false_true}

-- the test holds of each number below n
unfoldable pub all_below : ℕ → (ℕ → Bool) → Bool
all_below zero f = true
all_below (suc n) f = if (f n) (all_below n f) false

pub all_below_law : (n : ℕ) (f : ℕ → Bool) → all_below n f ≡ true → (m : ℕ) → m < n → f m ≡ true
unfolding all_below
all_below_law zero f h m l = absurd (omega arith)
all_below_law (suc n) f h m l =
    by_cases (f n)
    (λ e. decide m n (λ s. ap f s ∙ e) (λ d. all_below_law n f (sym (ap (λ (b : Bool). if b (all_below n f) false) e) ∙ h) m (omega arith)))
    (λ e. false_true (sym (ap (λ (b : Bool). if b (all_below n f) false) e) ∙ h))
