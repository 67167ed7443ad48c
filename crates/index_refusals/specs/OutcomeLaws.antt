-- Laws of what an act leaves.
use Rattle.std.specs.Prelude.{◌≡◌, refl, ◌≢◌, ℕ, zero, suc}
use Rattle.std.proofs.Common.{arith}
use Rattle.index_refusals.specs.Outcomes.{unless_refused}

pub carried_out_law : {A : Type 0} (n : ℕ) (new old x : A) → n ≡ 0 → x ≡ new → x ≡ unless_refused n new old
carried_out_law zero new old x z e = e
carried_out_law (suc n) new old x z e = absurd (omega (arith, z))

pub left_alone : {A : Type 0} (n : ℕ) (new old x : A) → n ≢ 0 → x ≡ old → x ≡ unless_refused n new old
left_alone zero new old x z e = absurd (z refl)
left_alone (suc n) new old x z e = e
