-- What holds in both cases of a test holds of a choice, and of its indicator.
use Rattle.std.specs.Prelude.{◌≡◌, refl, Bool, true, false, ◌≤◌, ◌<◌}
use Rattle.std.proofs.Common.{arith}
use Rattle.lists.specs.Basics.{if, indicator}

pub bool_cases : (P : Bool → Type 0) (c : Bool) → (c ≡ true → P true) → (c ≡ false → P false) → P c
bool_cases P true f g = f refl
bool_cases P false f g = g refl

pub if_cases : {A : Type 0} (P : A → Type 0) (c : Bool) (a b : A) → (c ≡ true → P a) → (c ≡ false → P b) → P (if c a b)
if_cases P true a b f g = f refl
if_cases P false a b f g = g refl

pub indicator_le : (c : Bool) → indicator c ≤ 1
indicator_le true = omega arith
indicator_le false = omega arith

pub indicator_true : (c : Bool) → 0 < indicator c → c ≡ true
indicator_true true h = refl
indicator_true false h = absurd (omega arith)
