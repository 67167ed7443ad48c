-- What a test shows where it passes and where it does not, and what a search shows that answers with a number.
use Rattle.std.specs.Prelude.{◌≡◌, refl, Bool, true, false, ℕ, ◌≤◌, ◌<◌, leb, eqb}
use Rattle.std.proofs.Common.{sym, ap, subst, arith, eqb-true, leb-true, leb-false}
use Rattle.std.proofs.lemmas.Bool.{eqb-false}
use Rattle.lists.specs.Basics.{indicator}
use Rattle.lists.specs.Tests.{by_cases}

-- a test that shows P where it passes, and Q where it does not
pub data Judges (P Q : Type 0) : Bool → Type 0 where
  pass : P → Judges P Q true
  fault : Q → Judges P Q false

-- a test of P
abbrev pub Decides : Type 0 → Bool → Type 0
Decides P = Judges P (¬ P)

-- 0 where P holds, else a number of which Q holds
pub data Found (P : Type 0) (Q : ℕ → Type 0) : ℕ → Type 0 where
  nowhere : P → Found P Q 0
  at : (p : ℕ) → 0 < p → Q p → Found P Q p

-- ---- LAWS

pub passes : {P Q : Type 0} {r : Bool} → Judges P Q r → r ≡ true → P
passes (pass h) e = h
passes (fault h) e = absurd (let z : ◌≡◌ {A = ℕ} 0 1 = ap indicator e in omega arith)

pub faults : {P Q : Type 0} {r : Bool} → Judges P Q r → r ≡ false → Q
faults (pass h) e = absurd (let z : ◌≡◌ {A = ℕ} 1 0 = ap indicator e in omega arith)
faults (fault h) e = h

pub judge_map : {P P' Q Q' : Type 0} {r : Bool} → (P → P') → (Q → Q') → Judges P Q r → Judges P' Q' r
judge_map f g (pass h) = pass (f h)
judge_map f g (fault h) = fault (g h)

pub judge_eq : {P Q : Type 0} (a b : ℕ) → (a ≡ b → P) → (¬ (a ≡ b) → Q) → Judges P Q (eqb a b)
judge_eq {P} {Q} a b f g =
    by_cases (eqb a b)
    (λ e. subst (Judges P Q) (sym e) (pass (f (eqb-true a b e))))
    (λ e. subst (Judges P Q) (sym e) (fault (g (eqb-false a b e))))

pub judge_le : {P Q : Type 0} (a b : ℕ) → (a ≤ b → P) → (b < a → Q) → Judges P Q (leb a b)
judge_le {P} {Q} a b f g =
    by_cases (leb a b)
    (λ e. subst (Judges P Q) (sym e) (pass (f (leb-true a b e))))
    (λ e. subst (Judges P Q) (sym e) (fault (g (leb-false a b e))))

pub found_at : {P : Type 0} {Q : ℕ → Type 0} {p : ℕ} → Found P Q p → ¬ (p ≡ 0) → Q p
found_at (nowhere h) n = absurd (n refl)
found_at (at p o h) n = h

pub found_nowhere : {P : Type 0} {Q : ℕ → Type 0} {p : ℕ} → Found P Q p → p ≡ 0 → P
found_nowhere (nowhere h) e = h
found_nowhere (at p o h) e = absurd (omega arith)
