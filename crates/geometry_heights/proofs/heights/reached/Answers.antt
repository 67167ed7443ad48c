use Rattle.std.proofs.Common.{eq-eqb, ne_eqb, sym, ap, Bool, ℕ}
use Rattle.lists.specs.Basics.{if}
use Rattle.geometry_heights.proofs.heights.reached.Goals as goal

-- `heights::reached` meets its contract.
pub returns-then-weight-eq0 : goal.returns-then-weight-eq0
returns-then-weight-eq0 c = let a = c.args in sym (ap (λ (b : Bool). if {A = ℕ} b 0 a.x) (eq-eqb a.weight 0 c.if-weight-eq0.true))

pub returns-else-weight-eq0 : goal.returns-else-weight-eq0
returns-else-weight-eq0 c = let a = c.args in sym (ap (λ (b : Bool). if {A = ℕ} b 0 a.x) (ne_eqb a.weight 0 c.if-weight-eq0.false))
