use Rattle.std.proofs.Common.{ℕ, ◌+◌, ◌*◌, ap, ◌∙◌, arith}
use Rattle.geometry_lanes.proofs.TurnLaws.{stays, moves}
use Rattle.geometry_lanes.proofs.bisection.settled.Goals as goal

pub returns-then-sum-pull : goal.returns-then-sum-pull
returns-then-sum-pull c =
    let a = c.args in
    let e = c.pull.ensures.0 ∙ ap (λ (x : ℕ). a.weight * x) c.saturating_sub.ensures in
    stays a.sum _ _ a.h (a.h + a.step) e (omega (arith, c.if-sum-pull.true))

pub returns-else-sum-pull : goal.returns-else-sum-pull
returns-else-sum-pull c =
    let a = c.args in
    let e = c.pull.ensures.0 ∙ ap (λ (x : ℕ). a.weight * x) c.saturating_sub.ensures in
    moves a.sum _ _ a.h (a.h + a.step) e (omega (arith, c.if-sum-pull.false))
