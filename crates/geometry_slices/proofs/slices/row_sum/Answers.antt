use Rattle.std.proofs.Common.{ℕ, ◌+◌, ◌*◌, ap, get_or, ◌∙◌, arith}
use Rattle.geometry_slices.specs.Questions.{row_cost}
use Rattle.geometry_slices.proofs.RowLaws.{sum_none, sum_more}
use Rattle.geometry_slices.proofs.slices.row_sum.Goals as goal

pub loop-m-init : goal.loop-m-init
loop-m-init c = let a = c.args in (omega arith, omega (arith, sum_none (row_cost a.asked.now a.near.now a.at a.h)))

pub loop-m-preserved : goal.loop-m-preserved
loop-m-preserved c =
    let a = c.args in let l = c.loop-m in
    let e = c.weigh-sum.ensures.0 ∙ ap (λ (g : ℕ). get_or a.asked.now (32 + l.m) 0 * (g * g)) c.saturating_sub.ensures in
    (omega (arith, c.weigh-sum.ensures), omega (arith, e, l.invariant, sum_more l.m (row_cost a.asked.now a.near.now a.at a.h)))
