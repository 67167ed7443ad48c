use Rattle.std.proofs.Common.{ℕ, ◌*◌, ap, ◌∙◌, arith}
use Rattle.geometry_slices.specs.Questions.{row_square}
use Rattle.geometry_slices.proofs.RowLaws.{sum_none, sum_more}
use Rattle.geometry_slices.proofs.slices.row_squares.Goals as goal

pub loop-m-init : goal.loop-m-init
loop-m-init c = let a = c.args in (omega arith, omega (arith, sum_none (row_square a.near.now a.at a.h)))

pub loop-m-preserved : goal.loop-m-preserved
loop-m-preserved c =
    let a = c.args in let l = c.loop-m in
    let e = c.square-sum.ensures.0 ∙ ap (λ (g : ℕ). g * g) c.saturating_sub.ensures in
    (omega (arith, c.square-sum.ensures), omega (arith, e, l.invariant, sum_more l.m (row_square a.near.now a.at a.h)))
