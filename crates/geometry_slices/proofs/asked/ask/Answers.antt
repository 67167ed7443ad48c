use Rattle.std.proofs.Common.{arith}
use Rattle.geometry_slices.proofs.AskLaws.{laid_out}
use Rattle.geometry_slices.proofs.asked.ask.Goals as goal

pub returns : goal.returns
returns c =
    let a = c.args in let l = c.loop-m in let p = c.requires in
    laid_out a.low.now a.high.now a.weight.now l.asked p.0 (p.1, p.2) l.invariant.0 (λ k h. l.invariant.1 k (omega arith))
