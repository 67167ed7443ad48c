use Rattle.std.proofs.Common.{◌+◌, ◌-◌, ◌∙◌, drop, get_or-take, get_or-drop, arith}
use Rattle.geometry_bounds.proofs.SpanBoundLaws.{between_more}
use Rattle.geometry_bounds.proofs.bounds.between.Goals as goal

pub loop-distance-preserved : goal.loop-distance-preserved
loop-distance-preserved c =
    let a = c.args in let l = c.loop-distance in let n = l.distance-index in
    let e = get_or-take (a.i2 - (a.i1 + 1)) (drop (a.i1 + 1) a.whole.now) n 0 (omega arith) ∙ get_or-drop (a.i1 + 1) a.whole.now n 0 in
    omega (arith, c.min-least.ensures, e, l.invariant, between_more a.whole.now a.best a.i1 n)
