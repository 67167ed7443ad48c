use Rattle.std.proofs.Common.{arith}
use Rattle.geometry.proofs.LoopLaws.{lead_more, lead_end, top_is}
use Rattle.geometry.proofs.points.top_lead.Goals as goal

pub loop-m-preserved : goal.loop-m-preserved
loop-m-preserved c =
    let L = c.loop-m in (
      omega (arith, c.max-top.ensures, c.lead.ensures, L.invariant),
      omega (arith, c.max-top.ensures, c.lead.ensures, lead_more c.args.p.now L.m (omega arith), L.invariant),
    )

pub returns : goal.returns
returns c =
    let L = c.loop-m in
    let p = c.args.p.now in
    (top_is p L.top c.requires.0 (omega (arith, lead_end p L.m (omega arith), L.invariant)), omega (arith, L.invariant))
