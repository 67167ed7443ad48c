use Rattle.geometry_heights.proofs.FillLaws.{sides_more}
use Rattle.std.proofs.Common.{rules}
use Rattle.geometry_heights.proofs.lanes.sides.Goals as goal

pub loop-m-preserved : goal.loop-m-preserved
loop-m-preserved g c =
    let l = c.loop-m in
    record {
      long = search rules;
      given = λ p q s.
          let r = s l.m _ c.loop-m-test.true c.both-below.ensures in
          sides_more p q c.args.d l.m l.xs _ _ c.loop-m-test.true c.requires.few r.0 r.1 (l.invariant.given p q s);
    }
