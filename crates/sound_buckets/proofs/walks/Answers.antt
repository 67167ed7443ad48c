use Rattle.std.proofs.Common.{◌≡◌, ◌∙◌, arith}
use Rattle.sound_buckets.proofs.BucketLaws.{stage_none, stage_all}
use Rattle.sound_buckets.proofs.walks.Goals as goal

pub loop-g-init : goal.loop-g-init
loop-g-init c = stage_none c.args.ids.now c.args.pages.now c.args.seen.now c.requires.5

pub walk-best-requires : goal.walk-best-requires
walk-best-requires c =
    let l = c.loop-g in let r = c.requires in
    (r.0, r.1, l.auto.seen ∙ r.2, omega arith, r.3, r.4, l.invariant)

pub returns : goal.returns
returns c = let e : c.loop-g.g ≡ 16384 = omega arith in stage_all c.args.ids.now c.args.pages.now c.loop-g.seen c.loop-g.best (rw e at c.loop-g.invariant)
