use Rattle.std.proofs.Common.{suc, ◌-◌, ◌≡◌, get_or, arith}
use Rattle.sound_buckets.proofs.BucketLaws.{probing_start, probing_more, probed_found, probed_none}
use Rattle.sound_buckets.proofs.probe.Goals as goal

pub passes-init : goal.passes-init
passes-init c = rw c.requires.3 (probing_start c.args.ids.now c.args.i (get_or c.args.ids.now c.args.i 0))

pub returns-then-j-eq0 : goal.returns-then-j-eq0
returns-then-j-eq0 c = (omega arith, probed_none c.args.ids.now c.args.i _ c.passes.j c.if-j-eq0.true c.passes.invariant)

pub returns-then-ids-o : goal.returns-then-ids-o
returns-then-ids-o c =
    let e : c.passes.j ≡ suc (c.passes.j - 1) = omega arith in
    (omega arith, rw e (probed_found c.args.ids.now c.args.i (get_or c.args.ids.now c.args.i 0) (c.passes.j - 1) c.if-ids-o.true))

pub passes-preserved : goal.passes-preserved
passes-preserved c =
    let e : c.passes.j ≡ suc (c.passes.j - 1) = omega arith in
    rw c.from-j.ensures (probing_more c.args.i c.args.ids.now c.args.next.now c.args.i _ (c.passes.j - 1) (omega arith) c.requires.2 (rw e at c.passes.invariant) c.if-ids-o.false)
