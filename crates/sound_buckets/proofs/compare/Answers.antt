use Rattle.std.proofs.Common.{arith}
use Rattle.sound_chains.proofs.ChainLaws.{heads_none, chained_none, chained_less, room_kept}
use Rattle.sound_buckets.proofs.BucketLaws.{sofar_none, compared_more, compared}
use Rattle.sound_buckets.proofs.compare.Goals as goal

pub loop-i-init : goal.loop-i-init
loop-i-init c = (heads_none _ _ c.requires.2, chained_none _ _, sofar_none _ _)

pub chain-before-requires : goal.chain-before-requires
chain-before-requires c =
    let l = c.loop-i in
    (room_kept _ _ _ _ _ c.requires.0 l.auto.head l.auto.next, omega arith, l.invariant.0, l.invariant.1)

pub probe-requires : goal.probe-requires
probe-requires c =
    let k = c.chain-before in let n = k.auto.next in let r = c.requires.0.links in
    (omega arith, omega arith, chained_less _ _ _ k.ensures.2, k.ensures.0)

pub loop-i-preserved : goal.loop-i-preserved
loop-i-preserved c =
    let k = c.chain-before in let p = c.in_ok-k.ensures in
    (k.ensures.1, k.ensures.2, rw c.met-best.ensures (compared_more c.args.ids.now c.args.pages.now c.loop-i.i c.in_ok-k.k c.loop-i.best (omega arith) p.0 p.1 c.loop-i.invariant.2))

pub returns : goal.returns
returns c = compared c.args.ids.now c.args.pages.now c.loop-i.i c.loop-i.best c.loop-i-test.false c.loop-i.invariant.2
