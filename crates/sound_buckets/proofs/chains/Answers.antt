use Rattle.std.proofs.Common.{◌≡◌, length, arith}
use Rattle.sound_chains.proofs.ChainLaws.{heads_none, chained_none, room_kept}
use Rattle.sound_buckets.proofs.chains.Goals as goal

pub loop-i-init : goal.loop-i-init
loop-i-init c = (heads_none _ _ c.requires.1, chained_none _ _)

pub chain-requires : goal.chain-requires
chain-requires c =
    let l = c.loop-i in
    (room_kept _ _ _ _ _ c.requires.0 l.auto.head l.auto.next, omega arith, l.invariant.0, l.invariant.1)

pub returns : goal.returns
returns c = let e : c.loop-i.i ≡ length c.args.ids.now = omega arith in (rw e at c.loop-i.invariant.0, rw e at c.loop-i.invariant.1)
