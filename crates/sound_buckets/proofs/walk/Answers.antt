use Rattle.std.proofs.Common.{suc, ◌-◌, ◌≡◌, sym, length, arith}
use Rattle.sound_chains.proofs.ChainLaws.{link_le}
use Rattle.sound_buckets.proofs.BucketLaws.{walking_start, walking_more, walking_done, seen_le}
use Rattle.sound_buckets.proofs.walk.Goals as goal

pub loop-j-init : goal.loop-j-init
loop-j-init c =
    let a = c.args in
    rw c.from-j.ensures (walking_start a.ids.now a.pages.now a.head.now a.seen.now a.g a.sofar (omega arith) c.requires.4 c.requires.6)

pub met-best-requires : goal.met-best-requires
met-best-requires c =
    let a = c.args in let l = c.loop-j in
    (omega arith, rw c.from-k.ensures (seen_le a.ids.now a.pages.now a.g l.seen l.j l.best l.invariant _), c.requires.1)

pub loop-j-smaller : goal.loop-j-smaller
loop-j-smaller c =
    let a = c.args in
    let q = link_le (length a.ids.now) a.ids.now a.next.now (c.loop-j.j - 1) c.requires.5 (omega arith) in
    omega arith

pub loop-j-preserved : goal.loop-j-preserved
loop-j-preserved c =
    let a = c.args in let l = c.loop-j in
    let e : l.j ≡ suc (l.j - 1) = omega arith in
    let w = walking_more a.ids.now a.pages.now a.next.now l.seen c.requires.5 a.g (l.j - 1) l.best (rw e at l.invariant) (omega arith) in
    rw (c.met-best.ensures, c.from-k.ensures, c.slot-h.ensures.0, c.from-j-in-loop-j.ensures) (rw (sym e) at w)

pub returns : goal.returns
returns c =
    let l = c.loop-j in
    let e : l.j ≡ 0 = omega arith in
    walking_done c.args.ids.now c.args.pages.now c.args.g l.seen l.best (rw e at l.invariant)
