use Rattle.std.proofs.Common.{arith, get_or, length-set, mod-lt}
use lib.ListN.{length-replicate}
use Rattle.sound_repeats.proofs.SpreadLaws.{marked_none, marked_more, marked_all}
use Rattle.sound_repeats.proofs.spread.Goals as goal

pub loop-x-init : goal.loop-x-init
loop-x-init g c = (length-replicate _ _, marked_none _ _ _)

pub loop-x-preserved : goal.loop-x-preserved
loop-x-preserved g c =
    let l = c.loop-x in let m = mod-lt (get_or c.args.ids.now l.x-index 0) c.requires.0 in
    (simp length-set l.invariant.0, marked_more g.row.PLACES l.x-index c.args.ids.now l.seen (omega arith) c.if-seen-at-eq1.false l.invariant.1)

pub returns : goal.returns
returns g c = λ _. marked_all g.row.PLACES c.loop-x.x-index c.args.ids.now c.loop-x.seen c.loop-x-test.false c.loop-x.invariant.1
