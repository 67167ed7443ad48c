use Rattle.std.proofs.Common.{arith}
use Rattle.pagestore.specs.Store.{view_of}
use Rattle.sound_check.proofs.FinishLaws.{whole}
use Rattle.sound_check.proofs.check_tree.Goals as goal

pub visit-requires : goal.visit-requires
unfolding view_of
visit-requires c =
    let t = c.requires.0 in let l = c.requires.2 in
    (omega (arith, t.header.root.0, t.header.root.1), c.features_of-d.ensures, c.requires.1, l.ends, l.holders)

pub judge_parents-requires : goal.judge_parents-requires
judge_parents-requires c =
    let t = c.requires.0 in
    record {
      known = record { marks = c.requires.1; freed = t.freed.marks; pages = c.in_ok-n.ensures.0; fresh = t.header.fresh.1 };
      some = omega (arith, t.header.root.0, t.header.root.1);
      clear = c.requires.2.named;
    }

pub check_whole-requires : goal.check_whole-requires
check_whole-requires c =
    let l = c.requires.2 in let v = c.visit.auto in
    whole c.args.index.now c.requires.0 c.requires.1 c.in_ok-n.ensures c.in_ok-judge_parents.ensures (λ h. omega (arith, v.ids, l.ids h)) (omega (arith, v.ids, v.holders, l.holders))
