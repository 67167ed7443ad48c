use Rattle.pagestore.specs.Store.{view_of}
use Rattle.lists.specs.Judges.{found_at}
use Rattle.sound_check.proofs.RepeatLaws.{repeat_found}
use Rattle.sound_check.proofs.FinishLaws.{whole_collected, whole_counted, whole_lost, whole_most, whole_room, whole_total}
use Rattle.sound_check.proofs.VerdictLaws.{verdict_sound}
use Rattle.sound_check.proofs.check_whole.Goals as goal
use Rattle.std.proofs.lemmas.Result.{err_from_is_err_and}
use Rattle.sound_faults.specs.Faults.{FailsAt}
use Rattle.std.proofs.Common.{arith, subst, sym}

pub returns-then-n-total : goal.returns-then-n-total
unfolding view_of
returns-then-n-total c = whole_total c.args.index.now c.requires c.total_records-total.ensures c.if-n-total.true

pub returns-then-n-gt-POINTS : goal.returns-then-n-gt-POINTS
returns-then-n-gt-POINTS c = whole_most c.args.index.now c.requires c.if-n-gt-POINTS.true

pub find_lost-requires : goal.find_lost-requires
find_lost-requires c = let w = c.requires in let h = w.start.header in (w.marks, w.start.freed.marks, h.fresh.0, h.fresh.1)

pub returns-in_err-find_lost : goal.returns-in_err-find_lost
returns-in_err-find_lost c =
    let p = err_from_is_err_and c.from_residual.result c.from_residual.ensures.1 in
    rw (p.1, p.2) (whole_lost c.args.index.now c.requires c.in_err-find_lost.ensures)

pub lowest_repeat_of-p-requires : goal.lowest_repeat_of-p-requires
unfolding view_of
lowest_repeat_of-p-requires c =
    let r = whole_room c.args.index.now c.requires c.total_records-total.ensures c.if-n-total.false c.if-n-gt-POINTS.false in
    (c.if-n-gt-POINTS.false, r, omega (arith, r, c.requires.holders))

pub returns-then-p-eq0 : goal.returns-then-p-eq0
unfolding view_of
returns-then-p-eq0 c =
    let b = c.args.index.now in let w = c.requires in let t = c.total_records-total.ensures in
    let k = whole_counted b w t c.if-n-total.false c.if-n-gt-POINTS.false c.in_ok-find_lost.ensures in
    verdict_sound b c.args.marks.now k (repeat_found b c.args.marks.now k (whole_collected b w t c.if-n-total.false c.if-n-gt-POINTS.false) c.lowest_repeat_of-p.ensures) c.if-p-eq0.true

pub returns-else-p-eq0 : goal.returns-else-p-eq0
unfolding view_of
returns-else-p-eq0 c =
    let b = c.args.index.now in let w = c.requires in let t = c.total_records-total.ensures in
    let k = whole_counted b w t c.if-n-total.false c.if-n-gt-POINTS.false c.in_ok-find_lost.ensures in
    let f = repeat_found b c.args.marks.now k (whole_collected b w t c.if-n-total.false c.if-n-gt-POINTS.false) c.lowest_repeat_of-p.ensures in
    subst (FailsAt (view_of b)) (sym c.from.ensures) (found_at f c.if-p-eq0.false)
