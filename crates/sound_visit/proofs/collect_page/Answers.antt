use Rattle.std.proofs.Common.{◌∙◌, arith, refl, sym}
use Rattle.pagestore.specs.Store.{leaf_at, view_of}
use Rattle.pagestore.specs.Store.RangeLaws.{pages_few}
use Rattle.sound_visit.proofs.CollectLaws.{gathered_full, gathered_more, gathered_none, leaf_joined, leafy, other_pairs}
use Rattle.sound_visit.proofs.collect_page.Goals as goal

pub bounds-marks-at : goal.bounds-marks-at
bounds-marks-at c = omega (arith, c.requires.0, c.requires.1.size)

pub returns-then-marks-at-ne1 : goal.returns-then-marks-at-ne1
returns-then-marks-at-ne1 c =
    let b = c.args.index.now in let m = c.args.marks.now in
    gathered_none (view_of b) m c.requires.3 (other_pairs b m c.args.p c.requires.1 c.if-marks-at-ne1.true)

pub overflow_add-n : goal.overflow_add-n
overflow_add-n c =
    let y = leafy c.args.index.now c.args.marks.now c.args.p c.requires.1 c.if-marks-at-ne1.false in
    omega (arith, c.requires.3.few, c.item_count-count.ensures.0, y.few, c.requires.0, c.ranges)

pub overflow_add-result : goal.overflow_add-result
overflow_add-result c =
    let y = leafy c.args.index.now c.args.marks.now c.args.p c.requires.1 c.if-marks-at-ne1.false in
    omega (arith, c.requires.3.few, c.item_count-count.ensures.0, y.few, c.requires.0)

pub returns-then-ids-n : goal.returns-then-ids-n
returns-then-ids-n c =
    let b = c.args.index.now in let m = c.args.marks.now in let e = c.item_count-count.ensures.0 in
    let y = leafy b m c.args.p c.requires.1 c.if-marks-at-ne1.false in
    gathered_full (view_of b) m c.requires.3 (y.many ∙ sym e) (omega (arith, e, y.few)) c.if-ids-n.true

pub overflow_cast-holder : goal.overflow_cast-holder
unfolding view_of
overflow_cast-holder c = omega (arith, c.requires.0, pages_few c.args.index.now)

pub collect_leaf-requires : goal.collect_leaf-requires
collect_leaf-requires c =
    let e = c.item_count-count.ensures.0 in
    let y = leafy c.args.index.now c.args.marks.now c.args.p c.requires.1 c.if-marks-at-ne1.false in
    (e, omega (arith, e, y.few), c.if-ids-n.false, omega (arith, c.if-ids-n.false, c.requires.2))

pub returns : goal.returns
returns c =
    let b = c.args.index.now in let m = c.args.marks.now in let p = c.args.p in let e = c.item_count-count.ensures.0 in
    let y = leafy b m p c.requires.1 c.if-marks-at-ne1.false in
    gathered_more (view_of b) m c.requires.3 (y.many ∙ sym e) (omega (arith, e, y.few)) c.if-ids-n.false (leaf_joined b m p (leaf_at b p) refl y.level y.on refl c.collect_leaf.ensures)
